-- How many parts are written, and the last of these.
use Rattle.std.proofs.Common.{◌≡◌, ◌+◌, ◌-◌, ◌<◌, ◌∙◌, ℕ, zero, suc, Bool, true, false, List, [], ◌∷◌, ◌++◌, length}
use Rattle.std.proofs.Common.{get_or, refl, ap, arith, inl, inr, if◌then◌else◌}
use Rattle.std.proofs.lemmas.Bool.{cases_lt}
use Rattle.std.proofs.lemmas.List.{get_or-append_right, get_or_at}
use Rattle.std.specs.List.{All}
use Rattle.image_faults.specs.Counts.{how_many, behind_last}
use Rattle.image_writer.specs.declared.outline.PartPlace.{PartPlace}
use Rattle.image_file.specs.Spelled.{is_writable}
use Rattle.image_writer.specs.Outlined.{no_part}

-- one where a test passes
abbrev pub one_if : Bool → ℕ
one_if true = 1
one_if false = 0

-- how many parts are written
abbrev pub written : List PartPlace → ℕ
written [] = 0
written (p ∷ more) = one_if (is_writable p.class) + written more

-- those of two lists
pub written-append : (xs ys : List PartPlace) → written (xs ++ ys) ≡ written xs + written ys
written-append [] ys = omega arith
written-append (p ∷ xs) ys = let rest = written-append xs ys in omega arith

-- the first number apart
many_front : (p : ℕ → Bool) (n : ℕ) → how_many p (suc n) ≡ one_if (p 0) + how_many (λ k. p (suc k)) n
unfolding how_many
many_front p zero = of_test (p 0)
  where
    of_test : (t : Bool) → (if t then suc 0 else 0) ≡ one_if t + 0
    of_test true = refl
    of_test false = refl
many_front p (suc n) = of_test (p (suc n)) (many_front p n)
  where
    of_test : (t : Bool) → how_many p (suc n) ≡ one_if (p 0) + how_many (λ k. p (suc k)) n
        → (if t then suc (how_many p (suc n)) else how_many p (suc n))
        ≡ one_if (p 0) + (if t then suc (how_many (λ k. p (suc k)) n) else how_many (λ k. p (suc k)) n)
    of_test true e = omega arith
    of_test false e = e

-- so many numbers of parts pass
pub many_written : (xs : List PartPlace)
    → how_many (λ i. is_writable (get_or xs i no_part).class) (length xs) ≡ written xs
unfolding how_many
many_written [] = refl
many_written (p ∷ xs) =
    many_front (λ i. is_writable (get_or (p ∷ xs) i no_part).class) (length xs)
    ∙ ap (λ n. one_if (is_writable p.class) + n) (many_written xs)

-- a number that passes, and none behind it does
pub last_is : (p : ℕ → Bool) (g n : ℕ) → g < n → p g ≡ true → ((i : ℕ) → g < i → i < n → p i ≡ false)
    → behind_last p n ≡ g + 1
unfolding behind_last
last_is p g zero below here none = absurd (omega arith)
last_is p g (suc n) below here none = elim (cases_lt g n) [
  | inl less ↦
      let later : p n ≡ false = none n less (omega arith) in
      rw later (last_is p g n less here (λ i above under. none i above (omega arith)))
  | inr same ↦
      let e : n ≡ g = omega arith in
      let passes : p n ≡ true = ap p e ∙ here in
      rw passes (omega arith)
]

-- of parts a written one is the last, and there are none behind it
pub last_written : (front : List PartPlace) (p : PartPlace) (back : List PartPlace) → is_writable p.class ≡ true
    → All (λ q. is_writable q.class ≡ false) back
    → behind_last (λ i. is_writable (get_or (front ++ (p ∷ back)) i no_part).class) (length (front ++ (p ∷ back)))
    ≡ length front + 1
last_written front p back here none =
    let all : length (front ++ (p ∷ back)) ≡ length front + (1 + length back) = length_is front in
    last_is (λ i. is_writable (get_or (front ++ (p ∷ back)) i no_part).class) (length front)
    (length (front ++ (p ∷ back)))
    (omega arith)
    (rw (get_or_at front p back no_part (length front) refl) here)
    (λ i above under.
    (let moved = get_or-append_right front (p ∷ back) (length front) i no_part refl (omega arith) in
    rw moved (behind (i - length front) (omega arith) (omega arith))))
  where
    length_is : (xs : List PartPlace) → length (xs ++ (p ∷ back)) ≡ length xs + (1 + length back)
    length_is [] = omega arith
    length_is (q ∷ xs) = let rest = length_is xs in omega arith

    behind : (k : ℕ) → 0 < k → k < 1 + length back → is_writable (get_or (p ∷ back) k no_part).class ≡ false
    behind zero some inside = absurd (omega arith)
    behind (suc k) some inside = none k no_part (omega arith)
