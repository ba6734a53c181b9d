-- The least free id: that it is free, that it is the least, that it is at most 64 where an image is not loaded, and that it is
-- one more than the lowest mark that is not set.
use Rattle.std.proofs.Common.{◌≡◌, ℕ, zero, suc, ◌+◌, ◌-◌, ◌<◌, ◌≤◌, Bool, true, false, cond, List, [], ◌∷◌, length}
use Rattle.std.proofs.Common.{refl, subst, arith, inl, inr}
use Rattle.std.proofs.Common.{◌⊎◌}
use Rattle.std.specs.Prelude.{◌||◌, ◌==◌, count_by}
use Rattle.std.specs.List.{list_any}
use Rattle.std.proofs.lemmas.Bool.{cases_Bool, cases_lt, cases_order, both_ways, and_parts, eqb-true, ne_eqb, and_right}
use Rattle.std.proofs.lemmas.List.Sums.{sum_by-cons}
use Rattle.module_table.specs.declared.modules.Module.{Module}
use Rattle.module_table.specs.Modules.{is_loaded}
use Rattle.module_table.specs.Past.{has_id, least_from, least_free}
use Rattle.module_table.specs.PastLaws.{IsLeastFree}

one : Bool → ℕ
one true = 1
one false = 0

one-true : (b : Bool) → b ≡ true → one b ≡ 1
unfolding one
one-true b e = rw e refl

one-le : (b : Bool) → one b ≤ 1
unfolding one
one-le true = omega arith
one-le false = omega arith

one-or : (a b : Bool) → one (a || b) ≤ one a + one b
unfolding one
one-or true b = omega (arith, one-le b)
one-or false b = omega arith

-- how many of the ids from 1 to n the images have
taken : List Module → ℕ → ℕ
taken ms zero = 0
taken ms (suc n) = taken ms n + one (list_any (has_id (n + 1)) ms)

-- how many of them one image has
taken_by : Module → ℕ → ℕ
taken_by m zero = 0
taken_by m (suc n) = taken_by m n + one (has_id (n + 1) m)

taken_by-none : (m : Module) (n : ℕ) → ((k : ℕ) → k ≤ n → has_id k m ≡ false) → taken_by m n ≡ 0
unfolding taken_by one
taken_by-none m zero none = refl
taken_by-none m (suc n) none = rw (none (n + 1) (omega arith), taken_by-none m n (λ k l. none k (omega arith))) refl

taken_by-other : (m : Module) (n : ℕ) → m.id ≡ n + 1 → taken_by m n ≡ 0
taken_by-other m n e = taken_by-none m n (λ k l. and_right (is_loaded m) (m.id == k) (ne_eqb m.id k (λ h. omega arith)))

-- an image has one id at most, and none where it is not loaded
taken_by-le : (m : Module) (n : ℕ) → taken_by m n ≤ one (is_loaded m)
unfolding taken_by one
taken_by-le m zero = omega arith
taken_by-le m (suc n) = elim (cases_Bool (has_id (n + 1) m)) [
  | inl t ↦ let parts = and_parts (is_loaded m) (m.id == (n + 1)) t in
      rw (t, taken_by-other m n (eqb-true m.id (n + 1) parts.1), parts.0) (omega arith)
  | inr f ↦ rw f (omega (arith, taken_by-le m n))
]

taken_by-more : (m : Module) (ms : List Module) (n : ℕ) → taken (m ∷ ms) n ≤ taken_by m n + taken ms n
unfolding taken taken_by
taken_by-more m ms zero = omega arith
taken_by-more m ms (suc n) =
    omega (arith, taken_by-more m ms n, one-or (has_id (n + 1) m) (list_any (has_id (n + 1)) ms))

taken-nil : (n : ℕ) → taken [] n ≡ 0
unfolding taken one
taken-nil zero = refl
taken-nil (suc n) = rw (taken-nil n) refl

-- as many ids as loaded images, at most
taken-le : (ms : List Module) (n : ℕ) → taken ms n ≤ count_by is_loaded ms
unfolding one
taken-le [] n = rw (taken-nil n) (omega arith)
taken-le (m ∷ ms) n = elim (cases_Bool (is_loaded m)) [
  | inl t ↦ let mine : taken_by m n ≤ 1 = omega (arith, taken_by-le m n, one-le (is_loaded m)) in
      let here : count_by is_loaded (m ∷ ms) ≡ 1 + count_by is_loaded ms =
      rw (sum_by-cons (λ x. cond (is_loaded x) 1 0) m ms, t) refl in
      omega (arith, taken_by-more m ms n, taken-le ms n)
  | inr f ↦ let mine : taken_by m n ≤ 0 = rw f at (taken_by-le m n) in
      let here : count_by is_loaded (m ∷ ms) ≡ 0 + count_by is_loaded ms =
      rw (sum_by-cons (λ x. cond (is_loaded x) 1 0) m ms, f) refl in
      omega (arith, taken_by-more m ms n, taken-le ms n)
]

taken-full : (ms : List Module) (n : ℕ) → ((k : ℕ) → 1 ≤ k → k ≤ n → list_any (has_id k) ms ≡ true) → taken ms n ≡ n
unfolding taken one
taken-full ms zero all = refl
taken-full ms (suc n) all =
    rw (all (n + 1) (omega arith) (omega arith), taken-full ms n (λ k l h. all k l (omega arith))) (omega arith)

-- the search stops at the least free id, or past the ids that it may try
least_from_is : (ms : List Module) (more id : ℕ) → 1 ≤ id → ((k : ℕ) → 1 ≤ k → k < id → list_any (has_id k) ms ≡ true)
    → IsLeastFree ms (least_from ms more id) ⊎ ((k : ℕ) → 1 ≤ k → k < id + more → list_any (has_id k) ms ≡ true)
least_from_is ms zero id low below = inr (λ k l h. below k l (omega arith))
least_from_is ms (suc more) id low below = elim (cases_Bool (list_any (has_id id) ms)) [
  | inr f ↦ inl (rw f (record { low = low; free = f; least = below }))
  | inl t ↦ rw t (elim (least_from_is ms more (id + 1) (omega arith)
      (λ k l h. elim (cases_lt k id) [
        | inl b ↦ below k l b
        | inr a ↦ let e : id ≡ k = omega arith in
            subst (λ (j : ℕ). list_any (has_id j) ms ≡ true) e t
      ])) [
        | inl is ↦ inl is
        | inr all ↦ inr (λ k l h. all k l (omega arith))
      ])
]

-- where an image is not loaded, the id that a load takes is free, and the least
pub least_free_is : (ms : List Module) → count_by is_loaded ms < length ms → IsLeastFree ms (least_free ms)
unfolding least_free
least_free_is ms room = elim (least_from_is ms (length ms) 1 (omega arith) (λ k l h. absurd (omega arith))) [
  | inl is ↦ is
  | inr all ↦ let full : taken ms (length ms) ≡ length ms =
      taken-full ms (length ms) (λ k l h. all k l (omega arith)) in
      absurd (omega (arith, taken-le ms (length ms)))
]

-- the least free id is at most one more than the number of loaded images
pub least_free_le : (ms : List Module) (id : ℕ) → IsLeastFree ms id → id ≤ count_by is_loaded ms + 1
least_free_le ms id is =
    let full : taken ms (id - 1) ≡ id - 1 =
    taken-full ms (id - 1) (λ k l h. is.least k l (let low : 1 ≤ id = is.low in omega arith)) in
    omega (arith, taken-le ms (id - 1))

pub same_least : (ms : List Module) (a b : ℕ) → IsLeastFree ms a → IsLeastFree ms b → a ≡ b
same_least ms a b p q = elim (cases_order a b) [
  | inl e ↦ e
  | inr other ↦ elim other [
    | inl l ↦ absurd (both_ways _ p.free (q.least a p.low l))
    | inr l ↦ absurd
        (both_ways _ q.free (p.least b q.low l))
  ]
]
