-- What a reader finds in sections that rise.
use Rattle.std.proofs.Common.{◌≡◌, ◌+◌, ◌-◌, ◌<◌, ◌≤◌, ◌⊎◌, ℕ, List, [], ◌∷◌, ◌++◌, length, Some, inl, inr, refl, sym}
use Rattle.std.proofs.Common.{subst, arith}
use Rattle.std.specs.Prelude.{slice_get}
use Rattle.std.proofs.lemmas.Bool.{lt-ltb, le-ltb}
use Rattle.tls_relocs.specs.Laid.{Placed, Rising, end_of, unit_at}
use Rattle.placed_sections.proofs.Chains.{end_of-above}

-- a section is one of some
pub Among : Placed → List Placed → Type 0
Among x [] = ⊥
Among x (y ∷ ys) = (x ≡ y) ⊎ Among x ys

pub among_one : (x : Placed) → Among x (x ∷ [])
unfolding Among
among_one x = inl refl

pub among_front : (x : Placed) (xs ys : List Placed) → Among x xs → Among x (xs ++ ys)
unfolding Among
among_front x [] ys h = absurd h
among_front x (y ∷ xs) ys (inl e) = inl e
among_front x (y ∷ xs) ys (inr h) = inr (among_front x xs ys h)

pub among_back : (x : Placed) (xs ys : List Placed) → Among x ys → Among x (xs ++ ys)
unfolding Among
among_back x [] ys h = h
among_back x (y ∷ xs) ys h = inr (among_back x xs ys h)

-- where one of them lies
pub record LiesWithin (at : ℕ) (xs : List Placed) (x : Placed) : Type 0 where
  pub above : at ≤ x.place
  pub below : x.place + length x.bytes ≤ end_of at xs

pub lies_within : (at : ℕ) (xs : List Placed) (x : Placed) → Rising at xs → Among x xs → LiesWithin at xs x
unfolding Among
lies_within at [] x rising h = absurd h
lies_within at (y ∷ ys) x rising (inl e) =
    let more = end_of-above (y.place + length y.bytes) ys rising.1 in
    subst (λ z. LiesWithin at (y ∷ ys) z) (sym e) (record { above = rising.0; below = more })
lies_within at (y ∷ ys) x rising (inr h) =
    let rises : at ≤ y.place = rising.0 in
    let more = lies_within (y.place + length y.bytes) ys x rising.1 h in
    record { above = omega (arith, more.above); below = more.below }

-- a reader finds its bytes
pub unit_among : (at : ℕ) (xs : List Placed) (x : Placed) (k : ℕ) → Rising at xs → Among x xs → x.place ≤ k
    → k < x.place + length x.bytes
    → unit_at xs k ≡ slice_get x.bytes (k - x.place)
unfolding Among
unit_among at [] x k rising h from below = absurd h
unit_among at (y ∷ ys) x k rising (inl e) from below =
    subst (λ z. unit_at (z ∷ ys) k ≡ slice_get x.bytes (k - x.place)) e
    (rw (le-ltb k x.place from, lt-ltb k (x.place + length x.bytes) below) refl)
unit_among at (y ∷ ys) x k rising (inr h) from below =
    let within = lies_within (y.place + length y.bytes) ys x rising.1 h in
    let past : y.place + length y.bytes ≤ k = omega (arith, within.above) in
    rw (le-ltb k y.place (omega arith), le-ltb k (y.place + length y.bytes) past)
    (unit_among (y.place + length y.bytes) ys x k rising.1 h from below)

-- a place is in none of them
pub Clear : ℕ → List Placed → Type 0
Clear k [] = Unit {0}
Clear k (x ∷ xs) = ((k < x.place) ⊎ (x.place + length x.bytes ≤ k)) × Clear k xs

pub clear_none : (k : ℕ) → Clear k []
unfolding Clear
clear_none k = tt

pub clear_one : (k : ℕ) (x : Placed) → (k < x.place) ⊎ (x.place + length x.bytes ≤ k) → Clear k (x ∷ [])
unfolding Clear
clear_one k x h = (h, tt)

pub clear-append : (k : ℕ) (xs ys : List Placed) → Clear k xs → Clear k ys → Clear k (xs ++ ys)
unfolding Clear
clear-append k [] ys front back = back
clear-append k (x ∷ xs) ys front back = (front.0, clear-append k xs ys front.1 back)

-- a reader finds zero there
pub unit_clear : (at : ℕ) (xs : List Placed) (k : ℕ) → Rising at xs → at ≤ k → k < end_of at xs → Clear k xs
    → unit_at xs k ≡ Some 0
unfolding Clear
unit_clear at [] k rising from below clear = absurd (omega arith)
unit_clear at (x ∷ xs) k rising from below clear =
    by_place clear.0 (λ past. unit_clear (x.place + length x.bytes) xs k rising.1 past below clear.1)
  where
    by_place : (k < x.place) ⊎ (x.place + length x.bytes ≤ k) → (x.place + length x.bytes ≤ k → unit_at xs k ≡ Some 0)
        → unit_at (x ∷ xs) k ≡ Some 0
    by_place (inl before) more = rw (lt-ltb k x.place before) refl
    by_place (inr past) more = rw (le-ltb k x.place (omega arith), le-ltb k (x.place + length x.bytes) past) (more past)
