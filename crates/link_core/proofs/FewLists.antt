-- Lists that are no longer than others.
use Rattle.std.proofs.Common.{◌≡◌, ◌*◌, ◌<◌, ◌≤◌, ◌⊎◌, ◌∙◌, ℕ, zero, suc, true, false, List, [], ◌∷◌, length}
use Rattle.std.proofs.Common.{get_or, remove, if◌then◌else◌, refl, sym, ap, subst, inl, inr, arith}
use Rattle.std.specs.Prelude.{nat_le}
use Rattle.std.specs.List.{All, AllPairs, Contains, flat_map}
use Rattle.std.proofs.lemmas.List.Elements.{Contains-append_cases, Contains-append_left, Contains-append_right}
use Rattle.std.proofs.lemmas.List.Sorted.{Contains-permutation, IsPermutation-remove, length_permutation}
use Rattle.std.proofs.lemmas.List.{length-append}
use Rattle.link_needs.specs.Needs.{inserted, sorted_by}

-- ** sorting keeps the length

length-inserted : {X : Type 0} (number : X → ℕ) (x : X) (xs : List X) → length (inserted number x xs) ≡ suc (length xs)
length-inserted number x [] = refl
length-inserted number x (y ∷ more) =
    elim (nat_le (number x) (number y)) as (λ b.
    length (if b then x ∷ (y ∷ more) else y ∷ inserted number x more) ≡ suc (suc (length more))) [
      | true ↦ refl
      | false ↦ ap suc (length-inserted number x more)
    ]

-- a sorted list is as long
pub length-sorted_by : {X : Type 0} (number : X → ℕ) (xs : List X) → length (sorted_by number xs) ≡ length xs
length-sorted_by number [] = refl
length-sorted_by number (x ∷ more) =
    length-inserted number x (sorted_by number more) ∙ ap suc (length-sorted_by number more)

-- ** lists of lists

-- at most m for each
pub length-each : {X Y : Type 0} (f : X → List Y) (m : ℕ) → ((x : X) → length (f x) ≤ m) → (xs : List X)
    → length (flat_map f xs) ≤ m * length xs
length-each f m few [] = omega arith
length-each f m few (x ∷ xs) = omega (arith, few x, length-append (f x) (flat_map f xs), length-each f m few xs)

-- what is in one of them is in all
pub contains_flat : {X Y : Type 0} (f : X → List Y) (xs : List X) (x : X) (y : Y) (k : ℕ) → k < length xs
    → get_or xs k x ≡ x
    → Contains (f x) y → Contains (flat_map f xs) y
contains_flat f [] x y k h e there = absurd (omega arith)
contains_flat {X} {Y} f (z ∷ xs) x y zero h e there =
    let P : X → Type 0 = λ w. Contains (f w) y in Contains-append_left (f z) (flat_map f xs) y (subst P (sym e) there)
contains_flat f (z ∷ xs) x y (suc k) h e there =
    Contains-append_right (f z) (flat_map f xs) y (contains_flat f xs x y k (omega arith) e there)

-- ** one for each

-- the elements differ from each other
abbrev pub AreApart : {X : Type 0} → List X → Type 0
AreApart {X} xs = AllPairs (λ x z. x ≡ z → ⊥) xs

-- y is another element than the one at k
contains_other : {X : Type 0} (xs : List X) (k : ℕ) (x y : X) → k < length xs → get_or xs k x ≡ x → Contains xs y
    → (x ≡ y) ⊎ Contains (remove xs k) y
contains_other xs k x y h e there =
    let moved = Contains-permutation xs (x ∷ remove xs k) y (IsPermutation-remove xs k x h (sym e)) there in
    elim (Contains-append_cases (x ∷ []) (remove xs k) y moved) [
      | inl here ↦ inl (only here)
      | inr rest ↦ inr rest
    ]
  where
    only : Contains (x ∷ []) y → x ≡ y
    only (zero, _, same) = same
    only (suc k, h, _) = absurd (omega arith)

-- each of xs goes with one of ys, and no two with the same
pub no_longer : {X Y : Type 0} (R : X → Y → Type 0) → ((x z : X) (y : Y) → R x y → R z y → x ≡ z)
    → (xs : List X) (ys : List Y)
    → AreApart xs → All (λ x. (y : Y) × Contains ys y × R x y) xs → length xs ≤ length ys
no_longer R one [] ys apart each = omega arith
no_longer {X} {Y} R one (x ∷ xs) ys apart each =
    let first = each 0 x (omega arith) in
    let k = first.1.0 in
    let h = first.1.1 in
    let fewer : suc (length (remove ys k)) ≡ length ys =
    length_permutation ys (first.0 ∷ remove ys k) (IsPermutation-remove ys k first.0 h (sym first.1.2)) in
    let rest : length xs ≤ length (remove ys k) =
    no_longer R one xs (remove ys k) (λ i j d less below. apart (suc i) (suc j) d (omega arith) (omega arith))
    (λ i d below. let next = each (suc i) d (omega arith) in
    let left = contains_other ys k first.0 next.0 h first.1.2 next.1 in
    (next.0, other first.0 next.0 first.2 k h first.1.2 i d below next.2 left, next.2)) in
    omega arith
  where
    other : (y w : Y) → R x y → (k : ℕ) → k < length ys → get_or ys k y ≡ y → (i : ℕ) (d : X) → i < length xs
        → R (get_or xs i d) w
        → (y ≡ w) ⊎ Contains (remove ys k) w → Contains (remove ys k) w
    other y w goes k h e i d below also (inl same) =
        let P : Y → Type 0 = λ v. R (get_or xs i d) v in
        absurd (apart 0 (suc i) d (omega arith) (omega arith) (one x (get_or xs i d) y goes (subst P (sym same) also)))
    other y w goes k h e i d below also (inr rest) = rest
