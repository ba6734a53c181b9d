-- Sums over a list, where one element changes, or one is added.
use Rattle.std.proofs.Common.{◌≡◌, ◌≢◌, ℕ, zero, suc, ◌+◌, ◌≤◌, List, [], ◌∷◌, ◌++◌, set, sym, refl, ap, arith}
use mathlib.Core.Option.{some, some-injective, some-ne-none}
use lib.ListN.{get_elem?}
use Rattle.shared_modules.specs.Rule.{total}

module _ {A : Type 0} where
  -- what was put is there
  pub set_there : (l : List A) (i : ℕ) (v w : A) → get_elem? l i ≡ some v → get_elem? (set l i w) i ≡ some w
  set_there [] i v w at = absurd (some-ne-none v (sym at))
  set_there (x ∷ xs) zero v w at = refl
  set_there (x ∷ xs) (suc i) v w at = set_there xs i v w at

module _ {A : Type 0} (f : A → ℕ) where
  pub total_set : (l : List A) (i : ℕ) (v w : A) → get_elem? l i ≡ some v → total f (set l i w) + f v ≡ total f l + f w
  total_set [] i v w at = absurd (some-ne-none v (sym at))
  total_set (x ∷ xs) zero v w at = let e : f x ≡ f v = ap f (some-injective x v at) in omega arith
  total_set (x ∷ xs) (suc i) v w at = let h = total_set xs i v w at in omega arith

  pub total_push : (l : List A) (w : A) → total f (l ++ w ∷ []) ≡ total f l + f w
  total_push [] w = omega arith
  total_push (x ∷ xs) w = let h = total_push xs w in omega arith

  pub total_one : (l : List A) (i : ℕ) (v : A) → get_elem? l i ≡ some v → f v ≤ total f l
  total_one [] i v at = absurd (some-ne-none v (sym at))
  total_one (x ∷ xs) zero v at = let e : f x ≡ f v = ap f (some-injective x v at) in omega arith
  total_one (x ∷ xs) (suc i) v at = let h = total_one xs i v at in omega arith

  -- two elements are not more than all
  pub total_two : (l : List A) (i j : ℕ) (v w : A) → i ≢ j → get_elem? l i ≡ some v → get_elem? l j ≡ some w
      → f v + f w ≤ total f l
  total_two [] i j v w apart at there = absurd (some-ne-none v (sym at))
  total_two (x ∷ xs) zero zero v w apart at there = absurd (apart refl)
  total_two (x ∷ xs) zero (suc j) v w apart at there = let e : f x ≡ f v = ap f (some-injective x v at) in
      let h = total_one xs j w there in omega arith
  total_two (x ∷ xs) (suc i) zero v w apart at there = let e : f x ≡ f w = ap f (some-injective x w there) in
      let h = total_one xs i v at in omega arith
  total_two (x ∷ xs) (suc i) (suc j) v w apart at there = let h =
      total_two xs i j v w (λ e. apart (ap suc e)) at there in omega arith

module _ {A : Type 0} (f g : A → ℕ) where
  pub total_least : (l : List A) → ((i : ℕ) (v : A) → get_elem? l i ≡ some v → f v ≤ g v) → total f l ≤ total g l
  total_least [] each = omega arith
  total_least (x ∷ xs) each = let h = each zero x refl in let t = total_least xs (λ i v at. each (suc i) v at) in
      omega arith

  -- what one element lacks is not made up by others
  pub total_gap : (l : List A) (i : ℕ) (v : A) → ((u : A) → f u ≤ g u) → get_elem? l i ≡ some v
      → total f l + g v ≤ total g l + f v
  total_gap [] i v each at = absurd (some-ne-none v (sym at))
  total_gap (x ∷ xs) zero v each at = let e : f x ≡ f v = ap f (some-injective x v at) in
      let d : g x ≡ g v = ap g (some-injective x v at) in
      let t = total_least xs (λ i u _. each u) in omega arith
  total_gap (x ∷ xs) (suc i) v each at = let h = each x in let t = total_gap xs i v each at in omega arith
