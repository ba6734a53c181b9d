-- What is left of a list from a number on, and the first of two that is there.
use Rattle.std.proofs.Common.{◌≡◌, ◌∙◌, ℕ, zero, suc, ◌+◌, Bool, true, false, List, [], ◌∷◌, ◌++◌, drop, Option, Some}
use Rattle.std.proofs.Common.{None, refl, sym, ap, add-one, append_assoc, append-nil, length, map, ◌≤◌, cond}
use Rattle.std.proofs.lemmas.List.{drop_all}
use Rattle.std.specs.Prelude.{option_map}
use Rattle.std.specs.List.{find, slice_get}
use Rattle.std.specs.Option.{option_or}
use Rattle.image_file.proofs.Left.{left_at, left_none}

pub or_none : {X : Type 0} (a : Option X) → option_or a None ≡ a
or_none None = refl
or_none (Some x) = refl

pub or_or : {X : Type 0} (a b c : Option X) → option_or (option_or a b) c ≡ option_or a (option_or b c)
or_or None b c = refl
or_or (Some x) b c = refl

pub map_or : {X Y : Type 0} (f : X → Y) (a b : Option X)
    → option_map f (option_or a b) ≡ option_or (option_map f a) (option_map f b)
map_or f None b = refl
map_or f (Some x) b = refl

-- ** a list that is made of another, one by one

module _ {X Y : Type 0} (f : X → Y) (xs : List X) (i : ℕ) (row all : List Y) where
  -- one more
  pub row_on : (x : X) → Some x ≡ slice_get xs i → row ++ map f (drop i xs) ≡ all
      → (row ++ f x ∷ []) ++ map f (drop (i + 1) xs) ≡ all
  row_on x is left = append_assoc row (f x ∷ []) (map f (drop (i + 1) xs))
      ∙ ap (λ ys. row ++ map f ys) (sym (left_at xs i x is)) ∙ left

  -- none is there
  pub row_same : None ≡ slice_get xs i → row ++ map f (drop i xs) ≡ all → row ++ map f (drop (i + 1) xs) ≡ all
  row_same is left = let none = left_none xs i is in ap (λ ys. row ++ map f ys) (none.1 ∙ sym none.0) ∙ left

  -- none is left
  pub row_past : length xs ≤ i → row ++ map f (drop i xs) ≡ all → row ≡ all
  row_past past left = sym (append-nil row) ∙ sym (ap (λ ys. row ++ map f ys) (drop_all i xs past)) ∙ left

-- what two functions make of a list, if they agree
pub map_same : {X Y : Type 0} (f g : X → Y) → ((x : X) → f x ≡ g x) → (xs : List X) → map f xs ≡ map g xs
map_same f g same [] = refl
map_same f g same (x ∷ xs) = rw (same x, map_same f g same xs) refl

-- ** the first that passes a test

module _ {X : Type 0} (xs : List X) (i : ℕ) (p : X → Bool) where
  pub find_on : (x : X) (found : Option X) → Some x ≡ slice_get xs i → p x ≡ false → find p (drop i xs) ≡ found
      → find p (drop (i + 1) xs) ≡ found
  find_on x found is fails left = let step = ap (find p) (left_at xs i x is) in sym (rw fails at step) ∙ left

  pub find_here : (x : X) (found : Option X) → Some x ≡ slice_get xs i → p x ≡ true → find p (drop i xs) ≡ found
      → Some x ≡ found
  find_here x found is passes left = let step = ap (find p) (left_at xs i x is) in sym (rw passes at step) ∙ left

  pub find_past : (found : Option X) → None ≡ slice_get xs i → find p (drop i xs) ≡ found
      → find p (drop (i + 1) xs) ≡ found
  find_past found is left = let none = left_none xs i is in ap (find p) (none.1 ∙ sym none.0) ∙ left

by_test : {X : Type 0} (p : X → Bool) (x y : X) (rest : Option X) (t : Bool) → p y ≡ t → Some x ≡ cond t (Some y) rest
    → (Some x ≡ rest → p x ≡ true) → p x ≡ true
by_test p x y rest true passes is below = ap p (same x y is) ∙ passes
  where
    same : {X : Type 0} (x y : X) → Some x ≡ Some y → x ≡ y
    same x y e = cc
by_test p x y rest false fails is below = below is

pub found_passes : {X : Type 0} (p : X → Bool) (xs : List X) (x : X) → Some x ≡ find p xs → p x ≡ true
found_passes p [] x is = absurd (cc is)
found_passes p (y ∷ ys) x is = by_test p x y (find p ys) (p y) refl is (found_passes p ys x)
