-- Searches in the lists of an image, number by number: what is left decides.
use Rattle.std.proofs.Common.{◌≡◌, ◌∙◌, ℕ, zero, suc, ◌+◌, Bool, true, false, List, [], ◌∷◌, drop, Some, None, refl}
use Rattle.std.proofs.Common.{sym, ap, add-one}
use Rattle.std.specs.List.{list_any, slice_get}
use Rattle.image_file.proofs.Left.{left_at, left_none}

module _ {X : Type 0} (xs : List X) (i : ℕ) where
  -- where nothing stands, what is left stays the same
  pub none_on : {Y : Type 0} (F : List X → Y) (y : Y) → None ≡ slice_get xs i → F (drop i xs) ≡ y
      → F (drop (i + 1) xs) ≡ y
  none_on F y is left = let none = left_none xs i is in ap F (none.1 ∙ sym none.0) ∙ left

  module _ (p : X → Bool) where
    pub any_on : (x : X) (found : Bool) → Some x ≡ slice_get xs i → p x ≡ false → list_any p (drop i xs) ≡ found
        → list_any p (drop (i + 1) xs) ≡ found
    any_on x found is fails left = let step = ap (list_any p) (left_at xs i x is) in sym (rw fails at step) ∙ left

    pub any_here : (x : X) (found : Bool) → Some x ≡ slice_get xs i → p x ≡ true → list_any p (drop i xs) ≡ found
        → true ≡ found
    any_here x found is passes left = let step = ap (list_any p) (left_at xs i x is) in sym (rw passes at step) ∙ left
