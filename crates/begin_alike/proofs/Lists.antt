-- Lists that are related element by element, cut alike.
use Rattle.std.proofs.Common.{ℕ, zero, suc, ◌-◌, ◌≡◌, List, [], ◌∷◌, length, refl, ap}
use Rattle.std.specs.Prelude.{drop, slice_range, take}
use Rattle.guest_machine.specs.Follow.{All2}

module _ {A A' : Type 0} (Q : A → A' → Type 0) where
  pub as_long : (xs : List A) (ys : List A') → All2 Q xs ys → length ys ≡ length xs
  as_long [] [] h = refl
  as_long [] (y ∷ ys) h = absurd h
  as_long (x ∷ xs) [] h = absurd h
  as_long (x ∷ xs) (y ∷ ys) h = ap suc (as_long xs ys h.1)

  taken : (n : ℕ) (xs : List A) (ys : List A') → All2 Q xs ys → All2 Q (take n xs) (take n ys)
  taken zero xs ys h = tt
  taken (suc n) [] [] h = tt
  taken (suc n) [] (y ∷ ys) h = absurd h
  taken (suc n) (x ∷ xs) [] h = absurd h
  taken (suc n) (x ∷ xs) (y ∷ ys) h = (h.0, taken n xs ys h.1)

  dropped : (n : ℕ) (xs : List A) (ys : List A') → All2 Q xs ys → All2 Q (drop n xs) (drop n ys)
  dropped zero xs ys h = h
  dropped (suc n) [] [] h = tt
  dropped (suc n) [] (y ∷ ys) h = absurd h
  dropped (suc n) (x ∷ xs) [] h = absurd h
  dropped (suc n) (x ∷ xs) (y ∷ ys) h = dropped n xs ys h.1

  -- the elements from a on, up to b
  pub ranged : (a b : ℕ) (xs : List A) (ys : List A') → All2 Q xs ys
      → All2 Q (slice_range xs a b) (slice_range ys a b)
  ranged a b xs ys h = taken (b - a) (drop a xs) (drop a ys) (dropped a xs ys h)
