-- What is left of a list from a number on.
use Rattle.std.proofs.Common.{◌≡◌, ◌∙◌, ℕ, zero, suc, ◌+◌, List, [], ◌∷◌, drop, Some, None, refl, sym, ap, add-one}
use Rattle.std.specs.List.{slice_get}

at-suc : {X : Type 0} (xs : List X) (i : ℕ) (x : X) → Some x ≡ slice_get xs i → drop i xs ≡ x ∷ drop (suc i) xs
at-suc [] zero x is = absurd (cc is)
at-suc [] (suc i) x is = absurd (cc is)
at-suc (y ∷ xs) zero x is = cc
at-suc (y ∷ xs) (suc i) x is = at-suc xs i x is

-- what is left from a number on begins with what stands there
pub left_at : {X : Type 0} (xs : List X) (i : ℕ) (x : X) → Some x ≡ slice_get xs i → drop i xs ≡ x ∷ drop (i + 1) xs
left_at xs i x is = at-suc xs i x is ∙ ap (λ n. x ∷ drop n xs) (sym (add-one i))

none-suc : {X : Type 0} (xs : List X) (i : ℕ) → None ≡ slice_get xs i → (drop i xs ≡ []) × (drop (suc i) xs ≡ [])
none-suc [] zero is = (refl, refl)
none-suc [] (suc i) is = (refl, refl)
none-suc (y ∷ xs) zero is = absurd (cc is)
none-suc (y ∷ xs) (suc i) is = none-suc xs i is

-- where nothing stands, nothing is left
pub left_none : {X : Type 0} (xs : List X) (i : ℕ) → None ≡ slice_get xs i → (drop i xs ≡ []) × (drop (i + 1) xs ≡ [])
left_none xs i is = let none = none-suc xs i is in (none.0, ap (λ n. drop n xs) (add-one i) ∙ none.1)
