-- The last change that reaches an offset.
use Rattle.std.proofs.Common.{◌≡◌, ◌∙◌, ℕ, zero, suc, List, [], ◌∷◌, ◌++◌, Option, Some, None, refl, sym, ap}
use Rattle.std.specs.Prelude.{slice_get, slice_set}
use Rattle.std.specs.Option.{option_or}
use Rattle.std.proofs.lemmas.Bool.{eq-eqb, ne_eqb}
use Rattle.shared_data.specs.Changes.{Change, Filled, Written, last_left, left_by}
use Rattle.loaded_modules.proofs.Left.{or_none, or_or}

module _ {B : Type 0} where
  -- of changes behind others, the later count first
  pub last_append : (n k : ℕ) (xs ys : List (Change B))
      → last_left n k (xs ++ ys) ≡ option_or (last_left n k ys) (last_left n k xs)
  last_append n k [] ys = sym (or_none (last_left n k ys))
  last_append n k (x ∷ xs) ys =
      ap (λ (o : Option B). option_or o (left_by n k x)) (last_append n k xs ys)
      ∙ or_or (last_left n k ys) (last_left n k xs) (left_by n k x)

  -- changes that do not reach it
  pub last_spared : (n k : ℕ) (xs ys : List (Change B)) → last_left n k ys ≡ None
      → last_left n k (xs ++ ys) ≡ last_left n k xs
  last_spared n k xs ys e = last_append n k xs ys ∙ ap (λ (o : Option B). option_or o (last_left n k xs)) e

  pub last_reached : (n k : ℕ) (xs ys : List (Change B)) (b : B) → last_left n k ys ≡ Some b
      → last_left n k (xs ++ ys) ≡ Some b
  last_reached n k xs ys b e = last_append n k xs ys ∙ ap (λ (o : Option B). option_or o (last_left n k xs)) e

  pub append_none : (xs : List (Change B)) → xs ++ [] ≡ xs
  append_none [] = refl
  append_none (x ∷ xs) = ap (λ (ys : List (Change B)). x ∷ ys) (append_none xs)

  pub append_append : (xs ys zs : List (Change B)) → (xs ++ ys) ++ zs ≡ xs ++ (ys ++ zs)
  append_append [] ys zs = refl
  append_append (x ∷ xs) ys zs = ap (λ (us : List (Change B)). x ∷ us) (append_append xs ys zs)

  -- ** one change

  pub written_there : (n k : ℕ) (b : B) → last_left n k (Written n k b ∷ []) ≡ Some b
  written_there n k b = rw (eq-eqb n n refl, eq-eqb k k refl) refl

  pub written_elsewhere : (n k j : ℕ) (b : B) → (k ≡ j → ⊥) → last_left n j (Written n k b ∷ []) ≡ None
  written_elsewhere n k j b ne = rw (eq-eqb n n refl, ne_eqb k j ne) refl

  pub written_other : (m n k j : ℕ) (b : B) → (m ≡ n → ⊥) → last_left n j (Written m k b ∷ []) ≡ None
  written_other m n k j b ne = rw (ne_eqb m n ne) refl

  pub filled_there : (n k : ℕ) (bytes : List B) → last_left n k (Filled n bytes ∷ []) ≡ slice_get bytes k
  filled_there n k bytes = rw (eq-eqb n n refl) refl

  pub filled_other : (m n k : ℕ) (bytes : List B) → (m ≡ n → ⊥) → last_left n k (Filled m bytes ∷ []) ≡ None
  filled_other m n k bytes ne = rw (ne_eqb m n ne) refl

  -- ** a byte set among others

  pub set_there : (xs : List B) (i : ℕ) (b c : B) → slice_get (slice_set xs i b) i ≡ Some c → b ≡ c
  set_there [] i b c e = cc
  set_there (x ∷ xs) zero b c e = cc
  set_there (x ∷ xs) (suc i) b c e = set_there xs i b c e

  pub set_elsewhere : (xs : List B) (i j : ℕ) (b : B) → (i ≡ j → ⊥) → slice_get (slice_set xs i b) j ≡ slice_get xs j
  set_elsewhere [] i j b ne = refl
  set_elsewhere (x ∷ xs) zero zero b ne = absurd (ne refl)
  set_elsewhere (x ∷ xs) zero (suc j) b ne = refl
  set_elsewhere (x ∷ xs) (suc i) zero b ne = refl
  set_elsewhere (x ∷ xs) (suc i) (suc j) b ne = set_elsewhere xs i j b (λ e. ne (ap suc e))
