-- The bytes of a block, as the map has them.
use Rattle.std.proofs.Common.{◌≡◌, ◌∙◌, ◌<◌, ◌==◌, ℕ, zero, suc, Bool, true, false, List, [], ◌∷◌, length, Some, refl}
use Rattle.std.proofs.Common.{ap, inl, inr, arith}
use Rattle.std.specs.Prelude.{slice_get, slice_set, if◌then◌else◌}
use Rattle.std.specs.Option.{option_or}
use Rattle.std.proofs.lemmas.Bool.{cases_eq, cases_Bool, eq-eqb, ne_eqb}
use Rattle.tls_map_laws.specs.Map.{Act, Looked, Asked, Wrote, last_written}

module _ {B : Type 0} where
  -- the bytes of the block of an instance after this, from a fresh one
  abbrev pub bytes_after : ℕ → List B → List (Act B) → List B
  bytes_after n fresh [] = fresh
  bytes_after n fresh (Looked live at_once ∷ before) = bytes_after n fresh before
  bytes_after n fresh (Asked m ∷ before) = bytes_after n fresh before
  bytes_after n fresh (Wrote m k byte ∷ before) =
      if m == n then slice_set (bytes_after n fresh before) k byte else bytes_after n fresh before

  pub set_long : (xs : List B) (k : ℕ) (b : B) → length (slice_set xs k b) ≡ length xs
  set_long [] k b = refl
  set_long (x ∷ xs) zero b = refl
  set_long (x ∷ xs) (suc k) b = ap suc (set_long xs k b)

  set_there : (xs : List B) (k : ℕ) (b : B) → k < length xs → slice_get (slice_set xs k b) k ≡ Some b
  set_there [] k b less = absurd (omega (arith, less))
  set_there (x ∷ xs) zero b less = refl
  set_there (x ∷ xs) (suc k) b less = set_there xs k b (omega (arith, less))

  set_elsewhere : (xs : List B) (j k : ℕ) (b : B) → (j ≡ k → ⊥) → slice_get (slice_set xs j b) k ≡ slice_get xs k
  set_elsewhere [] j k b ne = refl
  set_elsewhere (x ∷ xs) zero zero b ne = absurd (ne refl)
  set_elsewhere (x ∷ xs) zero (suc k) b ne = refl
  set_elsewhere (x ∷ xs) (suc j) zero b ne = refl
  set_elsewhere (x ∷ xs) (suc j) (suc k) b ne = set_elsewhere xs j k b (λ e. ne (ap suc e))

  either_long : (g : Bool) (xs : List B) (k : ℕ) (b : B) (ys : List B) → length xs ≡ length ys
      → length (if g then slice_set xs k b else xs) ≡ length ys
  either_long true xs k b ys e = set_long xs k b ∙ e
  either_long false xs k b ys e = e

  -- a block stays as long as it is
  pub bytes_long : (n : ℕ) (fresh : List B) (acts : List (Act B)) → length (bytes_after n fresh acts) ≡ length fresh
  bytes_long n fresh [] = refl
  bytes_long n fresh (Looked live at_once ∷ before) = bytes_long n fresh before
  bytes_long n fresh (Asked m ∷ before) = bytes_long n fresh before
  bytes_long n fresh (Wrote m k byte ∷ before) =
      either_long (m == n) (bytes_after n fresh before) k byte fresh (bytes_long n fresh before)

  -- the law: byte k of the block is the last write there, else that of a fresh one
  pub bytes_are : (n k : ℕ) (fresh : List B) (acts : List (Act B)) → k < length fresh
      → slice_get (bytes_after n fresh acts) k ≡ option_or (last_written n k acts) (slice_get fresh k)
  bytes_are n k fresh [] less = refl
  bytes_are n k fresh (Looked live at_once ∷ before) less = bytes_are n k fresh before less
  bytes_are n k fresh (Asked m ∷ before) less = bytes_are n k fresh before less
  bytes_are n k fresh (Wrote m j byte ∷ before) less = elim (cases_Bool (m == n)) [
    | inl t ↦ elim (cases_eq j k) [
      | inl same ↦
          let long = bytes_long n fresh before in
          let there : slice_get (slice_set (bytes_after n fresh before) k byte) k ≡ Some byte =
          set_there (bytes_after n fresh before) k byte (omega (arith, less, long)) in
          let yes = eq-eqb j k same in
          rw (t, yes) (ap (λ (i : ℕ). slice_get (slice_set (bytes_after n fresh before) i byte) k) same ∙ there)
      | inr ne ↦
          let no = ne_eqb j k ne in
          rw (t, no) (set_elsewhere (bytes_after n fresh before) j k byte ne ∙ bytes_are n k fresh before less)
    ]
    | inr f ↦ rw f (bytes_are n k fresh before less)
  ]
