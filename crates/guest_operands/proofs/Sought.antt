-- The first range that allows an access, in ranges of which each of many has some.
use Rattle.std.proofs.Common.{◌≡◌, ◌∙◌, ◌-◌, ◌<◌, ◌++◌, ◌+◌, ℕ, zero, suc, Bool, true, false, List, [], ◌∷◌, length}
use Rattle.std.proofs.Common.{Option, Some, None, refl, sym, ap, arith, inl, inr, drop, get_or, add-one}
use Rattle.std.specs.Prelude.{◌&&◌, nat_le, nat_lt, slice_get}
use Rattle.std.specs.List.{flat_map}
use Rattle.std.specs.Option.{option_or}
use Rattle.std.proofs.lemmas.Bool.{cases_Bool, ltb-true, false≢true}
use Rattle.std.proofs.Math.Seq.{drop-cons}
use Rattle.guest_operands.specs.declared.space.Access.{Access}
use Rattle.guest_operands.specs.Ranges.{Range, allows, byte_in, grants, holds}

pub is_byte : {B : Type 0} (xs : List B) (i : ℕ) (o : Option B) → i < length xs
    → slice_get xs i ≡ option_or (slice_get xs i) o
is_byte [] i o within = absurd (omega arith)
is_byte (x ∷ xs) zero o within = refl
is_byte (x ∷ xs) (suc i) o within = is_byte xs i o (omega arith)

both-true : (a b : Bool) → (a && b) ≡ true → b ≡ true
both-true true b h = h
both-true false b h = absurd (false≢true h)

-- a range that allows an access at a place has a byte there
pub lies_within : {B : Type 0} (access : Access) (r : Range B) (place : ℕ) → grants access r place ≡ true
    → place - r.start < length r.bytes
lies_within access r place h =
    ltb-true (place - r.start) (length r.bytes)
    (both-true (nat_le r.start place) (nat_lt (place - r.start) (length r.bytes))
    (both-true (allows access r) (holds r place) h))

module _ {B : Type 0} (access : Access) (place : ℕ) where
  pub byte_in-append : (xs ys : List (Range B))
      → byte_in access (xs ++ ys) place ≡ option_or (byte_in access xs place) (byte_in access ys place)
  byte_in-append [] ys = refl
  byte_in-append (r ∷ xs) ys = elim (cases_Bool (grants access r place)) [
    | inl t ↦ rw t (is_byte r.bytes (place - r.start) (byte_in access ys place) (lies_within access r place t))
    | inr f ↦ rw f (byte_in-append xs ys)
  ]

  module _ {X : Type 0} (made : X → List (Range B)) where
    -- the one at i decides, or those behind it
    pub each_next : (xs : List X) (i : ℕ) (d : X) → i < length xs
        → byte_in access (flat_map made (drop i xs)) place
        ≡ option_or (byte_in access (made (get_or xs i d)) place)
        (byte_in access (flat_map made (drop (i + 1) xs)) place)
    each_next xs i d within =
        rw (add-one, drop-cons xs i d) (byte_in-append (made (get_or xs i d)) (flat_map made (drop (suc i) xs)))

    pub each_hit : (xs : List X) (i : ℕ) (d : X) (byte : B) (whole : Option B)
        → whole ≡ byte_in access (flat_map made (drop i xs)) place
        → i < length xs → byte_in access (made (get_or xs i d)) place ≡ Some byte → Some byte ≡ whole
    each_hit xs i d byte whole from within here =
        sym (from ∙ each_next xs i d within
        ∙ ap (λ o. option_or o (byte_in access (flat_map made (drop (i + 1) xs)) place)) here)

    pub each_miss : (xs : List X) (i : ℕ) (d : X) (whole : Option B)
        → whole ≡ byte_in access (flat_map made (drop i xs)) place
        → i < length xs → byte_in access (made (get_or xs i d)) place ≡ None
        → whole ≡ byte_in access (flat_map made (drop (i + 1) xs)) place
    each_miss xs i d whole from within here =
        from ∙ each_next xs i d within
        ∙ ap (λ o. option_or o (byte_in access (flat_map made (drop (i + 1) xs)) place)) here
