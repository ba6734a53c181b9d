-- What is read at a place of data is what was left there last.
use Rattle.std.proofs.Common.{◌≡◌, ◌∙◌, ◌-◌, ◌<◌, ◌++◌, ℕ, zero, suc, true, List, [], ◌∷◌, length, Option, Some, None}
use Rattle.std.proofs.Common.{if◌then◌else◌, refl, sym, ap, subst, inl, inr, arith}
use Rattle.std.specs.Prelude.{nat_le, nat_lt, ok_or, slice_get}
use Rattle.std.proofs.lemmas.Bool.{and_parts, cases_Bool, ltb-true}
use Rattle.guest_arithmetic.specs.Values.{Operations}
use Rattle.guest_operands.specs.declared.space.Access.TheVariants.{Read}
use Rattle.guest_machine.specs.Access.{Refused}
use Rattle.guest_machine.specs.Ranges.{Range, allows, byte_in, grants, holds}
use Rattle.thread_blocks.specs.Held.{Block, Data, Kind, Owner, owned}
use Rattle.thread_blocks.specs.Spaces.{Space, space_accesses, stack_range}
use Rattle.shared_data.specs.Changes.{Change, data_found, data_place, last_left}
use Rattle.shared_data.proofs.Left.{AreLeft, IsLeft}

pub some_at : {B : Type 0} (xs : List B) (k : ℕ) → k < length xs → (b : B) × (slice_get xs k ≡ Some b)
some_at [] k less = absurd (omega (arith, less))
some_at (x ∷ xs) zero less = (x, refl)
some_at (x ∷ xs) (suc k) less = some_at xs k (omega (arith, less))

module _ {B : Type 0} (log : List (Change B)) (place : ℕ) (at : ℕ × ℕ) where
  -- in the range itself
  at_place : (kind : Kind) (n : ℕ) (r : Range B) → grants Read r place ≡ true
      → IsLeft log (record { owner = record { kind = kind; instance = n }; range = r })
      → data_place kind n (place - r.start) ≡ Some at
      → slice_get r.bytes (place - r.start) ≡ last_left at.0 at.1 log
  at_place Block n r granted left e = cc
  at_place Data n r granted left e =
      let same : (n, place - r.start) ≡ at = let s = e in cc in
      let both = and_parts (allows Read r) (holds r place) granted in
      let within = and_parts (nat_le r.start place) (nat_lt (place - r.start) (length r.bytes)) both.1 in
      let some = some_at r.bytes (place - r.start) (ltb-true (place - r.start) (length r.bytes) within.1) in
      subst (λ (p : ℕ × ℕ). slice_get r.bytes (place - r.start) ≡ last_left p.0 p.1 log) same
      (some.1 ∙ sym (left refl (place - r.start) some.0 some.1))

  found_is : (os : List Owner) (rs fixed : List (Range B)) → AreLeft log (owned os rs)
      → data_found (owned os rs) place ≡ Some at → byte_in Read (rs ++ fixed) place ≡ last_left at.0 at.1 log
  found_is [] rs fixed left e = cc
  found_is (o ∷ os) [] fixed left e = cc
  found_is (o ∷ os) (r ∷ rs) fixed left e = elim (cases_Bool (grants Read r place)) [
    | inl t ↦ rw t (at_place o.kind o.instance r t left.0 (rw t at e))
    | inr f ↦ rw f (found_is os rs fixed left.1 (rw f at e))
  ]

module _ {W F B : Type 0} (ops : Operations W F B) (stack : ℕ) {E : Type 0} (fixed : List E → List (Range B)) where
  pub beside_stack : (log : List (Change B)) (space : Space E B) (os : List Owner) (place : ℕ) (at : ℕ × ℕ)
      → AreLeft log (owned os space.own)
      → (if grants Read (stack_range stack space.stack) place then None else data_found (owned os space.own) place)
      ≡ Some at
      → (space_accesses ops stack fixed).byte space place ≡ ok_or (last_left at.0 at.1 log) Refused
  unfolding space_accesses
  beside_stack log space os place at left e = elim (cases_Bool (grants Read (stack_range stack space.stack) place)) [
    | inl t ↦ absurd (let none : None ≡ Some at = rw t at e in cc)
    | inr f ↦ rw f (ap (λ (o : Option B). ok_or o Refused)
        (found_is log place at os space.own (fixed space.seen) left (rw f at e)))
  ]
