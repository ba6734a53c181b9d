-- A byte that is written changes the first range that may be written there, and no other.
use Rattle.std.proofs.Common.{◌≡◌, ℕ, zero, suc, ◌-◌, ◌<◌, ◌≤◌, Bool, true, false, List, [], ◌∷◌, length, get_or, set}
use Rattle.std.proofs.Common.{refl, ap, arith}
use Rattle.std.specs.Prelude.{if◌then◌else◌, slice_set, ◌&&◌}
use Rattle.guest_operands.specs.declared.space.Access.TheVariants.{Write}
use Rattle.guest_operands.specs.Ranges.{Range, grants, holds, with_byte}
use Rattle.guest_memory.specs.Writable.{first_writable}

module _ {B : Type 0} (place : ℕ) (byte : B) where
  abbrev pub written : Range B → Range B
  written range = record range { bytes = slice_set range.bytes (place - range.start) byte }

  pub with_byte-at : (ranges : List (Range B)) (d : Range B) → first_writable ranges place < length ranges
      → with_byte ranges place byte
      ≡ set ranges (first_writable ranges place) (written (get_or ranges (first_writable ranges place) d))
  with_byte-at [] d found = absurd (omega arith)
  with_byte-at (range ∷ ranges) d found =
      (elim (grants Write range place) as
      (λ here. (if here then zero else suc (first_writable ranges place)) < suc (length ranges)
      → (if here then written range ∷ ranges else range ∷ with_byte ranges place byte)
      ≡ set (range ∷ ranges) (if here then zero else suc (first_writable ranges place))
      (written (get_or (range ∷ ranges) (if here then zero else suc (first_writable ranges place)) d)))
      [ true ↦ λ h. refl | false ↦ λ h. ap (λ rest. range ∷ rest) (with_byte-at ranges d (omega arith)) ]) found

  -- the same at a place that is the first range's
  pub with_byte-index : (ranges : List (Range B)) (d : Range B) (i : ℕ) → i ≡ first_writable ranges place
      → i < length ranges
      → with_byte ranges place byte ≡ set ranges i (written (get_or ranges i d))
  with_byte-index ranges d i same found =
      let found' : first_writable ranges place < length ranges = omega arith in
      rw same (with_byte-at ranges d found')

  pub with_byte-none : (ranges : List (Range B)) → length ranges ≤ first_writable ranges place
      → with_byte ranges place byte ≡ ranges
  with_byte-none [] none = refl
  with_byte-none (range ∷ ranges) none =
      (elim (grants Write range place) as
      (λ here. suc (length ranges) ≤ (if here then zero else suc (first_writable ranges place))
      → (if here then written range ∷ ranges else range ∷ with_byte ranges place byte) ≡ range ∷ ranges) [
        | true ↦ λ h. absurd (omega arith)
        | false ↦ λ h. ap (λ rest. range ∷ rest)
            (with_byte-none ranges (omega arith))
      ]) none

pub second : (a b : Bool) → (a && b) ≡ true → b ≡ true
second true b h = h
second false b h = cc

pub holds-at : {B : Type 0} (place : ℕ) (ranges : List (Range B)) (d : Range B)
    → first_writable ranges place < length ranges
    → holds (get_or ranges (first_writable ranges place) d) place ≡ true
holds-at place [] d found = absurd (omega arith)
holds-at place (range ∷ ranges) d found =
    (elim (grants Write range place) as
    (λ here. grants Write range place ≡ here
    → (if here then zero else suc (first_writable ranges place)) < suc (length ranges)
    → holds (get_or (range ∷ ranges) (if here then zero else suc (first_writable ranges place)) d) place ≡ true) [
      | true ↦ λ e h. second range.writable (holds range place) e
      | false ↦ λ e h. holds-at place ranges d
          (omega arith)
    ]) refl found
