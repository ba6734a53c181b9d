-- Numbers in instructions: what the meaning takes for one, and what the machine reads.
use Rattle.std.proofs.Common.{◌≡◌, ℕ, Bool, true, false, List, take, drop, Some, None, refl, ap}
use Rattle.std.specs.Prelude.{if◌then◌else◌, ◌==◌, ℤ}
use Rattle.std.proofs.lemmas.Bool.{eqb-true}
use Rattle.amd64_subset.specs.Spelling.{field_of}
use Rattle.guest_machine.specs.Follow.{Alike}
use Rattle.job_meaning.proofs.Reading.{picked}
use Rattle.whole_meaning.specs.declared.marks.Mark.{Mark}
use Rattle.whole_meaning.specs.declared.marks.Mark.TheVariants.{Usual, Offset, Address, Inside}
use Rattle.whole_meaning.specs.Fields.{field_number, starts_offset}
use Rattle.marked_code.proofs.Fields.{starts_field}

module _ {W F B W' F' B' : Type 0} (same : Alike W F B W' F' B') (plain : (n : ℕ) → same.field None None n n) where
  -- a number in an instruction, where it may be a field
  field-if : (b : Bool) (place k number n : ℕ) (ys : List ℕ)
      → (b ≡ true → same.field (Some place) None number (field_of (take 4 (drop k ys))))
      → same.field (if b then Some place else None) None (if b then number else n)
      (picked (if b then Some k else None) ys n)
  field-if true place k number n ys h = h refl
  field-if false place k number n ys h = plain n

  field-none : (b : Bool) (k n : ℕ) (ys : List ℕ) → (b ≡ true → ⊥)
      → same.field None None n (picked (if b then Some k else None) ys n)
  field-none true k n ys never = absurd (never refl)
  field-none false k n ys never = plain n

  -- a displacement: an offset field, or none
  pub field-with : (μ : Mark) (place k n : ℕ) (ys : List ℕ)
      → ((number : ℕ) → μ ≡ Offset number 0 → same.field (Some place) None number (field_of (take 4 (drop k ys))))
      → ((number : ℕ) (addend : ℤ) → μ ≡ Address number addend 0 → ⊥)
      → same.field (if starts_offset μ then Some place else None) None (field_number μ n)
      (picked (if starts_field μ then Some k else None) ys n)
  field-with Usual place k n ys h never = plain n
  field-with Inside place k n ys h never = plain n
  field-with (Offset number byte) place k n ys h never =
      field-if (byte == 0) place k number n ys (λ e. h number (ap (λ (j : ℕ). Offset number j) (eqb-true byte 0 e)))
  field-with (Address number addend byte) place k n ys h never =
      field-none (byte == 0) k n ys
      (λ e. never number addend (ap (λ (j : ℕ). Address number addend j) (eqb-true byte 0 e)))

  -- an immediate: so too, and no address field is one
  pub number-with : (μ : Mark) (place k n : ℕ) (ys : List ℕ)
      → ((number : ℕ) → μ ≡ Offset number 0 → same.field (Some place) None number (field_of (take 4 (drop k ys))))
      → same.field (if starts_offset μ then Some place else None) None (field_number μ n)
      (picked (if starts_offset μ then Some k else None) ys n)
  number-with Usual place k n ys h = plain n
  number-with Inside place k n ys h = plain n
  number-with (Offset number byte) place k n ys h =
      field-if (byte == 0) place k number n ys (λ e. h number (ap (λ (j : ℕ). Offset number j) (eqb-true byte 0 e)))
  number-with (Address number addend byte) place k n ys h = plain n
