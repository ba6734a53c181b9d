-- Where nothing stops the reading, an instruction's fields are allowed.
use Rattle.std.proofs.Common.{◌≡◌, ℕ, ◌-◌, ◌<◌, ◌≤◌, inl, inr, ◌==◌, Bool, true, false, ◌&&◌, List, length, take}
use Rattle.std.proofs.Common.{Option, Some, None, refl, sym, ap, subst, ◌∙◌, arith}
use Rattle.std.specs.Prelude.{if◌then◌else◌, nat_le, replicate}
use Rattle.std.proofs.lemmas.Bool.{and_parts, eqb-true, or_cases}
use Rattle.amd64_subset.specs.declared.instr.Decoded.{Decoded}
use Rattle.amd64_subset.specs.Beginning.{begins_of}
use Rattle.amd64_subset.specs.Decoding.{decoded}
use Rattle.guest_arithmetic.specs.declared.cause.Cause.{Cause}
use Rattle.guest_operands.specs.declared.state.State.{State}
use Rattle.guest_operands.specs.Use.{plus}
use Rattle.job_meaning.specs.declared.values.Flag.{Flag}
use Rattle.job_meaning.specs.declared.values.Word.{Word}
use Rattle.job_meaning.specs.Reading.{completed, place_at}
use Rattle.job_meaning.proofs.Reading.{field_place, front-begins, length_of, placed_of, spelled-more}
use Rattle.marked_code.proofs.Fields.{place-behind}
use Rattle.marked_code.proofs.Reading.{each-none}
use Rattle.whole_meaning.specs.declared.marks.Mark.{Mark}
use Rattle.whole_meaning.specs.declared.marks.Mark.TheVariants.{Usual, Offset, Address, Inside}
use Rattle.whole_meaning.specs.Reading.{hindrance}
use Rattle.whole_meaning.specs.Threads.{ops}
use Rattle.cause_laws.specs.Instructions.{operand_of, read_operand}
use Rattle.cause_laws.specs.Operands.{address_of, adds_to_base, allows_address, allows_offset, begins_at, first_mark}
use Rattle.cause_laws.specs.Operands.{is_minus, is_next_operand, is_placed, offset_of}
use Rattle.cause_laws.specs.Rows.{is_covered, may_cover}
use Rattle.cause_laws.proofs.Apart.{fields-apart}
use Rattle.cause_laws.proofs.Fields.{blocked}
use Rattle.cause_laws.proofs.Reading.{met, met-is}

if-read : (b : Bool) (o : Option Cause) → (if b then o else None) ≡ None → b ≡ true → o ≡ None
if-read true o e f = e
if-read false o e f = absurd cc

at-same : (o : Option ℕ) (k : ℕ) → begins_at o k ≡ true → o ≡ Some k
at-same None k e = absurd cc
at-same (Some at) k e = ap (λ (n : ℕ). Some n) (eqb-true at k e)

module _ (mark : ℕ → Mark) (state : State Word Flag) (bytes : List ℕ) (it : Decoded)
    (free : hindrance ops mark state bytes ≡ None)
    (read : decoded bytes ≡ Some it) where
  more : completed bytes ≡ Some it
  unfolding completed
  more = spelled-more bytes (replicate 15 0) it read

  none-met : (k : ℕ) → k ≤ length bytes → met mark state bytes k ≡ None
  unfolding hindrance
  none-met k low = sym (met-is mark state bytes k)
      ∙ each-none ops mark state bytes 0 (length bytes) k k free (omega arith) low

  covered : (k : ℕ) → 0 < k → k < it.len → (μ : Mark) → mark (plus state.place k) ≡ μ
      → is_covered mark state (Some it) k μ ≡ true
  covered k some low μ here =
      let within : it.len ≤ length bytes = length_of bytes it read in
      let there : mark (place_at state.place k) ≡ μ = ap mark (place-behind k state.place some) ∙ here in
      let none : blocked (may_cover mark state bytes k) (mark (place_at state.place k)) ≡ None =
      if-read (begins_of (take k bytes)) _ (none-met k (omega arith)) (front-begins bytes it k read low) in
      let mine : blocked (is_covered mark state (Some it) k μ) μ ≡ None =
      sym (rw (more, there) refl) ∙ none in
      by_mark μ (is_covered mark state (Some it) k μ) refl mine
    where
      by_mark : (μ : Mark) (b : Bool) → is_covered mark state (Some it) k μ ≡ b → blocked b μ ≡ None
          → is_covered mark state (Some it) k μ ≡ true
      by_mark μ true is none = is
      by_mark Usual false is none = refl
      by_mark (Offset number byte) false is none = absurd cc
      by_mark (Address number addend byte) false is none = absurd cc
      by_mark Inside false is none = absurd cc

  -- ** an offset field

  offset-at : (k number : ℕ) → 0 < k → k < it.len → offset_of (mark (plus state.place k)) ≡ Some number
      → allows_offset mark state it k ≡ true
  offset-at k number some low is = by_mark (mark (plus state.place k)) refl is
    where
      by_mark : (μ : Mark) → mark (plus state.place k) ≡ μ → offset_of μ ≡ Some number
          → allows_offset mark state it k ≡ true
      by_mark Usual here is = absurd cc
      by_mark (Offset n byte) here is = first (byte == 0) refl is
        where
          first : (b : Bool) → (byte == 0) ≡ b → (if b then Some n else None) ≡ Some number
              → allows_offset mark state it k ≡ true
          first true e f =
              let begin : byte ≡ 0 = eqb-true byte 0 e in
              let p = and_parts (nat_le byte k) (allows_offset mark state it (k - byte))
              (covered k some low (Offset n byte) here) in
              let same : k - byte ≡ k = omega arith in
              subst (λ (j : ℕ). allows_offset mark state it j ≡ true) same p.1
          first false e f = absurd cc
      by_mark (Address n addend byte) here is = absurd cc
      by_mark Inside here is = absurd cc

  within-disp : (k : ℕ) → it.disp ≡ Some k → (0 < k) × (k < it.len)
  within-disp k at = let h =
      field_place it.len it.disp k (placed_of bytes it read).disp at in (h.0, omega (arith, h.0, h.1))

  within-imm : (k : ℕ) → it.imm ≡ Some k → (0 < k) × (k < it.len)
  within-imm k at = let h =
      field_place it.len it.imm k (placed_of bytes it read).imm at in (h.0, omega (arith, h.0, h.1))

  -- as its displacement
  pub placed-field : (number : ℕ) → offset_of (first_mark mark state it it.disp) ≡ Some number
      → is_placed mark state it (operand_of it.instr.operation) ≡ true
  placed-field number is = by_disp it.disp refl is
    where
      by_disp : (o : Option ℕ) → it.disp ≡ o → offset_of (first_mark mark state it o) ≡ Some number
          → is_placed mark state it (operand_of it.instr.operation) ≡ true
      by_disp None at is = absurd cc
      by_disp (Some k) at is =
          let w = within-disp k at in
          (elim (or_cases (begins_at it.disp k && is_placed mark state it (operand_of it.instr.operation))
          (begins_at it.imm k && adds_to_base mark state it it.instr.operation)
          (offset-at k number w.0 w.1 is))
          as (λ c. is_placed mark state it (operand_of it.instr.operation) ≡ true) [
            | inl here ↦ (and_parts (begins_at it.disp k)
                (is_placed mark state it (operand_of it.instr.operation)) here).1
            | inr there ↦ absurd (fields-apart bytes it k read at
                (at-same it.imm k (and_parts (begins_at it.imm k)
                (adds_to_base mark state it it.instr.operation) there).0))
          ])

  -- as its immediate
  pub added-field : (number : ℕ) → offset_of (first_mark mark state it it.imm) ≡ Some number
      → adds_to_base mark state it it.instr.operation ≡ true
  added-field number is = by_imm it.imm refl is
    where
      by_imm : (o : Option ℕ) → it.imm ≡ o → offset_of (first_mark mark state it o) ≡ Some number
          → adds_to_base mark state it it.instr.operation ≡ true
      by_imm None at is = absurd cc
      by_imm (Some k) at is =
          let w = within-imm k at in
          (elim (or_cases (begins_at it.disp k && is_placed mark state it (operand_of it.instr.operation))
          (begins_at it.imm k && adds_to_base mark state it it.instr.operation)
          (offset-at k number w.0 w.1 is))
          as (λ c. adds_to_base mark state it it.instr.operation ≡ true) [
            | inl here ↦ absurd (fields-apart bytes it k read
                (at-same it.disp k (and_parts (begins_at it.disp k)
                (is_placed mark state it (operand_of it.instr.operation)) here).0) at)
            | inr there ↦ (and_parts (begins_at it.imm k) (adds_to_base mark state it it.instr.operation) there).1
          ])

  -- ** an address field

  address-at : (k number : ℕ) → 0 < k → k < it.len → address_of (mark (plus state.place k)) ≡ Some number
      → is_next_operand (read_operand it.instr.operation) ≡ true
  address-at k number some low is = by_mark (mark (plus state.place k)) refl is
    where
      by_mark : (μ : Mark) → mark (plus state.place k) ≡ μ → address_of μ ≡ Some number
          → is_next_operand (read_operand it.instr.operation) ≡ true
      by_mark Usual here is = absurd cc
      by_mark (Offset n byte) here is = absurd cc
      by_mark (Address n addend byte) here is =
          let p = and_parts (nat_le byte k) (allows_address mark state it addend (k - byte))
          (covered k some low (Address n addend byte) here) in
          let q = and_parts (begins_at it.disp (k - byte) && is_next_operand (read_operand it.instr.operation))
          (is_minus addend (it.len - (k - byte))) p.1 in
          (and_parts (begins_at it.disp (k - byte)) (is_next_operand (read_operand it.instr.operation)) q.0).1
      by_mark Inside here is = absurd cc

  pub supplied-field : (number : ℕ) → address_of (first_mark mark state it it.disp) ≡ Some number
      → is_next_operand (read_operand it.instr.operation) ≡ true
  supplied-field number is = by_disp it.disp refl is
    where
      by_disp : (o : Option ℕ) → it.disp ≡ o → address_of (first_mark mark state it o) ≡ Some number
          → is_next_operand (read_operand it.instr.operation) ≡ true
      by_disp None at is = absurd cc
      by_disp (Some k) at is = let w = within-disp k at in address-at k number w.0 w.1 is
