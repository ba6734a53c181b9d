-- The bytes of sections lie in the file.
use Rattle.std.proofs.Common.{◌≡◌, ◌*◌, ◌/◌, ap, ◌+◌, ◌≤◌, ℕ, List, length, inl, inr, arith}
use Rattle.std.proofs.lemmas.Bool.{cases_lt}
use Rattle.elf_records.specs.declared.section_header.SectionHeader.{SectionHeader}
use Rattle.object_faults.specs.Parts.{section, IsSection, IsTable, HasBytes}
use Rattle.object_faults.specs.Faults.{HasPartPastEnd}

pub part_inside : (b : List ℕ) (s : ℕ) → ((t : ℕ) → HasPartPastEnd b t → ⊥) → IsSection b s → HasBytes (section b s)
    → (section b s).offset + (section b s).size ≤ length b
part_inside b s none within some =
    elim (cases_lt (length b) ((section b s).offset + (section b s).size)) [
      | inl past ↦ absurd (none s (within, some, past))
      | inr inside ↦ inside
    ]

-- the entries of the symbol table lie in the file
pub table_inside : (b : List ℕ) (s : ℕ) (h : SectionHeader) → h ≡ section b s → ((t : ℕ) → HasPartPastEnd b t → ⊥)
    → IsTable b s → h.offset + 24 * (h.size / 24) ≤ length b
table_inside b s h same none table =
    let whole = part_inside b s none table.0 (λ null. omega arith, λ empty. omega arith) in
    let at = ap (λ x. x.offset) same in
    let size = ap (λ x. x.size) same in
    omega (arith, at, size, whole)
