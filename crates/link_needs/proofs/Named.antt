-- A relocation that reaches an entry of the global offset table names a symbol.
use Rattle.std.proofs.Common.{◌≡◌, ◌≢◌, ◌∙◌, true, false, ap, sym}
use Rattle.elf_records.specs.declared.relocation.RelocationKind.{RelocationKind}
use Rattle.elf_records.specs.declared.relocation.RelocationKind.TheVariants.{Nothing}
use Rattle.elf_records.specs.declared.relocation_row.RelocationRow.{RelocationRow}
use Rattle.elf_records.specs.RelocationRows.{row}
use Rattle.elf_records.specs.RowLaws.{is_entry}

pub named : (kind : RelocationKind) (given : RelocationRow) → given ≡ row kind → is_entry given.entry ≡ true
    → kind ≢ Nothing
named kind given is reaches e =
    let none : is_entry given.entry ≡ false =
    ap (λ (r : RelocationRow). is_entry r.entry) is ∙ ap (λ k. is_entry (row k).entry) e in
    apart (sym none ∙ reaches)
  where
    apart : false ≡ true → ⊥
    apart h = cc
