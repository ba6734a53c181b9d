use Rattle.std.proofs.Common.{◌≡◌, ◌+◌, All, take}
use Rattle.elf_records.specs.Fields.{splice}
use Rattle.image_writer.specs.Tables.{name_start}
use Rattle.image_writer.specs.Told.{told, IsSymbolFitting}
use Rattle.image_writer.proofs.SymbolRows.{rows_below}
use Rattle.image_writer.proofs.tables.put_symbols.Given as goal

abbrev pub invariant-loop-number : goal.invariant-loop-number
invariant-loop-number l =
    (l.out ≡ splice l.at (rows_below (told l.draft) (l.number + 1)) l.fn.out)
    × (l.name ≡ name_start (told l.draft) (l.number + 1))
    × All IsSymbolFitting (take l.number l.draft.symbols.now)
