use Rattle.std.proofs.Common.{◌≡◌, ◌+◌, length, take}
use Rattle.elf_records.specs.Fields.{splice}
use Rattle.image_writer.proofs.Strings.{names_of}
use Rattle.image_writer.proofs.tables.put_strings.Given as goal

abbrev pub invariant-loop-symbol : goal.invariant-loop-symbol
invariant-loop-symbol l =
    (l.out ≡ splice l.at (names_of (take l.symbol-index l.draft.symbols.now)) l.fn.out)
    × (l.next ≡ l.at + length (names_of (take l.symbol-index l.draft.symbols.now)))
