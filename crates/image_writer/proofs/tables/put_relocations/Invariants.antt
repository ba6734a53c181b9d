use Rattle.std.proofs.Common.{◌≡◌, All, take}
use Rattle.std.specs.List.{flat_map}
use Rattle.elf_records.specs.Fields.{splice}
use Rattle.elf_records.specs.Records.{rela_bytes}
use Rattle.image_file.specs.declared.relocation.ImageRelocation.{ImageRelocation}
use Rattle.image_writer.specs.Tables.{relocation_entry}
use Rattle.image_writer.specs.Told.{IsRelocationFitting}
use Rattle.image_writer.proofs.tables.put_relocations.Given as goal

abbrev pub invariant-loop-number : goal.invariant-loop-number
invariant-loop-number l =
    (l.out ≡ splice l.at
    (flat_map (λ (r : ImageRelocation). rela_bytes (relocation_entry r)) (take l.number l.relocations)) l.fn.out)
    × All IsRelocationFitting (take l.number l.relocations)
