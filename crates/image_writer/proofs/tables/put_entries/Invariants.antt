use Rattle.std.proofs.Common.{◌≡◌, take}
use Rattle.std.specs.List.{flat_map}
use Rattle.elf_records.specs.Fields.{splice}
use Rattle.elf_records.specs.Records.{dynamic_bytes}
use Rattle.image_writer.proofs.tables.put_entries.Given as goal

abbrev pub invariant-loop-number : goal.invariant-loop-number
invariant-loop-number l = l.out ≡ splice l.at (flat_map dynamic_bytes (take l.number l.entries)) l.initial.out
