use Rattle.std.proofs.Common.{◌≡◌, ◌++◌, take}
use Rattle.std.specs.List.{flat_map}
use Rattle.elf_records.specs.Records.{rela_bytes}
use Rattle.object_builder.proofs.put.put_relocations.Given as goal

abbrev pub invariant-loop-relocation : goal.invariant-loop-relocation
invariant-loop-relocation l =
    l.bytes.items ≡ l.initial.bytes.items ++ flat_map rela_bytes (take l.relocation-index l.relocations)
