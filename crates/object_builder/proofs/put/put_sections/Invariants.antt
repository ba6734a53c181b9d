use Rattle.std.proofs.Common.{◌≡◌, ◌++◌, take}
use Rattle.std.specs.List.{flat_map}
use Rattle.elf_records.specs.Records.{section_bytes}
use Rattle.object_builder.proofs.put.put_sections.Given as goal

abbrev pub invariant-loop-section : goal.invariant-loop-section
invariant-loop-section l =
    l.bytes.items ≡ l.initial.bytes.items ++ flat_map section_bytes (take l.section-index l.sections)
