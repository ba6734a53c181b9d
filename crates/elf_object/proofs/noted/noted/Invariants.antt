use Rattle.std.proofs.Common.{◌≡◌, ◌++◌, ◌-◌, List}
use Rattle.std.specs.List.{flat_map, range_with_len}
use Rattle.elf_object.specs.Lent.{relocations}
use Rattle.elf_object.specs.Noted.{all_relocations, AreNoted}
use Rattle.elf_object.specs.Object.{section_count}
use Rattle.elf_object.specs.Parts.{symbol_count}
use Rattle.elf_object.specs.declared.relocation.Relocation.{Relocation}
use Rattle.elf_object.proofs.noted.noted.Given as goal

-- the relocations of the sections so far are noted
abbrev pub invariant-loop-section : goal.invariant-loop-section
invariant-loop-section l =
    let b = l.tables.bytes.now in
    (done : List Relocation)
    × (done ++ flat_map (relocations b) (range_with_len l.section (section_count b - l.section)) ≡ all_relocations b)
    × AreNoted (symbol_count b) done l.notes.roles.items l.notes.traits
