use Rattle.std.proofs.Common.{◌≡◌, ◌-◌, ◌++◌}
use Rattle.std.specs.List.{flat_map, range_with_len}
use Rattle.elf_object.specs.Object.{section_count}
use Rattle.placed_sections.specs.Files.{placed_section, placed_object}
use Rattle.placed_sections.proofs.placing.push_object.Given as goal

-- with the sections that are left it is whole
abbrev pub invariant-loop-section : goal.invariant-loop-section
invariant-loop-section l =
    l.parts.items ++ flat_map (placed_section (λ part. part) l.placement l.class l.number l.object)
    (range_with_len l.section (section_count l.object - l.section))
    ≡ l.fn.parts.items ++ placed_object (λ part. part) l.placement l.class l.number l.object
