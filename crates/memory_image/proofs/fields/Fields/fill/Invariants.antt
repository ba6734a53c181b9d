use Rattle.std.proofs.Common.{◌≡◌, length}
use Rattle.std.specs.List.{All}
use Rattle.elf_object.specs.Lawful.{IsLawful}
use Rattle.elf_object.specs.Lent.{relocations, section_size}
use Rattle.link_needs.specs.Linking.{object}
use Rattle.memory_image.specs.Filling.{with_fields}
use Rattle.memory_image.proofs.fields.Fields.fill.Given as goal

-- with the fields that are left it is filled in whole
abbrev pub invariant-loop-relocation : goal.invariant-loop-relocation
invariant-loop-relocation l =
    (goal.iterator-loop-relocation).can_next l.relocation-iterator ×
    (goal.iterator-loop-relocation).is_finite l.relocation-iterator ×
    (with_fields l.self.table l.self.inputs.now l.object l.section l.bytes l.relocation-iterator
    ≡ with_fields l.self.table l.self.inputs.now l.object l.section l.fn.bytes
    (relocations (object l.self.inputs.now l.object) l.section)) ×
    All (IsLawful (object l.self.inputs.now l.object) l.section) l.relocation-iterator ×
    (length l.bytes ≡ section_size (object l.self.inputs.now l.object) l.section)
