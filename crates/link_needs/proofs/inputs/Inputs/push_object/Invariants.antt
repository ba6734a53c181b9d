use Rattle.std.proofs.Common.{◌≡◌, ◌-◌, ◌++◌}
use Rattle.std.specs.List.{flat_map, range_with_len}
use Rattle.elf_object.specs.Object.{section_count}
use Rattle.tls_symbols.specs.Bindings.{object_at}
use Rattle.link_needs.specs.Needs.{object_needs, section_needs}
use Rattle.link_needs.specs.NeedLaws.{object_absolutes, section_absolutes}
use Rattle.link_needs.proofs.inputs.Inputs.push_object.Given as goal

abbrev pub invariant-loop-section : goal.invariant-loop-section
invariant-loop-section l =
    (l.needs.items
    ++ flat_map (section_needs l.self l.object (object_at l.self.objects l.object))
    (range_with_len l.section (section_count (object_at l.self.objects l.object) - l.section))
    ≡ l.fn.needs.items ++ object_needs l.self l.object (object_at l.self.objects l.object)) ×
    (l.absolutes.items
    ++ flat_map (section_absolutes l.self l.object (object_at l.self.objects l.object))
    (range_with_len l.section (section_count (object_at l.self.objects l.object) - l.section))
    ≡ l.fn.absolutes.items ++ object_absolutes l.self l.object (object_at l.self.objects l.object))
