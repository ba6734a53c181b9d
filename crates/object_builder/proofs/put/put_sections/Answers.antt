use Rattle.std.proofs.Common.{◌<◌, length, arith, refl, ◌∙◌}
use Rattle.elf_records.specs.Records.{section_bytes}
use Rattle.object_builder.proofs.Records.{one_more, whole_section}
use Rattle.object_builder.proofs.put.put_sections.Goals as goal

pub loop-section-preserved : goal.loop-section-preserved
loop-section-preserved c =
    let inside : c.loop-section.section-index < length c.args.sections.now = omega arith in
    one_more section_bytes _ _ _ _ c.args.sections.now c.loop-section.section-index _ inside c.loop-section.invariant
    c.in_ok-extend_from_slice.ensures.items (c.write_section.ensures.bytes ∙ whole_section _ _ refl)
