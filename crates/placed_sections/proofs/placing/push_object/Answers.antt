use Rattle.std.proofs.Common.{◌∙◌, ◌+◌, ◌-◌, ◌++◌, ap, arith}
use Rattle.std.specs.List.{flat_map, range_with_len}
use Rattle.elf_object.specs.Object.{section_count}
use Rattle.placed_sections.specs.Files.{placed_section}
use Rattle.placed_sections.proofs.Laid.{sections_step}
use Rattle.placed_sections.proofs.placing.push_object.Goals as goal

pub loop-section-preserved : goal.loop-section-preserved
loop-section-preserved c =
    let p = c.args.placement.now in
    let o = c.args.number in
    let b = c.args.object.now in
    let s = c.loop-section.section in
    let count = section_count b in
    let rest = flat_map (placed_section (λ part. part) p c.args.class o b) (range_with_len (s + 1) (count - (s + 1))) in
    ap (λ parts. parts ++ rest) c.in_ok-push_section.ensures
    ∙ sections_step (λ part. part) p c.args.class o b c.loop-section.parts.items s count
    (omega (arith, c.loop-section-test.true, c.section_count-section-end.ensures.count))
    ∙ c.loop-section.invariant
