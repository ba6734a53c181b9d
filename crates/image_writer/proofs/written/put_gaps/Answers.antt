use Rattle.std.proofs.Common.{ℕ, List, ◌-◌, get_or, map, replicate, ap, ◌∙◌, arith}
use Rattle.std.proofs.lemmas.List.{length-map, take_all}
use Rattle.elf_records.specs.Fields.{splice}
use Rattle.image_writer.specs.Contents.{part_in}
use Rattle.image_writer.specs.Outlined.{outlined}
use Rattle.image_writer.specs.Page.{base_of}
use Rattle.image_writer.specs.Written.{laid}
use Rattle.image_writer.proofs.InPlace.{gap_place, gap_put, no_place}
use Rattle.image_writer.proofs.Puts.{splice_none}
use Rattle.image_writer.proofs.written.put_gaps.Goals as goal

pub loop-part-init : goal.loop-part-init
loop-part-init c = (splice_none 4096 c.args.out.now, c.base_of-end.ensures)

pub overflow_sub-gap : goal.overflow_sub-gap
overflow_sub-gap c =
    let facts = gap_place (outlined c.args.outline.now) c.args.out.now c.requires.loadable c.requires.room c.loop-part.out
    c.loop-part.part-index c.loop-part.end no_place c.loop-part-test.true c.loop-part.invariant.0 c.loop-part.invariant.1 in
    facts.1

pub file_offset-requires-clause-above : goal.file_offset-requires-clause-above
file_offset-requires-clause-above c =
    let facts = gap_place (outlined c.args.outline.now) c.args.out.now c.requires.loadable c.requires.room c.loop-part.out
    c.loop-part.part-index c.loop-part.end no_place c.loop-part-test.true c.loop-part.invariant.0 c.loop-part.invariant.1 in
    omega (arith, facts.0)

pub file_offset-requires-clause-below : goal.file_offset-requires-clause-below
file_offset-requires-clause-below c =
    let facts = gap_place (outlined c.args.outline.now) c.args.out.now c.requires.loadable c.requires.room c.loop-part.out
    c.loop-part.part-index c.loop-part.end no_place c.loop-part-test.true c.loop-part.invariant.0 c.loop-part.invariant.1 in
    omega (arith, facts.1, facts.2)

pub put_zeros-requires : goal.put_zeros-requires
put_zeros-requires c =
    let facts = gap_place (outlined c.args.outline.now) c.args.out.now c.requires.loadable c.requires.room c.loop-part.out
    c.loop-part.part-index c.loop-part.end no_place c.loop-part-test.true c.loop-part.invariant.0 c.loop-part.invariant.1 in
    omega (arith, facts.3, c.file_offset.ensures)

pub overflow_add-end : goal.overflow_add-end
overflow_add-end c =
    let facts = gap_place (outlined c.args.outline.now) c.args.out.now c.requires.loadable c.requires.room c.loop-part.out
    c.loop-part.part-index c.loop-part.end no_place c.loop-part-test.true c.loop-part.invariant.0 c.loop-part.invariant.1 in
    omega (arith, facts.2)

pub loop-part-preserved : goal.loop-part-preserved
loop-part-preserved c =
    let next = get_or c.args.outline.now.parts.now c.loop-part.part-index no_place in
    let zeros : List ℕ = replicate (next.address - c.loop-part.end) 0 in
    gap_put (outlined c.args.outline.now) c.args.out.now c.requires.loadable c.requires.room c.loop-part.out
    c.put_zeros.new.out c.loop-part.part-index c.loop-part.end no_place c.loop-part-test.true c.loop-part.invariant.0
    c.loop-part.invariant.1
    (c.put_zeros.ensures ∙ ap (λ n. splice n zeros c.loop-part.out) c.file_offset.ensures)

pub returns : goal.returns
returns c =
    let o = outlined c.args.outline.now in
    let parts = map (part_in o.kind c.args.out.now) o.parts in
    let count = length-map o.parts (part_in o.kind c.args.out.now) in
    c.loop-part.invariant.0
    ∙ ap (λ ps. splice 4096 (laid (base_of o.kind) ps) c.args.out.now)
    (take_all c.loop-part.part-index parts (omega (arith, count, c.loop-part-test.false)))
