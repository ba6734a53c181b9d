use Rattle.std.proofs.Common.{◌+◌, ◌-◌, ◌≤◌, ◌++◌, length, replicate, sym, ap, ◌∙◌, arith}
use Rattle.std.proofs.lemmas.List.{take_all}
use Rattle.std.proofs.lemmas.Option.{slice_get_within}
use Rattle.elf_records.specs.Fields.{splice}
use Rattle.image_file.specs.Spelled.{lent_part, part_seen}
use Rattle.image_writer.specs.Page.{base_of}
use Rattle.image_writer.specs.Written.{laid}
use Rattle.image_writer.proofs.Laying.{part_place, parts_rise, put_next_part, reach-next, none-past}
use Rattle.image_writer.proofs.Puts.{splice_none}
use Rattle.image_writer.proofs.written.put_parts.Goals as goal

pub loop-number-init : goal.loop-number-init
loop-number-init c = (splice_none c.args.at c.args.out.now, c.base_of-base.ensures ∙ ap base_of c.kind.ensures)

pub overflow_sub-end : goal.overflow_sub-end
overflow_sub-end c =
    let is = sym c.part.ensures ∙ ap part_seen c.in-Some.is in
    let facts = part_place c.args.image.now c.loop-number.number
    (lent_part c.in-Some.part) c.base_of-base.result c.loop-number.end
    c.requires.loadable is (c.base_of-base.ensures ∙ ap base_of c.kind.ensures) c.loop-number.invariant.1 in
    facts.0

pub overflow_add-at : goal.overflow_add-at
overflow_add-at c =
    let is = sym c.part.ensures ∙ ap part_seen c.in-Some.is in
    let facts = part_place c.args.image.now c.loop-number.number
    (lent_part c.in-Some.part) c.base_of-base.result c.loop-number.end
    c.requires.loadable is (c.base_of-base.ensures ∙ ap base_of c.kind.ensures) c.loop-number.invariant.1 in
    omega (arith, facts.3, c.requires.room)

pub put_part-requires-clause-rising : goal.put_part-requires-clause-rising
put_part-requires-clause-rising c =
    let is = sym c.part.ensures ∙ ap part_seen c.in-Some.is in
    let facts = part_place c.args.image.now c.loop-number.number
    (lent_part c.in-Some.part) c.base_of-base.result c.loop-number.end
    c.requires.loadable is (c.base_of-base.ensures ∙ ap base_of c.kind.ensures) c.loop-number.invariant.1 in
    facts.1

pub put_part-requires-clause-room : goal.put_part-requires-clause-room
put_part-requires-clause-room c =
    let is = sym c.part.ensures ∙ ap part_seen c.in-Some.is in
    let facts = part_place c.args.image.now c.loop-number.number
    (lent_part c.in-Some.part) c.base_of-base.result c.loop-number.end
    c.requires.loadable is (c.base_of-base.ensures ∙ ap base_of c.kind.ensures) c.loop-number.invariant.1 in
    omega (arith, facts.3, c.requires.room)

pub overflow_add-end : goal.overflow_add-end
overflow_add-end c =
    let is = sym c.part.ensures ∙ ap part_seen c.in-Some.is in
    let facts = part_place c.args.image.now c.loop-number.number
    (lent_part c.in-Some.part) c.base_of-base.result c.loop-number.end
    c.requires.loadable is (c.base_of-base.ensures ∙ ap base_of c.kind.ensures) c.loop-number.invariant.1 in
    omega (arith, facts.2)

pub unreachable-requires : goal.unreachable-requires
unreachable-requires c =
    let none = sym c.part.ensures ∙ ap part_seen c.in-None.is in
    let past = none-past c.args.image.now.parts c.loop-number.number none in
    omega (arith, past, c.loop-number-test.true, c.part_count-number-end.ensures)

pub loop-number-preserved : goal.loop-number-preserved
loop-number-preserved c =
    let image = c.args.image.now in
    let i = c.loop-number.number in
    let p = lent_part c.in-Some.part in
    let is = sym c.part.ensures ∙ ap part_seen c.in-Some.is in
    let below = slice_get_within image.parts i p is in
    let base = c.base_of-base.ensures ∙ ap base_of c.kind.ensures in (
      put_next_part (base_of image.kind) c.args.at image.parts i p c.args.out.now c.loop-number.out c.put_part.new.out is below
          (parts_rise image c.requires.loadable) (omega (arith, c.requires.room)) c.loop-number.invariant.0
          (c.put_part.ensures
          ∙ ap (λ b. splice (c.args.at + (c.loop-number.end - b))
          (replicate (p.address - c.loop-number.end) 0 ++ p.bytes) c.loop-number.out) base
          ∙ ap (λ e. splice (c.args.at + (e - base_of image.kind))
          (replicate (p.address - e) 0 ++ p.bytes) c.loop-number.out)
          c.loop-number.invariant.1),
      reach-next (base_of image.kind) image.parts i p is below,
    )

pub returns : goal.returns
returns c =
    let image = c.args.image.now in
    let all : length image.parts ≤ c.loop-number.number =
    omega (arith, c.part_count-number-end.ensures, c.loop-number-test.false) in
    c.loop-number.invariant.0
    ∙ ap (λ ps. splice c.args.at (laid (base_of image.kind) ps) c.args.out.now)
    (take_all c.loop-number.number image.parts all)
