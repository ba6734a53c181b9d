use Rattle.std.proofs.Common.{◌-◌, ◌<◌, ℕ, arith, rules}
use Rattle.sequence_match.specs.Sites.{Covers}
use Rattle.sequence_match.proofs.Nearby.{above_not, first_over, none_left, none_lower, none_seen, one_seen}
use Rattle.sequence_match.proofs.Seconds.{none_where_false}
use Rattle.sequence_match.proofs.near.field_below.Goals as goal

pub loop-step-init : goal.loop-step-init
loop-step-init c = none_seen c.args.relocations.now
    (λ y. Covers y c.args.place) c.args.end c.args.place c.requires.above (above_not c.args.place)

pub loop-step-preserved : goal.loop-step-preserved
loop-step-preserved c =
    let xs = c.args.relocations.now in
    let less : c.loop-step.step < c.args.end = omega arith in
    one_seen xs (λ y. Covers y c.args.place) c.args.end c.loop-step.step c.at-relocation.result less c.at-relocation.ensures c.loop-step.invariant
    (none_where_false _ _ c.covers.ensures c.if-covers.false)

pub returns-then-covers : goal.returns-then-covers
returns-then-covers c =
    let xs = c.args.relocations.now in
    let n : ℕ = c.args.end - 1 - c.loop-step.step in
    first_over xs c.args.place n c.at-relocation.result c.requires.apart c.at-relocation.ensures
    (c.covers.ensures.0 (search rules))

pub returns-then-is_last_below : goal.returns-then-is_last_below
returns-then-is_last_below c = λ f h.
    let xs = c.args.relocations.now in
    let n : ℕ = c.args.end - 1 - c.loop-step.step in
    let less : c.loop-step.step < c.args.end = omega arith in
    let last = c.is_last_below.ensures.0 (search rules) in
    none_left xs (λ y. Covers y c.args.place) c.args.end c.loop-step.step c.at-relocation.result less c.at-relocation.ensures c.loop-step.invariant
    (none_where_false _ _ c.covers.ensures c.if-covers.false)
    (none_lower xs c.args.place n c.args.place c.at-relocation.result c.requires.rise c.requires.apart c.at-relocation.ensures last (omega arith)) f h.0 h.1 h.2

pub returns : goal.returns
returns c = λ f h. c.loop-step.invariant f h.0 (omega arith) h.1 h.2
