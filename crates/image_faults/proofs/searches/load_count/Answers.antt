use Rattle.std.proofs.Common.{◌≡◌, ◌∙◌, sym, ap, arith}
use Rattle.image_faults.specs.Counts.{leading}
use Rattle.image_faults.specs.Parts.{loads}
use Rattle.image_faults.proofs.Counts.{is_load, leading_none, leading_more, leading_stops, is_of, is_not_of}
use Rattle.image_faults.proofs.searches.load_count.Goals as goal

pub loop-number-init : goal.loop-number-init
loop-number-init c = leading_none (is_load c.args.headers.now.bytes.now)

pub loop-number-preserved : goal.loop-number-preserved
loop-number-preserved c =
    leading_more (is_load c.args.headers.now.bytes.now) c.loop-number.number c.loop-number.invariant
    (is_of _ _ _ (ap (λ s. s.kind) c.segment.ensures.segment) c.if-segment-ne-PT_LOAD.false)

pub returns-then-segment-ne-PT_LOAD-clause-count : goal.returns-then-segment-ne-PT_LOAD-clause-count
unfolding loads
returns-then-segment-ne-PT_LOAD-clause-count c =
    sym (leading_stops (is_load c.args.headers.now.bytes.now) c.loop-number.number _ c.loop-number.invariant
    (is_not_of _ _ _ (ap (λ s. s.kind) c.segment.ensures.segment) c.if-segment-ne-PT_LOAD.true)
    (omega (arith, c.args.headers.now.count_is)))

pub returns-clause-count : goal.returns-clause-count
unfolding loads
returns-clause-count c =
    let all : c.loop-number.number ≡ c.args.headers.now.count = omega arith in
    let p = is_load c.args.headers.now.bytes.now in
    sym all ∙ sym c.loop-number.invariant ∙ ap (leading p) (all ∙ c.args.headers.now.count_is)
