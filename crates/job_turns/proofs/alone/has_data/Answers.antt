use Rattle.std.proofs.Common.{◌∙◌, ap, arith, refl, sym}
use Rattle.thread_space.proofs.Entries.{image_after}
use Rattle.job_turns.specs.Alone.{has_data, has_data_in}
use Rattle.job_turns.proofs.Dataless.{any_here, any_left}
use Rattle.job_turns.proofs.alone.has_data.Goals as goal

pub loop-index-init : goal.loop-index-init
unfolding has_data
loop-index-init c = refl

pub returns-then-has_data_at : goal.returns-then-has_data_at
unfolding has_data
returns-then-has_data_at c =
    let m = c.args.modules.now in
    let i = c.loop-index.index in
    sym (any_here m.images i (omega (arith, c.loop-index-test.true, c.image_count-index-end.ensures.value))
    (ap has_data_in (image_after m i) ∙ sym c.if-has_data_at.ensures))

pub loop-index-preserved : goal.loop-index-preserved
loop-index-preserved c =
    let m = c.args.modules.now in
    let i = c.loop-index.index in
    sym (any_left m.images i (omega (arith, c.loop-index-test.true, c.image_count-index-end.ensures.value))
    (ap has_data_in (image_after m i) ∙ sym c.if-has_data_at.ensures))
    ∙ c.loop-index.invariant
