-- The list that is walked is that of the live instances.
use Rattle.std.proofs.Common.{◌∙◌, ap, sym}
use Rattle.std.specs.List.{find, list_any}
use Rattle.thread_blocks.specs.JobLoads.{job_loads}
use Rattle.thread_blocks.specs.RunTime.{has_words}
use Rattle.thread_space.specs.Kept.{Kept, live_in}
use Rattle.thread_space.proofs.space.ThreadSpace.asker.Goals as goal

pub loop-instance-init : goal.loop-instance-init
loop-instance-init c =
    ap (find (λ x. list_any (has_words c.args.address) ((job_loads c.args.self.now.vector.images).tables x)))
    (ap (λ (k : Kept). live_in k.vector.images k.vector.past) (sym c.self.view_is)
    ∙ sym (c.deref-instance-items.ensures.value ∙ c.self.invariant.live))

pub returns-then-has_words-clause-low : goal.returns-then-has_words-clause-low
returns-then-has_words-clause-low c = c.has_words.ensures.low c.if-has_words.true
