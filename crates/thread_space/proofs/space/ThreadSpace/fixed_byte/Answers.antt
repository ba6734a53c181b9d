-- The list that is walked is that of the live instances.
use Rattle.std.proofs.Common.{◌∙◌, ap, sym}
use Rattle.guest_operands.specs.Ranges.{byte_in}
use Rattle.thread_blocks.specs.Instances.{fixed_of}
use Rattle.thread_blocks.specs.JobLoads.{job_loads}
use Rattle.thread_space.specs.Kept.{Kept, live_in}
use Rattle.guest_operands.proofs.Sought.{each_hit, each_miss}
use Rattle.thread_space.proofs.space.ThreadSpace.fixed_byte.Goals as goal

pub loop-instance-init : goal.loop-instance-init
loop-instance-init c =
    ap (λ xs. byte_in c.args.access (fixed_of (job_loads c.args.self.now.vector.images) xs) c.args.place)
    (ap (λ (k : Kept). live_in k.vector.images k.vector.past) (sym c.self.view_is)
    ∙ sym (c.deref-instance-items.ensures.value ∙ c.self.invariant.live))

pub returns-in-Some : goal.returns-in-Some
returns-in-Some c =
    each_hit c.args.access c.args.place
    (job_loads c.args.self.now.vector.images).fixed c.deref-instance-items.result.now
    c.loop-instance.instance-index _ c.in-Some.byte _ c.loop-instance.invariant c.loop-instance-test.true
    (sym c.part_byte.ensures ∙ c.in-Some.is)

pub loop-instance-preserved : goal.loop-instance-preserved
loop-instance-preserved c =
    each_miss c.args.access c.args.place
    (job_loads c.args.self.now.vector.images).fixed c.deref-instance-items.result.now
    c.loop-instance.instance-index _ _ c.loop-instance.invariant c.loop-instance-test.true
    (sym c.part_byte.ensures ∙ c.in_default.is)
