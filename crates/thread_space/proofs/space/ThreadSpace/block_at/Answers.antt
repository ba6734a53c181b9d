-- The list that is walked is that of the live instances.
use Rattle.std.proofs.Common.{◌∙◌, ap, sym}
use Rattle.std.specs.List.{find}
use Rattle.thread_space.specs.Kept.{Kept, live_in}
use Rattle.thread_space.specs.Places.{block_ranges, takes}
use Rattle.thread_space.proofs.space.ThreadSpace.block_at.Goals as goal

pub loop-instance-init : goal.loop-instance-init
loop-instance-init c =
    ap (find (λ x. takes (block_ranges c.args.self.now.vector x) c.args.place))
    (ap (λ (k : Kept). live_in k.vector.images k.vector.past) (sym c.self.view_is)
    ∙ sym (c.deref-instance-items.ensures.value ∙ c.self.invariant.live))
