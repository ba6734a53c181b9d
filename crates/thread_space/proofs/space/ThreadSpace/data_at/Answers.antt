-- The list that is walked is that of the live instances.
use Rattle.std.proofs.Common.{◌∙◌, ap, sym}
use Rattle.std.specs.List.{find}
use Rattle.thread_space.specs.Kept.{Kept, live_in}
use Rattle.thread_space.specs.Places.{data_ranges, takes}
use Rattle.thread_space.proofs.space.ThreadSpace.data_at.Goals as goal

pub loop-instance-init : goal.loop-instance-init
loop-instance-init c =
    ap (find (λ x. takes (data_ranges c.args.self.now.vector.images c.args.self.now.pieces x) c.args.place))
    (ap (λ (k : Kept). live_in k.vector.images k.vector.past) (sym c.self.view_is)
    ∙ sym (c.deref-instance-items.ensures.value ∙ c.self.invariant.live))
