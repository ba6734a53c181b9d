-- The list that is walked is that of the live instances.
use Rattle.std.proofs.Common.{◌∙◌, ap, sym}
use Rattle.std.specs.Prelude.{is_some}
use Rattle.std.specs.List.{find}
use Rattle.thread_space.specs.Fetching.{code_number}
use Rattle.thread_space.specs.Kept.{Kept, live_in}
use Rattle.thread_space.proofs.space.ThreadSpace.code_at.Goals as goal

pub loop-instance-init : goal.loop-instance-init
loop-instance-init c =
    ap (find (λ x. is_some (code_number c.args.self.now.vector.images c.args.place x)))
    (ap (λ (k : Kept). live_in k.vector.images k.vector.past) (sym c.self.view_is)
    ∙ sym (c.deref-instance-items.ensures.value ∙ c.self.invariant.live))
