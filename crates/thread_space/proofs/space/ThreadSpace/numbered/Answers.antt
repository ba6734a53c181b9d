-- The list that is walked is that of the live instances.
use Rattle.std.proofs.Common.{◌∙◌, ◌==◌, ap, sym}
use Rattle.std.specs.List.{find}
use Rattle.loaded_modules.specs.declared.instance.Instance.{Instance}
use Rattle.thread_space.specs.Kept.{Kept, live_in}
use Rattle.thread_space.proofs.space.ThreadSpace.numbered.Goals as goal

pub loop-instance-init : goal.loop-instance-init
loop-instance-init c =
    ap (find (λ (x : Instance). x.number == c.args.number))
    (ap (λ (k : Kept). live_in k.vector.images k.vector.past) (sym c.self.view_is)
    ∙ sym (c.deref-instance-items.ensures.value ∙ c.self.invariant.live))
