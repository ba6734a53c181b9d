-- The list that is walked is that of the live instances.
use Rattle.std.proofs.Common.{◌∙◌, ap, sym}
use Rattle.std.specs.List.{list_any}
use Rattle.whole_meaning.specs.Loads.{meaning_of}
use Rattle.marked_memory.specs.Kept.{Kept}
use Rattle.marked_memory.proofs.space.MarkedMemory.is_in_room.Goals as goal

pub loop-instance-init : goal.loop-instance-init
loop-instance-init c =
    ap (list_any (λ x. (meaning_of c.args.self.now.images).room x c.args.place))
    (ap (λ (k : Kept). k.live) (sym c.self.view_is) ∙ sym c.deref-instance-items.ensures.value)
