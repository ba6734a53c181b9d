-- None so far has the place in its room.
use Rattle.std.proofs.Common.{◌≡◌, drop}
use Rattle.std.specs.List.{list_any}
use Rattle.whole_meaning.specs.Loads.{meaning_of}
use Rattle.marked_memory.proofs.space.MarkedMemory.is_in_room.Given as goal

abbrev pub invariant-loop-instance : goal.invariant-loop-instance
invariant-loop-instance l =
    list_any (λ x. (meaning_of l.self.images).room x l.place) l.self.live
    ≡ list_any (λ x. (meaning_of l.self.images).room x l.place) (drop l.instance-index l.instance-items)
