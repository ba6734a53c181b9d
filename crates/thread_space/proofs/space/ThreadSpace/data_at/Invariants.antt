-- None so far has the place.
use Rattle.std.proofs.Common.{◌≡◌, drop}
use Rattle.std.specs.List.{find}
use Rattle.thread_space.specs.Kept.{live_in}
use Rattle.thread_space.specs.Places.{data_ranges, takes}
use Rattle.thread_space.proofs.space.ThreadSpace.data_at.Given as goal

abbrev pub invariant-loop-instance : goal.invariant-loop-instance
invariant-loop-instance l =
    find (λ x. takes (data_ranges l.self.vector.images l.self.pieces x) l.place)
    (live_in l.self.vector.images l.self.vector.past)
    ≡ find (λ x. takes (data_ranges l.self.vector.images l.self.pieces x) l.place)
    (drop l.instance-index l.instance-items)
