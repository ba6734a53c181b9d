-- What is made and what is left to be made are all.
use Rattle.std.proofs.Common.{◌≡◌, ◌++◌, drop}
use Rattle.std.specs.List.{flat_map}
use Rattle.thread_blocks.specs.Held.{data_after}
use Rattle.whole_meaning.specs.Loads.{loads_of}
use Rattle.marked_memory.specs.Spaces.{fills}
use Rattle.marked_memory.proofs.space.MarkedMemory.shared_after.Given as goal

abbrev pub invariant-loop-instance : goal.invariant-loop-instance
invariant-loop-instance l =
    flat_map (data_after (loads_of l.self.images) (fills l.wanted) l.fn.pool) l.self.live
    ≡ l.shared.items ++ flat_map (data_after (loads_of l.self.images) (fills l.wanted) l.pool)
    (drop l.instance-index l.instance-items)
