-- What is made and what is left to be made are all.
use Rattle.std.proofs.Common.{◌≡◌, ◌++◌, drop}
use Rattle.std.specs.List.{flat_map}
use Rattle.thread_blocks.specs.Held.{block_after}
use Rattle.whole_meaning.specs.Loads.{loads_of}
use Rattle.marked_memory.specs.Owners.{HasSameData}
use Rattle.marked_memory.specs.Spaces.{reaches}
use Rattle.marked_memory.proofs.space.MarkedMemory.blocks_after.Given as goal

abbrev pub invariant-loop-instance : goal.invariant-loop-instance
invariant-loop-instance l =
    (flat_map (block_after (loads_of l.self.images) l.self.thread (reaches l.wanted) l.fn.pool) l.self.live
    ≡ l.blocks.items ++ flat_map (block_after (loads_of l.self.images) l.self.thread (reaches l.wanted) l.pool)
    (drop l.instance-index l.instance-items))
    × HasSameData l.fn.pool l.pool
