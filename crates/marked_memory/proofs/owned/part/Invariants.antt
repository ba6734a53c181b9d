-- Those so far are parted.
use Rattle.std.proofs.Common.{◌≡◌}
use Rattle.thread_blocks.specs.JobWorlds.{blocks_in, data_in}
use Rattle.marked_memory.proofs.owned.part.Given as goal

abbrev pub invariant-loop-range : goal.invariant-loop-range
invariant-loop-range l = (l.blocks.items ≡ blocks_in l.yielded) × (l.shared.items ≡ data_in l.yielded)
