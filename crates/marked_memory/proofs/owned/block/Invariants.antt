-- None so far is the block.
use Rattle.std.proofs.Common.{◌≡◌, drop}
use Rattle.thread_blocks.specs.Held.{block_bytes}
use Rattle.marked_memory.proofs.owned.block.Given as goal

abbrev pub invariant-loop-range : goal.invariant-loop-range
invariant-loop-range l = block_bytes l.instance l.owned ≡ block_bytes l.instance (drop l.range-index l.owned)
