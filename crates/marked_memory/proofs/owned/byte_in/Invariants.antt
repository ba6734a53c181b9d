-- No range so far grants it.
use Rattle.std.proofs.Common.{◌≡◌, drop}
use Rattle.guest_operands.specs.Ranges.{byte_in}
use Rattle.thread_blocks.specs.Held.{ranges_in}
use Rattle.marked_memory.proofs.owned.byte_in.Given as goal

abbrev pub invariant-loop-range : goal.invariant-loop-range
invariant-loop-range l =
    byte_in l.access (ranges_in l.owned) l.place ≡ byte_in l.access (ranges_in (drop l.range-index l.owned)) l.place
