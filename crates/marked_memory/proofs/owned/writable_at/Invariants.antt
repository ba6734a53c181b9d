-- No range so far may be written there.
use Rattle.std.proofs.Common.{◌≡◌, ◌+◌, drop}
use Rattle.guest_memory.specs.Writable.{first_writable}
use Rattle.thread_blocks.specs.Held.{ranges_in}
use Rattle.marked_memory.proofs.owned.writable_at.Given as goal

abbrev pub invariant-loop-index : goal.invariant-loop-index
invariant-loop-index l =
    first_writable (ranges_in l.owned) l.place ≡ l.index + first_writable (ranges_in (drop l.index l.owned)) l.place
