use Rattle.std.proofs.Common.{◌≡◌, ◌+◌, drop}
use Rattle.guest_memory.specs.Writable.{first_writable}
use Rattle.guest_memory.proofs.memory.writable_at.Given as goal

-- no range so far may be written there
abbrev pub invariant-loop-index : goal.invariant-loop-index
invariant-loop-index g l = first_writable l.ranges l.place ≡ l.index + first_writable (drop l.index l.ranges) l.place
