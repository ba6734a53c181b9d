use Rattle.std.proofs.Common.{◌≡◌, drop}
use Rattle.guest_operands.specs.Ranges.{byte_in}
use Rattle.guest_memory.proofs.memory.byte_of.Given as goal

-- no range so far grants it
abbrev pub invariant-loop-range : goal.invariant-loop-range
invariant-loop-range g l = byte_in l.access l.ranges l.place ≡ byte_in l.access (drop l.range-index l.ranges) l.place
