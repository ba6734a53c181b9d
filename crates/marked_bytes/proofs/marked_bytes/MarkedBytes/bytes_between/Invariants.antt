use Rattle.std.proofs.Common.{◌≡◌, ◌-◌, drop, take}
use Rattle.marked_bytes.proofs.marked_bytes.MarkedBytes.bytes_between.Given as goal

-- the bytes so far
abbrev pub invariant-loop-index : goal.invariant-loop-index
invariant-loop-index l = l.bytes.items ≡ take (l.index - l.start) (drop l.start l.self)
