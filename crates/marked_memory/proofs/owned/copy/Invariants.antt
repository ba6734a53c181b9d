-- So many are copied.
use Rattle.std.proofs.Common.{◌≡◌, take}
use Rattle.marked_memory.proofs.owned.copy.Given as goal

abbrev pub invariant-loop-range : goal.invariant-loop-range
invariant-loop-range l = l.copies.items ≡ take l.range-index l.owned
