use Rattle.guest_memory.proofs.Loops.{IsWritableTo}
use Rattle.guest_memory.proofs.bytes.may_write_all.Given as goal

abbrev pub invariant-loop-index : goal.invariant-loop-index
invariant-loop-index g l = IsWritableTo (g.M.Bytes.memory l.memory).ranges l.place l.size l.at l._index
