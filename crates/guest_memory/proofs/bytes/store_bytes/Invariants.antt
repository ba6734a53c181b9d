use Rattle.std.proofs.Common.{◌≡◌}
use Rattle.guest_memory.proofs.Loops.{IsStoredTo}
use Rattle.guest_memory.proofs.bytes.store_bytes.Given as goal

abbrev pub invariant-loop-index : goal.invariant-loop-index
invariant-loop-index g l = record {
  stored : IsStoredTo g.V.Values.operations (g.M.Bytes.memory l.fn.memory) l.place l.size l.word
      (g.M.Bytes.memory l.memory) l.at l.index;
  rest : g.M.Bytes.rest l.memory ≡ g.M.Bytes.rest l.fn.memory;
}
