use Rattle.std.proofs.Common.{◌≡◌, length}
use Rattle.guest_memory.proofs.Loops.{IsFetchedTo}
use Rattle.guest_memory.proofs.bytes.fetch.Given as goal

abbrev pub invariant-loop-index : goal.invariant-loop-index
invariant-loop-index g l = record {
  fetched : IsFetchedTo g.V.Values.operations (g.M.Bytes.memory l.memory) l.place l.into l.at l.index;
  room : length l.into ≡ 15;
}
