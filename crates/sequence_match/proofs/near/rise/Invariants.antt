use Rattle.sequence_match.proofs.Nearby.{RiseUpTo}
use Rattle.sequence_match.proofs.near.rise.Given as goal

abbrev pub invariant-loop-index : goal.invariant-loop-index
invariant-loop-index l = RiseUpTo l.relocations l.index
