use Rattle.std.proofs.Common.{◌<◌, ◌↔◌, ℕ, IsTrue}
use Rattle.object_faults.specs.Walks.{IsFaulty}
use Rattle.object_faults.proofs.Walks.{RiseBelow, IsEndBefore}
use Rattle.object_faults.proofs.walk.walk_over.Given as goal

abbrev pub invariant-loop-entry : goal.invariant-loop-entry
invariant-loop-entry l = record {
  faultless : (e : ℕ) → e < l.entry → IsFaulty l.tables.bytes.now l.section e → ⊥;
  before : IsEndBefore l.tables.bytes.now l.section l.entry l.end;
  rises : IsTrue l.rises ↔ RiseBelow l.tables.bytes.now l.section l.entry;
}
