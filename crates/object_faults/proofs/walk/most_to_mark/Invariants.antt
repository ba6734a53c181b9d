use Rattle.std.proofs.Common.{◌<◌, ℕ}
use Rattle.object_faults.specs.Walks.{IsFaultless, HasRoomToMark}
use Rattle.object_faults.proofs.walk.most_to_mark.Given as goal

abbrev pub invariant-loop-section : goal.invariant-loop-section
invariant-loop-section l = record {
  faultless : (r : ℕ) → r < l.section → IsFaultless l.tables.bytes.now r;
  room : (r : ℕ) → r < l.section → HasRoomToMark l.tables.bytes.now r l.most;
}
