use Rattle.std.proofs.Common.{◌+◌, ◌<◌, ℕ, slice_index}
use Rattle.object_faults.specs.Faults.{Stands}
use Rattle.object_rules.specs.declared.fault.FaultKind.TheVariants.{RelocOverlap}
use Rattle.object_faults.proofs.Overlaps.{AreMarked}
use Rattle.object_faults.proofs.overlap.overlap_in.Given as goal

abbrev pub invariant-loop-entry : goal.invariant-loop-entry
invariant-loop-entry l = record {
  below : (k : ℕ) → slice_index l.marks k < l.section + 1;
  marked : AreMarked l.tables.bytes.now l.section l.entry l.marks;
  none : (e : ℕ) → e < l.entry → Stands RelocOverlap l.tables.bytes.now l.section e → ⊥;
}
