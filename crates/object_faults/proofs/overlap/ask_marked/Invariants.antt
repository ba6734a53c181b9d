use Rattle.std.proofs.Common.{◌<◌, ℕ, slice_index}
use Rattle.object_faults.specs.Faults.{Stands}
use Rattle.object_rules.specs.declared.fault.FaultKind.TheVariants.{RelocOverlap}
use Rattle.object_faults.proofs.overlap.ask_marked.Given as goal

abbrev pub invariant-loop-section : goal.invariant-loop-section
invariant-loop-section l = record {
  below : (k : ℕ) → slice_index l.marks k < l.section;
  none : (s : ℕ) → s < l.section → (e : ℕ) → Stands RelocOverlap l.tables.bytes.now s e → ⊥;
}
