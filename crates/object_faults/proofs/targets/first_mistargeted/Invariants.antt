use Rattle.std.proofs.Common.{◌<◌, ℕ}
use Rattle.object_rules.specs.declared.fault.FaultKind.TheVariants.{RelocTarget}
use Rattle.object_faults.specs.Tables.{AreTargetsBelow}
use Rattle.object_faults.specs.Faults.{Stands}
use Rattle.object_faults.proofs.targets.first_mistargeted.Given as goal

abbrev pub invariant-loop-section : goal.invariant-loop-section
invariant-loop-section l = record {
  found : AreTargetsBelow l.tables.bytes.now l.section l.found;
  none : (s : ℕ) → s < l.section → Stands RelocTarget l.tables.bytes.now s 0 → ⊥;
}
