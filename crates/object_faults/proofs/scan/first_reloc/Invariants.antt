use Rattle.std.proofs.Common.{◌<◌, ℕ}
use Rattle.object_faults.specs.Faults.{Stands}
use Rattle.object_rules.specs.Kinds.{of_reloc}
use Rattle.object_faults.proofs.scan.first_reloc.Given as goal

abbrev pub invariant-loop-entry : goal.invariant-loop-entry
invariant-loop-entry l = (e : ℕ) → e < l.entry → Stands (of_reloc l.fault) l.tables.bytes.now l.section e → ⊥
