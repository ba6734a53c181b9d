use Rattle.std.proofs.Common.{◌<◌, ℕ}
use Rattle.object_faults.specs.Faults.{Stands}
use Rattle.object_rules.specs.Kinds.{of_reloc}
use Rattle.object_faults.proofs.scan.ask_relocs.Given as goal

abbrev pub invariant-loop-section : goal.invariant-loop-section
invariant-loop-section l = (s : ℕ) → s < l.section → (e : ℕ) → Stands (of_reloc l.fault) l.tables.bytes.now s e → ⊥
