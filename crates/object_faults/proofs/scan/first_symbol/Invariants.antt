use Rattle.std.proofs.Common.{◌<◌, ℕ}
use Rattle.object_faults.specs.Faults.{Stands}
use Rattle.object_rules.specs.Kinds.{of_symbol}
use Rattle.object_faults.proofs.scan.first_symbol.Given as goal

abbrev pub invariant-loop-entry : goal.invariant-loop-entry
invariant-loop-entry l = (e : ℕ) → e < l.entry → 0 < e
    → Stands (of_symbol l.fault) l.tables.bytes.now l.tables.symbols.table e → ⊥
