use Rattle.std.proofs.Common.{◌<◌, ℕ}
use Rattle.object_rules.specs.declared.fault.FaultKind.TheVariants.{SymbolTable}
use Rattle.object_faults.specs.Faults.{Stands}
use Rattle.object_faults.proofs.symbols.first_misplaced.Given as goal

abbrev pub invariant-loop-entry : goal.invariant-loop-entry
invariant-loop-entry l = (e : ℕ) → e < l.entry → 0 < e → Stands SymbolTable l.tables.bytes.now l.tables.symbols.table e
    → ⊥
