use Rattle.std.proofs.Common.{◌<◌, ℕ}
use Rattle.object_faults.specs.Parts.{IsTable}
use Rattle.object_faults.proofs.symbols.second_table.Given as goal

abbrev pub invariant-loop-section : goal.invariant-loop-section
invariant-loop-section l = (s : ℕ) → s < l.section → l.tables.symbols.table < s → IsTable l.tables.bytes.now s → ⊥
