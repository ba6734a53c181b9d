use Rattle.std.proofs.Common.{◌<◌, ℕ}
use Rattle.image_rules.specs.declared.rule.Rule.TheVariants.{Table}
use Rattle.image_faults.specs.Faults.{Breaks}
use Rattle.image_faults.proofs.checked.ask_table.Given as goal

abbrev pub invariant-loop-entry : goal.invariant-loop-entry
invariant-loop-entry l = (e : ℕ) → e < l.entry → Breaks (Table l.rule) l.tables.bytes.now e → ⊥
