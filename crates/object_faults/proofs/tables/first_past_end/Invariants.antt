use Rattle.std.proofs.Common.{ℕ, ◌<◌}
use Rattle.object_faults.specs.Faults.{HasPartPastEnd}
use Rattle.object_faults.proofs.tables.first_past_end.Given as goal

abbrev pub invariant-loop-section : goal.invariant-loop-section
invariant-loop-section l = (s : ℕ) → s < l.section → HasPartPastEnd l.headers.bytes.now s → ⊥
