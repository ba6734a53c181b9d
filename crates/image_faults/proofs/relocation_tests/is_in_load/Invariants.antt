use Rattle.std.proofs.Common.{◌<◌, ℕ}
use Rattle.image_faults.specs.Relocations.{HoldsField}
use Rattle.image_faults.proofs.relocation_tests.is_in_load.Given as goal

abbrev pub invariant-loop-number : goal.invariant-loop-number
invariant-loop-number l = (i : ℕ) → i < l.number → HoldsField l.tables.bytes.now l.rela i → ⊥
