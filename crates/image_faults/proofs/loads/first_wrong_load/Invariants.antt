use Rattle.std.proofs.Common.{◌<◌, ℕ}
use Rattle.image_faults.specs.Segments.{IsRightLoad}
use Rattle.image_faults.proofs.loads.first_wrong_load.Given as goal

abbrev pub invariant-loop-number : goal.invariant-loop-number
invariant-loop-number l = (i : ℕ) → i < l.number → (IsRightLoad l.headers.bytes.now i → ⊥) → ⊥
