use Rattle.std.proofs.Common.{◌<◌, ℕ}
use Rattle.image_faults.specs.Segments.{IsRightRest}
use Rattle.image_faults.proofs.segments.first_wrong_rest.Given as goal

abbrev pub invariant-loop-number : goal.invariant-loop-number
invariant-loop-number l = (i : ℕ) → l.loads < i → i < l.number → (IsRightRest l.headers.bytes.now i → ⊥) → ⊥
