use Rattle.std.proofs.Common.{◌<◌, ℕ}
use Rattle.image_faults.specs.Segments.{HoldsInitialImage}
use Rattle.image_faults.proofs.segments.has_initial_image.Given as goal

abbrev pub invariant-loop-number : goal.invariant-loop-number
invariant-loop-number l = (i : ℕ) → i < l.number → HoldsInitialImage l.headers.bytes.now l.tls i → ⊥
