use Rattle.std.proofs.Common.{◌<◌, ℕ}
use Rattle.image_faults.specs.Segments.{HasSegmentPastEnd}
use Rattle.image_faults.proofs.headers.segment_past_end.Given as goal

abbrev pub invariant-loop-number : goal.invariant-loop-number
invariant-loop-number l = (i : ℕ) → i < l.number → HasSegmentPastEnd l.bytes i → ⊥
