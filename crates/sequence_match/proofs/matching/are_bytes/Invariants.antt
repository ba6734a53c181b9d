use Rattle.std.proofs.Common.{◌≡◌, ◌+◌, ◌<◌, ℕ, Some, IsTrue, slice_index}
use Rattle.std.specs.List.{slice_get}
use Rattle.sequence_forms.specs.declared.forms.Cell.{Cell}
use Rattle.sequence_forms.specs.Forms.{fits}
use Rattle.sequence_match.proofs.matching.are_bytes.Given as goal

abbrev pub invariant-loop-index : goal.invariant-loop-index
invariant-loop-index l =
    (k : ℕ) → k < l.index → (cell : Cell) → slice_get l.cells k ≡ Some cell
    → IsTrue (fits cell (slice_index l.bytes (l.start + k)))
