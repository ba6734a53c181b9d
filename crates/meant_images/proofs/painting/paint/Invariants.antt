use Rattle.std.proofs.Common.{◌≡◌, ◌<◌, ℕ, length, get_or}
use Rattle.std.specs.Prelude.{if◌then◌else◌}
use Rattle.meant_images.specs.CodeCells.{cell_from, is_within, no_cell}
use Rattle.meant_images.proofs.painting.paint.Given as goal

abbrev pub invariant-loop-byte : goal.invariant-loop-byte
invariant-loop-byte l = (k : ℕ) → k < length l.cells → get_or l.cells k no_cell
    ≡ (if is_within l.start l.byte k then cell_from l.entry l.start k else get_or l.fn.cells k no_cell)
