use Rattle.std.proofs.Common.{◌≡◌, ◌+◌, ◌<◌, ◌≤◌, ℕ, drop, length, get_or}
use Rattle.meant_images.specs.CodeCells.{field_cell, no_cell}
use Rattle.meant_images.proofs.painting.paint_fields.Given as goal

abbrev pub invariant-loop-left : goal.invariant-loop-left
invariant-loop-left l = record {
  few : l.left ≤ length l.relocations;
  painted : (k : ℕ) → k < length l.cells → get_or l.cells k no_cell
      ≡ field_cell (l.first + l.left) (drop l.left l.relocations) k (get_or l.fn.cells k no_cell);
}

abbrev pub decreases-loop-left : goal.decreases-loop-left
decreases-loop-left l = l.left
