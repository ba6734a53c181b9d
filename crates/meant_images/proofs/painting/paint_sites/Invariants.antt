use Rattle.std.proofs.Common.{◌≡◌, ◌+◌, ◌<◌, ◌≤◌, ℕ, drop, length, get_or}
use Rattle.meant_images.specs.CodeCells.{no_cell, site_cell}
use Rattle.meant_images.proofs.painting.paint_sites.Given as goal

abbrev pub invariant-loop-left : goal.invariant-loop-left
invariant-loop-left l = record {
  few : l.left ≤ length l.sites;
  painted : (k : ℕ) → k < length l.cells → get_or l.cells k no_cell
      ≡ site_cell (l.first + l.left) (drop l.left l.sites) l.section k (get_or l.fn.cells k no_cell);
}

abbrev pub decreases-loop-left : goal.decreases-loop-left
decreases-loop-left l = l.left
