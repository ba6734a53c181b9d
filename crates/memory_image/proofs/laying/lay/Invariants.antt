use Rattle.std.proofs.Common.{◌≡◌}
use Rattle.memory_image.specs.Laying.{laid_before}
use Rattle.memory_image.proofs.laying.lay.Given as goal

-- the objects so far are laid
abbrev pub invariant-loop-number : goal.invariant-loop-number
invariant-loop-number g l =
    l.table.items ≡ laid_before (g.C.Cells.cell l.cells) l.inputs l.class (g.C.Cells.gap_cell l.cells) l.number 0
