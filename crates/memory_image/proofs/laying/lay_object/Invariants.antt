use Rattle.std.proofs.Common.{◌≡◌}
use Rattle.memory_image.specs.Laying.{laid_before}
use Rattle.memory_image.proofs.laying.lay_object.Given as goal

-- the sections so far are laid
abbrev pub invariant-loop-section : goal.invariant-loop-section
invariant-loop-section g l =
    l.table.items ≡ laid_before (g.C.Cells.cell l.cells) l.inputs l.class
    (g.C.Cells.gap_cell l.cells) l.number l.section
