-- All bytes are values.
use Rattle.marked_bytes.proofs.Cells.{of_values}
use Rattle.marked_bytes.proofs.marked_bytes.MarkedBytes.of.Goals as goal

pub returns : goal.returns
returns c =
    rw (c.in_ok-with_capacity.ensures.items, c.in_ok-with_capacity-2.ensures.items) (of_values c.args.values.items)
