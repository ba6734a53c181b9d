-- Where there are no values, there are no bytes.
use Rattle.std.proofs.Common.{refl}
use Rattle.marked_bytes.specs.Cells.{bytes_from}
use Rattle.marked_bytes.proofs.marked_bytes.MarkedBytes.none.Goals as goal

pub returns : goal.returns
unfolding bytes_from
returns c = rw c.new.ensures.items refl
