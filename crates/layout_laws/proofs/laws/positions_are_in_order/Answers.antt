use Rattle.layout_laws.proofs.Blocks.{in_order}
use Rattle.layout_laws.proofs.laws.positions_are_in_order.Goals as goal

pub returns : goal.returns
returns c = in_order
