use Rattle.relocated_parts.proofs.Blocks.{blocks_left}
use Rattle.relocated_parts.proofs.laws.blocks_are_left.Goals as goal

pub returns : goal.returns
returns c = blocks_left
