use Rattle.layout_laws.proofs.Blocks.{blocks_only}
use Rattle.layout_laws.proofs.laws.blocks_are_only.Goals as goal

pub returns : goal.returns
returns c = blocks_only
