-- Each block lies past the one before it.
use Rattle.module_table.proofs.LawsOfBlocks.{blocks_apart}
use Rattle.module_table.proofs.laws.static_blocks_are_apart.Goals as goal

pub returns : goal.returns
returns c = blocks_apart
