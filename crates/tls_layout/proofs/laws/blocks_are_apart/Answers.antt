use Rattle.tls_layout.proofs.LawsOfBlocks.{blocks_apart}
use Rattle.tls_layout.proofs.laws.blocks_are_apart.Goals as goal

pub returns : goal.returns
returns c = blocks_apart
