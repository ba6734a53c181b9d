use Rattle.loaded_bytes.proofs.Blocks.{blocks_loaded}
use Rattle.loaded_bytes.proofs.laws.blocks_are_loaded.Goals as goal

pub returns : goal.returns
returns c = blocks_loaded
