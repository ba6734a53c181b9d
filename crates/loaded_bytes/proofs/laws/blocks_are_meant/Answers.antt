use Rattle.loaded_bytes.proofs.Meant.{blocks_meant}
use Rattle.loaded_bytes.proofs.laws.blocks_are_meant.Goals as goal

pub returns : goal.returns
returns c = blocks_meant
