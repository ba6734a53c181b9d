use Rattle.loaded_words.proofs.Placed.{placed}
use Rattle.loaded_words.proofs.laws.instances_are_placed.Goals as goal

pub returns : goal.returns
returns c = placed
