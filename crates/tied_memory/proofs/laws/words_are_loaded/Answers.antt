-- Words that stand in an instance are loaded.
use Rattle.tied_memory.proofs.Standing.{are_loaded}
use Rattle.tied_memory.proofs.laws.words_are_loaded.Goals as goal

pub returns : goal.returns
returns c = are_loaded
