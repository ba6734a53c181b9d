-- The law.
use Rattle.thread_vector.proofs.LawsOfPlaces.{blocks_apart}
use Rattle.thread_vector.proofs.laws.blocks_are_apart.Goals as goal

pub returns : goal.returns
returns c = blocks_apart
