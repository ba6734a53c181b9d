-- The law.
use Rattle.thread_vector.proofs.LawsOfPlaces.{lie_below}
use Rattle.thread_vector.proofs.laws.blocks_lie_below.Goals as goal

pub returns : goal.returns
returns c = lie_below
