-- The law.
use Rattle.thread_vector.proofs.LawsOfPlaces.{threads_apart}
use Rattle.thread_vector.proofs.laws.threads_are_apart.Goals as goal

pub returns : goal.returns
returns c = threads_apart
