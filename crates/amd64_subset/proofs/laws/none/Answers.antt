-- What is none and begins none stays none.
use Rattle.amd64_subset.proofs.Beginning.{none_lem}
use Rattle.amd64_subset.proofs.laws.none.Goals as goal

pub returns : goal.returns
returns c = none_lem
