-- What stands in an instance is fetched.
use Rattle.tied_memory.proofs.Standing.{are_fetched}
use Rattle.tied_memory.proofs.laws.instructions_are_fetched.Goals as goal

pub returns : goal.returns
returns c = are_fetched
