-- What begins a spelling, both ways.
use Rattle.amd64_subset.proofs.Beginning.{begins_exactly}
use Rattle.amd64_subset.proofs.laws.beginning.Goals as goal

pub returns : goal.returns
returns c = begins_exactly
