use Rattle.line_laws.proofs.FirstLooks.{looks_ruled}
use Rattle.line_laws.proofs.laws.first_looks_are_ruled.Goals as goal

pub returns : goal.returns
returns c = looks_ruled
