use Rattle.line_laws.proofs.Accounts.{opens_ruled}
use Rattle.line_laws.proofs.laws.opens_are_ruled.Goals as goal

pub returns : goal.returns
returns c = opens_ruled
