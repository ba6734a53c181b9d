use Rattle.line_laws.proofs.Histories.{closes_ruled}
use Rattle.line_laws.proofs.laws.closes_are_ruled.Goals as goal

pub returns : goal.returns
returns c = closes_ruled
