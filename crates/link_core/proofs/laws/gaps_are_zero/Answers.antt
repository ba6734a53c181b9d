use Rattle.link_core.proofs.StandingParts.{gaps_are_zero}
use Rattle.link_core.proofs.laws.gaps_are_zero.Goals as goal

pub returns : goal.returns
returns c = gaps_are_zero
