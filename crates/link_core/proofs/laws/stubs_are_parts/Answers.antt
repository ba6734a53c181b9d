use Rattle.link_core.proofs.StandingParts.{stubs_are_parts}
use Rattle.link_core.proofs.laws.stubs_are_parts.Goals as goal

pub returns : goal.returns
returns c = stubs_are_parts
