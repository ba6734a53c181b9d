use Rattle.link_core.proofs.StandingParts.{tables_are_parts}
use Rattle.link_core.proofs.laws.tables_are_parts.Goals as goal

pub returns : goal.returns
returns c = tables_are_parts
