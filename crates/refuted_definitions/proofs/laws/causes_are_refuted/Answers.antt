use Rattle.refuted_definitions.proofs.CauseCases.{causes_refuted}
use Rattle.refuted_definitions.proofs.laws.causes_are_refuted.Goals as goal

pub returns : goal.returns
returns c = causes_refuted c.causes_are_answered.ensures
