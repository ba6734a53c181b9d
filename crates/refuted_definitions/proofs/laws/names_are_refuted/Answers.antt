use Rattle.refuted_definitions.proofs.NameCases.{names_refuted}
use Rattle.refuted_definitions.proofs.laws.names_are_refuted.Goals as goal

pub returns : goal.returns
returns c = names_refuted c.bindings_are_only.ensures
