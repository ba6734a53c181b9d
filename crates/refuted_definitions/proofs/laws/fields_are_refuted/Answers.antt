use Rattle.refuted_definitions.proofs.FieldCases.{fields_refuted}
use Rattle.refuted_definitions.proofs.laws.fields_are_refuted.Goals as goal

pub returns : goal.returns
returns c = fields_refuted c.fields_are_stored.ensures
