use Rattle.field_laws.proofs.Rows.{stored_right}
use Rattle.field_laws.proofs.laws.fields_are_stored.Goals as goal

pub returns : goal.returns
returns c = stored_right
