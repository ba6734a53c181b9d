use Rattle.link_core.proofs.NewFields.{new_fields_fit}
use Rattle.link_core.proofs.laws.new_fields_fit.Goals as goal

pub returns : goal.returns
returns c = new_fields_fit
