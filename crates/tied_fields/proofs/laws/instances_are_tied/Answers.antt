use Rattle.tied_fields.proofs.Tied.{instances_tied}
use Rattle.tied_fields.proofs.laws.instances_are_tied.Goals as goal

pub returns : goal.returns
returns c = instances_tied
