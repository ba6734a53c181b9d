use Rattle.tied_fields.proofs.Lies.{lies_there}
use Rattle.tied_fields.proofs.laws.places_are_tied.Goals as goal

pub returns : goal.returns
returns c = lies_there
