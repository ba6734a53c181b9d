use Rattle.tied_fields.proofs.Offsets.{offsets_tied}
use Rattle.tied_fields.proofs.laws.offset_fields_are_tied.Goals as goal

pub returns : goal.returns
returns c = offsets_tied
