use Rattle.tied_fields.proofs.CodeBytes.{rooms_empty}
use Rattle.tied_fields.proofs.laws.rooms_have_no_code.Goals as goal

pub returns : goal.returns
returns c = rooms_empty
