use Rattle.tied_fields.proofs.OneNumber.{one_for_all}
use Rattle.tied_fields.proofs.laws.descriptors_have_one_number.Goals as goal

pub returns : goal.returns
returns c = one_for_all
