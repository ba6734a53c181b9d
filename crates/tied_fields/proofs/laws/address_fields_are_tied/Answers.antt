use Rattle.tied_fields.proofs.Addresses.{addresses_tied}
use Rattle.tied_fields.proofs.laws.address_fields_are_tied.Goals as goal

pub returns : goal.returns
returns c = addresses_tied
