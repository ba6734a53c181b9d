use Rattle.layout_laws.proofs.Addresses.{addresses_only}
use Rattle.layout_laws.proofs.laws.addresses_are_only.Goals as goal

pub returns : goal.returns
returns c = addresses_only
