use Rattle.layout_laws.proofs.Addresses.{room_is}
use Rattle.layout_laws.proofs.laws.room_is_least.Goals as goal

pub returns : goal.returns
returns c = room_is
