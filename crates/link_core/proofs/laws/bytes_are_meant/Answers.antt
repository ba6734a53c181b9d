use Rattle.link_core.proofs.Standing.{byte_stands}
use Rattle.link_core.proofs.laws.bytes_are_meant.Goals as goal

pub returns : goal.returns
returns c l o t k address given links there at below = byte_stands l given links o t k address there at below
