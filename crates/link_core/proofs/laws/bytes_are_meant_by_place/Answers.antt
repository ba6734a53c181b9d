use Rattle.link_core.proofs.TogetherPlaces.{bytes_are_meant_by_place}
use Rattle.link_core.proofs.laws.bytes_are_meant_by_place.Goals as goal

pub returns : goal.returns
returns c = bytes_are_meant_by_place
