use Rattle.image_writer.proofs.Framing.{parts_in_place}
use Rattle.image_writer.proofs.laws.parts_lie_in_place.Goals as goal

pub returns : goal.returns
returns c = parts_in_place
