use Rattle.layout_laws.proofs.Offsets.{segments_least}
use Rattle.layout_laws.proofs.laws.segments_are_least.Goals as goal

pub returns : goal.returns
returns c = segments_least
