use Rattle.layout_laws.proofs.Offsets.{offsets_only}
use Rattle.layout_laws.proofs.laws.offsets_are_only.Goals as goal

pub returns : goal.returns
returns c = offsets_only
