use Rattle.relocated_parts.proofs.Fold.{parts_left}
use Rattle.relocated_parts.proofs.laws.parts_are_left.Goals as goal

pub returns : goal.returns
returns c = parts_left
