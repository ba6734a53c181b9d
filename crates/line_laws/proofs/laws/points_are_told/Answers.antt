use Rattle.line_laws.proofs.Counting.{points_told}
use Rattle.line_laws.proofs.laws.points_are_told.Goals as goal

pub returns : goal.returns
returns c = points_told
