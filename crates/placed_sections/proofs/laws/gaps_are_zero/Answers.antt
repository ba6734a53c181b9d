use Rattle.placed_sections.proofs.Told.{gaps_are_zero}
use Rattle.placed_sections.proofs.laws.gaps_are_zero.Goals as goal

pub returns : goal.returns
returns c = gaps_are_zero
