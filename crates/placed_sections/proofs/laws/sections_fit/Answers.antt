use Rattle.placed_sections.proofs.Told.{sections_fit}
use Rattle.placed_sections.proofs.laws.sections_fit.Goals as goal

pub returns : goal.returns
returns c = sections_fit
