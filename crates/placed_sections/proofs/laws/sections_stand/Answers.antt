use Rattle.placed_sections.proofs.Told.{sections_stand}
use Rattle.placed_sections.proofs.laws.sections_stand.Goals as goal

pub returns : goal.returns
returns c = sections_stand
