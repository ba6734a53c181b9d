use Rattle.placed_sections.proofs.Told.{files_end}
use Rattle.placed_sections.proofs.laws.files_end.Goals as goal

pub returns : goal.returns
returns c = files_end
