use Rattle.loaded_bytes.proofs.Sections.{sections_stand}
use Rattle.loaded_bytes.proofs.laws.sections_stand.Goals as goal

pub returns : goal.returns
returns c = sections_stand
