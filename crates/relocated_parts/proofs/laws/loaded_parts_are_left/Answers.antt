use Rattle.relocated_parts.proofs.Loaded.{loaded_left}
use Rattle.relocated_parts.proofs.laws.loaded_parts_are_left.Goals as goal

pub returns : goal.returns
returns c = loaded_left
