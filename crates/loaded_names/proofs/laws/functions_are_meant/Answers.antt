use Rattle.loaded_names.proofs.Meant.{functions_meant}
use Rattle.loaded_names.proofs.laws.functions_are_meant.Goals as goal

pub returns : goal.returns
returns c = functions_meant
