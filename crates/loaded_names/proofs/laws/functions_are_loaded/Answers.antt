use Rattle.loaded_names.proofs.Functions.{functions_loaded}
use Rattle.loaded_names.proofs.laws.functions_are_loaded.Goals as goal

pub returns : goal.returns
returns c = functions_loaded
