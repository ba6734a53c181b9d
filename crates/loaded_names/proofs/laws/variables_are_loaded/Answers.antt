use Rattle.loaded_names.proofs.Variables.{variables_loaded}
use Rattle.loaded_names.proofs.laws.variables_are_loaded.Goals as goal

pub returns : goal.returns
returns c = variables_loaded
