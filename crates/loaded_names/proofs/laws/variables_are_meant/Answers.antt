use Rattle.loaded_names.proofs.Meant.{variables_meant}
use Rattle.loaded_names.proofs.laws.variables_are_meant.Goals as goal

pub returns : goal.returns
returns c = variables_meant
