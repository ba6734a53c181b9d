use Rattle.loaded_names.proofs.Imports.{imports_found}
use Rattle.loaded_names.proofs.laws.imports_are_found.Goals as goal

pub returns : goal.returns
returns c = imports_found
