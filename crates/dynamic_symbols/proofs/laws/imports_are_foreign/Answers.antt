use Rattle.dynamic_symbols.proofs.Foreign.{imports_foreign}
use Rattle.dynamic_symbols.proofs.laws.imports_are_foreign.Goals as goal

pub returns : goal.returns
returns c = imports_foreign
