use Rattle.dynamic_symbols.proofs.Foreign.{imports_distinct}
use Rattle.dynamic_symbols.proofs.laws.imports_are_distinct.Goals as goal

pub returns : goal.returns
returns c = imports_distinct
