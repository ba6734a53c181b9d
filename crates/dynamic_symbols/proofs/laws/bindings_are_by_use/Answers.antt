use Rattle.dynamic_symbols.proofs.Foreign.{bindings_by_use}
use Rattle.dynamic_symbols.proofs.laws.bindings_are_by_use.Goals as goal

pub returns : goal.returns
returns c = bindings_by_use
