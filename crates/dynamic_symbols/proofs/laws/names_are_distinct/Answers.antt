use Rattle.dynamic_symbols.proofs.Named.{names_distinct}
use Rattle.dynamic_symbols.proofs.laws.names_are_distinct.Goals as goal

pub returns : goal.returns
returns c = names_distinct
