use Rattle.dynamic_symbols.proofs.Named.{symbols_named}
use Rattle.dynamic_symbols.proofs.laws.symbols_have_the_names.Goals as goal

pub returns : goal.returns
returns c = symbols_named
