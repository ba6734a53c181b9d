use Rattle.dynamic_symbols.proofs.Named.{symbols_shared}
use Rattle.dynamic_symbols.proofs.laws.symbols_are_shared.Goals as goal

pub returns : goal.returns
returns c = symbols_shared
