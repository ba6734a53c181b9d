use Rattle.sequence_match.proofs.SitesSymbols.{sites_symbols}
use Rattle.dynamic_symbols.proofs.laws.sites_have_symbols.Goals as goal

pub returns : goal.returns
returns c = sites_symbols
