use Rattle.tls_symbols.proofs.ExportLaw.{exports_by_name}
use Rattle.tls_symbols.proofs.laws.exports_are_by_name.Goals as goal

pub returns : goal.returns
returns c = λ objects name. exports_by_name objects name
