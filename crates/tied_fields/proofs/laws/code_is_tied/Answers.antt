use Rattle.tied_fields.proofs.CodeBytes.{code_tied}
use Rattle.tied_fields.proofs.laws.code_is_tied.Goals as goal

pub returns : goal.returns
returns c = code_tied
