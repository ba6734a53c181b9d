use Rattle.instruction_laws.proofs.Words.{are_signed}
use Rattle.instruction_laws.proofs.laws.words_are_signed.Goals as goal

pub returns : goal.returns
returns c = are_signed
