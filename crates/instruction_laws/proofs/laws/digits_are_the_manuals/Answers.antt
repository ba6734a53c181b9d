use Rattle.instruction_laws.proofs.Opcodes.{digits_are}
use Rattle.instruction_laws.proofs.laws.digits_are_the_manuals.Goals as goal

pub returns : goal.returns
returns c = digits_are
