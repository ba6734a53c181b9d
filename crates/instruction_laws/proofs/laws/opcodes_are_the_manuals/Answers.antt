use Rattle.instruction_laws.proofs.Opcodes.{opcodes}
use Rattle.instruction_laws.proofs.laws.opcodes_are_the_manuals.Goals as goal

pub returns : goal.returns
returns c = opcodes
