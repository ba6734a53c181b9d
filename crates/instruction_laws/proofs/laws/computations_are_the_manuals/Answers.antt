use Rattle.instruction_laws.proofs.Computing.{computes}
use Rattle.instruction_laws.proofs.laws.computations_are_the_manuals.Goals as goal

pub returns : goal.returns
returns c = computes
