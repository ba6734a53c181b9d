use Rattle.instruction_laws.proofs.Going.{steps}
use Rattle.instruction_laws.proofs.laws.steps_are_the_manuals.Goals as goal

pub returns : goal.returns
returns c = steps
