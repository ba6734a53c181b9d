use Rattle.instruction_laws.proofs.Only.{steps_only}
use Rattle.instruction_laws.proofs.laws.steps_are_only.Goals as goal

pub returns : goal.returns
returns c = steps_only
