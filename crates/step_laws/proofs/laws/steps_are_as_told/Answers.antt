use Rattle.step_laws.proofs.MeantSteps.{as_told}
use Rattle.step_laws.proofs.laws.steps_are_as_told.Goals as goal

pub returns : goal.returns
returns c = as_told
