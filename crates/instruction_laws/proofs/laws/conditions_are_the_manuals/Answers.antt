use Rattle.instruction_laws.proofs.Comparing.{conditions}
use Rattle.instruction_laws.proofs.laws.conditions_are_the_manuals.Goals as goal

pub returns : goal.returns
returns c = conditions
