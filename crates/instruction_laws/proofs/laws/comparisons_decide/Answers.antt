use Rattle.instruction_laws.proofs.Comparing.{comparisons}
use Rattle.instruction_laws.proofs.laws.comparisons_decide.Goals as goal

pub returns : goal.returns
returns c = comparisons
