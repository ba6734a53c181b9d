use Rattle.instruction_laws.proofs.Comparing.{change}
use Rattle.instruction_laws.proofs.laws.flags_change.Goals as goal

pub returns : goal.returns
returns c = change
