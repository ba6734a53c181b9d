use Rattle.instruction_laws.proofs.Shifting.{shifts}
use Rattle.instruction_laws.proofs.laws.shifts_are_the_manuals.Goals as goal

pub returns : goal.returns
returns c = shifts
