use Rattle.line_laws.proofs.Spent.{machine_counted}
use Rattle.line_laws.proofs.laws.machine_steps_are_counted.Goals as goal

pub returns : goal.returns
returns c = machine_counted
