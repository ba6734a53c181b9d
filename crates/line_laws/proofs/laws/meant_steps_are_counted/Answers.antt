use Rattle.line_laws.proofs.Spent.{meaning_counted}
use Rattle.line_laws.proofs.laws.meant_steps_are_counted.Goals as goal

pub returns : goal.returns
returns c = meaning_counted
