use Rattle.instruction_laws.proofs.Multiplying.{multiplies}
use Rattle.instruction_laws.proofs.laws.products_are_the_manuals.Goals as goal

pub returns : goal.returns
returns c = multiplies
