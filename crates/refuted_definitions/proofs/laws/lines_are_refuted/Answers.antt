use Rattle.refuted_definitions.proofs.LineCases.{lines_refuted}
use Rattle.refuted_definitions.proofs.laws.lines_are_refuted.Goals as goal

pub returns : goal.returns
returns c = lines_refuted
