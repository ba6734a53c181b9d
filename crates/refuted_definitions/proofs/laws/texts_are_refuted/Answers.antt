use Rattle.refuted_definitions.proofs.TextCases.{texts_refuted}
use Rattle.refuted_definitions.proofs.laws.texts_are_refuted.Goals as goal

pub returns : goal.returns
returns c = texts_refuted c.numbers_are_written.ensures
