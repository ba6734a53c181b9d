use Rattle.job_grammar_laws.proofs.Spellable.{texts_spelled}
use Rattle.job_grammar_laws.proofs.laws.texts_are_spelled.Goals as goal

pub returns : goal.returns
returns c = texts_spelled
