use Rattle.job_grammar_laws.proofs.Spelled.{images_spelled}
use Rattle.job_grammar_laws.proofs.laws.images_are_spelled.Goals as goal

pub returns : goal.returns
returns c = images_spelled
