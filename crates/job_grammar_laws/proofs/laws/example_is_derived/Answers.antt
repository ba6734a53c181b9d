use Rattle.job_grammar_laws.proofs.Example.{example_derived}
use Rattle.job_grammar_laws.proofs.laws.example_is_derived.Goals as goal

pub returns : goal.returns
returns c = example_derived
