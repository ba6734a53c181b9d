use Rattle.job_grammar_laws.proofs.Jobs.{jobs_derived}
use Rattle.job_grammar_laws.proofs.laws.jobs_are_derived.Goals as goal

pub returns : goal.returns
returns c = jobs_derived
