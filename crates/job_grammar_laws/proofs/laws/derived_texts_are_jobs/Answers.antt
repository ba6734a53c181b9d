use Rattle.job_grammar_laws.proofs.Jobs.{derived_are_jobs}
use Rattle.job_grammar_laws.proofs.laws.derived_texts_are_jobs.Goals as goal

pub returns : goal.returns
returns c = derived_are_jobs
