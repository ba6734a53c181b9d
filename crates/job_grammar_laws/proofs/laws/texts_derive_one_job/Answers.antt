use Rattle.job_grammar_laws.proofs.Jobs.{one_derived}
use Rattle.job_grammar_laws.proofs.laws.texts_derive_one_job.Goals as goal

pub returns : goal.returns
returns c = one_derived
