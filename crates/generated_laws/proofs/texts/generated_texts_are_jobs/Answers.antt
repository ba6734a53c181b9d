use Rattle.generated_laws.proofs.TextJob.{texts_are_jobs}
use Rattle.generated_laws.proofs.texts.generated_texts_are_jobs.Goals as goal

pub returns : goal.returns
returns c = texts_are_jobs
