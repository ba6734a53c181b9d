use Rattle.closed_jobs.proofs.LocalTied.{job_tied}
use Rattle.closed_jobs.proofs.laws.local_job_is_tied.Goals as goal

pub returns : goal.returns
returns c = job_tied
