use Rattle.linked_jobs.proofs.Runs.{jobs_stand}
use Rattle.linked_jobs.proofs.laws.linked_jobs_stand_alike.Goals as goal

pub returns : goal.returns
returns c = jobs_stand
