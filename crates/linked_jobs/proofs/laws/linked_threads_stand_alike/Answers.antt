use Rattle.linked_jobs.proofs.Runs.{linked_stand}
use Rattle.linked_jobs.proofs.laws.linked_threads_stand_alike.Goals as goal

pub returns : goal.returns
returns c = linked_stand
