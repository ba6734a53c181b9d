use Rattle.linked_jobs.proofs.Printing.{linked_jobs}
use Rattle.linked_jobs.proofs.laws.linked_jobs_print.Goals as goal

pub returns : goal.returns
returns c = linked_jobs
