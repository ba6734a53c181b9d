use Rattle.call_alike.proofs.Printing.{tied_jobs}
use Rattle.call_alike.proofs.laws.tied_jobs_print.Goals as goal

pub returns : goal.returns
returns c = tied_jobs
