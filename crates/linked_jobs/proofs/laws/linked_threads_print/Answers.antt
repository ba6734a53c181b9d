use Rattle.linked_jobs.proofs.Printing.{linked_threads}
use Rattle.linked_jobs.proofs.laws.linked_threads_print.Goals as goal

pub returns : goal.returns
returns c = linked_threads
