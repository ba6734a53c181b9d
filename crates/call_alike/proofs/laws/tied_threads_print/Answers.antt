use Rattle.call_alike.proofs.Printing.{tied_threads}
use Rattle.call_alike.proofs.laws.tied_threads_print.Goals as goal

pub returns : goal.returns
returns c = tied_threads
