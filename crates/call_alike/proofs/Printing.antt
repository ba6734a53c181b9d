-- Calls are alike wherever loads are tied, so what is printed hangs on nothing else.
use Rattle.begin_alike.proofs.Worlds.{jobs_print, threads_print}
use Rattle.call_alike.specs.Prints.{TiedJobsPrint, TiedThreadsPrint}
use Rattle.call_alike.proofs.Simulated.{calls_alike}

pub tied_jobs : TiedJobsPrint
tied_jobs g m q history tied = jobs_print g m q history tied (calls_alike g m q history tied)

pub tied_threads : TiedThreadsPrint
tied_threads g m q history tied = threads_print g m q history tied (calls_alike g m q history tied)
