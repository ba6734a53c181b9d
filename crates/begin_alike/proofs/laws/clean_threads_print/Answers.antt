use Rattle.begin_alike.proofs.Worlds.{threads_print}
use Rattle.begin_alike.proofs.laws.clean_threads_print.Goals as goal

pub returns : goal.returns
returns c = threads_print
