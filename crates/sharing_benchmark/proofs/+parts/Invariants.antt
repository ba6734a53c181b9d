-- Each half has fewer threads.
use Rattle.sharing_benchmark.proofs.+parts.Given as goal

abbrev pub decreases-parts : goal.decreases-parts
decreases-parts g l = l.count

abbrev pub decreases-join+arg2 : goal.decreases-join+arg2
decreases-join+arg2 g l = l.half

abbrev pub decreases-join+arg3 : goal.decreases-join+arg3
decreases-join+arg3 g l = l.others
