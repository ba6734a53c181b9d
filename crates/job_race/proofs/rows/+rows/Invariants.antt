-- Each half has fewer threads.
use Rattle.job_race.proofs.rows.+rows.Given as goal

abbrev pub decreases-race_threads : goal.decreases-race_threads
decreases-race_threads g l = l.span.count

abbrev pub decreases-join+arg2 : goal.decreases-join+arg2
decreases-join+arg2 g l = l.front.count

abbrev pub decreases-join+arg3 : goal.decreases-join+arg3
decreases-join+arg3 g l = l.rest.count
