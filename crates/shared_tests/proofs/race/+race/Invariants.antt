-- Each half has fewer threads.
use Rattle.shared_tests.proofs.race.+race.Given as goal

abbrev pub decreases-race : goal.decreases-race
decreases-race g l = l.count

abbrev pub decreases-join+arg2 : goal.decreases-join+arg2
decreases-join+arg2 g l = l.half

abbrev pub decreases-join+arg3 : goal.decreases-join+arg3
decreases-join+arg3 g l = l.others
