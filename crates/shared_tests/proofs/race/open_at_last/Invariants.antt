-- The pass stays one of the same threads.
use Rattle.shared_tests.specs.Races.{IsReady}
use Rattle.shared_tests.proofs.race.open_at_last.Given as goal

abbrev pub invariant-loop : goal.invariant-loop
invariant-loop g l = IsReady l.thread l.count l.shared l.pass
