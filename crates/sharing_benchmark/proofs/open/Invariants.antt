-- The pass stays one of the same threads.
use Rattle.shared_tests.specs.Races.{IsReady}
use Rattle.sharing_benchmark.proofs.open.Given as goal

abbrev pub invariant-loop : goal.invariant-loop
invariant-loop g l = IsReady l.first l.count l.shared l.pass
