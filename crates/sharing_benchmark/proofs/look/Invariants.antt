-- The pass stays one of the same threads.
use Rattle.shared_tests.specs.Races.{IsReady}
use Rattle.sharing_benchmark.proofs.look.Given as goal

abbrev pub invariant-loop : goal.invariant-loop
invariant-loop l = IsReady l.first l.count l.shared l.pass
