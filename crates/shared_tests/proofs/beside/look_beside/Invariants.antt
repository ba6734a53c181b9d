-- The pass stays one of the same threads.
use Rattle.shared_tests.specs.Races.{IsReady}
use Rattle.shared_tests.proofs.beside.look_beside.Given as goal

abbrev pub invariant-loop : goal.invariant-loop
invariant-loop l = IsReady 33 32 l.shared l.pass
