-- The pass at the start speaks for all threads.
use Rattle.shared_tests.proofs.Halves.{all_ready}
use Rattle.shared_tests.proofs.start.started.Goals as goal

pub returns : goal.returns
returns c = all_ready _ _ _ c.in_ok-shared.ensures.pass
