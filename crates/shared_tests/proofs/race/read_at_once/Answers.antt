-- Threads may share a pass.
use denote.Param.Send.{sendable}
use Rattle.shared_modules.specs.Crossing.{pass_sync}
use Rattle.shared_tests.proofs.race.read_at_once.Goals as goal

pub join-requires-send-F : goal.join-requires-send-F
join-requires-send-F g c κs within = search (sendable, pass_sync) depth 20
