-- Passes and seats are shared, as specs/Crossing shows.
use denote.Param.Send.{sendable}
use Rattle.module_table.proofs.registry.Registry.TheSendSync.{the_send}
use Rattle.shared_modules.specs.Crossing.{seat_sync, pass_sync}
use Rattle.shared_modules.proofs.laws.passes_cross_threads.Goals as goal

pub crosses_threads-requires-2-sync-T : goal.crosses_threads-requires-2-sync-T
crosses_threads-requires-2-sync-T c = search (sendable, pass_sync)

pub crosses_threads-requires-3-sync-T : goal.crosses_threads-requires-3-sync-T
crosses_threads-requires-3-sync-T c = search (sendable, seat_sync, the_send) depth 20
