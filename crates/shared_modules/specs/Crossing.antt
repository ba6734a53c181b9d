-- Threads may share a pass. A `&` to a seat holds a part of the seat, which may itself go to another
-- thread, so the `&` may too.
use denote.RattleType.{RattleType}
use denote.Param.Send.{IsSend, IsSync, part_keyless, sendable}
use Rattle.atomic_table.specs.contracts.shared.Seat as seat
use Rattle.atomic_table.proofs.shared.Seat.TheSendSync as seats
use Rattle.module_table.proofs.registry.Registry.TheSendSync as registries
use Rattle.shared_modules.specs.contracts.shared.Pass as pass

pub seat_sync : (S V : RattleType) → IsSend S → IsSync (seat.the_row S V)
seat_sync S V s = record { shared = λ d b o κ q. part_keyless (seat.the_row S V) (seats.the_send S V s) q d b o }

pub pass_sync : IsSync pass.the_row
pass_sync = search (sendable, seat_sync, registries.the_send) depth 20
