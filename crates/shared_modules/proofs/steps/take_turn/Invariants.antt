-- The seat waits with its ticket.
use Rattle.std.proofs.Common.{◌≡◌}
use Rattle.shared_modules.specs.Plays.{Awaits}
use Rattle.shared_modules.proofs.steps.take_turn.Given as goal

abbrev pub invariant-loop : goal.invariant-loop
invariant-loop g l = record
    { waits : Awaits l.ticket l.fn.seat.me.0 l.seat.me; table : l.seat.table_id ≡ l.fn.seat.table_id }
