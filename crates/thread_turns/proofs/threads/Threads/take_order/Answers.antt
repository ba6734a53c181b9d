use Rattle.std.proofs.Common.{take, arith}
use Rattle.thread_turns.specs.Orders.{progress}
use Rattle.thread_turns.proofs.Orders.{still_fit, takes_next}
use Rattle.thread_turns.proofs.threads.Threads.take_order.Goals as goal

pub turn-requires-clause-fit : goal.turn-requires-clause-fit
turn-requires-clause-fit g c =
    still_fit g.T.TurnTaker.is_done g.T.TurnTaker.turned g.T.TurnTaker.can_turn g.T.TurnTaker.fit c.requires.laws
    (progress c.args.self.now) (progress c.loop-thread.self) (take c.loop-thread.thread-index c.args.order.now)
    c.requires.fit c.loop-thread.invariant

pub loop-thread-preserved : goal.loop-thread-preserved
loop-thread-preserved g c =
    takes_next g.T.TurnTaker.is_done g.T.TurnTaker.turned (progress c.args.self.now) (progress c.loop-thread.self)
    (progress c.turn.new.self) c.args.order.now c.loop-thread.thread-index 0 (omega arith) c.loop-thread.invariant
    c.in_ok-turn.ensures
