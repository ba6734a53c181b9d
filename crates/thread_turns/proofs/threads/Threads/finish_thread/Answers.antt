use Rattle.std.proofs.Common.{◌≡◌, ◌*◌, replicate, subst, arith}
use Rattle.thread_blocks.specs.Turns.{enough}
use Rattle.thread_turns.specs.Orders.{TakesTurns, progress}
use Rattle.thread_turns.proofs.Orders.{still_fit, takes_line}
use Rattle.thread_turns.proofs.threads.Threads.finish_thread.Goals as goal

pub take_turns-requires-clause-fit : goal.take_turns-requires-clause-fit
take_turns-requires-clause-fit g c =
    still_fit g.T.TurnTaker.is_done g.T.TurnTaker.turned g.T.TurnTaker.can_turn g.T.TurnTaker.fit c.requires.laws
    (progress c.args.self.now) (progress c.loop.self)
    (replicate (enough (4 * c.args.fuel) c.loop.counter) c.args.thread) c.requires.fit c.loop.invariant

pub loop-preserved : goal.loop-preserved
loop-preserved g c =
    takes_line g.T.TurnTaker.is_done g.T.TurnTaker.turned (progress c.args.self.now) (progress c.loop.self)
    (progress c.take_turns.new.self) (4 * c.args.fuel) c.loop.counter c.args.thread c.loop.invariant
    c.in_ok-take_turns.ensures

pub returns : goal.returns
returns g c =
    let all : c.loop.counter ≡ c.args.lines = omega arith in
    subst (λ n. TakesTurns g.T.TurnTaker.is_done g.T.TurnTaker.turned (progress c.args.self.now)
    (replicate (enough (4 * c.args.fuel) n) c.args.thread) (progress c.loop.self)) all c.loop.invariant
