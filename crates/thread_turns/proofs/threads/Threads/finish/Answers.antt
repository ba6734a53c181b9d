use Rattle.std.proofs.Common.{◌*◌, ◌-◌, length, replicate, subst, take, arith}
use Rattle.thread_blocks.specs.Turns.{enough, finishing}
use Rattle.thread_turns.specs.Orders.{TakesTurns, progress}
use Rattle.thread_turns.proofs.Orders.{still_fit, takes_thread}
use Rattle.thread_turns.proofs.threads.Threads.finish.Goals as goal

pub finish_thread-requires-clause-fit : goal.finish_thread-requires-clause-fit
finish_thread-requires-clause-fit g c =
    still_fit g.T.TurnTaker.is_done g.T.TurnTaker.turned g.T.TurnTaker.can_turn g.T.TurnTaker.fit c.requires.laws
    (progress c.args.self.now) (progress c.loop-thread.self)
    (finishing (4 * c.args.job.now.fuel) 1 (take (c.loop-thread.thread - 1) c.args.job.now.lines))
    c.requires.fit c.loop-thread.invariant

pub loop-thread-preserved : goal.loop-thread-preserved
loop-thread-preserved g c =
    let all = c.args.job.now.lines in
    let next = subst (λ fuel. TakesTurns g.T.TurnTaker.is_done g.T.TurnTaker.turned (progress c.loop-thread.self)
    (replicate (enough (4 * fuel) (length c.lines.result.now)) c.loop-thread.thread)
    (progress c.finish_thread.new.self))
    c.fuel.ensures.value c.in_ok-finish_thread.ensures in
    takes_thread g.T.TurnTaker.is_done g.T.TurnTaker.turned (progress c.args.self.now) (progress c.loop-thread.self)
    (progress c.finish_thread.new.self) (4 * c.args.job.now.fuel) c.loop-thread.thread all c.lines.result.now
    c.loop-thread.auto.thread (omega (arith, c.threads-thread-end.ensures.value)) c.lines.ensures.value
    c.loop-thread.invariant next
