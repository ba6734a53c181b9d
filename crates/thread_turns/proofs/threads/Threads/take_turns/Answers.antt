use Rattle.std.proofs.Common.{◌∙◌, sym, replicate, arith}
use Rattle.thread_turns.specs.Orders.{progress}
use Rattle.thread_turns.proofs.Orders.{still_fit, takes_all, takes_one_more}
use Rattle.thread_turns.proofs.threads.Threads.take_turns.Goals as goal

pub returns-then-is_over : goal.returns-then-is_over
returns-then-is_over g c =
    takes_all g.T.TurnTaker.is_done g.T.TurnTaker.turned (progress c.args.self.now)
    (progress c.loop.self) c.loop.counter
    c.args.count c.args.thread (omega arith) (sym c.is_over.ensures ∙ c.if-is_over.true) c.loop.invariant

pub go-requires-clause-fit : goal.go-requires-clause-fit
go-requires-clause-fit g c =
    still_fit g.T.TurnTaker.is_done g.T.TurnTaker.turned g.T.TurnTaker.can_turn g.T.TurnTaker.fit c.requires.laws
    (progress c.args.self.now) (progress c.loop.self) (replicate c.loop.counter c.args.thread) c.requires.fit
    c.loop.invariant

pub loop-preserved : goal.loop-preserved
loop-preserved g c =
    takes_one_more g.T.TurnTaker.is_done g.T.TurnTaker.turned (progress c.args.self.now) (progress c.loop.self)
    (progress c.go.new.self) c.loop.counter c.args.thread c.loop.invariant c.in_ok-go.ensures
