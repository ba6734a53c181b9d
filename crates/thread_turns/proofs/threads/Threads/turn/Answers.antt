use Rattle.std.proofs.Common.{◌∙◌, sym}
use Rattle.thread_turns.specs.Orders.{progress}
use Rattle.thread_turns.proofs.Orders.{takes_over}
use Rattle.thread_turns.proofs.threads.Threads.turn.Goals as goal

pub returns-then-is_over : goal.returns-then-is_over
returns-then-is_over g c =
    takes_over g.T.TurnTaker.is_done g.T.TurnTaker.turned (progress c.args.self.now) c.args.thread
    (sym c.is_over.ensures ∙ c.if-is_over.true)
