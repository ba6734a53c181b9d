use Rattle.std.proofs.Common.{take}
use Rattle.thread_turns.specs.Orders.{TakesTurns, progress}
use Rattle.thread_turns.proofs.threads.Threads.take_order.Given as goal

-- the turns so far
abbrev pub invariant-loop-thread : goal.invariant-loop-thread
invariant-loop-thread g l =
    TakesTurns g.T.TurnTaker.is_done g.T.TurnTaker.turned (progress l.fn.self) (take l.thread-index l.order)
    (progress l.self)
