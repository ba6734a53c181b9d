use Rattle.std.proofs.Common.{replicate}
use Rattle.thread_turns.specs.Orders.{TakesTurns, progress}
use Rattle.thread_turns.proofs.threads.Threads.take_turns.Given as goal

-- the turns so far
abbrev pub invariant-loop : goal.invariant-loop
invariant-loop g l =
    TakesTurns g.T.TurnTaker.is_done g.T.TurnTaker.turned (progress l.fn.self) (replicate l.counter l.thread)
    (progress l.self)
