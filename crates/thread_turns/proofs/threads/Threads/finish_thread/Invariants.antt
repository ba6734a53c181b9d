use Rattle.std.proofs.Common.{◌*◌, replicate}
use Rattle.thread_blocks.specs.Turns.{enough}
use Rattle.thread_turns.specs.Orders.{TakesTurns, progress}
use Rattle.thread_turns.proofs.threads.Threads.finish_thread.Given as goal

-- the turns for the lines so far
abbrev pub invariant-loop : goal.invariant-loop
invariant-loop g l = TakesTurns g.T.TurnTaker.is_done g.T.TurnTaker.turned (progress l.fn.self)
    (replicate (enough (4 * l.fuel) l.counter) l.thread) (progress l.self)
