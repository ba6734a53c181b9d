use Rattle.std.proofs.Common.{◌-◌, ◌*◌, take}
use Rattle.thread_blocks.specs.Turns.{finishing}
use Rattle.thread_turns.specs.Orders.{TakesTurns, progress}
use Rattle.thread_turns.proofs.threads.Threads.finish.Given as goal

-- the turns that bring the threads so far to their ends
abbrev pub invariant-loop-thread : goal.invariant-loop-thread
invariant-loop-thread g l = TakesTurns g.T.TurnTaker.is_done g.T.TurnTaker.turned (progress l.fn.self)
    (finishing (4 * l.job.fuel) 1 (take (l.thread - 1) l.job.lines)) (progress l.self)
