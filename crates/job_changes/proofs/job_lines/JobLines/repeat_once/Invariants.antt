use Rattle.std.proofs.Common.{◌≤◌, ◌+◌, [], length}
use Rattle.job_changes.specs.Lines.{AreFrom}
use Rattle.job_changes.proofs.job_lines.JobLines.repeat_once.Given as goal

-- an old line a turn
abbrev pub invariant-loop-step : goal.invariant-loop-step
invariant-loop-step l = AreFrom l.initial.self [] l.self × (length l.initial.self ≤ length l.self)
    × (length l.self ≤ length l.initial.self + l.step)
