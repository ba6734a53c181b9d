use Rattle.std.proofs.Common.{◌≤◌, ◌+◌, ◌*◌, [], length}
use Rattle.job_changes.specs.Lines.{AreFrom}
use Rattle.job_changes.proofs.job_lines.JobLines.repeat_lines.Given as goal

-- up to three old lines a turn
abbrev pub invariant-loop : goal.invariant-loop
invariant-loop l = AreFrom l.initial.self [] l.self × (length l.initial.self ≤ length l.self)
    × (length l.self ≤ length l.initial.self + 3 * l.counter)
