use Rattle.std.proofs.Common.{◌-◌}
use Rattle.job_turns.specs.Running.{RunsUpTo}
use Rattle.job_turns.proofs.running.run_on.Given as goal

abbrev pub invariant-loop-ran : goal.invariant-loop-ran
invariant-loop-ran l = RunsUpTo l.limit l.initial.machine l.initial.space l.machine l.space

-- each answer takes a step
abbrev pub decreases-loop-ran : goal.decreases-loop-ran
decreases-loop-ran l = l.limit - l.machine.taken
