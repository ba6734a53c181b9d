use Rattle.std.proofs.Common.{◌≡◌, None}
use Rattle.job_check.proofs.RunsMade.{Reaches}
use Rattle.job_check.proofs.running.run.Given as goal

-- what is left to run from here is what was to run at first
abbrev pub invariant-loop-state : goal.invariant-loop-state
invariant-loop-state l = record {
  reaches : Reaches l.count l.fn.state l.fn.space l.left l.state l.space;
  none : l.space.lent ≡ None;
}

abbrev pub decreases-loop-state : goal.decreases-loop-state
decreases-loop-state l = l.left
