use Rattle.std.proofs.Common.{◌≡◌}
use Rattle.job_link.proofs.preparing.inputs_of.Given as goal

abbrev pub invariant-loop-ready : goal.invariant-loop-ready
invariant-loop-ready l = l.inputs.items ≡ l.yielded
