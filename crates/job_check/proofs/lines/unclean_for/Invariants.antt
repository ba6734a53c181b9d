-- The bytes so far are not unclean for this cause: what is left decides.
use Rattle.std.proofs.Common.{◌≡◌, ◌+◌, drop}
use Rattle.job_check.specs.Lines.{unclean_for}
use Rattle.job_check.proofs.lines.unclean_for.Given as goal

abbrev pub invariant-loop-index : goal.invariant-loop-index
invariant-loop-index l =
    unclean_for l.address l.bytes l.cause ≡ unclean_for (l.address + l.index) (drop l.index l.bytes) l.cause
