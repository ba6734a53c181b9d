-- The threads so far made none: what is left decides.
use Rattle.std.proofs.Common.{◌≡◌, drop}
use Rattle.job_check.specs.Progress.{first_unclean}
use Rattle.job_check.proofs.turns.verdict.Given as goal

abbrev pub invariant-loop-thread : goal.invariant-loop-thread
invariant-loop-thread l = first_unclean l.threads ≡ first_unclean (drop l.thread-index l.threads)
