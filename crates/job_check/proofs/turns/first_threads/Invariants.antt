use Rattle.std.proofs.Common.{◌≡◌, ◌+◌, ℕ, length, Some}
use Rattle.std.specs.Prelude.{slice_get}
use Rattle.job_check.specs.Standing.{IsFirstRun, Run}
use Rattle.job_check.proofs.turns.first_threads.Given as goal

-- the threads so far
abbrev pub invariant-loop-thread : goal.invariant-loop-thread
invariant-loop-thread l =
    (length l.threads.items + 1 ≡ l.thread)
    × ((k : ℕ) (r : Run) → slice_get l.threads.items k ≡ Some r → IsFirstRun (k + 1) l.images l.job r)
