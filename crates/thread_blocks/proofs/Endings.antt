-- Each thread of a job comes to its end.
use Rattle.std.proofs.Common.{◌≡◌, ◌+◌, ◌*◌, ◌≤◌, ℕ, zero, suc, List, [], ◌∷◌, length, Some, refl, ap, arith}
use Rattle.std.specs.Prelude.{slice_get}
use Rattle.job_text.specs.declared.thread_lines.ThreadLine.{ThreadLine}
use Rattle.thread_blocks.specs.Instances.{Loads}
use Rattle.thread_blocks.specs.JobStatements.{ThreadsEnd}
use Rattle.thread_blocks.specs.JobWorlds.{job_start, job_world, numbered_lines, ready_from, thread_ready}
use Rattle.thread_blocks.specs.Lines.{event_by}
use Rattle.thread_blocks.specs.RunTime.{thread_turns}
use Rattle.thread_blocks.specs.Turns.{enough, ready}
use Rattle.thread_blocks.proofs.Orders.{HasLeft, order_ends}
use Rattle.guest_arithmetic.specs.Plain.{plain_operations}

-- which thread stands where at first
pub thread_at : (l : Loads ℕ) (first : ℕ) (lines : List (List ThreadLine)) (i number : ℕ) (own : List ThreadLine)
    → number ≡ first + i → slice_get lines i ≡ Some own
    → slice_get (ready_from plain_operations l first lines) i
    ≡ Some (ready (thread_ready plain_operations l number) (numbered_lines 1 own))
thread_at l first [] i number own e at = cc
thread_at l first (lines ∷ more) zero number own e at =
    let same : number ≡ first = omega arith in
    let here : lines ≡ own = cc in rw (same, here) refl
thread_at l first (lines ∷ more) (suc i) number own e at = thread_at l (suc first) more i number own (omega arith) at

as_many : (number : ℕ) (own : List ThreadLine) → length (numbered_lines number own) ≡ length own
as_many number [] = refl
as_many number (line ∷ own) = ap suc (as_many (suc number) own)

module _ (l : Loads ℕ) (fuel : ℕ) where
  within : (i : ℕ) → (thread_turns l i fuel).fuel ≤ 4 * fuel
  unfolding thread_turns
  within i = omega arith

  first_left : (lines : List (List ThreadLine)) (i : ℕ) (own : List ThreadLine) → slice_get lines i ≡ Some own
      → HasLeft (λ thread. thread_turns l thread fuel) (λ thread. event_by l thread) (4 * fuel) within
      (job_start plain_operations l lines) i
      (enough (4 * fuel) (length own))
  first_left lines i own at = (
    ready (thread_ready plain_operations l (suc i)) (numbered_lines 1 own),
    (thread_at l 1 lines i (suc i) own (omega arith) at, rw (as_many 1 own) (omega arith)),
  )

-- the law
pub threads_ended : ThreadsEnd
unfolding job_world
threads_ended l fuel lines order zero own at = cc
threads_ended l fuel lines order (suc i) own at =
    order_ends (λ thread. thread_turns l thread fuel) (λ thread. event_by l thread) (4 * fuel)
    (within l fuel) lines order
    (job_start plain_operations l lines) i own at (first_left l fuel lines i own at)
