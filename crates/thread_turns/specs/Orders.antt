-- Turns of threads that share a state, in an order.
use Rattle.std.specs.Prelude.{◌≡◌, ℕ, Bool, true, false, List, [], ◌∷◌, slice_get, slice_set, Option, Some, None}
use Rattle.thread_blocks.specs.Turns.{at_number, with_number}
use Rattle.thread_turns.specs.declared.threads.Threads.{Threads}

-- what all threads share, and each thread, thread 1 first
pub record Progress (S R : Type 0) : Type 0 where
  pub shared : S
  pub runs : List R

abbrev pub progress : {S R : Type 0} → Threads S R → Progress S R
progress x = record { shared = x.shared; runs = x.threads.items }

-- ---- which threads are over

module _ {R : Type 0} (is_done : R → Bool) where
  -- the thread has nothing left to do, or there is no such thread
  abbrev pub is_over : Option R → Bool
  is_over None = true
  is_over (Some r) = is_done r

  abbrev pub is_thread_over : List R → ℕ → Bool
  is_thread_over runs thread = is_over (at_number runs thread)

-- ---- turns

module _ {S R : Type 0} (is_done : R → Bool) (turned : S → R → S → R → Type 0) where
  -- a thread took a turn
  pub record HasTurned (thread : ℕ) (r : R) (old new : Progress S R) : Type 0 where
    pub after : R
    pub turns : turned old.shared r new.shared after
    pub runs_are : new.runs ≡ with_number old.runs thread after

  -- a thread that is over leaves all as it is
  abbrev pub TakesOwn : ℕ → R → Bool → Progress S R → Progress S R → Type 0
  TakesOwn thread r true old new = new ≡ old
  TakesOwn thread r false old new = HasTurned thread r old new

  abbrev pub TakesOne : ℕ → Option R → Progress S R → Progress S R → Type 0
  TakesOne thread None old new = new ≡ old
  TakesOne thread (Some r) old new = TakesOwn thread r (is_done r) old new

  -- turns of threads in an order
  abbrev pub TakesTurns : Progress S R → List ℕ → Progress S R → Type 0
  TakesTurns old [] new = new ≡ old
  TakesTurns old (thread ∷ order) new =
      (next : Progress S R) × TakesOne thread (at_number old.runs thread) old next × TakesTurns next order new

-- ---- threads that share a state

-- each can take its turn, and after it they still share the state that it leaves
pub record StayFit {S R : Type 0} (can_turn : S → R → Type 0) (turned : S → R → S → R → Type 0)
    (fit : S → List R → Type 0) : Type 0 where
  pub can : (s : S) (runs : List R) (k : ℕ) (r : R) → fit s runs → slice_get runs k ≡ Some r → can_turn s r
  pub stays : (s : S) (runs : List R) (k : ℕ) (r : R) (s' : S) (r' : R) → fit s runs → slice_get runs k ≡ Some r
      → turned s r s' r' → fit s' (slice_set runs k r')
