-- A run of a thread is a run of its bare machine up to where it asks for a block, and from there on what the answer says.
use Rattle.std.proofs.Common.{◌≡◌, ℕ, zero, suc, Bool, Option, Some, None, refl, ◌∙◌, subst}
use Rattle.guest_arithmetic.specs.Plain.{plain_operations}
use Rattle.guest_operands.specs.declared.stop.Stop.{Stop}
use Rattle.guest_machine.specs.Run.{Next, Goes, Ends, Looks, Outcome, Ended, Waits, Stepping, over_or, go_on, run}
use Rattle.guest_machine.specs.Use.{After}
use Rattle.module_table.specs.declared.events.Event.{Event}
use Rattle.thread_blocks.specs.Instances.{Loads}
use Rattle.thread_blocks.specs.RunTime.{Runs as Thread, thread_accesses, asked_at, asked_next, thread_steps}
use Rattle.thread_blocks.specs.Spaces.{Space, no_field}
use Rattle.thread_blocks.proofs.Calls.{machine_stays}
use Rattle.job_turns.specs.Running.{bare, goes_on}

-- ** any machine that waits for another

abbrev pub At : Type 0
At = After ℕ Bool (Space Event ℕ)

abbrev with-after : Thread → At → Thread
with-after h at = record h { after = at }

module _ (x : Stepping At) (asks : Thread → At → Next Thread) where
  abbrev next : Thread → Next At → Next Thread
  next h (Goes at) = Goes (with-after h at)
  next h (Ends stop) = Ends stop
  next h (Looks at) = asks h at

  abbrev steps : Stepping Thread
  steps = record { over = λ h. x.over h.after; step = λ h. next h (x.step h.after); spent = λ h. x.spent h.after }

  abbrev on : Thread → Outcome At → Outcome Thread
  on h (Ended stop n at) = Ended stop n (with-after h at)
  on h (Waits zero at) = Waits zero (with-after h at)
  on h (Waits (suc n) at) = go_on (suc n) (with-after h at) (run steps n) (asks (with-after h at) at)

  on-again : (h : Thread) (at : At) (out : Outcome At) → on (with-after h at) out ≡ on h out
  on-again h at (Ended stop n b) = refl
  on-again h at (Waits zero b) = refl
  on-again h at (Waits (suc n) b) = refl

  over-on : (n : ℕ) (h : Thread) (over : Option Stop) (out : Outcome Thread) (out' : Outcome At) → out ≡ on h out'
      → over_or n h over out ≡ on h (over_or n h.after over out')
  over-on n h None out out' e = e
  over-on n h (Some stop) out out' e = refl

  module _ (stays : (s t : At) → x.step s ≡ Looks t → t ≡ s) where
    go_on-on : (n : ℕ) (h : Thread) (step : Next At) → x.step h.after ≡ step
        → ((t : Thread) → run steps n t ≡ on t (run x n t.after))
        → go_on (suc n) h (run steps n) (next h step) ≡ on h (go_on (suc n) h.after (run x n) step)
    go_on-on n h (Goes at) e rest = rest (with-after h at) ∙ on-again h at (run x n at)
    go_on-on n h (Ends stop) e rest = refl
    go_on-on n h (Looks at) e rest = let P : At → Type 0 =
        λ a. go_on (suc n) (with-after h a) (run steps n) (asks (with-after h a) at)
        ≡ go_on (suc n) (with-after h at) (run steps n) (asks (with-after h at) at) in
        subst P (stays h.after at e) refl

    -- the law
    runs-through : (n : ℕ) (h : Thread) → run steps n h ≡ on h (run x n h.after)
    runs-through zero h = over-on zero h (x.over h.after) (Ended (x.spent h.after) zero h) _ refl
    runs-through (suc n) h =
        over-on (suc n) h (x.over h.after) _ (go_on (suc n) h.after (run x n) (x.step h.after))
        (go_on-on n h (x.step h.after) refl (λ t. runs-through n t))

-- ** a thread

module _ (l : Loads ℕ) (thread : ℕ) where
  pub runs_on : (n : ℕ) (h : Thread)
      → run (thread_steps l thread) n h ≡ goes_on l thread h (run (bare l thread) n h.after)
  unfolding thread_steps
  runs_on n h = runs-through (bare l thread) (λ h at. asked_next l thread h (asked_at l thread at))
      (machine_stays plain_operations (thread_accesses l thread) no_field) n h
