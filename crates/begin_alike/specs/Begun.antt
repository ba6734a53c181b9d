-- When a look has the same result on both sides; and the condition on the calls of a job.
use Rattle.std.specs.Prelude.{◌≤◌, ℕ, List}
use Rattle.guest_machine.specs.Simulate.{IsSimulated}
use Rattle.module_table.specs.declared.events.Event.{Event}
use Rattle.thread_blocks.specs.Instances.{Loads}
use Rattle.thread_blocks.specs.RunTime.{Runs, resume_line, thread_steps}
use Rattle.thread_blocks.specs.Turns.{Begun}
use Rattle.thread_blocks.specs.TurnsAlike.{SameBegun}
use Rattle.thread_blocks.specs.Turns.{IsFront}
use Rattle.whole_meaning.specs.Meanings.{Meaning}
use Rattle.whole_meaning.specs.Threads.{Meant, meant_steps, resume_meant}
use Rattle.tied_meaning.specs.Numbers.{Setting}
use Rattle.tied_meaning.specs.Threads.{AtRest, InCall, Waiting}

module _ (g : Setting) (m : Meaning) (q : Loads ℕ) (history : List Event) where
  -- both end the line in the same way and are at rest, or both are in a call; or the meaning's line is unclean
  abbrev pub BegunAlike : ℕ → List Event → Begun Meant → Begun Runs → Type 0
  BegunAlike thread seen =
      SameBegun (λ (e : List Event). InCall g m q history thread) (λ (e : List Event). AtRest g m q history thread) seen

  -- for threads that a job can have: one step of a call in the meaning is one to four in the machine, and a look in
  -- the middle of a call has the same result
  pub record CallsAreAlike : Type 0 where
    pub steps : (thread : ℕ) → 1 ≤ thread → thread ≤ 64
        → IsSimulated (meant_steps m thread) (thread_steps q thread) (InCall g m q history thread)
        (Waiting g m q history thread) (AtRest g m q history thread)
    pub resume : (thread : ℕ) → 1 ≤ thread → thread ≤ 64 → (seen : List Event) → IsFront seen history
        → (h : Meant) (h' : Runs) → Waiting g m q history thread h h'
        → BegunAlike thread seen (resume_meant m thread seen h) (resume_line q thread seen h')
