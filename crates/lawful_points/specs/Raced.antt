-- A transcript of threads that share no data, each of which took its turns at lawful points, in whatever way.
use Rattle.std.specs.Prelude.{◌≡◌, ℕ, List, length, map, Some, All}
use Rattle.job_text.specs.declared.thread_lines.ThreadLine.{ThreadLine}
use Rattle.job_text.specs.Threads.{IsThread}
use Rattle.module_table.specs.declared.events.Event.{Event}
use Rattle.transcript_text.specs.declared.outcomes.Line.{Line as ShownLine}
use Rattle.transcript_text.specs.Texts.{Shown}
use Rattle.lawful_points.specs.Orders.{looks_of}
use Rattle.lawful_points.specs.Points.{AreLawful, Look}
use Rattle.lawful_points.specs.Told.{points_of, told_by}
use Rattle.thread_blocks.specs.Instances.{Loads}
use Rattle.thread_blocks.specs.JobWorlds.{numbered_lines, thread_ready}
use Rattle.thread_blocks.specs.Lines.{Line, event_by}
use Rattle.thread_blocks.specs.MachineTurns.{shown}
use Rattle.thread_blocks.specs.RunTime.{Runs, thread_turns}
use Rattle.thread_blocks.specs.Turns.{IsFinished, Thread, at_number, ready, turns}
use Rattle.guest_arithmetic.specs.Plain.{plain_operations}

-- a thread of a job before its first turn
abbrev pub first_of : Loads ℕ → ℕ → List ThreadLine → Thread Runs Line Event
first_of l thread own = ready (thread_ready plain_operations l thread) (numbered_lines 1 own)

module _ (l : Loads ℕ) (fuel thread : ℕ) (own : List ThreadLine) where
  -- the thread after turns that see these lists of events
  abbrev pub raced_of : List (List Event) → Thread Runs Line Event
  raced_of points = turns (thread_turns l thread fuel) (first_of l thread own) points

  abbrev pub raced_looks : List (List Event) → List Look
  raced_looks points = looks_of (thread_turns l thread fuel) (event_by l thread) (first_of l thread own) points

  -- a thread that took its turns alone, at lawful points of a history, and printed these lines
  pub record IsRacer (history : List Event) (said : List ShownLine) : Type 0 where
    -- what its turns saw
    pub points : List (List Event)
    pub lawful : AreLawful thread history (raced_looks points)
    -- it has finished
    pub over : IsFinished (raced_of points).todo (raced_of points).phase
    pub lines : map Some said ≡ map shown (raced_of points).said
    -- its lines tell exactly these looks
    pub told : told_by thread (numbered_lines 1 own) said ≡ points_of (raced_looks points)

-- each thread of a transcript raced, and nobody else made an event
pub record IsRaced (l : Loads ℕ) (fuel : ℕ) (lines : List (List ThreadLine)) (shown : Shown) : Type 0 where
  pub count : length shown.threads ≡ length lines
  pub each : (thread : ℕ) (own : List ThreadLine) (said : List ShownLine) → at_number lines thread ≡ Some own
      → at_number shown.threads thread ≡ Some said → IsRacer l fuel thread own shown.events said
  -- each event names a thread of the job
  pub named : All (λ (event : Event). IsThread (length lines) event.thread) shown.events
