-- The result of a thread that took its turns while others took theirs.
use Rattle.std.specs.Prelude.{◌≡◌, ◌+◌, ℕ, List, All}
use Rattle.job_text.specs.Jobs.{JobParts}
use Rattle.job_text.specs.Threads.{IsThread, of_thread}
use Rattle.loaded_modules.specs.Images.{JobImages}
use Rattle.module_table.specs.declared.events.Event.{Event}
use Rattle.shared_modules.specs.Passes.{PassView}
use Rattle.transcript_text.specs.declared.outcomes.Line.{Line as ShownLine}
use Rattle.lawful_points.specs.Raced.{IsRacer}
use Rattle.thread_blocks.specs.JobLoads.{job_loads}
use Rattle.thread_blocks.specs.JobWorlds.{numbered_lines}
use Rattle.thread_blocks.specs.Lines.{Line}
use Rattle.racing_thread.specs.Tallies.{tally_of}

-- the lines of a thread, with their numbers
abbrev pub lines_in : JobParts → ℕ → List Line
lines_in job thread = numbered_lines 1 (of_thread job.lines thread)

-- an event of one of the threads that a program can have
abbrev pub IsOfProgram : Event → Type 0
IsOfProgram event = IsThread 64 event.thread

-- a thread of a job over these images raced, from one pass to another, and these are its lines
pub record HasRaced (m : JobImages) (job : JobParts) (thread : ℕ) (old new : PassView) (said : List ShownLine)
    (events : List Event) : Type 0 where
  pub racer : IsRacer (job_loads m) job.fuel thread (of_thread job.lines thread) new.seen said
  pub events_are : events ≡ new.seen
  -- all events that it has seen are of threads that a program can have
  pub named : All IsOfProgram new.seen
  -- it loaded the length and took the lock as often as its lines tell
  pub loads_are : new.loads ≡ old.loads + (tally_of thread (lines_in job thread) said).loads
  pub turns_are : new.turns ≡ old.turns + (tally_of thread (lines_in job thread) said).turns
