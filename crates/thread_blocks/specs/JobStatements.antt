-- What holds of every job: its history, what a thread holds, that each thread finishes, and which turns a thread
-- takes.
use Rattle.std.specs.Prelude.{◌≡◌, ℕ, Bool, true, List, [], Some, None, is_some}
use Rattle.std.specs.List.{All}
use Rattle.job_text.specs.declared.thread_lines.ThreadLine.{ThreadLine}
use Rattle.loaded_modules.specs.declared.instance.Instance.{Instance}
use Rattle.module_table.specs.declared.events.Event.{Event}
use Rattle.module_table.specs.Past.{is_legal, start}
use Rattle.thread_blocks.specs.Held.{Owned, looked_at}
use Rattle.thread_blocks.specs.Instances.{Loads, numbered_instance}
use Rattle.thread_blocks.specs.JobWorlds.{job_world, numbered_lines, thread_ready}
use Rattle.thread_blocks.specs.Lines.{Line}
use Rattle.thread_blocks.specs.RunTime.{Runs, thread_turns}
use Rattle.thread_blocks.specs.Turns.{IsFinished, Thread, at_number, ready, turns}
use Rattle.thread_blocks.specs.TurnsAlike.{Rises}
use Rattle.thread_blocks.specs.Turns.{AllFronts, IsFront}
use Rattle.guest_arithmetic.specs.Plain.{plain_operations}

-- each open and close of a job was accepted after those before it, whatever is loaded, in any order of turns
abbrev pub HistoriesAreLegal : Type 0
HistoriesAreLegal = (l : Loads ℕ) (fuel : ℕ) (lines : List (List ThreadLine)) (order : List ℕ)
    → is_legal (start l.infos l.last_offset) (job_world l fuel lines order).events ≡ true

-- the owner is an instance that is live after these events
abbrev pub is_held_live : Loads ℕ → List Event → Owned ℕ → Bool
is_held_live l seen x = is_some (numbered_instance l seen x.owner.instance)

-- after a look a thread holds nothing of a closed instance
abbrev pub HoldsLive : Type 0
HoldsLive = (l : Loads ℕ) (thread : ℕ) (seen : List Event) (xs : List (Owned ℕ))
    → All (λ x. is_held_live l seen x ≡ true) (looked_at l thread seen xs)

-- each thread finishes, in any order of turns
abbrev pub ThreadsEnd : Type 0
ThreadsEnd = (l : Loads ℕ) (fuel : ℕ) (lines : List (List ThreadLine)) (order : List ℕ)
    (thread : ℕ) (own : List ThreadLine)
    → at_number lines thread ≡ Some own
    → (t : Thread Runs Line Event) × ((at_number (job_world l fuel lines order).threads thread ≡ Some t)
    × IsFinished t.todo t.phase)

-- no image has data that threads write
abbrev pub HasNoData : Loads ℕ → Type 0
HasNoData l = (x : Instance) → l.shared x ≡ None

-- if no image has data, a thread of a job takes the turns that it would take alone, at fronts of the history, each of
-- which the next one continues
abbrev pub ThreadsTakeTheirOwnTurns : Type 0
ThreadsTakeTheirOwnTurns = (l : Loads ℕ) (fuel : ℕ) (lines : List (List ThreadLine)) (order : List ℕ)
    → (thread : ℕ) (own : List ThreadLine) → HasNoData l → at_number lines thread ≡ Some own
    → (points : List (List Event)) × Rises IsFront [] points
    × AllFronts points (job_world l fuel lines order).events
    × (at_number (job_world l fuel lines order).threads thread
    ≡ Some (turns (thread_turns l thread fuel)
    (ready (thread_ready plain_operations l thread) (numbered_lines 1 own)) points))
