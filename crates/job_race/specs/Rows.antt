-- What a row of a job's threads starts with, and its result.
use Rattle.std.specs.Prelude.{◌≡◌, ◌+◌, ◌-◌, ◌<◌, ◌≤◌, ℕ, min, false, List, [], ◌∷◌, ◌++◌, length, All, Result, Ok, Err}
use Rattle.job_text.specs.declared.thread_lines.ThreadLine.{ThreadLine}
use Rattle.job_text.specs.Jobs.{JobParts}
use Rattle.job_text.specs.Threads.{of_thread}
use Rattle.loaded_modules.specs.Images.{JobImages, infos, last_offset}
use Rattle.module_table.specs.declared.events.Event.{Event}
use Rattle.transcript_text.specs.declared.outcomes.Line.{Line as ShownLine}
use Rattle.transcript_text.specs.Texts.{Shown}
use Rattle.thread_blocks.specs.JobLoads.{job_loads}
use Rattle.thread_blocks.specs.JobWorlds.{numbered_lines}
use Rattle.lawful_points.specs.Raced.{IsRacer}
use Rattle.shared_modules.specs.Passes.{PassView, SharedView}
use Rattle.shared_modules.specs.Views.{longer, rising}
use Rattle.job_turns.specs.Alone.{has_data}
use Rattle.racing_thread.specs.Racing.{IsOfProgram}
use Rattle.racing_thread.specs.Tallies.{Tally, no_tally, plus, tally_of}

-- ---- passes

-- the pass is of this history, and is that of `count` threads from the first on
pub record IsReady (first count : ℕ) (shared : SharedView) (p : PassView) : Type 0 where
  pub of : p.shared ≡ shared
  pub threads : p.threads ≡ rising first count
  pub some : 1 ≤ count
  pub low : 1 ≤ first
  pub few : first + count ≤ 65

-- its threads can race over these images: none of them has done anything yet, and they share no data
pub record CanRace (m : JobImages) (first count : ℕ) (shared : SharedView) (p : PassView) : Type 0 where
  pub ready : IsReady first count shared p
  pub fresh : p.seen ≡ []
  pub images : shared.images ≡ record { infos = infos m; last_offset = last_offset m }
  pub alone : has_data m ≡ false

-- ---- how often looks loaded the generation and drew a ticket

-- the counts of all threads from a number on together, one thread for each list of lines
abbrev pub tallies : List (List ThreadLine) → ℕ → List (List ShownLine) → Tally
tallies lines thread [] = no_tally
tallies lines thread (said ∷ more) =
    plus (tally_of thread (numbered_lines 1 (of_thread lines thread)) said) (tallies lines (thread + 1) more)

-- a pass has counted this many more than before
pub record HasCounted (tally : Tally) (old new : PassView) : Type 0 where
  pub loads : new.loads ≡ old.loads + tally.loads
  pub turns : new.turns ≡ old.turns + tally.turns

-- the looks of all threads of a job loaded the generation and drew a ticket exactly as often as the printed lines tell
abbrev pub CountsLooks : List (List ThreadLine) → Shown → PassView → PassView → Type 0
CountsLooks lines shown old new = HasCounted (tallies lines 1 shown.threads) old new

-- ---- rows

-- each thread from a number on raced in a history, one for each list of lines
abbrev pub AllRaced : JobImages → JobParts → List Event → ℕ → List (List ShownLine) → Type 0
AllRaced m job history thread [] = Unit {0}
AllRaced m job history thread (said ∷ more) =
    IsRacer (job_loads m) job.fuel thread (of_thread job.lines thread) history said
    × AllRaced m job history (thread + 1) more

-- how many of `count` threads from a number on the job has
abbrev pub present : ℕ → ℕ → ℕ → ℕ
present threads first count = min count (threads + 1 - first)

-- an event of a thread that a program can have: if it is one of a row, then one that the job has
pub record IsOfJob (threads first count : ℕ) (event : Event) : Type 0 where
  pub program : IsOfProgram event
  pub has : first ≤ event.thread → event.thread < first + count → event.thread ≤ threads

-- the result of a row: each of its threads that the job has raced in what the pass has seen now, and those that the job
-- lacks have no event there
pub record HasRow (m : JobImages) (job : JobParts) (first count : ℕ) (old new : PassView) (row : Shown) : Type 0 where
  pub long : length row.threads ≡ present (length job.lines) first count
  pub each : AllRaced m job new.seen first row.threads
  pub events : row.events ≡ new.seen
  pub named : All (IsOfJob (length job.lines) first count) new.seen
  pub counted : HasCounted (tallies job.lines first row.threads) old new

-- ---- joined rows

abbrev pub together : Shown → Shown → Shown
together left right =
    record { threads = left.threads ++ right.threads; events = longer left.events right.events }

abbrev pub IsTogether : {X : Type 0} → Result Shown X → Result Shown X → Shown → Type 0
IsTogether (Ok left) (Ok right) row = row ≡ together left right
IsTogether (Ok left) (Err why) row = ⊥
IsTogether (Err why) right row = ⊥
