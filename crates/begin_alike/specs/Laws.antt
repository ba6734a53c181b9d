-- The laws of lines and of jobs: for any setting and any loads that are tied, at the events that the job ends with.
use Rattle.std.specs.Prelude.{◌≡◌, ◌⊎◌, ◌≤◌, ℕ, suc, Bool, List, length, map, None}
use Rattle.guest_arithmetic.specs.Plain.{plain_operations}
use Rattle.job_meaning.specs.declared.values.Byte.{Byte}
use Rattle.job_meaning.specs.declared.values.Flag.{Flag}
use Rattle.job_meaning.specs.declared.values.Word.{Word}
use Rattle.job_text.specs.declared.thread_lines.ThreadLine.{ThreadLine}
use Rattle.module_table.specs.declared.events.Event.{Event}
use Rattle.thread_blocks.specs.Instances.{Loads}
use Rattle.thread_blocks.specs.JobWorlds.{Shared, job_world, numbered_lines, job_start, thread_ready}
use Rattle.thread_blocks.specs.Lines.{Line, begin_line, event_by}
use Rattle.thread_blocks.specs.RunTime.{Runs, shows, thread_turns}
use Rattle.thread_blocks.specs.Turns.{Said, Thread, ready, turns, with_event}
use Rattle.thread_blocks.specs.TurnsAlike.{HasUnclean}
use Rattle.thread_blocks.specs.Turns.{IsFront}
use Rattle.whole_meaning.specs.Jobs.{lines_of, meant_world, verdict_of}
use Rattle.whole_meaning.specs.Meanings.{Meaning}
use Rattle.whole_meaning.specs.Threads.{Meant, begin_meant, meant_turns, ops}
use Rattle.lawful_points.specs.Laws.{AtFronts}
use Rattle.lawful_points.specs.Raced.{first_of, raced_of}
use Rattle.order_laws.specs.Worlds.{IsSomeUnclean, SameWorld}
use Rattle.tied_meaning.specs.Numbers.{Setting}
use Rattle.tied_meaning.specs.Threads.{AtRest, SameData, Waiting}
use Rattle.tied_meaning.specs.Ties.{AreTied}
use Rattle.begin_alike.specs.Begun.{BegunAlike, CallsAreAlike}

-- ** lines

-- both sides add the same event, refused or not
abbrev pub EventsAreOne : Type 0
EventsAreOne = (g : Setting) (m : Meaning) (q : Loads ℕ) (history : List Event) → AreTied g m q history
    → (thread : ℕ) (line : Line) (seen : List Event)
    → event_by q thread line seen ≡ event_by m.loads thread line seen

-- a line of any kind begins alike, if what is seen is a front of the history, also with the line's own event added
abbrev pub LinesBeginAlike : Type 0
LinesBeginAlike = (g : Setting) (m : Meaning) (q : Loads ℕ) (history : List Event) → AreTied g m q history
    → (thread : ℕ) (seen : List Event) (line : Line) → IsFront seen history
    → IsFront (with_event seen (event_by m.loads thread line seen)) history
    → (h : Meant) (h' : Runs) → AtRest g m q history thread h h'
    → BegunAlike g m q history thread seen (begin_meant m thread line seen h)
    (begin_line plain_operations q (shows q thread) thread line seen h')

-- ** jobs

-- a job's threads and data, after the same events; there are at most 64 threads
abbrev pub SameJob : Setting → Meaning → Loads ℕ → List Event → Shared Word Flag Byte Line → Shared ℕ Bool ℕ Line
    → Type 0
SameJob g m q history = SameWorld (λ i. Waiting g m q history i) (λ i. AtRest g m q history i) (SameData g q)
    (λ (i : ℕ). suc i ≤ 64)

-- before the first turn
abbrev pub JobsStartAlike : Type 0
JobsStartAlike = (g : Setting) (m : Meaning) (q : Loads ℕ) (history : List Event) → AreTied g m q history
    → (lines : List (List ThreadLine)) → length lines ≤ 64
    → SameJob g m q history (job_start ops m.loads lines) (job_start plain_operations q lines)

-- the history begins with the events that the machine's job ends with
abbrev pub EndsIn : Loads ℕ → ℕ → List (List ThreadLine) → List ℕ → List Event → Type 0
EndsIn q fuel lines order history = IsFront (job_world q fuel lines order).events history

-- after all turns: related, or some line is unclean
abbrev pub JobsStayAlike : Type 0
JobsStayAlike = (g : Setting) (m : Meaning) (q : Loads ℕ) (history : List Event) → AreTied g m q history
    → CallsAreAlike g m q history
    → (fuel : ℕ) (lines : List (List ThreadLine)) (order : List ℕ) → length lines ≤ 64
    → EndsIn q fuel lines order history
    → IsSomeUnclean (meant_world m fuel lines order)
    ⊎ SameJob g m q history (meant_world m fuel lines order) (job_world q fuel lines order)

-- the lines of all threads
abbrev pub all_said : {W F B : Type 0} → Shared W F B Line → List (List Said)
all_said w = map (λ t. t.said) w.threads

-- a thread of the meaning, by itself, after turns that see these lists of events
abbrev pub meant_thread : Meaning → ℕ → ℕ → List ThreadLine → List (List Event) → Thread Meant Line Event
meant_thread m fuel thread lines points =
    turns (meant_turns m thread fuel) (ready (thread_ready ops m.loads thread) (numbered_lines 1 lines)) points

module _ (m : Meaning) (q : Loads ℕ) (history : List Event) where
  -- a clean job prints what it means: its events, and its lines, thread by thread
  abbrev pub JobPrints : Type 0
  JobPrints = (fuel : ℕ) (lines : List (List ThreadLine)) (order : List ℕ) → length lines ≤ 64
      → EndsIn q fuel lines order history → verdict_of (lines_of (meant_world m fuel lines order)) ≡ None
      → ((job_world q fuel lines order).events ≡ (meant_world m fuel lines order).events)
      × (all_said (job_world q fuel lines order) ≡ lines_of (meant_world m fuel lines order))

  -- a clean thread prints what it means by itself, if each point, and that with the event that the thread adds there,
  -- is a front of the history
  abbrev pub ThreadPrints : Type 0
  ThreadPrints = (fuel thread : ℕ) → 1 ≤ thread → thread ≤ 64 → (lines : List ThreadLine) (points : List (List Event))
      → AtFronts (thread_turns q thread fuel) (event_by q thread) history (first_of q thread lines) points
      → HasUnclean (meant_thread m fuel thread lines points).said
      ⊎ ((raced_of q fuel thread lines points).said ≡ (meant_thread m fuel thread lines points).said)

-- if calls are alike
abbrev pub CleanJobsPrint : Type 0
CleanJobsPrint = (g : Setting) (m : Meaning) (q : Loads ℕ) (history : List Event) → AreTied g m q history
    → CallsAreAlike g m q history → JobPrints m q history

abbrev pub CleanThreadsPrint : Type 0
CleanThreadsPrint = (g : Setting) (m : Meaning) (q : Loads ℕ) (history : List Event) → AreTied g m q history
    → CallsAreAlike g m q history → ThreadPrints m q history
