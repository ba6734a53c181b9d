-- The definition's threads that a thread of the code stands for, between two turns.
use Rattle.std.specs.Prelude.{◌≡◌, ◌+◌, ℕ, Bool, false, List, [], Option, Some, None, drop, length, nat_le, slice_get}
use Rattle.std.specs.Option.{option_or}
use Rattle.guest_operands.specs.declared.state.State.{State}
use Rattle.job_meaning.specs.declared.values.Byte.{Byte}
use Rattle.job_meaning.specs.declared.values.Flag.{Flag}
use Rattle.job_meaning.specs.declared.values.Word.{Word}
use Rattle.job_text.specs.declared.thread_lines.ThreadLine.{ThreadLine}
use Rattle.job_text.specs.Jobs.{JobParts}
use Rattle.job_text.specs.Threads.{of_thread}
use Rattle.link_needs.specs.Linking.{Linking}
use Rattle.module_table.specs.declared.events.Event.{Event}
use Rattle.module_table.specs.Past.{Past, start}
use Rattle.thread_blocks.specs.Held.{Owned, owned_by}
use Rattle.thread_blocks.specs.Instances.{instances_in, left_by}
use Rattle.thread_blocks.specs.JobWorlds.{blocks_in, data_in, held_in, numbered_lines, with_data, without_data}
use Rattle.thread_blocks.specs.Lines.{Line, event_by}
use Rattle.thread_blocks.specs.Turns.{Idle, Mid, Phase, Thread, event_of, turn, with_event}
use Rattle.whole_meaning.specs.declared.unclean.UncleanStep.{UncleanStep}
use Rattle.whole_meaning.specs.Jobs.{first_in}
use Rattle.whole_meaning.specs.Loads.{loads_of, meaning_of}
use Rattle.whole_meaning.specs.Threads.{Meant, meant_turns}
use Rattle.marked_memory.specs.declared.space.Wanted.TheVariants.{Fixed}
use Rattle.thread_turns.specs.declared.parts.Ended.TheVariants.{Over, Waits}
use Rattle.job_check.specs.declared.thread.Waiting.{Waiting}
use Rattle.job_check.specs.Histories.{infos_of, last_of}
use Rattle.marked_memory.specs.Kept.{Kept, held_at}
use Rattle.marked_memory.specs.Spaces.{with_held}
use Rattle.job_check.specs.Taking.{BeginsTo, ResumesTo, Taken}

-- what contracts see of a thread: its lines and how many have begun, the most steps of a call, what its memory keeps,
-- the call that waits, if one does, and its first unclean step so far
pub record Run : Type 0 where
  pub lines : List ThreadLine
  pub fuel : ℕ
  pub begun : ℕ
  pub kept : Kept
  pub call : Option Waiting
  pub unclean : Option UncleanStep

-- the thread has nothing left to do
abbrev pub is_done_with : List ThreadLine → ℕ → Option Waiting → Bool
is_done_with lines begun None = nat_le (length lines) begun
is_done_with lines begun (Some c) = false

abbrev pub is_done : Run → Bool
is_done r = is_done_with r.lines r.begun r.call

-- ** threads that it stands for, while no thread has the shared data

-- between two lines its registers do not matter
pub record IsIdle (k : Kept) (h : Meant) : Type 0 where
  pub seen : List Event
  pub state : State Word Flag
  pub holds : h ≡ held_at seen state k

-- in the middle of a call
pub record IsMid (k : Kept) (c : Waiting) (steps : ℕ) (h : Meant) : Type 0 where
  pub seen : List Event
  pub steps_left : steps ≡ c.steps
  pub holds : h ≡ held_at seen c.state k

abbrev pub PhaseIs : Kept → Option Waiting → Phase Meant → Type 0
PhaseIs k None (Idle h) = IsIdle k h
PhaseIs k None (Mid steps points h) = ⊥
PhaseIs k (Some c) (Idle h) = ⊥
PhaseIs k (Some c) (Mid steps points h) = IsMid k c steps h

-- how many lines have begun when `over` are over
abbrev pub begun_of : ℕ → Option Waiting → ℕ
begun_of over None = over
begun_of over (Some c) = over + 1

pub record StandsFor (r : Run) (t : Thread Meant Line Event) : Type 0 where
  pub todo : t.todo ≡ numbered_lines (r.begun + 1) (drop r.begun r.lines)
  pub count : begun_of (length t.said) r.call ≡ r.begun
  pub unclean : first_in r.kept.thread 1 t.said ≡ r.unclean
  pub blocks : blocks_in r.kept.own ≡ r.kept.own
  pub no_data : data_in r.kept.own ≡ []
  pub phase : PhaseIs r.kept r.call t.phase

-- ** a turn

-- a thread after a turn, which has the shared data: the code's thread stands for it, the data are these, and the events
-- leave this state
pub record StandsAfter (r : Run) (p : Past) (d : List (Owned Byte)) (now : List Event)
    (t : Thread Meant Line Event) : Type 0 where
  pub stands : StandsFor r (without_data t)
  pub shared : data_in (owned_by (held_in t.phase)) ≡ d
  pub leaves : left_by (loads_of r.kept.images) now ≡ p

-- what a turn does not change
pub record IsSameThread (old new : Run) : Type 0 where
  pub thread : new.kept.thread ≡ old.kept.thread
  pub images : new.kept.images ≡ old.kept.images
  pub lines : new.lines ≡ old.lines
  pub fuel : new.fuel ≡ old.fuel

-- for each thread that the old one stands for: after a turn with the data, at a history that leaves this state, the new
-- one stands for it
pub record TakesTurn (old : Run) (p : Past) (d : List (Owned Byte)) (new : Run) (p' : Past)
    (d' : List (Owned Byte)) : Type 0 where
  pub same : IsSameThread old new
  pub turns : (t : Thread Meant Line Event) (seen : List Event) → StandsFor old t
      → left_by (loads_of old.kept.images) seen ≡ p
      → let m = meaning_of old.kept.images in
      let thread = old.kept.thread in
      StandsAfter new p' d' (with_event seen (event_of (event_by m.loads thread) t seen))
      (turn (meant_turns m thread old.fuel) (with_data d t) seen)

-- ** the parts of a turn, once the thread has looked and has the data

-- it begins its next line
pub record BeginsLine (r : Run) (p : Past) (taken : Taken) (r' : Run) (p' : Past) : Type 0 where
  pub line : ThreadLine
  pub there : slice_get r.lines r.begun ≡ Some line
  pub begins : BeginsTo r.fuel (record { number = r.begun + 1; told = line }) p r.kept taken p' r'.kept
  pub is : r' ≡ record r { begun = r.begun + 1; kept = r'.kept }

-- it continues the call that waits
pub record ResumesLine (c : Waiting) (r : Run) (p : Past) (taken : Taken) (r' : Run) (p' : Past) : Type 0 where
  pub resumes : ResumesTo r.fuel r.begun c r.kept taken r'.kept
  pub is : r' ≡ record r { kept = r'.kept }
  pub past : p' ≡ p

abbrev pub GoesOn : Option Waiting → Run → Past → Taken → Run → Past → Type 0
GoesOn None r p taken r' p' = BeginsLine r p taken r' p'
GoesOn (Some c) r p taken r' p' = ResumesLine c r p taken r' p'

-- without the data, which other threads have then
abbrev pub emptied : Run → Run
emptied r = record r { kept = record r.kept { own = blocks_in r.kept.own } }

-- its line is over, or its call waits
abbrev pub run_after : Run → Taken → Run
run_after r (Over found) = record r { call = None; unclean = option_or r.unclean found }
run_after r (Waits call) = record r { call = Some call }

-- ** before the first turn

-- it holds the blocks of the images that start with the program
pub record IsFirstKept (thread : ℕ) (ls : List Linking) (k : Kept) : Type 0 where
  pub is : k ≡ with_held (instances_in (infos_of ls) (start (infos_of ls) (last_of ls))) [] Fixed (record {
    thread = thread;
    images = ls;
    live = [];
    stack = [];
    own = [];
    lent = None;
  })

pub record IsFirstRun (thread : ℕ) (ls : List Linking) (job : JobParts) (r : Run) : Type 0 where
  pub lines : r.lines ≡ of_thread job.lines thread
  pub fuel : r.fuel ≡ job.fuel
  pub begun : r.begun ≡ 0
  pub kept : IsFirstKept thread ls r.kept
  pub call : r.call ≡ None
  pub unclean : r.unclean ≡ None
