-- Which threads of the definitions a runner stands for.
use Rattle.std.specs.Prelude.{◌≡◌, ◌+◌, ◌-◌, ◌*◌, ℕ, Bool, List, [], Option, Some, None, drop, map, slice_get}
use Rattle.guest_machine.specs.Machine.{Standing}
use Rattle.guest_operands.specs.declared.state.State.{State}
use Rattle.guest_operands.specs.Use.{left}
use Rattle.job_text.specs.declared.thread_lines.ThreadLine.{ThreadLine}
use Rattle.job_text.specs.Jobs.{JobParts}
use Rattle.job_text.specs.Threads.{of_thread}
use Rattle.loaded_modules.specs.Images.{JobImages, infos, last_offset}
use Rattle.module_data.specs.Pieces.{Piece}
use Rattle.module_table.specs.declared.events.Event.{Event}
use Rattle.module_table.specs.Past.{after, past}
use Rattle.transcript_text.specs.declared.outcomes.Line.{Line as Printed}
use Rattle.thread_blocks.specs.declared.asked.Asked.{Asked}
use Rattle.thread_blocks.specs.Held.{owned_by, owners_of, ranges_in}
use Rattle.thread_blocks.specs.JobLoads.{job_loads}
use Rattle.thread_blocks.specs.JobWorlds.{data_in, held_in, numbered_lines, with_data, without_data}
use Rattle.thread_blocks.specs.Lines.{Line, event_by}
use Rattle.thread_blocks.specs.MachineTurns.{shown}
use Rattle.thread_blocks.specs.RunTime.{Runs, thread_turns}
use Rattle.thread_blocks.specs.Turns.{Idle, Mid, Phase, Thread, event_of, turn, with_event}
use Rattle.job_turns.specs.declared.asking.Ask.{Ask}
use Rattle.job_turns.specs.declared.asking.Ask.TheVariants.{Done, Look, Opens, Closes}
use Rattle.job_turns.specs.Asking.{ask_next}
use Rattle.thread_space.specs.Steps.{IsNew}
use Rattle.thread_space.specs.Kept.{HasSeen, Kept, blocks_of, shared_of}

-- a call that waits for its next look
pub record Waiting : Type 0 where
  pub machine : Standing ℕ Bool
  pub asked : Asked
  pub points : List ℕ

-- a runner as contracts see it: its lines and how many are begun, the most steps of the meaning that a call has, what
-- its memory keeps, the call that waits, if there is one, and the lines that are over
pub record Run : Type 0 where
  pub lines : List ThreadLine
  pub begun : ℕ
  pub fuel : ℕ
  pub kept : Kept
  pub call : Option Waiting
  pub said : List Printed

-- ---- threads that it stands for, while no thread holds the shared data

-- a thread that waits has its registers, its stack, its blocks, and its question
abbrev pub waits_at : List Event → State ℕ Bool → Asked → Kept → Runs
waits_at seen state asked k = record {
  after = left state (record { seen = seen; stack = k.stack; own = ranges_in (blocks_of k.vector) });
  owners = owners_of (blocks_of k.vector);
  asked = Some asked;
}

-- between two lines its registers do not count
pub record IsIdle (k : Kept) (h : Runs) : Type 0 where
  pub seen : HasSeen k.vector h.after.memory.seen
  pub blocks : owned_by h ≡ blocks_of k.vector
  pub stack : h.after.memory.stack ≡ k.stack

-- in the middle of a call
pub record IsMid (k : Kept) (fuel : ℕ) (c : Waiting) (steps : ℕ) (points : List ℕ) (h : Runs) : Type 0 where
  pub seen : HasSeen k.vector h.after.memory.seen
  pub steps_left : steps ≡ 4 * fuel - c.machine.taken
  pub points_are : points ≡ c.points
  pub holds : h ≡ waits_at h.after.memory.seen c.machine.state c.asked k

abbrev pub PhaseIs : Kept → ℕ → Option Waiting → Phase Runs → Type 0
PhaseIs k fuel None (Idle h) = IsIdle k h
PhaseIs k fuel None (Mid steps points h) = ⊥
PhaseIs k fuel (Some c) (Idle h) = ⊥
PhaseIs k fuel (Some c) (Mid steps points h) = IsMid k fuel c steps points h

pub record StandsFor (r : Run) (t : Thread Runs Line Event) : Type 0 where
  pub todo : t.todo ≡ numbered_lines (r.begun + 1) (drop r.begun r.lines)
  pub said : map shown t.said ≡ map Some r.said
  pub phase : PhaseIs r.kept r.fuel r.call t.phase

-- ---- a turn

-- a thread after a turn that held the shared data: the runner stands for it, the data are these, and it has seen the
-- history with its own event
pub record StandsAfter (r : Run) (d : List Piece) (seen : List Event) (t : Thread Runs Line Event) : Type 0 where
  pub stands : StandsFor r (without_data t)
  pub shared : data_in (owned_by (held_in t.phase)) ≡ shared_of r.kept.vector.images r.kept.vector.past d
  pub has_seen : HasSeen r.kept.vector seen

-- what a turn keeps of a runner
pub record IsSameRunner (old new : Run) : Type 0 where
  pub thread : new.kept.vector.thread ≡ old.kept.vector.thread
  pub images : new.kept.vector.images ≡ old.kept.vector.images
  pub lines : new.lines ≡ old.lines
  pub fuel : new.fuel ≡ old.fuel

-- for each thread that the old runner stands for: after its turn at a history that these events continue, with the
-- data shared there, the new runner stands for it
pub record TakesTurn (old : Run) (events : List Event) (d : List Piece) (new : Run) (d' : List Piece) : Type 0 where
  pub same : IsSameRunner old new
  pub turns : (t : Thread Runs Line Event) (seen : List Event) → StandsFor old t
      → past (infos old.kept.vector.images) (last_offset old.kept.vector.images) seen
      ≡ after old.kept.vector.past events
      → let l = job_loads old.kept.vector.images in
      let thread = old.kept.vector.thread in
      StandsAfter new d' (with_event seen (event_of (event_by l thread) t seen))
      (turn (thread_turns l thread old.fuel)
      (with_data (shared_of old.kept.vector.images (after old.kept.vector.past events) d) t) seen)

-- ---- a runner before its first turn

pub record IsFirstRun (thread : ℕ) (m : JobImages) (job : JobParts) (r : Run) : Type 0 where
  pub lines : r.lines ≡ of_thread job.lines thread
  pub begun : r.begun ≡ 0
  pub fuel : r.fuel ≡ job.fuel
  pub kept : IsNew thread m r.kept
  pub call : r.call ≡ None
  pub said : r.said ≡ []

-- ---- its next question

abbrev pub ask_now : ℕ → List ThreadLine → Option Waiting → Ask
ask_now begun lines (Some call) = Look begun
ask_now begun lines None = ask_next (begun + 1) (slice_get lines begun)

abbrev pub ask_of : Run → Ask
ask_of r = ask_now r.begun r.lines r.call

abbrev pub IsGoing : Ask → Type 0
IsGoing Done = ⊥
IsGoing (Look line) = Unit {0}
IsGoing (Opens line image) = Unit {0}
IsGoing (Closes line image) = Unit {0}
