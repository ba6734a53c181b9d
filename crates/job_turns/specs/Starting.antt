-- The first look of a thread's line, in the code.
use Rattle.std.specs.Prelude.{◌≡◌, ℕ, ◌+◌, Bool, true, false, List, length, slice_range, nat_le, Option, Some, None}
use Rattle.std.specs.Prelude.{option_to_list, if◌then◌else◌}
use Rattle.guest_arithmetic.specs.Plain.{plain_operations}
use Rattle.guest_machine.specs.Machine.{Standing}
use Rattle.guest_operands.specs.declared.state.State.{State}
use Rattle.loaded_modules.specs.declared.instance.Instance.{Instance}
use Rattle.module_table.specs.declared.events.Event.{Event}
use Rattle.module_data.specs.Pieces.{loaded}
use Rattle.module_table.specs.Past.{after, after_one, close_refusal, open_refusal}
use Rattle.transcript_text.specs.declared.outcomes.LineRefusal.TheVariants.{Symbol as NoSymbol, Length as TooLong}
use Rattle.transcript_text.specs.declared.outcomes.Outcome.{Outcome}
use Rattle.transcript_text.specs.declared.outcomes.Outcome.TheVariants.{Bytes, Refused}
use Rattle.thread_blocks.specs.declared.asked.Asked.{Asked}
use Rattle.thread_blocks.specs.Instances.{instance_at}
use Rattle.thread_blocks.specs.JobLoads.{job_loads}
use Rattle.thread_blocks.specs.Lines.{Line, begun_by, begun_close, begun_in, begun_open, begun_peek, event_at, event_by}
use Rattle.thread_blocks.specs.Lines.{unless_refused}
use Rattle.thread_blocks.specs.RunTime.{Runs, shows}
use Rattle.thread_blocks.specs.Turns.{Answered, Begun, Says as SaysSo, Calls as CallsOn, with_event}
use Rattle.thread_turns.specs.declared.parts.Started.{Started as StartedWith}
use Rattle.thread_turns.specs.declared.parts.Started.TheVariants.{Says, Calls}
use Rattle.thread_vector.specs.Holding.{IsLeftBy}
use Rattle.thread_vector.specs.Vectors.{caught_up, held, reached}
use Rattle.thread_space.specs.Kept.{HasSeen, Kept, held_at}
use Rattle.thread_space.specs.Steps.{HasData}
use Rattle.job_turns.specs.Taking.{KeepsJob}

-- ---- the result of a first look

abbrev pub Started : Type 0
Started = StartedWith Outcome (Standing ℕ Bool)

-- the thread keeps this after these events; its machine's state stays, or is that of the call
abbrev pub started_as : List Event → State ℕ Bool → Option Asked → Started → Kept → Begun Runs
started_as seen state asked (Says outcome) k = SaysSo (Answered outcome) (held_at seen state asked k)
started_as seen state asked (Calls m) k = CallsOn (held_at seen m.state asked k)

-- the machine of a call has made no step
abbrev pub IsFresh : Started → Type 0
IsFresh (Says outcome) = Unit {0}
IsFresh (Calls m) = m.taken ≡ 0

-- a part of a line begins as defined, and sees its own event, if there is one
pub record Begins (event : Option Event) (begun : List Event → Runs → Begun Runs) (old : Kept) (result : Started)
    (new : Kept) : Type 0 where
  pub keeps : KeepsJob old new
  pub fresh : IsFresh result
  pub past : new.vector.past ≡ after old.vector.past (option_to_list event)
  pub begins : (seen : List Event) (state : State ℕ Bool) (asked : Option Asked) → HasSeen old.vector seen
      → begun seen (held_at seen state asked old) ≡ started_as (with_event seen event) state asked result new

-- a line begins as defined
pub record Starts (line : Line) (old : Kept) (result : Started) (new : Kept) : Type 0 where
  pub keeps : KeepsJob old new
  pub fresh : IsFresh result
  pub starts : (seen : List Event) (state : State ℕ Bool) (asked : Option Asked) → HasSeen old.vector seen
      → let l = job_loads old.vector.images in
      let thread = old.vector.thread in
      let now = with_event seen (event_by l thread line seen) in
      HasSeen new.vector now
      × (begun_by plain_operations l (shows l thread) thread line seen (held_at seen state asked old) line.told.action
      ≡ started_as now state asked result new)

-- ---- the parts

-- a call of the function with a name, in the live instance of an image
abbrev pub BeginsCall : ℕ → List ℕ → ℕ → ℕ → ℕ → Kept → Started → Kept → Type 0
BeginsCall image symbol a b c old = let l = job_loads old.vector.images in let thread = old.vector.thread in
    Begins None (λ seen h. begun_in plain_operations l (shows l thread) thread symbol a b c h
    (instance_at l seen image)) old

-- an open of the line's image
abbrev pub BeginsOpen : Line → Kept → Started → Kept → Type 0
BeginsOpen line old = let l = job_loads old.vector.images in let thread = old.vector.thread in
    let refusal = open_refusal old.vector.past line.told.image in
    Begins (unless_refused refusal (event_at thread line.number true line.told.image))
    (λ seen h. begun_open plain_operations l (shows l thread) thread line seen h refusal) old

-- a close of the line's image
abbrev pub BeginsClose : Line → Kept → Started → Kept → Type 0
BeginsClose line old = let l = job_loads old.vector.images in let thread = old.vector.thread in
    let refusal = close_refusal old.vector.past line.told.image in
    Begins (unless_refused refusal (event_at thread line.number false line.told.image))
    (λ seen h. begun_close plain_operations l (shows l thread) thread line seen h refusal) old

-- a peek at bytes of a variable, in the block of the live instance of the line's image
abbrev pub BeginsPeek : Line → List ℕ → ℕ → Kept → Started → Kept → Type 0
BeginsPeek line symbol size old = let l = job_loads old.vector.images in let thread = old.vector.thread in
    Begins None (λ seen h. begun_peek plain_operations l (shows l thread) thread line symbol size h
    (instance_at l seen line.told.image)) old

-- ---- steps of the parts

-- a thread sees its own event at once
pub record Sees (old : Kept) (e : Event) (new : Kept) : Type 0 where
  pub keeps : KeepsJob old new
  pub past : new.vector.past ≡ after_one old.vector.past e
  pub was : IsLeftBy old.vector.images old.vector.past
  pub left : IsLeftBy new.vector.images new.vector.past
  pub blocks : (i : ℕ) → held new.vector i ≡ caught_up old.vector new.vector.past i
  pub pieces : new.pieces ≡ old.pieces
  pub stack : new.stack ≡ old.stack

-- a load fills the data of its instance, unless the image was loaded before
abbrev pub LoadsNew : Bool → Option Instance → Kept → Kept → Type 0
LoadsNew true x old new = new ≡ old
LoadsNew false None old new = new ≡ old
LoadsNew false (Some x) old new = HasData old (loaded old.vector.images x old.pieces) new

-- the thread reaches the block of a live instance
pub record ReachesLive (old : Kept) (x : Instance) (new : Kept) : Type 0 where
  pub keeps : KeepsJob old new
  pub past : new.vector.past ≡ old.vector.past
  pub left : IsLeftBy new.vector.images new.vector.past
  pub blocks : (i : ℕ) → held new.vector i ≡ reached old.vector x.number i
  pub pieces : new.pieces ≡ old.pieces
  pub stack : new.stack ≡ old.stack

-- ---- what a peek shows of a block, and the variable's offset in it, if there is one

abbrev pub part_shown : List ℕ → ℕ → ℕ → Outcome
part_shown bytes size offset = if nat_le (offset + size) (length bytes)
    then Bytes (slice_range bytes offset (offset + size))
    else Refused TooLong

abbrev pub shown_of : Option (List ℕ) → ℕ → Option ℕ → Outcome
shown_of block size None = Refused NoSymbol
shown_of None size (Some offset) = Refused TooLong
shown_of (Some bytes) size (Some offset) = part_shown bytes size offset
