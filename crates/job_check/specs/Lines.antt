-- The first look of a thread's line, as the code takes it.
use Rattle.std.specs.Prelude.{◌≡◌, ◌<◌, ◌+◌, ◌^◌, ℕ, Bool, true, false, List, [], Option, Some, None, option_and_then}
use Rattle.std.specs.Prelude.{option_to_list}
use Rattle.guest_arithmetic.specs.declared.cause.Cause.{Cause}
use Rattle.guest_operands.specs.declared.state.State.{State}
use Rattle.guest_operands.specs.declared.stop.Stop.{Stop}
use Rattle.job_meaning.specs.declared.values.Byte.{Byte}
use Rattle.job_meaning.specs.declared.values.Flag.{Flag}
use Rattle.job_meaning.specs.declared.values.Word.{Word}
use Rattle.job_meaning.specs.Marked.{values_of}
use Rattle.job_text.specs.declared.thread_lines.Action.TheVariants.{Peek}
use Rattle.loaded_modules.specs.declared.instance.Instance.{Instance}
use Rattle.module_table.specs.declared.events.Event.{Event}
use Rattle.module_table.specs.Past.{Past, after}
use Rattle.thread_blocks.specs.Held.{Owned}
use Rattle.thread_blocks.specs.Instances.{instance_at, instances_in, left_by}
use Rattle.thread_blocks.specs.Lines.{Line, begun_by, begun_in, begun_peek, event_by}
use Rattle.thread_blocks.specs.Turns.{Begun, Calls as CallsOn, Ending, Says as SaysSo, with_event, Stopped}
use Rattle.whole_meaning.specs.declared.unclean.UncleanStep.{UncleanStep}
use Rattle.whole_meaning.specs.Jobs.{unclean_ending}
use Rattle.whole_meaning.specs.Loads.{loads_of, meaning_of}
use Rattle.whole_meaning.specs.Threads.{Meant, byte_cause as cause_of_byte, is_for as is_for_cause, meant_show, ops}
use Rattle.whole_meaning.specs.Threads.{unclean_bytes as first_unclean, unclean_for as lowest_unclean}
use Rattle.thread_turns.specs.declared.parts.Started.{Started as StartedWith}
use Rattle.thread_turns.specs.declared.parts.Started.TheVariants.{Says, Calls}
use Rattle.marked_memory.specs.declared.space.Wanted.TheVariants.{DataOf, Fixed}
use Rattle.job_check.specs.Histories.{IsLeftBy, infos_of}
use Rattle.marked_memory.specs.Kept.{HasSeen, Kept, held_at}
use Rattle.marked_memory.specs.Owners.{part_in}
use Rattle.marked_memory.specs.Spaces.{with_held}

-- the events leave this state
abbrev pub HasLeft : Kept → List Event → Past → Type 0
HasLeft k seen p = left_by (loads_of k.images) seen ≡ p

-- a line at its first look
abbrev pub Started : Type 0
Started = StartedWith (Option UncleanStep) (State Word Flag)

-- how the line begins, for a thread that has seen these events and had these registers: it is over, with this unclean
-- step or none; or a call begins, with these registers
abbrev pub BegunAs : ℕ → List Event → State Word Flag → Kept → Started → Begun Meant → Type 0
BegunAs line now state k (Says unclean) (SaysSo ending h) =
    (unclean_ending k.thread line ending ≡ unclean) × (h ≡ held_at now state k)
BegunAs line now state k (Says unclean) (CallsOn h) = ⊥
BegunAs line now state k (Calls first) (SaysSo ending h) = ⊥
BegunAs line now state k (Calls first) (CallsOn h) = h ≡ held_at now first k

-- the memory belongs to the same thread of the same job
pub record KeepsThread (old new : Kept) : Type 0 where
  pub thread : new.thread ≡ old.thread
  pub images : new.images ≡ old.images
  pub lent : new.lent ≡ old.lent

-- what a line needs to begin: the thread has looked at a history that leaves this state, with room for its event
pub record CanBegin (k : Kept) (p : Past) : Type 0 where
  pub live : k.live ≡ instances_in (infos_of k.images) p
  pub past : IsLeftBy k.images p
  pub room : p.seen < 2 ^ 61

-- after the look the line begins as the definition says
pub record Starts (line : Line) (p : Past) (k : Kept) (started : Started) (p' : Past) (k' : Kept) : Type 0 where
  pub thread : k'.thread ≡ k.thread
  pub images : k'.images ≡ k.images
  pub lent : k'.lent ≡ k.lent
  pub starts : (seen : List Event) (state : State Word Flag) → HasLeft k seen p → HasSeen k seen
      → let m = meaning_of k.images in
      let now = with_event seen (event_by m.loads k.thread line seen) in
      HasLeft k' now p' × HasSeen k' now
      × BegunAs line.number now state k' started
      (begun_by ops m.loads (meant_show m k.thread line seen) k.thread line seen (held_at seen state k)
      line.told.action)

-- ** the parts

-- a part of a line begins as the definition says, and the thread's own event, if there is one, enters the history
pub record Begins (line : ℕ) (event : Option Event) (begun : List Event → Meant → Begun Meant) (p : Past) (k : Kept)
    (started : Started) (p' : Past) (k' : Kept) : Type 0 where
  pub keeps : KeepsThread k k'
  pub past : p' ≡ after p (option_to_list event)
  pub live : k'.live ≡ instances_in (infos_of k.images) p'
  pub begins : (seen : List Event) (state : State Word Flag) → HasLeft k seen p → HasSeen k seen
      → BegunAs line (with_event seen event) state k' started (begun seen (held_at seen state k))

module _ (line : Line) (k : Kept) (seen : List Event) where
  abbrev pub shows : List Byte → Ending
  shows bytes = meant_show (meaning_of k.images) k.thread line seen bytes

-- a call of a function by its name, in the live instance of the line's image
abbrev pub BeginsCall : Line → List ℕ → ℕ → ℕ → ℕ → Past → Kept → Started → Past → Kept → Type 0
BeginsCall line symbol a b c p k = let l = loads_of k.images in
    Begins line.number None
    (λ seen h. begun_in ops l (shows line k seen) k.thread symbol a b c h (instance_at l seen line.told.image)) p k

-- a line that shows `size` bytes of a variable
abbrev pub peek_line : Line → List ℕ → ℕ → Line
peek_line line symbol size =
    record { number = line.number; told = record { image = line.told.image; action = Peek symbol size } }

-- a peek at bytes of a variable, in the block of the live instance of the line's image
abbrev pub BeginsPeek : Line → List ℕ → ℕ → Past → Kept → Started → Past → Kept → Type 0
BeginsPeek line symbol size p k = let l = loads_of k.images in
    Begins line.number None
    (λ seen h. begun_peek ops l (shows (peek_line line symbol size) k seen) k.thread line symbol size h
    (instance_at l seen line.told.image)) p k

-- ** steps of the parts

-- the thread sees the history as it is now, with the data that it is handed
pub record Sees (handed : List (Owned Byte)) (old : Kept) (p : Past) (new : Kept) : Type 0 where
  pub left : IsLeftBy old.images p
  pub is : new ≡ with_held (instances_in (infos_of old.images) p) handed Fixed old

-- a load fills the data of the instance, unless the image was loaded before
abbrev pub LoadsNew : Bool → Option Instance → Kept → Kept → Type 0
LoadsNew true x old new = new ≡ old
LoadsNew false None old new = new ≡ old
LoadsNew false (Some x) old new = new ≡ with_held old.live [] (DataOf x.number) old

-- ** bytes that are shown

-- why bytes are not numbers depends on no job and no thread
abbrev pub byte_cause : Byte → Option Cause
byte_cause byte = cause_of_byte (meaning_of []) 0 byte

abbrev pub is_for : Cause → Option Cause → Bool
is_for why found = is_for_cause (meaning_of []) 0 why found

abbrev pub unclean_for : ℕ → List Byte → Cause → Option Stop
unclean_for address bytes why = lowest_unclean (meaning_of []) 0 address bytes why

abbrev pub unclean_bytes : ℕ → List Byte → Stop
unclean_bytes address bytes = first_unclean (meaning_of []) 0 address bytes

-- the unclean step of a line that shows bytes from an address on, if some of them are not numbers
abbrev pub shown_step : ℕ → ℕ → ℕ → List Byte → Option (List ℕ) → Option UncleanStep
shown_step thread line address bytes (Some numbers) = None
shown_step thread line address bytes None = unclean_ending thread line (Stopped (unclean_bytes address bytes))

-- likewise for a variable at an offset in a block
abbrev pub step_in : ℕ → ℕ → ℕ → ℕ → ℕ → Option (List Byte) → Option UncleanStep
step_in thread line start size offset block =
    option_and_then (λ part. shown_step thread line (start + offset) part (values_of part)) (part_in offset size block)
