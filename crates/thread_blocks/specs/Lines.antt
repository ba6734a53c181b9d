-- Lines of all kinds: calls of functions, opens and closes of images, and looks at the bytes of a variable.
use Rattle.std.specs.Prelude.{◌+◌, ℕ, Bool, true, false, List, length, Option, Some, None, nat_le, slice_range}
use Rattle.std.specs.Prelude.{if◌then◌else◌}
use Rattle.guest_arithmetic.specs.Values.{Operations}
use Rattle.guest_machine.specs.Use.{left}
use Rattle.job_text.specs.declared.thread_lines.Action.{Action}
use Rattle.job_text.specs.declared.thread_lines.Action.TheVariants.{Call, Open, Close, Peek}
use Rattle.job_text.specs.declared.thread_lines.ThreadLine.{ThreadLine}
use Rattle.loaded_modules.specs.declared.instance.Instance.{Instance}
use Rattle.module_table.specs.declared.events.CloseRefusal.{CloseRefusal}
use Rattle.module_table.specs.declared.events.CloseRefusal.TheVariants.{Permanent}
use Rattle.module_table.specs.declared.events.Event.{Event}
use Rattle.module_table.specs.declared.events.OpenRefusal.{OpenRefusal}
use Rattle.module_table.specs.declared.events.OpenRefusal.TheVariants.{Unknown, StaticFull}
use Rattle.module_table.specs.Modules.{is_loaded}
use Rattle.module_table.specs.Past.{open_refusal, close_refusal, module_of}
use Rattle.transcript_text.specs.declared.outcomes.LineRefusal.{LineRefusal}
use Rattle.transcript_text.specs.declared.outcomes.LineRefusal.TheVariants.{Unknown as UnknownImage, Full as TooMany}
use Rattle.transcript_text.specs.declared.outcomes.LineRefusal.TheVariants.{StaticFull as NoSurplus, Permanent as Stays}
use Rattle.transcript_text.specs.declared.outcomes.LineRefusal.TheVariants.{NotOpen as IsClosed, Symbol as NoSymbol}
use Rattle.transcript_text.specs.declared.outcomes.LineRefusal.TheVariants.{Length as TooLong}
use Rattle.transcript_text.specs.declared.outcomes.Outcome.TheVariants.{Opened, Closed, Refused}
use Rattle.thread_blocks.specs.Instances.{Loads, instance_at, left_by}
use Rattle.thread_blocks.specs.Held.{Held, block_bytes, owned_by, loaded, looked, reached}
use Rattle.thread_blocks.specs.MachineTurns.{call_start, fresh_stack}
use Rattle.thread_blocks.specs.Turns.{Ending, Answered, Begun, Says, Calls, with_last}
use Rattle.std.specs.Option.{option_map_or}

-- a line of a thread, with its number, from 1
pub record Line : Type 0 where
  pub number : ℕ
  pub told : ThreadLine

-- ---- opens and closes

abbrev pub refused_open : OpenRefusal → LineRefusal
refused_open Unknown = UnknownImage
refused_open StaticFull = NoSurplus
refused_open refusal = TooMany

abbrev pub refused_close : CloseRefusal → LineRefusal
refused_close Permanent = Stays
refused_close refusal = IsClosed

abbrev pub unless_refused : {R : Type 0} → Option R → Event → Option Event
unless_refused None e = Some e
unless_refused (Some refusal) e = None

abbrev pub event_at : ℕ → ℕ → Bool → ℕ → Event
event_at thread number opens image = record { thread = thread; line = number; opens = opens; image = image }

-- the event that a line adds after those that its first look sees, if it adds one
abbrev pub event_by : {B : Type 0} → Loads B → ℕ → Line → List Event → Option Event
event_by l thread line seen = added line.told.action
  where
    added : Action → Option Event
    added Open = unless_refused (open_refusal (left_by l seen) line.told.image)
        (event_at thread line.number true line.told.image)
    added Close = unless_refused (close_refusal (left_by l seen) line.told.image)
        (event_at thread line.number false line.told.image)
    added action = None

-- ---- the start of a line

-- show: how a line ends that shows these bytes
module _ {W F B : Type 0} (ops : Operations W F B) (l : Loads B) (show : List B → Ending) (thread : ℕ) where
  abbrev pub refused : LineRefusal → Held W F B → Begun (Held W F B)
  refused refusal h = Says (Answered (Refused refusal)) h

  -- a call of the function at this address, with a fresh stack, and the blocks as the line before left them
  abbrev pub begun_at : List ℕ → ℕ → ℕ → ℕ → Held W F B → Option ℕ → Begun (Held W F B)
  begun_at symbol a b c h None = refused NoSymbol h
  begun_at symbol a b c h (Some place) = Calls (record h {
    after = left (call_start ops thread place a b c) (record h.after.memory { stack = fresh_stack ops });
  })

  abbrev pub begun_in : List ℕ → ℕ → ℕ → ℕ → Held W F B → Option Instance → Begun (Held W F B)
  begun_in symbol a b c h None = refused IsClosed h
  begun_in symbol a b c h (Some x) = begun_at symbol a b c h (l.function x symbol)

  -- an accepted event is seen at once, and a load fills its instance's data
  abbrev pub with_load : Bool → Option Instance → Held W F B → Held W F B
  with_load false (Some x) h = loaded l thread x h
  with_load was x h = h

  abbrev pub begun_open : Line → List Event → Held W F B → Option OpenRefusal → Begun (Held W F B)
  begun_open line seen h (Some refusal) = refused (refused_open refusal) h
  begun_open line seen h None =
      let all = with_last seen (event_at thread line.number true line.told.image) in
      let x = instance_at l all line.told.image in
      let was = is_loaded (module_of (left_by l seen) line.told.image) in
      Says (Answered (Opened (option_map_or (λ (x : Instance). x.number) x 0)))
      (with_load was x (looked l thread all h))

  abbrev pub begun_close : Line → List Event → Held W F B → Option CloseRefusal → Begun (Held W F B)
  begun_close line seen h (Some refusal) = refused (refused_close refusal) h
  begun_close line seen h None =
      Says (Answered Closed)
      (looked l thread (with_last seen (event_at thread line.number false line.told.image)) h)

  -- bytes of a block, if they all lie in it
  abbrev pub shown_in : Held W F B → ℕ → ℕ → Option (List B) → Begun (Held W F B)
  shown_in h size offset None = refused TooLong h
  shown_in h size offset (Some bytes) = if nat_le (offset + size) (length bytes)
      then Says (show (slice_range bytes offset (offset + size))) h
      else refused TooLong h

  abbrev pub shown_from : Held W F B → ℕ → Instance → Option ℕ → Begun (Held W F B)
  shown_from h size x None = refused NoSymbol h
  shown_from h size x (Some offset) = shown_in h size offset (block_bytes x.number (owned_by h))

  -- a line that is refused for its symbol or its length has still reached the block
  abbrev pub begun_peek : Line → List ℕ → ℕ → Held W F B → Option Instance → Begun (Held W F B)
  begun_peek line symbol size h None = refused IsClosed h
  begun_peek line symbol size h (Some x) =
      shown_from (reached l thread x h) size x (l.variable line.told.image symbol)

  abbrev pub begun_by : Line → List Event → Held W F B → Action → Begun (Held W F B)
  begun_by line seen h (Call symbol a b c) = begun_in symbol a b c h (instance_at l seen line.told.image)
  begun_by line seen h Open = begun_open line seen h (open_refusal (left_by l seen) line.told.image)
  begun_by line seen h Close = begun_close line seen h (close_refusal (left_by l seen) line.told.image)
  begun_by line seen h (Peek symbol size) = begun_peek line symbol size h (instance_at l seen line.told.image)

  -- a line's first look
  unfoldable pub begin_line : Line → List Event → Held W F B → Begun (Held W F B)
  begin_line line seen h = begun_by line seen (looked l thread seen h) line.told.action
