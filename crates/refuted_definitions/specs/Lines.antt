-- What lines print and how many steps they take (thread_blocks, Lines, RunTime and Turns), with one word changed. Each
-- makes a law of line_laws false.
use Rattle.std.specs.Prelude.{◌≡◌, ◌+◌, ◌-◌, ◌*◌, ℕ, Bool, nat_le, nat_lt, List, ◌∷◌, length, slice_range}
use Rattle.std.specs.Prelude.{Option, Some, None, if◌then◌else◌}
use Rattle.guest_arithmetic.specs.Plain.{plain_operations}
use Rattle.guest_operands.specs.declared.stop.Stop.TheVariants.{Steps}
use Rattle.job_text.specs.declared.thread_lines.Action.{Action}
use Rattle.job_text.specs.declared.thread_lines.Action.TheVariants.{Call, Open, Close, Peek}
use Rattle.loaded_modules.specs.declared.instance.Instance.{Instance}
use Rattle.module_table.specs.declared.events.Event.{Event}
use Rattle.module_table.specs.Past.{IsLegal}
use Rattle.transcript_text.specs.declared.outcomes.LineRefusal.{LineRefusal}
use Rattle.transcript_text.specs.declared.outcomes.LineRefusal.TheVariants.{NotOpen, Symbol, Length}
use Rattle.transcript_text.specs.declared.outcomes.Outcome.TheVariants.{Refused}
use Rattle.thread_blocks.specs.Held.{block_bytes, looked, owned_by, reached}
use Rattle.thread_blocks.specs.Instances.{Loads, instance_at}
use Rattle.thread_blocks.specs.Lines.{Line, begin_line}
use Rattle.thread_blocks.specs.RunTime.{Runs, shows, thread_turns}
use Rattle.thread_blocks.specs.Turns.{Answered, Begun, Said, Says, Stopped, Turns}
use Rattle.line_laws.specs.Counted.{EndsSo, HasTaken}
use Rattle.line_laws.specs.Printed.{IsFirstLook}

-- ** first looks

-- the statement of `first_looks_are_ruled` for the machine's lines, of any first look
abbrev pub FirstLooksBy : (Loads ℕ → ℕ → Line → List Event → Runs → Begun Runs) → Type 0
FirstLooksBy begin = (l : Loads ℕ) (thread : ℕ) (line : Line) (seen : List Event) → IsLegal l.infos l.last_offset seen
    → (held : Runs) → IsFirstLook l line seen (begin l thread line seen held) thread (shows l thread) held

-- `begin_line` of the machine, over any test of a peek's length, and any refusals of a call that finds no function and
-- of a call of an image that is not open
module _ (fits : ℕ → ℕ → Bool) (no_function not_open : LineRefusal) (l : Loads ℕ) (thread : ℕ) where
  abbrev pub refuse : LineRefusal → Runs → Begun Runs
  refuse refusal h = Says (Answered (Refused refusal)) h

  abbrev pub call_at : Line → List Event → Runs → Option ℕ → Begun Runs
  call_at line seen h None = refuse no_function (looked l thread seen h)
  call_at line seen h (Some place) = begin_line plain_operations l (shows l thread) thread line seen h

  abbrev pub call_in : Line → List Event → List ℕ → Runs → Option Instance → Begun Runs
  call_in line seen symbol h None = refuse not_open (looked l thread seen h)
  call_in line seen symbol h (Some x) = call_at line seen h (l.function x symbol)

  abbrev pub shown_in : Runs → ℕ → ℕ → Option (List ℕ) → Begun Runs
  shown_in h size offset None = refuse Length h
  shown_in h size offset (Some bytes) = if fits (offset + size) (length bytes)
      then Says (shows l thread (slice_range bytes offset (offset + size))) h
      else refuse Length h

  abbrev pub shown_from : Runs → ℕ → Instance → Option ℕ → Begun Runs
  shown_from h size x None = refuse Symbol h
  shown_from h size x (Some offset) = shown_in h size offset (block_bytes x.number (owned_by h))

  abbrev pub peek_in : Line → List ℕ → ℕ → Runs → Option Instance → Begun Runs
  peek_in line symbol size h None = refuse NotOpen h
  peek_in line symbol size h (Some x) =
      shown_from (reached l thread x h) size x (l.variable line.told.image symbol)

  abbrev pub begin_for : Line → List Event → Runs → Action → Begun Runs
  begin_for line seen h (Call symbol a b c) =
      call_in line seen symbol h (instance_at l seen line.told.image)
  begin_for line seen h Open = begin_line plain_operations l (shows l thread) thread line seen h
  begin_for line seen h Close = begin_line plain_operations l (shows l thread) thread line seen h
  begin_for line seen h (Peek symbol size) =
      peek_in line symbol size (looked l thread seen h) (instance_at l seen line.told.image)

  abbrev pub begin_by : Line → List Event → Runs → Begun Runs
  begin_by line seen h = begin_for line seen h line.told.action

-- ** steps

-- the statement of `machine_steps_are_counted`, of any lines of a thread
pub record AreCountedBy (x : Turns Runs Line Event) (fuel : ℕ) (line : Line) (todo : List Line) (held : Runs)
    (earlier : List Said) (seen first : List Event) (more : List (List Event)) : Type 0 where
  pub taken : (place : ℕ)
      → EndsSo x line todo held earlier seen (first ∷ more) (Stopped (Steps place))
      → (t : Runs) × (HasTaken x (4 * fuel) line held first more t × (t.after.state.place ≡ place))
  pub said : (t : Runs) → HasTaken x (4 * fuel) line held first more t
      → EndsSo x line todo held earlier seen (first ∷ more) (Stopped (Steps t.after.state.place))

abbrev pub MachineStepsBy : (Loads ℕ → ℕ → ℕ → Turns Runs Line Event) → Type 0
MachineStepsBy thread_turns = (l : Loads ℕ) (thread fuel : ℕ) (line : Line) (todo : List Line) (held : Runs)
    (earlier : List Said) (seen first : List Event) (more : List (List Event))
    → AreCountedBy (thread_turns l thread fuel) fuel line todo held earlier seen first more

-- `thread_turns`: four more steps than `fuel`, in place of four times as many
abbrev pub turns_of_sum : Loads ℕ → ℕ → ℕ → Turns Runs Line Event
turns_of_sum l thread fuel = record (thread_turns l thread fuel) { fuel = 4 + fuel }

pub record LinesAreRefuted : Type 0 where
  -- `shown_in`: `<` for `≤`
  pub last_byte_is_not_shown : FirstLooksBy (begin_by nat_lt Symbol NotOpen) → ⊥
  -- `begun_at`: `not-open` for `symbol`
  pub missing_function_is_not_open : FirstLooksBy (begin_by nat_le NotOpen NotOpen) → ⊥
  -- `begun_in`: `symbol` for `not-open`
  pub closed_image_lacks_the_symbol : FirstLooksBy (begin_by nat_le Symbol Symbol) → ⊥
  pub fuel_is_added : MachineStepsBy turns_of_sum → ⊥
