-- What a line's first look prints: an open and a close the registry's answer, a call and a peek their refusals in this
-- order. It watches `begin_line` and `event_by` (thread_blocks, Lines), `instance_at` (Instances), and how a look and a
-- peek reach a block (Held).
use Rattle.std.specs.Prelude.{◌≡◌, ◌↔◌, ◌⊎◌, ◌+◌, ◌<◌, ◌≤◌, ℕ, true, false, List, length, slice_range, Option, Some}
use Rattle.std.specs.Prelude.{None, Result, Ok, Err}
use Rattle.job_text.specs.declared.thread_lines.Action.TheVariants.{Call, Open, Close, Peek}
use Rattle.loaded_modules.specs.declared.instance.Instance.{Instance}
use Rattle.module_table.specs.declared.events.Closed.{Closed as WasClosed}
use Rattle.module_table.specs.declared.events.CloseRefusal.{CloseRefusal}
use Rattle.module_table.specs.declared.events.CloseRefusal.TheVariants.{Permanent, NotOpen}
use Rattle.module_table.specs.declared.events.CloseRefusal.TheVariants.{OutOfMemory as NoRoomToClose}
use Rattle.module_table.specs.declared.events.Event.{Event}
use Rattle.module_table.specs.declared.events.Opened.{Opened as WasOpened}
use Rattle.module_table.specs.declared.events.OpenRefusal.{OpenRefusal}
use Rattle.module_table.specs.declared.events.OpenRefusal.TheVariants.{Unknown, Full, StaticFull}
use Rattle.module_table.specs.declared.events.OpenRefusal.TheVariants.{OutOfMemory as NoRoomToOpen}
use Rattle.module_table.specs.History.{History, close_answer, open_answer}
use Rattle.module_table.specs.Past.{IsLegal}
use Rattle.transcript_text.specs.declared.outcomes.LineRefusal.{LineRefusal}
use Rattle.transcript_text.specs.declared.outcomes.LineRefusal.TheVariants as refused
use Rattle.transcript_text.specs.declared.outcomes.Outcome.{Outcome}
use Rattle.transcript_text.specs.declared.outcomes.Outcome.TheVariants.{Opened, Closed, Refused}
use Rattle.thread_blocks.specs.Held.{Held, block_bytes, owned_by}
use Rattle.thread_blocks.specs.Instances.{Loads, instance_at}
use Rattle.thread_blocks.specs.Lines.{Line, event_by}
use Rattle.thread_blocks.specs.RunTime.{Runs, shows, thread_turns}
use Rattle.thread_blocks.specs.Turns.{Answered, Begun, Calls, Ending, Says}
use Rattle.whole_meaning.specs.Meanings.{Meaning}
use Rattle.whole_meaning.specs.Threads.{Meant, meant_show, meant_turns}
use Rattle.line_laws.specs.Histories.{IsGone, IsLive}

-- ** the registry's answers

-- the registry after the events that a look saw, with memory for some more
abbrev pub registry : {B : Type 0} → Loads B → List Event → ℕ → History
registry l seen spare = record { infos = l.infos; last_offset = l.last_offset; events = seen; spare = spare }

-- its answer to an open as a line prints it
abbrev pub IsOfOpen : Result WasOpened OpenRefusal → Outcome → Type 0
IsOfOpen (Ok it) outcome = outcome ≡ Opened it.instance
IsOfOpen (Err Unknown) outcome = outcome ≡ Refused refused.Unknown
IsOfOpen (Err Full) outcome = outcome ≡ Refused refused.Full
IsOfOpen (Err StaticFull) outcome = outcome ≡ Refused refused.StaticFull
IsOfOpen (Err NoRoomToOpen) outcome = ⊥

-- and to a close
abbrev pub IsOfClose : Result WasClosed CloseRefusal → Outcome → Type 0
IsOfClose (Ok it) outcome = outcome ≡ Closed
IsOfClose (Err Permanent) outcome = outcome ≡ Refused refused.Permanent
IsOfClose (Err NotOpen) outcome = outcome ≡ Refused refused.NotOpen
IsOfClose (Err NoRoomToClose) outcome = ⊥

-- the event is added where the registry takes it
abbrev pub IsAdded : {A R : Type 0} → Result A R → Event → Option Event → Type 0
IsAdded (Ok it) event added = added ≡ Some event
IsAdded (Err why) event added = added ≡ None

-- ** what a first look does

module _ {S : Type 0} (begun : Begun S) where
  abbrev pub Prints : Outcome → Type 0
  Prints outcome = (s : S) × (begun ≡ Says (Answered outcome) s)

  abbrev pub Refuses : LineRefusal → Type 0
  Refuses refusal = Prints (Refused refusal)

  abbrev pub Begins : Type 0
  Begins = (s : S) × (begun ≡ Calls s)

module _ {B : Type 0} (l : Loads B) (line : Line) (seen : List Event) where
  -- the current instance of the line's image
  abbrev pub IsCurrent : Instance → Type 0
  IsCurrent x = instance_at l seen line.told.image ≡ Some x

  module _ {W F : Type 0} (held : Held W F B) where
    -- the thread's block of an instance: the one that it holds, or if it holds none a fresh one
    abbrev pub IsBlock : Instance → List B → Type 0
    IsBlock x bytes = (block_bytes x.number (owned_by held) ≡ Some bytes)
        ⊎ ((block_bytes x.number (owned_by held) ≡ None) × (bytes ≡ l.block x))

    -- the variable of a name, in the thread's block
    pub record IsFound (symbol : List ℕ) (x : Instance) (offset : ℕ) (bytes : List B) : Type 0 where
      pub current : IsCurrent x
      pub found : l.variable line.told.image symbol ≡ Some offset
      pub block : IsBlock x bytes

module _ {W F B : Type 0} (l : Loads B) (line : Line) (seen : List Event) (begun : Begun (Held W F B)) where
  -- an open prints the registry's answer
  pub record PrintsOpen (thread spare : ℕ) : Type 0 where
    pub outcome : Outcome
    pub printed : Prints begun outcome
    pub answer : IsOfOpen (open_answer (registry l seen spare) line.told.image) outcome
    pub added : IsAdded (open_answer (registry l seen spare) line.told.image)
        (record { thread = thread; line = line.number; opens = true; image = line.told.image })
        (event_by l thread line seen)

  -- and so does a close
  pub record PrintsClose (thread spare : ℕ) : Type 0 where
    pub outcome : Outcome
    pub printed : Prints begun outcome
    pub answer : IsOfClose (close_answer (registry l seen spare) line.told.image) outcome
    pub added : IsAdded (close_answer (registry l seen spare) line.told.image)
        (record { thread = thread; line = line.number; opens = false; image = line.told.image })
        (event_by l thread line seen)

  -- a call is refused `not-open` if the image has no current instance, else `symbol` if that has no such function
  pub record IsCall (symbol : List ℕ) : Type 0 where
    pub not_open : Refuses begun refused.NotOpen ↔ IsGone l.infos seen line.told.image
    pub no_symbol : Refuses begun refused.Symbol
        ↔ ((x : Instance) × (IsCurrent l line seen x × (l.function x symbol ≡ None)))
    pub begins : Begins begun
        ↔ ((x : Instance) × ((place : ℕ) × (IsCurrent l line seen x × (l.function x symbol ≡ Some place))))

  -- a peek is refused `not-open` if the image has no current instance, else `symbol` if the image has no such variable,
  -- else `length` if not all bytes lie in the block
  pub record IsPeek (show : List B → Ending) (held : Held W F B) (symbol : List ℕ) (size : ℕ) : Type 0 where
    pub not_open : Refuses begun refused.NotOpen ↔ IsGone l.infos seen line.told.image
    pub no_symbol : Refuses begun refused.Symbol
        ↔ (IsLive l.infos seen line.told.image × (l.variable line.told.image symbol ≡ None))
    pub too_long : Refuses begun refused.Length
        ↔ ((x : Instance) × ((offset : ℕ) × ((bytes : List B)
        × (IsFound l line seen held symbol x offset bytes × (length bytes < offset + size)))))
    pub shown : (x : Instance) (offset : ℕ) (bytes : List B) → IsFound l line seen held symbol x offset bytes
        → offset + size ≤ length bytes
        → (s : Held W F B) × (begun ≡ Says (show (slice_range bytes offset (offset + size))) s)

  pub record IsFirstLook (thread : ℕ) (show : List B → Ending) (held : Held W F B) : Type 0 where
    pub opens : line.told.action ≡ Open → (spare : ℕ) → PrintsOpen thread spare
    pub closes : line.told.action ≡ Close → (spare : ℕ) → PrintsClose thread spare
    pub calls : (symbol : List ℕ) (a b c : ℕ) → line.told.action ≡ Call symbol a b c → IsCall symbol
    pub peeks : (symbol : List ℕ) (size : ℕ) → line.told.action ≡ Peek symbol size → IsPeek show held symbol size

-- ** the law: of the machine's lines, and of those of the meaning

abbrev pub FirstLooksAreRuled : Type 0
FirstLooksAreRuled = (l : Loads ℕ) (m : Meaning) (thread fuel : ℕ) (line : Line) (seen : List Event)
    → (IsLegal l.infos l.last_offset seen → (held : Runs)
    → IsFirstLook l line seen ((thread_turns l thread fuel).begin line seen held) thread (shows l thread) held)
    × (IsLegal m.loads.infos m.loads.last_offset seen → (held : Meant)
    → IsFirstLook m.loads line seen ((meant_turns m thread fuel).begin line seen held) thread
    (meant_show m thread line seen) held)
