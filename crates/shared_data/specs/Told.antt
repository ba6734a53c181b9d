-- All changes of data in a job, in the order of its turns.
use Rattle.std.specs.Prelude.{ℕ, zero, suc, ◌-◌, Bool, true, false, List, [], ◌∷◌, ◌++◌, Option, Some, None}
use Rattle.std.specs.Prelude.{if◌then◌else◌}
use Rattle.std.specs.List.{flat_map}
use Rattle.guest_operands.specs.declared.stop.Stop.{Stop}
use Rattle.guest_machine.specs.Ranges.{Range}
use Rattle.guest_machine.specs.Run.{Next, Goes, Ends, Looks, Stepping}
use Rattle.loaded_modules.specs.declared.instance.Instance.{Instance}
use Rattle.module_table.specs.declared.events.Event.{Event}
use Rattle.module_table.specs.Modules.{is_loaded}
use Rattle.module_table.specs.Past.{module_of}
use Rattle.thread_blocks.specs.Held.{Held}
use Rattle.thread_blocks.specs.Instances.{Loads, instance_at, instances, left_by}
use Rattle.thread_blocks.specs.JobWorlds.{Shared, shared_turn, with_data}
use Rattle.thread_blocks.specs.Turns.{Begun, Says, Calls, Phase, Idle, Mid, Thread, Turns, at_number, event_of}
use Rattle.thread_blocks.specs.Turns.{with_last}
use Rattle.shared_data.specs.Changes.{Change, Filled}

-- ** loads

abbrev pub filled_with : {B : Type 0} → ℕ → Option (Range B) → List (Change B)
filled_with number None = []
filled_with number (Some range) = Filled number range.bytes ∷ []

module _ {B : Type 0} (l : Loads B) where
  -- a load fills the data of its instance, if its image has any
  abbrev pub filled : Instance → List (Change B)
  filled x = filled_with x.number (l.shared x)

  -- was: the image was loaded before
  abbrev pub filled_unless : Bool → Option Instance → List (Change B)
  filled_unless true x = []
  filled_unless false None = []
  filled_unless false (Some x) = filled x

  -- the fill of an event: of an open of an image that was not loaded
  abbrev pub filled_by : List Event → Option Event → List (Change B)
  filled_by seen None = []
  filled_by seen (Some e) = if e.opens
      then filled_unless (is_loaded (module_of (left_by l seen) e.image)) (instance_at l (with_last seen e) e.image)
      else []

  -- what is filled before the first turn
  abbrev pub first_filled : List (Change B)
  first_filled = flat_map filled (instances l [])

-- ** runs

abbrev pub unless_over : {C : Type 0} → Option Stop → List C → List C
unless_over None told = told
unless_over (Some stop) told = []

-- the changes of a step and those after it; a step that is refused changes nothing
abbrev pub step_told : {S C : Type 0} → List C → (S → List C) → Next S → List C
step_told now more (Goes s) = now ++ more s
step_told now more (Ends stop) = []
step_told now more (Looks s) = now

-- the changes of a run of at most this many steps; changes: those of a step
abbrev pub run_told : {S C : Type 0} → Stepping S → (S → List C) → ℕ → S → List C
run_told x changes zero s = []
run_told x changes (suc n) s = unless_over (x.over s) (step_told (changes s) (run_told x changes n) (x.step s))

-- ** turns

abbrev pub called : {S : Type 0} → ℕ → Begun S → Option (ℕ × S)
called steps (Says ending s) = None
called steps (Calls s) = Some (steps, s)

-- the most steps of a thread's next turn, and the state where they begin, if it makes any
abbrev pub steps_of : {S L E : Type 0} → Turns S L E → List L → Phase S → List E → Option (ℕ × S)
steps_of x [] (Idle s) seen = None
steps_of x (line ∷ todo) (Idle s) seen = called x.fuel (x.begin line seen s)
steps_of x todo (Mid left points s) seen = called (left - 1) (x.resume seen s)

abbrev pub steps_told : {S C : Type 0} → Stepping S → (S → List C) → Option (ℕ × S) → List C
steps_told x changes None = []
steps_told x changes (Some from) = run_told x changes from.0 from.1

-- ** jobs

module _ {W F B L : Type 0} (l : Loads B) (x : ℕ → Turns (Held W F B) L Event)
    (event : ℕ → L → List Event → Option Event) (changes : ℕ → Held W F B → List (Change B)) where
  -- where the steps of a thread's next turn begin, while it holds the data
  abbrev pub begins : Shared W F B L → ℕ → Thread (Held W F B) L Event → Option (ℕ × Held W F B)
  begins w i t = let t = with_data w.shared t in steps_of (x i) t.todo t.phase w.events

  abbrev pub turn_filled : Shared W F B L → ℕ → Thread (Held W F B) L Event → List (Change B)
  turn_filled w i t = filled_by l w.events (event_of (event i) t w.events)

  -- the changes of a turn of thread i: its load, if it makes one, and what its steps write
  abbrev pub turn_told : Shared W F B L → ℕ → Option (Thread (Held W F B) L Event) → List (Change B)
  turn_told w i None = []
  turn_told w i (Some t) = turn_filled w i t ++ steps_told (x i).steps (changes i) (begins w i t)

  -- the changes of all turns, in their order
  abbrev pub order_told : List ℕ → Shared W F B L → List (Change B)
  order_told [] w = []
  order_told (i ∷ order) w = turn_told w i (at_number w.threads i)
      ++ order_told order (shared_turn x event w i (at_number w.threads i))
