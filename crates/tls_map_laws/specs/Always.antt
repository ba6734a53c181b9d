-- A thread has what the map says at all times: between its turns, and after any steps of one. And so it prints.
use Rattle.std.specs.Prelude.{◌≡◌, ◌+◌, ◌≤◌, ℕ, List, [], ◌∷◌, length, Option, Some}
use Rattle.guest_machine.specs.Access.{Accesses}
use Rattle.guest_machine.specs.Run.{run}
use Rattle.guest_machine.specs.RunLaws.{state_after}
use Rattle.job_text.specs.declared.thread_lines.Action.TheVariants.{Peek}
use Rattle.loaded_modules.specs.declared.instance.Instance.{Instance}
use Rattle.module_table.specs.declared.events.Event.{Event}
use Rattle.shared_data.specs.Told.{steps_of}
use Rattle.thread_blocks.specs.Held.{Held}
use Rattle.thread_blocks.specs.Instances.{Loads, instance_at}
use Rattle.thread_blocks.specs.JobWorlds.{Shared, held_in, shared_order, with_data}
use Rattle.thread_blocks.specs.Lines.{Line, event_by}
use Rattle.thread_blocks.specs.Spaces.{Space}
use Rattle.thread_blocks.specs.Turns.{Ending, Idle, Said, Thread, Turns, event_of, turn, turns, with_event, with_last}
use Rattle.tls_map_laws.specs.Map.{Act, bytes_of}
use Rattle.tls_map_laws.specs.Moments.{AreMap}
use Rattle.tls_map_laws.specs.Told.{AtRising, begin_acts, first_acts, look_acts, order_acts, run_acts, turns_acts}

-- show: how a line ends that shows these bytes
module _ {W F B : Type 0} (l : Loads B) (thread : ℕ) (x : Turns (Held W F B) Line Event) (initial : Instance → List B)
    (zero_byte : B) (show : Line → List Event → List B → Ending) where
  -- if a thread that did this peeks at bytes of a live image's variable in its next turn, which sees these events, then
  -- it shows those of the map
  abbrev pub PeeksShow : List (Act B) → Thread (Held W F B) Line Event → List Event → Type 0
  PeeksShow acts t seen = (number image : ℕ) (symbol : List ℕ) (size : ℕ) (todo : List Line) (h : Held W F B)
      (said : List Said) (old : List Event) (y : Instance) (offset : ℕ)
      → let line : Line = record { number = number; told = record { image = image; action = Peek symbol size } } in
      t ≡ record { todo = line ∷ todo; phase = Idle h; said = said; seen = old }
      → instance_at l seen image ≡ Some y → l.variable image symbol ≡ Some offset
      → offset + size ≤ length (l.block y)
      → (turn x t seen).said ≡ with_last said (record {
        points = length seen ∷ [];
        ending = show line seen
            (bytes_of (initial y) zero_byte y.number offset size (begin_acts l thread line seen acts));
      })

-- ** one thread by itself, with what its turns see

module _ {W F B : Type 0} (l : Loads B) (thread : ℕ) (x : Turns (Held W F B) Line Event)
    (step_acts : List (Act B) → Held W F B → List (Act B)) (asks : List Event → Held W F B → Option Instance)
    (acc : Accesses (Space Event B) B) (initial : Instance → List B) (zero_byte : B)
    (show : Line → List Event → List B → Ending) (history : List Event) (first : Thread (Held W F B) Line Event) where
  -- what it did in these turns
  abbrev pub did : List (List Event) → List (Act B)
  did points = turns_acts l thread x step_acts asks first points (first_acts l)

  -- after these turns it has what the map says
  abbrev pub HasMapAfter : List (List Event) → Type 0
  HasMapAfter points = AreMap l thread acc initial zero_byte history (did points) (held_in (turns x first points).phase)

  -- and so it has after any number of steps of the turn that follows
  abbrev pub HasMapWithin : List (List Event) → List Event → Type 0
  HasMapWithin points seen = (from : ℕ × Held W F B) (n : ℕ)
      → let t = turns x first points in
      steps_of x t.todo t.phase seen ≡ Some from
      → AreMap l thread acc initial zero_byte history (run_acts l thread x step_acts asks n from.1
      (look_acts l thread x step_acts asks t.todo t.phase seen (did points)))
      (state_after (run x.steps n from.1))

  -- at any rising points
  pub record HasMap : Type 0 where
    pub between : (points : List (List Event)) → AtRising x (event_by l thread) history first points
        → HasMapAfter points
    pub within : (points : List (List Event)) (seen : List Event)
        → AtRising x (event_by l thread) history first (with_last points seen) → HasMapWithin points seen
    pub peeks : (points : List (List Event)) (seen : List Event)
        → AtRising x (event_by l thread) history first (with_last points seen)
        → PeeksShow l thread x initial zero_byte show (did points) (turns x first points) seen

-- ** all threads of a job, in any order of turns, each of which begins with the data that the turn before left

module _ {W F B : Type 0} (l : Loads B) (x : ℕ → Turns (Held W F B) Line Event)
    (step_acts : ℕ → List (Act B) → Held W F B → List (Act B)) (asks : ℕ → List Event → Held W F B → Option Instance)
    (acc : ℕ → Accesses (Space Event B) B) (initial : Instance → List B) (zero_byte : B)
    (show : ℕ → Line → List Event → List B → Ending) (start : Shared W F B Line) where
  abbrev pub world : List ℕ → Shared W F B Line
  world order = shared_order x (λ (i : ℕ). event_by l i) order start

  -- what a thread did in its turns among these
  abbrev pub did_in : List ℕ → ℕ → List (Act B)
  did_in order thread = order_acts l x step_acts asks thread order start (first_acts l)

  pub record OrdersHaveMap (order : List ℕ) (thread : ℕ) (t : Thread (Held W F B) Line Event) : Type 0 where
    pub between : AreMap l thread (acc thread) initial zero_byte (world order).events (did_in order thread)
        (held_in t.phase)
    pub within : (from : ℕ × Held W F B) (n : ℕ)
        → let own = with_data (world order).shared t in
        let seen = (world order).events in
        steps_of (x thread) own.todo own.phase seen ≡ Some from
        → AreMap l thread (acc thread) initial zero_byte (with_event seen (event_of (event_by l thread) t seen))
        (run_acts l thread (x thread) (step_acts thread) (asks thread) n from.1
        (look_acts l thread (x thread) (step_acts thread) (asks thread) own.todo own.phase seen (did_in order thread)))
        (state_after (run (x thread).steps n from.1))
    pub peeks : PeeksShow l thread (x thread) initial zero_byte (show thread) (did_in order thread)
        (with_data (world order).shared t) (world order).events
