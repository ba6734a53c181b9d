-- All threads of a job, and the data that they share: each turn begins with the data as the turn before left them. And
-- what a transcript says of it.
use Rattle.std.specs.Prelude.{◌≡◌, ℕ, ◌*◌, Bool, true, suc, not, List, [], ◌∷◌, ◌++◌, map, Option, Some, None}
use Rattle.std.specs.List.{filter, flat_map}
use Rattle.guest_machine.specs.Use.{left}
use Rattle.guest_arithmetic.specs.Plain.{plain_operations}
use Rattle.guest_machine.specs.State.{start_of}
use Rattle.job_text.specs.declared.thread_lines.ThreadLine.{ThreadLine}
use Rattle.module_table.specs.declared.events.Event.{Event}
use Rattle.transcript_text.specs.Texts.{Shown}
use Rattle.thread_blocks.specs.Held.{Held, Owned, owned_by, with_owned, data_after, is_block, looked}
use Rattle.thread_blocks.specs.Instances.{Loads, instances}
use Rattle.thread_blocks.specs.Lines.{Line, event_by}
use Rattle.thread_blocks.specs.MachineTurns.{shown}
use Rattle.thread_blocks.specs.RunTime.{thread_turns}
use Rattle.thread_blocks.specs.Turns.{Phase, Idle, Mid, Thread, Turns, at_number, with_number, event_of, ready, turn}
use Rattle.thread_blocks.specs.Turns.{whole_order, with_event}
use Rattle.guest_arithmetic.specs.Values.{Operations}

-- B: a byte
pub record Shared (W F B L : Type 0) : Type 0 where
  pub threads : List (Thread (Held W F B) L Event)
  pub events : List Event
  pub shared : List (Owned B)

abbrev pub blocks_in : {B : Type 0} → List (Owned B) → List (Owned B)
blocks_in xs = filter (λ x. is_block x.owner.kind) xs

abbrev pub data_in : {B : Type 0} → List (Owned B) → List (Owned B)
data_in xs = filter (λ x. not (is_block x.owner.kind)) xs

module _ {W F B : Type 0} where
  abbrev pub changed : (Held W F B → Held W F B) → Phase (Held W F B) → Phase (Held W F B)
  changed f (Idle h) = Idle (f h)
  changed f (Mid steps points h) = Mid steps points (f h)

  abbrev pub held_in : Phase (Held W F B) → Held W F B
  held_in (Idle h) = h
  held_in (Mid steps points h) = h

  -- a thread that holds the shared data, and one without
  abbrev pub with_data : {L : Type 0} → List (Owned B) → Thread (Held W F B) L Event → Thread (Held W F B) L Event
  with_data xs t = record t { phase = changed (λ h. with_owned h (owned_by h ++ xs)) t.phase }

  abbrev pub without_data : {L : Type 0} → Thread (Held W F B) L Event → Thread (Held W F B) L Event
  without_data t = record t { phase = changed (λ h. with_owned h (blocks_in (owned_by h))) t.phase }

  module _ {L : Type 0} (x : ℕ → Turns (Held W F B) L Event) (event : ℕ → L → List Event → Option Event) where
    -- a turn of thread i, which holds the data
    abbrev pub shared_turn : Shared W F B L → ℕ → Option (Thread (Held W F B) L Event) → Shared W F B L
    shared_turn w i None = w
    shared_turn w i (Some t) = let after = turn (x i) (with_data w.shared t) w.events in record {
      threads = with_number w.threads i (without_data after);
      events = with_event w.events (event_of (event i) t w.events);
      shared = data_in (owned_by (held_in after.phase));
    }

    abbrev pub shared_order : List ℕ → Shared W F B L → Shared W F B L
    shared_order [] w = w
    shared_order (i ∷ order) w = shared_order order (shared_turn w i (at_number w.threads i))

-- a transcript shows all turns of a job: the history that they left, and the result of each line, thread by thread
pub record Tells {W F B : Type 0} (w : Shared W F B Line) (transcript : Shown) : Type 0 where
  pub events : transcript.events ≡ w.events
  pub lines : map (map Some) transcript.threads ≡ map (λ t. map shown t.said) w.threads

-- ---- before the first turn

abbrev pub numbered_lines : ℕ → List ThreadLine → List Line
numbered_lines number [] = []
numbered_lines number (line ∷ lines) = record { number = number; told = line } ∷ numbered_lines (suc number) lines

-- before the first turn the data are those of the startup images
abbrev pub first_data : {B : Type 0} → Loads B → List (Owned B)
first_data l = flat_map (data_after l (λ x. true) []) (instances l [])

module _ {W F B : Type 0} (ops : Operations W F B) (l : Loads B) where
  -- a thread before its first line: it has the blocks of the startup images
  abbrev pub thread_ready : ℕ → Held W F B
  thread_ready thread = looked l thread [] (record {
    after = left (start_of ops 0 0 (ops.word 0) (ops.word 0) (ops.word 0)) (record { seen = []; stack = []; own = [] });
    owners = [];
    asked = None;
  })

  abbrev pub ready_from : ℕ → List (List ThreadLine) → List (Thread (Held W F B) Line Event)
  ready_from thread [] = []
  ready_from thread (lines ∷ more) =
      ready (thread_ready thread) (numbered_lines 1 lines) ∷ ready_from (suc thread) more

  abbrev pub job_start : List (List ThreadLine) → Shared W F B Line
  job_start lines = record { threads = ready_from 1 lines; events = []; shared = first_data l }

-- ---- the machine's threads

-- all turns of a job: those of its order, and then each thread up to its end
unfoldable pub job_world : Loads ℕ → ℕ → List (List ThreadLine) → List ℕ → Shared ℕ Bool ℕ Line
job_world l fuel lines order = shared_order (λ thread. thread_turns l thread fuel) (λ thread. event_by l thread)
    (whole_order (4 * fuel) lines order) (job_start plain_operations l lines)
