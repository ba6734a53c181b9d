-- Thread-local storage is a map: the laws, of the machine and of the meaning.
use Rattle.std.specs.Prelude.{◌≡◌, ◌≤◌, ℕ, Bool, List, ◌∷◌, ◌++◌, Some}
use Rattle.job_meaning.specs.declared.values.Byte.TheVariants.{Value}
use Rattle.job_text.specs.declared.thread_lines.ThreadLine.{ThreadLine}
use Rattle.lawful_points.specs.Raced.{IsRacer, first_of}
use Rattle.link_needs.specs.Linking.{Linking}
use Rattle.linked_jobs.specs.Ready.{AreJob, AreReady}
use Rattle.loaded_bytes.specs.Laws.{images_of}
use Rattle.module_table.specs.declared.events.Event.{Event}
use Rattle.module_table.specs.Past.{IsLegal}
use Rattle.thread_blocks.specs.Held.{Held}
use Rattle.thread_blocks.specs.Instances.{Loads}
use Rattle.thread_blocks.specs.JobLoads.{job_loads}
use Rattle.thread_blocks.specs.JobWorlds.{job_start, numbered_lines, shared_order, thread_ready}
use Rattle.thread_blocks.specs.Lines.{Line, event_by}
use Rattle.thread_blocks.specs.RunTime.{shows, thread_accesses, thread_turns}
use Rattle.thread_blocks.specs.Turns.{Ending, Thread, at_number, ready}
use Rattle.transcript_text.specs.declared.outcomes.Line.{Line as ShownLine}
use Rattle.whole_meaning.specs.Loads.{meaning_of}
use Rattle.whole_meaning.specs.Threads.{Meant, meant_accesses, meant_show, meant_turns, ops}
use Rattle.tls_map_laws.specs.Always.{HasMap, HasMapAfter, HasMapWithin, OrdersHaveMap}
use Rattle.tls_map_laws.specs.Initial.{initial_image, initial_meant}
use Rattle.tls_map_laws.specs.Machine.{machine_acts, machine_asks}
use Rattle.tls_map_laws.specs.Meaning.{meant_acts, meant_asks}
use Rattle.guest_arithmetic.specs.Plain.{plain_operations}

-- ** the machine

-- how its lines end that show bytes
abbrev pub machine_show : Loads ℕ → ℕ → Line → List Event → List ℕ → Ending
machine_show l thread line seen bytes = shows l thread bytes

module _ (ls : List Linking) where
  abbrev pub loads : Loads ℕ
  loads = job_loads (images_of ls)

  abbrev pub IsHistory : List Event → Type 0
  IsHistory history = IsLegal loads.infos loads.last_offset history

  module _ (fuel thread : ℕ) (own : List ThreadLine) (history : List Event) where
    abbrev pub MachineHasMap : Type 0
    MachineHasMap = HasMap loads thread (thread_turns loads thread fuel) (machine_acts loads thread)
        (machine_asks loads thread) (thread_accesses loads thread) (initial_image ls) 0
        (machine_show loads thread) history (first_of loads thread own)

    abbrev pub MachineHasMapAfter : List (List Event) → Type 0
    MachineHasMapAfter points = HasMapAfter loads thread (thread_turns loads thread fuel) (machine_acts loads thread)
        (machine_asks loads thread) (thread_accesses loads thread) (initial_image ls) 0
        (machine_show loads thread) history (first_of loads thread own) points

    abbrev pub MachineHasMapWithin : List (List Event) → List Event → Type 0
    MachineHasMapWithin points seen = HasMapWithin loads thread (thread_turns loads thread fuel)
        (machine_acts loads thread) (machine_asks loads thread) (thread_accesses loads thread)
        (initial_image ls) 0 (machine_show loads thread) history (first_of loads thread own) points seen

-- a thread of a job that is linked, at any rising points of a history in which each open and close was accepted
abbrev pub ThreadsHaveMap : Type 0
ThreadsHaveMap = (ls : List Linking) (history : List Event) → AreReady ls → IsHistory ls history
    → (fuel thread : ℕ) (own : List ThreadLine) → 1 ≤ thread → MachineHasMap ls fuel thread own history

-- a thread that raced, at each moment of its race
abbrev pub RacersHaveMap : Type 0
RacersHaveMap = (ls : List Linking) (history : List Event) → AreReady ls → IsHistory ls history
    → (fuel thread : ℕ) (own : List ThreadLine) (said : List ShownLine) → 1 ≤ thread
    → (racer : IsRacer (loads ls) fuel thread own history said)
    → ((points more : List (List Event)) → racer.points ≡ points ++ more
    → MachineHasMapAfter ls fuel thread own history points)
    × ((points : List (List Event)) (seen : List Event) (more : List (List Event))
    → racer.points ≡ points ++ seen ∷ more → MachineHasMapWithin ls fuel thread own history points seen)

-- all threads of a job, in any order of turns
abbrev pub JobsHaveMap : Type 0
JobsHaveMap = (ls : List Linking) (fuel : ℕ) (lines : List (List ThreadLine)) (order : List ℕ) → AreJob ls
    → let l = loads ls in
    let x = λ (i : ℕ). thread_turns l i fuel in
    let start = job_start plain_operations l lines in
    (thread : ℕ) (t : Thread (Held ℕ Bool ℕ) Line Event)
    → at_number (shared_order x (λ (i : ℕ). event_by l i) order start).threads thread ≡ Some t
    → OrdersHaveMap l x (λ (i : ℕ). machine_acts l i) (λ (i : ℕ). machine_asks l i) (λ (i : ℕ). thread_accesses l i)
    (initial_image ls) 0 (λ (i : ℕ). machine_show l i) start order thread t

-- ** the meaning: the same

abbrev pub MeaningsHaveMap : Type 0
MeaningsHaveMap = (ls : List Linking) (history : List Event) → AreReady ls → IsHistory ls history
    → let m = meaning_of ls in
    (fuel thread : ℕ) (own : List ThreadLine) → 1 ≤ thread
    → HasMap m.loads thread (meant_turns m thread fuel) (meant_acts m thread) (meant_asks m thread)
    (meant_accesses m thread) (initial_meant ls) (Value 0) (meant_show m thread) history
    (ready (thread_ready ops m.loads thread) (numbered_lines 1 own))

abbrev pub MeantJobsHaveMap : Type 0
MeantJobsHaveMap = (ls : List Linking) (fuel : ℕ) (lines : List (List ThreadLine)) (order : List ℕ) → AreJob ls
    → let m = meaning_of ls in
    let x = λ (i : ℕ). meant_turns m i fuel in
    let start = job_start ops m.loads lines in
    (thread : ℕ) (t : Thread Meant Line Event)
    → at_number (shared_order x (λ (i : ℕ). event_by m.loads i) order start).threads thread ≡ Some t
    → OrdersHaveMap m.loads x (λ (i : ℕ). meant_acts m i) (λ (i : ℕ). meant_asks m i) (λ (i : ℕ). meant_accesses m i)
    (initial_meant ls) (Value 0) (λ (i : ℕ). meant_show m i) start order thread t
