-- Each byte of shared data is the one that the last write before it, in the order of turns, left there, or else the
-- one that the loader put there: for the machine's threads, and for what they mean.
use Rattle.std.specs.Prelude.{◌≡◌, ℕ, ◌+◌, ◌*◌, ◌<◌, ◌++◌, Bool, true, List, [], ◌∷◌, length, slice_get, ok_or, Option}
use Rattle.std.specs.Prelude.{Some, Ok}
use Rattle.std.specs.List.{find, flat_map}
use Rattle.address_map.specs.Map.{stack_start}
use Rattle.guest_arithmetic.specs.Plain.{plain_operations}
use Rattle.guest_operands.specs.declared.state.State.{State}
use Rattle.guest_machine.specs.Access.{Accesses, Refused}
use Rattle.guest_machine.specs.Ranges.{Range}
use Rattle.guest_machine.specs.Run.{machine, run}
use Rattle.guest_machine.specs.RunLaws.{state_after}
use Rattle.guest_machine.specs.Use.{After}
use Rattle.job_meaning.specs.declared.values.Byte.{Byte}
use Rattle.job_meaning.specs.declared.values.Flag.{Flag}
use Rattle.job_meaning.specs.declared.values.Word.{Word}
use Rattle.job_text.specs.declared.thread_lines.ThreadLine.{ThreadLine}
use Rattle.loaded_modules.specs.declared.instance.Instance.{Instance}
use Rattle.module_table.specs.declared.events.Event.{Event}
use Rattle.module_table.specs.Past.{IsLegal}
use Rattle.thread_blocks.specs.Held.{Data, Held, Owned, Owner, data_after, data_bytes, is_data_of, loaded, looked}
use Rattle.thread_blocks.specs.Held.{owned_by, with_owned}
use Rattle.thread_blocks.specs.Instances.{Loads, instances, numbered_instance}
use Rattle.thread_blocks.specs.JobWorlds.{Shared, job_start, job_world, shared_order}
use Rattle.thread_blocks.specs.Lines.{Line, event_by}
use Rattle.thread_blocks.specs.RunTime.{thread_accesses, thread_turns}
use Rattle.thread_blocks.specs.Spaces.{Space, next_image, no_field}
use Rattle.thread_blocks.specs.SpaceLaws.{after_of, mapped}
use Rattle.thread_blocks.specs.Turns.{Thread, Turns, at_number, whole_order}
use Rattle.whole_meaning.specs.declared.marks.Mark.{Mark}
use Rattle.whole_meaning.specs.Jobs.{meant_world}
use Rattle.whole_meaning.specs.Meanings.{Meaning}
use Rattle.whole_meaning.specs.Reading.{plain_step}
use Rattle.whole_meaning.specs.Threads.{meant_accesses, meant_turns, ops}
use Rattle.shared_data.specs.Changes.{Change, Noted, Written, changed_by, data_at, last_left, noting}
use Rattle.shared_data.specs.Places.{LiesLow}
use Rattle.shared_data.specs.Steps.{machine_changes, meant_changes}
use Rattle.shared_data.specs.Told.{begins, first_filled, order_told, run_told, turn_filled}

-- the data of each instance are what the last changes left
abbrev pub AreLastLeft : {B : Type 0} → List (Change B) → List (Owned B) → Type 0
AreLastLeft {B} told shared = (instance offset : ℕ) (bytes : List B) (byte : B)
    → data_bytes instance shared ≡ Some bytes → slice_get bytes offset ≡ Some byte
    → last_left instance offset told ≡ Some byte

-- a thread finds byte k of an instance's data at a place, where this is told so far: it reads what the last change of
-- that byte left, and what it stores there is told as the next
pub record IsByteOf {W F B : Type 0} (acc : Accesses (Space Event B) B) (stack : ℕ) (told : List (Change B))
    (h : Held W F B) (instance k place : ℕ) : Type 0 where
  pub at : data_at stack h place ≡ Some (instance, k)
  pub byte : B
  pub left : last_left instance k told ≡ Some byte
  pub reads : acc.byte h.after.memory place ≡ Ok byte
  pub writes : (new : B) → changed_by stack h.owners h.after.memory place new ≡ Written instance k new ∷ []

-- threads that share data: l: what is loaded, x: the turns of each, changes: the changes of a step, acc: the accesses
-- that a thread's memory offers; and what they begin with
module _ {W F B : Type 0} (l : Loads B) (x : ℕ → Turns (Held W F B) Line Event)
    (changes : ℕ → Held W F B → List (Change B)) (acc : ℕ → Accesses (Space Event B) B)
    (start : Shared W F B Line) where
  abbrev pub event : ℕ → Line → List Event → Option Event
  event thread = event_by l thread

  -- after these turns
  abbrev pub at_order : List ℕ → Shared W F B Line
  at_order order = shared_order x event order start

  -- the changes up to there
  abbrev pub told_at : List ℕ → List (Change B)
  told_at order = first_filled l ++ order_told l x event changes order start

  -- after any turns the data are what the last changes left
  abbrev pub DataLast : Type 0
  DataLast = (order : List ℕ) → AreLastLeft (told_at order) (at_order order).shared

  -- and after any turns, and any steps of another: what a thread reads at an address of an instance's data is what the
  -- last change there left
  abbrev pub ReadsLast : Type 0
  ReadsLast = (order : List ℕ) (thread : ℕ) (t : Thread (Held W F B) Line Event) (from : ℕ × Held W F B) (steps : ℕ)
      → at_number (at_order order).threads thread ≡ Some t
      → begins l x event changes (at_order order) thread t ≡ Some from
      → let h = state_after (run (x thread).steps steps from.1) in
      let told = told_at order ++ (turn_filled l x event changes (at_order order) thread t
      ++ run_told (x thread).steps (changes thread) steps from.1) in
      (place : ℕ) (at : ℕ × ℕ) → data_at (stack_start thread) h place ≡ Some at
      → (acc thread).byte h.after.memory place ≡ ok_or (last_left at.0 at.1 told) Refused

  -- and each byte of the data of each instance that it has seen live is at its place in the range that a load fills
  abbrev pub DataThere : Type 0
  DataThere = (order : List ℕ) (thread : ℕ) (t : Thread (Held W F B) Line Event) (from : ℕ × Held W F B) (steps : ℕ)
      → at_number (at_order order).threads thread ≡ Some t
      → begins l x event changes (at_order order) thread t ≡ Some from
      → let h = state_after (run (x thread).steps steps from.1) in
      let told = told_at order ++ (turn_filled l x event changes (at_order order) thread t
      ++ run_told (x thread).steps (changes thread) steps from.1) in
      (y : Instance) (range : Range B) → numbered_instance l h.after.memory.seen y.number ≡ Some y
      → l.shared y ≡ Some range → (k : ℕ) → k < length range.bytes
      → IsByteOf (acc thread) (stack_start thread) told h y.number k (range.start + k)

-- ** what is held

-- a thread holds the data of an instance in this range, with these bytes in it
abbrev pub HoldsData : {W F B : Type 0} → Held W F B → Instance → Range B → List B → Type 0
HoldsData h x range bytes = find (λ o. is_data_of x.number o.owner) (owned_by h)
    ≡ Some (record { owner = record { kind = Data; instance = x.number }; range = record range { bytes = bytes } })

-- a thread holds the data of a live instance after a look as it held them before, and after a load as the loader fills
-- them; before the first turn they are among the data that the first thread gets
abbrev pub DataAreHeld : (W F B : Type 0) → Type 0
DataAreHeld W F B = (l : Loads B) (thread : ℕ) (seen : List Event) (h : Held W F B) (x : Instance) (range : Range B)
    → l.shared x ≡ Some range
    → (numbered_instance l seen x.number ≡ Some x → (bytes : List B) → data_bytes x.number (owned_by h) ≡ Some bytes
    → HoldsData (looked l thread seen h) x range bytes)
    × (numbered_instance l h.after.memory.seen x.number ≡ Some x → HoldsData (loaded l thread x h) x range range.bytes)
    × (numbered_instance l [] x.number ≡ Some x
    → HoldsData (with_owned h (flat_map (data_after l (λ y. true) []) (instances l []))) x range range.bytes)

-- ** the machine

-- the image infos are in order (`AreInfos`), before any event
abbrev pub IsInOrder : {B : Type 0} → Loads B → Type 0
IsInOrder l = IsLegal l.infos l.last_offset []

abbrev pub MachineDataLast : Type 0
MachineDataLast = (l : Loads ℕ) (fuel : ℕ) (lines : List (List ThreadLine)) → IsInOrder l
    → DataLast l (λ thread. thread_turns l thread fuel) (λ thread. machine_changes l thread)
    (λ thread. thread_accesses l thread) (job_start plain_operations l lines)

abbrev pub MachineReadsLast : Type 0
MachineReadsLast = (l : Loads ℕ) (fuel : ℕ) (lines : List (List ThreadLine)) → IsInOrder l
    → ReadsLast l (λ thread. thread_turns l thread fuel) (λ thread. machine_changes l thread)
    (λ thread. thread_accesses l thread) (job_start plain_operations l lines)

-- data are there, where what is loaded lies below all that threads have for themselves (`LinkedThreadsShareData` of
-- `linked_jobs` has this of each job whose images link)
abbrev pub MachineDataThere : Type 0
MachineDataThere = (l : Loads ℕ) (fuel : ℕ) (lines : List (List ThreadLine)) → IsInOrder l → LiesLow l
    → DataThere l (λ thread. thread_turns l thread fuel) (λ thread. machine_changes l thread)
    (λ thread. thread_accesses l thread) (job_start plain_operations l lines)

abbrev pub MachineDataAreThere : Type 0
MachineDataAreThere = MachineDataThere × DataAreHeld ℕ Bool ℕ

-- all turns of a job are such turns
abbrev pub JobsAreOrders : Type 0
JobsAreOrders = (l : Loads ℕ) (fuel : ℕ) (lines : List (List ThreadLine)) (order : List ℕ)
    → job_world l fuel lines order
    ≡ at_order l (λ thread. thread_turns l thread fuel) (λ thread. machine_changes l thread)
    (λ thread. thread_accesses l thread) (job_start plain_operations l lines) (whole_order (4 * fuel) lines order)

-- a step over a memory that notes its stores is the machine's step
abbrev pub NotesFollow : Type 0
NotesFollow = (l : Loads ℕ) (thread : ℕ) (owners : List Owner) (at : After ℕ Bool (Noted Event ℕ))
    → (machine plain_operations (thread_accesses l thread) no_field).step (after_of (λ noted. noted.space) at)
    ≡ next_image (after_of (λ noted. noted.space))
    ((machine plain_operations (noting (stack_start thread) owners (thread_accesses l thread)) no_field).step at)

-- ** the meaning

abbrev pub MeantDataLast : Type 0
MeantDataLast = (m : Meaning) (fuel : ℕ) (lines : List (List ThreadLine)) → IsInOrder m.loads
    → DataLast m.loads (λ thread. meant_turns m thread fuel) (λ thread. meant_changes m thread)
    (λ thread. meant_accesses m thread) (job_start ops m.loads lines)

abbrev pub MeantReadsLast : Type 0
MeantReadsLast = (m : Meaning) (fuel : ℕ) (lines : List (List ThreadLine)) → IsInOrder m.loads
    → ReadsLast m.loads (λ thread. meant_turns m thread fuel) (λ thread. meant_changes m thread)
    (λ thread. meant_accesses m thread) (job_start ops m.loads lines)

abbrev pub MeantDataThere : Type 0
MeantDataThere = (m : Meaning) (fuel : ℕ) (lines : List (List ThreadLine)) → IsInOrder m.loads → LiesLow m.loads
    → DataThere m.loads (λ thread. meant_turns m thread fuel) (λ thread. meant_changes m thread)
    (λ thread. meant_accesses m thread) (job_start ops m.loads lines)

abbrev pub MeantDataAreThere : Type 0
MeantDataAreThere = MeantDataThere × DataAreHeld Word Flag Byte

abbrev pub MeaningsAreOrders : Type 0
MeaningsAreOrders = (m : Meaning) (fuel : ℕ) (lines : List (List ThreadLine)) (order : List ℕ)
    → meant_world m fuel lines order
    ≡ at_order m.loads (λ thread. meant_turns m thread fuel) (λ thread. meant_changes m thread)
    (λ thread. meant_accesses m thread) (job_start ops m.loads lines) (whole_order (4 * fuel) lines order)

-- an instruction of the meaning over a memory that notes its stores is that instruction
abbrev pub NotesFollowMeaning : Type 0
NotesFollowMeaning = (m : Meaning) (thread : ℕ) (owners : List Owner) (mark : ℕ → Mark) (state : State Word Flag)
    (noted : Noted Event Byte)
    → plain_step ops (meant_accesses m thread) mark state noted.space
    ≡ mapped (λ noted. noted.space)
    (plain_step ops (noting (stack_start thread) owners (meant_accesses m thread)) mark state noted)
