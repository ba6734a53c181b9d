-- The laws, of any threads, and of the machine's.
use Rattle.std.proofs.Common.{◌≡◌, ◌∙◌, ◌+◌, ◌<◌, ◌≤◌, ◌++◌, ℕ, zero, suc, List, [], ◌∷◌, length, Option, Some, None}
use Rattle.std.proofs.Common.{if◌then◌else◌, refl, ap, subst, arith}
use Rattle.std.specs.Prelude.{ok_or, option_map}
use Rattle.address_map.specs.Map.{stack_start}
use Rattle.guest_arithmetic.specs.Plain.{plain_operations}
use Rattle.guest_operands.specs.declared.space.Access.TheVariants.{Read}
use Rattle.guest_machine.specs.Access.{Accesses, Refused}
use Rattle.guest_machine.specs.Ranges.{grants}
use Rattle.guest_machine.specs.Run.{run}
use Rattle.guest_machine.specs.RunLaws.{state_after}
use Rattle.guest_machine.specs.State.{start_of}
use Rattle.guest_machine.specs.Use.{left as left_of}
use Rattle.job_meaning.specs.declared.values.Byte.{Byte}
use Rattle.job_text.specs.declared.thread_lines.ThreadLine.{ThreadLine}
use Rattle.module_table.specs.declared.events.Event.{Event}
use Rattle.module_table.specs.Past.{IsLegal}
use Rattle.thread_blocks.specs.Held.{Held, Owned, Owner, data_bytes, owned, owned_by}
use Rattle.thread_blocks.specs.Instances.{Loads, fixed_at, instances, numbered_instance}
use Rattle.thread_blocks.specs.JobWorlds.{Shared, job_start, job_world, ready_from}
use Rattle.thread_blocks.specs.Lines.{Line}
use Rattle.thread_blocks.specs.MachineTurns.{pointer_word}
use Rattle.thread_blocks.specs.RunTime.{thread_accesses, thread_turns}
use Rattle.thread_blocks.specs.Spaces.{Space, stack_range}
use Rattle.thread_blocks.specs.Turns.{Turns, at_number}
use Rattle.whole_meaning.specs.Jobs.{meant_world}
use Rattle.whole_meaning.specs.Meanings.{Meaning}
use Rattle.whole_meaning.specs.Threads.{meant_accesses, meant_turns, ops}
use Rattle.shared_data.specs.Changes.{Change, data_found, last_left}
use Rattle.shared_data.specs.Laws.{DataLast, DataThere, JobsAreOrders, MachineDataAreThere, MachineDataLast}
use Rattle.shared_data.specs.Laws.{MachineReadsLast, MeaningsAreOrders, MeantDataAreThere, MeantDataLast}
use Rattle.shared_data.specs.Laws.{MeantReadsLast, NotesFollowMeaning, ReadsLast, at_order, event, told_at}
use Rattle.shared_data.specs.Places.{LiesLow}
use Rattle.shared_data.specs.Steps.{machine_changes, meant_changes}
use Rattle.shared_data.specs.Told.{first_filled, run_told, turn_filled}
use Rattle.shared_data.proofs.First.{all_first, data_first, look_blocks}
use Rattle.shared_data.proofs.Left.{AreLeft, Each, found_left}
use Rattle.shared_data.proofs.Machine.{machine_tells}
use Rattle.shared_data.proofs.Meaning.{meant_tells, plain_space}
use Rattle.shared_data.proofs.Numbers.{numbers_own}
use Rattle.shared_data.proofs.Orders.{HoldsBlocks, WorldHolds, legal_within, own_events, world_order, world_within}
use Rattle.shared_data.proofs.ReadsData.{beside_stack, some_at}
use Rattle.shared_data.proofs.There.{data_held, is_read, is_written, lies}
use Rattle.shared_data.proofs.Turns.{TellAll}

-- ** any threads

module _ {W F B : Type 0} (l : Loads B) (x : ℕ → Turns (Held W F B) Line Event)
    (changes : ℕ → Held W F B → List (Change B)) (acc : ℕ → Accesses (Space Event B) B)
    (start : Shared W F B Line) (tell : (i : ℕ) → TellAll l i (x i) (changes i))
    (first : WorldHolds l (first_filled l) start) where
  pub data_last : DataLast l x changes acc start
  data_last order instance offset bytes byte found e =
      found_left (told_at l x changes acc start order)
      (at_order l x changes acc start order).shared instance bytes found
      (world_order l x changes tell order (first_filled l) start first).left offset byte e

  -- what a thread's memory gives at a place of data
  abbrev pub ReadsIt : Type 0
  ReadsIt = (i : ℕ) (log : List (Change B)) (space : Space Event B) (os : List Owner) (place : ℕ) (at : ℕ × ℕ)
      → AreLeft log (owned os space.own)
      → (if grants Read (stack_range (stack_start i) space.stack) place then None else data_found
      (owned os space.own) place)
      ≡ Some at
      → (acc i).byte space place ≡ ok_or (last_left at.0 at.1 log) Refused

  pub reads_last : ReadsIt → ReadsLast l x changes acc start
  reads_last reads order i t from steps mine begun place at there =
      let w = at_order l x changes acc start order in
      let h = state_after (run (x i).steps steps from.1) in
      let log = told_at l x changes acc start order
      ++ (turn_filled l x (event l x changes acc start) changes w i t ++ run_told (x i).steps
      (changes i) steps from.1) in
      let holds = world_within l x changes tell (told_at l x changes acc start order) w i t from steps
      (world_order l x changes tell order (first_filled l) start first) mine begun in
      reads i log h.after.memory h.owners place at holds.1.0 there

  -- ** data are there

  positive : {A : Type 0} (xs : List A) (i : ℕ) (a : A) → at_number xs i ≡ Some a → 1 ≤ i
  positive [] zero a e = cc
  positive (x ∷ xs) zero a e = cc
  positive xs (suc i) a e = omega arith

  pub data_there : LiesLow l → ReadsIt → DataThere l x changes acc start
  data_there low reads order i t from steps mine begun y range live shared k less =
      let w = at_order l x changes acc start order in
      let h = state_after (run (x i).steps steps from.1) in
      let log = told_at l x changes acc start order
      ++ (turn_filled l x (event l x changes acc start) changes w i t ++ run_told (x i).steps
      (changes i) steps from.1) in
      let world = world_order l x changes tell order (first_filled l) start first in
      let holds = world_within l x changes tell
      (told_at l x changes acc start order) w i t from steps world mine begun in
      let seen = own_events l x changes tell w i t in
      let legal = legal_within l x changes tell (told_at l x changes acc start order) w i t world in
      let some = positive w.threads i t mine in
      let now = subst (λ (events : List Event). numbered_instance l events y.number ≡ Some y) holds.1.1.0 live in
      let fits = holds.1.1.1 in
      let its = lies l low i some seen legal h fits y range now shared in
      let there = is_read l low i some seen legal h fits y range now shared k less in
      let less' : k < length its.bytes = rw its.long less in
      let byte = some_at its.bytes k less' in
      let bytes : data_bytes y.number (owned_by h) ≡ Some its.bytes =
      ap (λ (o : Option (Owned B)). option_map (λ (x : Owned B). x.range.bytes) o) its.held in
      let left = found_left log (owned_by h) y.number its.bytes bytes holds.1.0 k byte.0 byte.1 in
      record {
        at = there;
        byte = byte.0;
        left = left;
        reads = reads i log h.after.memory h.owners (range.start + k) (y.number, k) holds.1.0 there
            ∙ ap (λ (o : Option B). ok_or o Refused) left;
        writes = is_written l low i some seen legal h fits y range now shared k less;
      }

-- ** the machine

module _ (l : Loads ℕ) (legal : IsLegal l.infos l.last_offset []) where
  ready_blocks : (thread : ℕ) (lines : List (List ThreadLine))
      → Each HoldsBlocks (ready_from plain_operations l thread lines)
  ready_blocks thread [] = tt
  ready_blocks thread (own ∷ more) = (
    look_blocks l thread [] (record {
      after = left_of (start_of plain_operations 0 0 (plain_operations.word 0) (plain_operations.word 0)
          (plain_operations.word 0)) (record { seen = []; stack = []; own = [] });
      owners = [];
      asked = None;
    }) refl,
    ready_blocks (suc thread) more,
  )

  first_holds : (lines : List (List ThreadLine)) → WorldHolds l (first_filled l) (job_start plain_operations l lines)
  first_holds lines = record {
    legal = legal;
    left = data_first l (instances l []) (numbers_own l [] legal);
    all = all_first l (instances l []);
    blocks = ready_blocks 1 lines;
  }

machine_reads : (l : Loads ℕ) (i : ℕ) (log : List (Change ℕ)) (space : Space Event ℕ) (os : List Owner) (place : ℕ)
    (at : ℕ × ℕ) → AreLeft log (owned os space.own)
    → (if grants Read (stack_range (stack_start i) space.stack) place then None else data_found
    (owned os space.own) place)
    ≡ Some at
    → (thread_accesses l i).byte space place ≡ ok_or (last_left at.0 at.1 log) Refused
unfolding thread_accesses
machine_reads l i log space os place at left e =
    beside_stack plain_operations (stack_start i) (λ seen. pointer_word plain_operations i ∷ fixed_at l seen)
    log space os place at left e

pub machine_data_last : MachineDataLast
machine_data_last l fuel lines legal =
    data_last l (λ thread. thread_turns l thread fuel) (λ thread. machine_changes l thread)
    (λ thread. thread_accesses l thread) (job_start plain_operations l lines) (λ i. machine_tells l i fuel)
    (first_holds l legal lines)

pub machine_reads_last : MachineReadsLast
machine_reads_last l fuel lines legal =
    reads_last l (λ thread. thread_turns l thread fuel) (λ thread. machine_changes l thread)
    (λ thread. thread_accesses l thread) (job_start plain_operations l lines) (λ i. machine_tells l i fuel)
    (first_holds l legal lines)
    (machine_reads l)

pub machine_there : MachineDataAreThere
machine_there = (
  (λ l fuel lines legal low.
      data_there l (λ thread. thread_turns l thread fuel) (λ thread. machine_changes l thread)
      (λ thread. thread_accesses l thread) (job_start plain_operations l lines) (λ i. machine_tells l i fuel)
      (first_holds l legal lines)
      low (machine_reads l)),
  data_held,
)

pub jobs_are_orders : JobsAreOrders
unfolding job_world
jobs_are_orders l fuel lines order = refl

-- ** the meaning

module _ (m : Meaning) (legal : IsLegal m.loads.infos m.loads.last_offset []) where
  meant_ready_blocks : (thread : ℕ) (lines : List (List ThreadLine))
      → Each HoldsBlocks (ready_from ops m.loads thread lines)
  meant_ready_blocks thread [] = tt
  meant_ready_blocks thread (own ∷ more) = (
    look_blocks m.loads thread [] (record {
      after = left_of (start_of ops 0 0 (ops.word 0) (ops.word 0) (ops.word 0))
          (record { seen = []; stack = []; own = [] });
      owners = [];
      asked = None;
    }) refl,
    meant_ready_blocks (suc thread) more,
  )

  meant_first : (lines : List (List ThreadLine))
      → WorldHolds m.loads (first_filled m.loads) (job_start ops m.loads lines)
  meant_first lines = record {
    legal = legal;
    left = data_first m.loads (instances m.loads []) (numbers_own m.loads [] legal);
    all = all_first m.loads (instances m.loads []);
    blocks = meant_ready_blocks 1 lines;
  }

meant_reads : (m : Meaning) (i : ℕ) (log : List (Change Byte)) (space : Space Event Byte) (os : List Owner) (place : ℕ)
    (at : ℕ × ℕ) → AreLeft log (owned os space.own)
    → (if grants Read (stack_range (stack_start i) space.stack) place then None else data_found
    (owned os space.own) place)
    ≡ Some at
    → (meant_accesses m i).byte space place ≡ ok_or (last_left at.0 at.1 log) Refused
unfolding meant_accesses
meant_reads m i log space os place at left e =
    beside_stack ops (stack_start i) (λ seen. pointer_word ops i ∷ fixed_at m.loads seen) log space os place at left e

pub meant_data_last : MeantDataLast
meant_data_last m fuel lines legal =
    data_last m.loads (λ thread. meant_turns m thread fuel) (λ thread. meant_changes m thread)
    (λ thread. meant_accesses m thread) (job_start ops m.loads lines) (λ i. meant_tells m i fuel)
    (meant_first m legal lines)

pub meant_reads_last : MeantReadsLast
meant_reads_last m fuel lines legal =
    reads_last m.loads (λ thread. meant_turns m thread fuel) (λ thread. meant_changes m thread)
    (λ thread. meant_accesses m thread) (job_start ops m.loads lines) (λ i. meant_tells m i fuel)
    (meant_first m legal lines)
    (meant_reads m)

pub meant_there : MeantDataAreThere
meant_there = (
  (λ m fuel lines legal low.
      data_there m.loads (λ thread. meant_turns m thread fuel) (λ thread. meant_changes m thread)
      (λ thread. meant_accesses m thread) (job_start ops m.loads lines) (λ i. meant_tells m i fuel)
      (meant_first m legal lines)
      low (meant_reads m)),
  data_held,
)

pub notes_follow_meaning : NotesFollowMeaning
notes_follow_meaning m thread owners mark state noted = plain_space m thread owners mark state noted

pub meanings_are_orders : MeaningsAreOrders
unfolding meant_world
meanings_are_orders m fuel lines order = refl
