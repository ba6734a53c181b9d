-- How the code runs a thread's machine between two looks, and what its contracts state.
use Rattle.std.specs.Prelude.{◌≡◌, ◌≤◌, ◌<◌, ◌+◌, ◌-◌, ◌==◌, ℕ, zero, suc, Bool, List, length, Option, Some, None}
use Rattle.std.specs.Prelude.{Result, if◌then◌else◌}
use Rattle.std.specs.List.{find, list_any}
use Rattle.address_map.specs.Map.{descriptor_place}
use Rattle.guest_arithmetic.specs.Plain.{plain_operations}
use Rattle.guest_operands.specs.declared.state.State.{State}
use Rattle.guest_operands.specs.declared.stop.Stop.{Stop}
use Rattle.guest_operands.specs.Access.{Refusal, both_reached, bytes_at, reached as read_as}
use Rattle.guest_operands.specs.RangeLaws.{range_accesses}
use Rattle.guest_operands.specs.Use.{After}
use Rattle.guest_machine.specs.Clean.{IsClean}
use Rattle.guest_machine.specs.Machine.{Standing}
use Rattle.guest_machine.specs.Run.{Ends, Ended, Goes, Looks, Next, Outcome, Stepping, Waits, go_on, machine, run}
use Rattle.loaded_modules.specs.declared.instance.Instance.{Instance}
use Rattle.module_table.specs.declared.events.Event.{Event}
use Rattle.transcript_text.specs.declared.outcomes.LineFault.TheVariants.{Unloaded as UnloadedFault}
use Rattle.transcript_text.specs.declared.outcomes.Outcome.TheVariants.{Fault}
use Rattle.thread_blocks.specs.declared.asked.Asked.{Asked}
use Rattle.thread_blocks.specs.Held.{ranges_in}
use Rattle.thread_blocks.specs.Instances.{Loads}
use Rattle.thread_blocks.specs.JobLoads.{job_loads}
use Rattle.thread_blocks.specs.RunTime.{Runs, asked_at, asked_by, asked_next, has_words, pair, resumed_by}
use Rattle.thread_blocks.specs.RunTime.{thread_accesses, thread_steps}
use Rattle.thread_blocks.specs.Spaces.{Space, no_field}
use Rattle.thread_blocks.specs.Turns.{Answered, Begun, Calls, Says, Stopped}
use Rattle.thread_space.specs.Kept.{HasSeen, Kept, held_at, live_in, memory_of, owned_of, shape_of}
use Rattle.thread_space.specs.Live.{HasStartups}
use Rattle.thread_turns.specs.declared.parts.Ended.{Ended as EndedWith}
use Rattle.thread_turns.specs.declared.parts.Ended.TheVariants as ran
use Rattle.thread_turns.specs.declared.parts.Resumed.{Resumed}
use Rattle.thread_turns.specs.declared.parts.Resumed.TheVariants as resumed
use Rattle.guest_arithmetic.specs.Values.{number_from}

-- a thread's memory after these events
abbrev pub space_in : List Event → Kept → Space Event ℕ
space_in seen k = record { seen = seen; stack = k.stack; own = ranges_in (owned_of k.vector k.pieces) }

module _ (l : Loads ℕ) (thread : ℕ) where
  -- the machine of a thread without a run time
  abbrev pub bare : Stepping (After ℕ Bool (Space Event ℕ))
  bare = machine plain_operations (thread_accesses l thread) no_field

  -- the result of its run if the run time answers: a wait still has its step to count, which the answer takes
  abbrev pub goes_on : Runs → Outcome (After ℕ Bool (Space Event ℕ)) → Outcome Runs
  goes_on h (Ended stop n at) = Ended stop n (record h { after = at })
  goes_on h (Waits zero at) = Waits zero (record h { after = at })
  goes_on h (Waits (suc n) at) =
      let there = record h { after = at } in
      go_on (suc n) there (run (thread_steps l thread) n) (asked_next l thread there (asked_at l thread at))

-- ---- the question, by the words that the code reads

abbrev pub word_in : Kept → ℕ → ℕ → Result ℕ Refusal
word_in k address count = read_as number_from (bytes_at (range_accesses plain_operations) (memory_of k) address count)

abbrev pub asker_in : Kept → ℕ → Option Instance
asker_in k address =
    find (λ x. list_any (has_words address) ((job_loads k.vector.images).tables x))
    (live_in k.vector.images k.vector.past)

abbrev pub asked_words : Kept → Instance → Bool → ℕ → Option Asked
asked_words k x is_descriptor address =
    asked_by (job_loads k.vector.images) k.vector.thread x is_descriptor
    (both_reached pair (word_in k address 8) (word_in k (address + 8) 8))

abbrev pub asked_from : Kept → Bool → ℕ → Option Instance → Option Asked
asked_from k is_descriptor address None = None
asked_from k is_descriptor address (Some x) = asked_words k x is_descriptor address

unfoldable pub asked_in : Kept → State ℕ Bool → Option Asked
asked_in k state =
    let is_descriptor = state.place == descriptor_place in
    let address = if is_descriptor then state.registers.rax else state.registers.rdi in
    asked_from k is_descriptor address (asker_in k address)

-- ---- the result of a run

abbrev pub Ran : Type 0
Ran = EndedWith Stop Asked

-- the same thread of the same job, which has seen the same events
pub record IsSameThread (old new : Kept) : Type 0 where
  pub thread : new.vector.thread ≡ old.vector.thread
  pub images : new.vector.images ≡ old.vector.images
  pub past : new.vector.past ≡ old.vector.past
  pub startups : HasStartups old.vector → HasStartups new.vector
  pub pieces : length new.pieces ≡ length old.pieces

-- a machine over what is kept, with this many steps left
abbrev pub left_run : ℕ → List Event → Option Asked → Standing ℕ Bool → Kept → Outcome Runs
left_run limit seen asked m k =
    run (thread_steps (job_loads k.vector.images) k.vector.thread) (limit - m.taken) (held_at seen m.state asked k)

-- some of its steps are done
pub record RunsUpTo (limit : ℕ) (m : Standing ℕ Bool) (k : Kept) (m' : Standing ℕ Bool) (k' : Kept) : Type 0 where
  pub shape : shape_of k' ≡ shape_of k
  pub within : m'.taken ≤ limit
  pub runs : (seen : List Event) (asked : Option Asked) → HasSeen k.vector seen
      → left_run limit seen asked m k ≡ left_run limit seen asked m' k'

abbrev pub outcome_of_run : List Event → Option Asked → Ran → ℕ → State ℕ Bool → Kept → Outcome Runs
outcome_of_run seen asked (ran.Over stop) n state k = Ended stop n (held_at seen state asked k)
outcome_of_run seen asked (ran.Waits wanted) n state k = Waits n (held_at seen state (Some wanted) k)

abbrev pub IsCleanRan : Ran → Type 0
IsCleanRan (ran.Over stop) = IsClean stop
IsCleanRan (ran.Waits wanted) = Unit {0}

-- all of its steps are done, up to an end or a wait for a look
pub record RunsOn (limit : ℕ) (m : Standing ℕ Bool) (k : Kept) (result : Ran)
    (m' : Standing ℕ Bool) (k' : Kept) : Type 0 where
  pub same : IsSameThread k k'
  pub shape : shape_of k' ≡ shape_of k
  pub within : m'.taken ≤ limit
  pub clean : IsCleanRan result
  pub runs : (seen : List Event) (asked : Option Asked) → HasSeen k.vector seen
      → left_run limit seen asked m k ≡ outcome_of_run seen asked result (limit - m'.taken) m'.state k'

-- the run went on for some steps, or ended
abbrev pub RunsPart : ℕ → Standing ℕ Bool → Kept → Option Ran → Standing ℕ Bool → Kept → Type 0
RunsPart limit m k None m' k' = RunsUpTo limit m k m' k' × (m.taken < m'.taken)
RunsPart limit m k (Some result) m' k' = RunsOn limit m k result m' k'

-- ---- an answer

-- the question is answered at once, in one step, or the run ends there, or it waits
abbrev pub TakesStep : Option Ran → Standing ℕ Bool → Standing ℕ Bool → Type 0
TakesStep None m m' = m'.taken ≡ m.taken + 1
TakesStep (Some result) m m' = m' ≡ m

abbrev pub next_after : List Event → Option Asked → Option Ran → Standing ℕ Bool → Kept → Next Runs
next_after seen asked None m k = Goes (held_at seen m.state asked k)
next_after seen asked (Some (ran.Over stop)) m k = Ends stop
next_after seen asked (Some (ran.Waits wanted)) m k = Looks (held_at seen m.state (Some wanted) k)

abbrev pub IsCleanPart : Option Ran → Type 0
IsCleanPart None = Unit {0}
IsCleanPart (Some result) = IsCleanRan result

-- only an answer writes
abbrev pub IsStill : List Event → Option Ran → Kept → Kept → Type 0
IsStill seen None k k' = Unit {0}
IsStill seen (Some result) k k' = space_in seen k' ≡ space_in seen k

pub record AnswersLook (m : Standing ℕ Bool) (k : Kept) (result : Option Ran)
    (m' : Standing ℕ Bool) (k' : Kept) : Type 0 where
  pub shape : shape_of k' ≡ shape_of k
  pub takes : TakesStep result m m'
  pub clean : IsCleanPart result
  pub still : (seen : List Event) → HasSeen k.vector seen → IsStill seen result k k'
  pub next : (seen : List Event) (asked : Option Asked) → HasSeen k.vector seen
      → asked_next (job_loads k.vector.images) k.vector.thread (held_at seen m.state asked k)
      (asked_at (job_loads k.vector.images) k.vector.thread (held_at seen m.state asked k).after)
      ≡ next_after seen asked result m' k'

-- ---- after a look

abbrev pub resumed_as : List Event → Resumed → State ℕ Bool → Kept → Begun Runs
resumed_as seen resumed.Goes state k = Calls (held_at seen state None k)
resumed_as seen (resumed.Stops stop) state k = Says (Stopped stop) (held_at seen state None k)
resumed_as seen resumed.Unloaded state k = Says (Answered (Fault UnloadedFault)) (held_at seen state None k)

-- an answer takes a step
abbrev pub TakesAnswer : Resumed → Standing ℕ Bool → Standing ℕ Bool → Type 0
TakesAnswer resumed.Goes m m' = m'.taken ≡ m.taken + 1
TakesAnswer (resumed.Stops stop) m m' = m' ≡ m
TakesAnswer resumed.Unloaded m m' = m' ≡ m

abbrev pub IsCleanResumed : Resumed → Type 0
IsCleanResumed resumed.Goes = Unit {0}
IsCleanResumed (resumed.Stops stop) = IsClean stop
IsCleanResumed resumed.Unloaded = Unit {0}

pub record Resumes (m : Standing ℕ Bool) (k : Kept) (asked : Asked)
    (result : Resumed) (m' : Standing ℕ Bool) (k' : Kept) : Type 0 where
  pub same : IsSameThread k k'
  pub takes : TakesAnswer result m m'
  pub clean : IsCleanResumed result
  pub resumes : (seen : List Event) → HasSeen k.vector seen
      → resumed_by (job_loads k.vector.images) k.vector.thread seen (held_at seen m.state None k) (Some asked)
      ≡ resumed_as seen result m'.state k'
