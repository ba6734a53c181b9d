-- The parts of a step, as clauses speak of them: each is a part of the definition's step, over any history that leaves
-- the same live instances.
use Rattle.std.specs.Prelude.{◌≡◌, Bool, true, ℕ, List, Option, Some, Result, Ok, Err, if◌then◌else◌}
use Rattle.std.specs.List.{list_any}
use Rattle.amd64_subset.specs.declared.instr.Decoded.{Decoded}
use Rattle.guest_arithmetic.specs.declared.cause.Cause.{Cause}
use Rattle.guest_machine.specs.Run.{Next, Goes as GoesTo, Ends as EndsWith, Looks as LooksAt, next_of}
use Rattle.guest_machine.specs.Touch.{touched}
use Rattle.guest_operands.specs.declared.state.State.{State}
use Rattle.guest_operands.specs.declared.stop.Stop.{Stop}
use Rattle.guest_operands.specs.Access.{fetch_of}
use Rattle.guest_operands.specs.RangeLaws.{range_accesses}
use Rattle.guest_operands.specs.Use.{After, left}
use Rattle.job_meaning.specs.declared.values.Flag.{Flag}
use Rattle.job_meaning.specs.declared.values.Word.{Word}
use Rattle.module_table.specs.declared.events.Event.{Event}
use Rattle.thread_blocks.specs.Held.{ranges_in}
use Rattle.thread_blocks.specs.Turns.{Begun}
use Rattle.whole_meaning.specs.declared.sequences.Sequence.{Sequence}
use Rattle.whole_meaning.specs.Loads.{meaning_of}
use Rattle.whole_meaning.specs.Fields.{marked_frame}
use Rattle.whole_meaning.specs.Reading.{acted, done, marked_step, own_touches}
use Rattle.whole_meaning.specs.Threads.{Meant, Memory, meant_accesses, meant_mark, meant_shut, meant_steps, ops}
use Rattle.whole_meaning.specs.Threads.{resumed_at, sequence_does}
use Rattle.job_check.specs.declared.step.Stepped.{Stepped}
use Rattle.job_check.specs.declared.step.Stepped.TheVariants.{Goes, Looks, Ends}
use Rattle.thread_turns.specs.declared.parts.Resumed.{Resumed}
use Rattle.thread_turns.specs.declared.parts.Resumed.TheVariants.{Goes as GoesOn, Stops as EndsSo}
use Rattle.marked_memory.specs.Kept.{HasSeen, Kept, held_at, mark_in, memory_of, shape_of, shut_in}
use Rattle.job_check.specs.Running.{KeepsJob, StaysUnless, resumed_as}

-- the memory of the definition's thread that has seen these events
abbrev pub space_of : List Event → Kept → Memory
space_of seen k = record { seen = seen; stack = k.stack; own = ranges_in k.own }

-- ** what is done

abbrev pub made : {A : Type 0} → Result (Unit {0}) Stop → A → Result A Stop
made (Ok done) after = Ok after
made (Err stop) after = Err stop

-- a stop changes nothing
abbrev pub StaysIf : Result (Unit {0}) Stop → State Word Flag → Kept → State Word Flag → Kept → Type 0
StaysIf (Ok done) state k state' k' = Unit {0}
StaysIf (Err stop) state k state' k' = (state' ≡ state) × (k' ≡ k)

-- the code does what the definition does, or stops as it does
pub record Makes (result : Result (Unit {0}) Stop) (state : State Word Flag) (k : Kept) (state' : State Word Flag)
    (k' : Kept) (meant : List Event → Result (After Word Flag Memory) Stop) : Type 0 where
  pub shape : shape_of k' ≡ shape_of k
  pub stays : StaysIf result state k state' k'
  pub makes : (seen : List Event) → HasSeen k seen → meant seen ≡ made result (left state' (space_of seen k'))

abbrev pub next_as : Stepped → After Word Flag Memory → Next (After Word Flag Memory)
next_as Goes at = GoesTo at
next_as Looks at = LooksAt at
next_as (Ends stop) at = EndsWith stop

-- likewise for a step
pub record StepsAs (stepped : Stepped) (state : State Word Flag) (k : Kept) (state' : State Word Flag) (k' : Kept)
    (meant : List Event → Next (After Word Flag Memory)) : Type 0 where
  pub shape : shape_of k' ≡ shape_of k
  pub stays : StaysUnless stepped state k state' k'
  pub steps : (seen : List Event) → HasSeen k seen → meant seen ≡ next_as stepped (left state' (space_of seen k'))

-- how a step ends, if this part of it is all that it does
abbrev pub stepped_of : Result (Unit {0}) Stop → Stepped
stepped_of (Ok done) = Goes
stepped_of (Err stop) = Ends stop

-- ** a sequence

-- what a sequence does by the definition, without a look
abbrev pub sequence_made : Sequence → State Word Flag → Kept → List Event → Result (After Word Flag Memory) Stop
sequence_made s state k seen = sequence_does (meaning_of k.images) k.thread s (left state (space_of seen k))

-- ** an instruction

-- the bytes of code from a place on
unfoldable pub code_in : Kept → ℕ → List ℕ
code_in k place = fetch_of (range_accesses ops) (memory_of k) place

-- an instruction begins at the linker's own bytes, or touches one
unfoldable pub linker_in : State Word Flag → Kept → Option Decoded → Bool
linker_in state k it = if shut_in k state.place then true else
    list_any (shut_in k) (touched (range_accesses ops) (memory_of k) (own_touches ops (mark_in k) state it))

-- what an instruction that was read does by the definition
abbrev pub acted_in : Decoded → State Word Flag → Kept → List Event → Result (After Word Flag Memory) Stop
acted_in it state k seen = acted ops (meant_accesses (meaning_of k.images) k.thread) (mark_in k)
    (marked_frame (mark_in k) state.place it) it state (space_of seen k)

-- likewise, or why it is not done
abbrev pub done_in : Option Cause → Option Decoded → State Word Flag → Kept → List Event
    → Result (After Word Flag Memory) Stop
done_in why it state k seen =
    done ops (meant_accesses (meaning_of k.images) k.thread) (mark_in k) why it state (space_of seen k)

-- the definition's step where no sequence begins
abbrev pub plain_next : State Word Flag → Kept → List Event → Next (After Word Flag Memory)
plain_next state k seen = let m = meaning_of k.images in let memory = space_of seen k in
    next_of (marked_step ops (meant_accesses m k.thread) (meant_mark m k.thread memory) (meant_shut m k.thread memory)
    state memory)

-- ** the step after the last one, and what follows a look

-- the stop of the step after the last one
abbrev pub Asks : Stop → State Word Flag → Kept → Type 0
Asks stop state k = (seen : List Event) → HasSeen k seen
    → (meant_steps (meaning_of k.images) k.thread).spent (held_at seen state k) ≡ stop

-- how a call goes on after its sequence was done, or stopped
abbrev pub resumed_of : Result (Unit {0}) Stop → Resumed
resumed_of (Ok done) = GoesOn
resumed_of (Err stop) = EndsSo stop

-- a call goes on after a look as the definition says
pub record ResumesAs (state : State Word Flag) (k : Kept) (resumed : Resumed) (state' : State Word Flag) (k' : Kept)
    (meant : List Event → Begun Meant) : Type 0 where
  pub keeps : KeepsJob k k'
  pub resumes : (seen : List Event) → HasSeen k seen → meant seen ≡ resumed_as resumed (held_at seen state' k')

-- what a sequence does after its look by the definition
abbrev pub sequence_resumed : Sequence → State Word Flag → Kept → List Event → Begun Meant
sequence_resumed s state k seen = resumed_at (meaning_of k.images) k.thread (held_at seen state k) (Some s)
