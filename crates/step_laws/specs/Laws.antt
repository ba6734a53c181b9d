-- Laws of steps of the meaning that are no sequence's.
use Rattle.std.specs.Prelude.{◌≡◌, ◌||◌, ℕ, Bool}
use Rattle.std.specs.List.{Contains, list_any}
use Rattle.amd64_subset.specs.Decoding.{decoded}
use Rattle.guest_arithmetic.specs.Plain.{plain_operations}
use Rattle.guest_operands.specs.declared.state.State.{State}
use Rattle.guest_operands.specs.declared.stop.Stop.TheVariants.{Address}
use Rattle.guest_machine.specs.Run.{Ends}
use Rattle.guest_machine.specs.Step.{step_of}
use Rattle.thread_blocks.specs.Spaces.{no_field}
use Rattle.whole_meaning.specs.Meanings.{Meaning}
use Rattle.whole_meaning.specs.Reading.{reaches_linker}
use Rattle.whole_meaning.specs.Threads.{Meant, meant_accesses, meant_mark, meant_steps, ops}
use Rattle.step_laws.specs.Plain.{HasNumbers, IsPlain, IsTheMachines, numbered}
use Rattle.step_laws.specs.Steps.{HasNoCause, StartsNoSequence, data_touched, fetched, step_over, without}

-- a step that reads plain numbers alone, and touches nothing of the linker's own, has no cause, and is the machine's
-- step of the same numbers, whatever numbers the machine has in place of marks
abbrev pub PlainStepsAreTheMachines : Type 0
PlainStepsAreTheMachines = (m : Meaning) (thread : ℕ) (h : Meant) (state : State ℕ Bool)
    → HasNumbers h.after.state state → IsPlain m thread h state
    → IsTheMachines (decoded (fetched m thread h)) h state ((meant_steps m thread).step h)
    (step_of plain_operations (numbered (meant_accesses m thread)) (no_field h.after.memory) state h.after.memory)

-- if a step has no cause, it is refused as soon as one byte of data that it is said to touch can be neither read nor
-- written
abbrev pub TouchedBytesAreNeeded : Type 0
TouchedBytesAreNeeded = (m : Meaning) (thread : ℕ) (h : Meant) (place : ℕ)
    → StartsNoSequence m thread h → HasNoCause ((meant_steps m thread).step h)
    → Contains (data_touched m thread h) place
    → step_over m thread (without place (meant_accesses m thread)) h ≡ Ends (Address h.after.state.place)

-- the step over a thread's own memory is its step; and what is the linker's own is asked of the address where an
-- instruction begins, and of the bytes of data that it is said to touch
abbrev pub StepsAreAsTold : Type 0
StepsAreAsTold = (m : Meaning) (thread : ℕ) (h : Meant)
    → (step_over m thread (meant_accesses m thread) h ≡ (meant_steps m thread).step h)
    × ((shut : ℕ → Bool)
    → reaches_linker ops (meant_accesses m thread)
    (meant_mark m thread h.after.memory) shut h.after.state h.after.memory
    ≡ (shut h.after.state.place || list_any shut (data_touched m thread h)))
