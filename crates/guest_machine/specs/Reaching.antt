-- The bytes that a step accesses.
use Rattle.std.specs.Prelude.{◌≡◌, ℕ, Bool, false}
use Rattle.std.specs.List.{list_any}
use Rattle.guest_arithmetic.specs.Plain.{plain_operations}
use Rattle.guest_operands.specs.declared.state.State.{State}
use Rattle.guest_operands.specs.Closed.{closed}
use Rattle.guest_operands.specs.Ranges.{AddressSpace}
use Rattle.guest_operands.specs.RangeLaws.{range_accesses}
use Rattle.guest_machine.specs.Step.{step_of}
use Rattle.guest_machine.specs.Touch.{next_touches, touched}

-- only those that its instruction touches: if none of them is closed, the step is the same
abbrev pub ReachesWhatItTouches : Type 0
ReachesWhatItTouches =
    (shut : AddressSpace ℕ → ℕ → Bool) (is_field : ℕ → Bool) (state : State ℕ Bool) (memory : AddressSpace ℕ)
    → (let acc = range_accesses plain_operations in
    list_any (shut memory) (touched acc memory (next_touches plain_operations acc is_field state memory)) ≡ false
    → step_of plain_operations (closed shut acc) is_field state memory
    ≡ step_of plain_operations acc is_field state memory)
