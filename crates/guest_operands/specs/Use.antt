-- How a step uses values and accesses bytes.
use Rattle.std.specs.Prelude.{ℕ, ◌+◌, ◌%◌, ◌^◌, Result, Ok, Err}
pub use Rattle.amd64_subset.specs.Reading.{◌>>=◌}
use Rattle.guest_arithmetic.specs.declared.cause.Cause.{Cause}
use Rattle.guest_arithmetic.specs.declared.cause.Cause.TheVariants.{Linker}
use Rattle.guest_operands.specs.declared.stop.Stop.{Stop}
use Rattle.guest_operands.specs.declared.stop.Stop.TheVariants.{Address, Unclean}
use Rattle.guest_operands.specs.declared.state.State.{State}
use Rattle.guest_operands.specs.Access.{Refusal, Refused, Shut}
use Rattle.guest_arithmetic.specs.Cause.{cause_with}

-- a sum, modulo 2^64
abbrev pub plus : ℕ → ℕ → ℕ
plus a b = (a + b) % 2 ^ 64

-- a use by the instruction at this address
abbrev pub clean : {A : Type 0} → ℕ → Result A Cause → Result A Stop
clean here (Ok x) = Ok x
clean here (Err cause) = Err (Unclean here cause)

-- an access by the instruction at this address
abbrev pub there : {A : Type 0} → ℕ → Result A Refusal → Result A Stop
there here (Ok x) = Ok x
there here (Err Refused) = Err (Address here)
there here (Err Shut) = Err (Unclean here Linker)

-- a refused access, with another use that was made before it
abbrev pub refused_with : {A : Type 0} → ℕ → Refusal → Result A Cause → Stop
refused_with here Refused (Ok x) = Address here
refused_with here Refused (Err cause) = Unclean here cause
refused_with here Shut other = Unclean here (cause_with Linker other)

-- M: a memory
pub record After (W F M : Type 0) : Type 0 where
  pub state : State W F
  pub memory : M

abbrev pub left : {W F M : Type 0} → State W F → M → After W F M
left state memory = record { state = state; memory = memory }
