-- Uses of values, and which cause is reported if several fail at one step.
use Rattle.std.specs.Prelude.{ℕ, nat_le, Result, Ok, Err, if◌then◌else◌}
use Rattle.guest_arithmetic.specs.declared.cause.Cause.{Cause}
use Rattle.guest_arithmetic.specs.declared.cause.Cause.TheVariants.{Inside, Field, Linker, Undefined, Flags, Base}
use Rattle.guest_arithmetic.specs.declared.cause.Cause.TheVariants.{Descriptor, Answer, Steps}

-- a cause's place in the order
abbrev pub rank_of : Cause → ℕ
rank_of Inside = 0
rank_of Field = 1
rank_of Linker = 2
rank_of Undefined = 3
rank_of Flags = 4
rank_of Base = 5
rank_of Descriptor = 6
rank_of Answer = 7
rank_of Steps = 8

-- of two causes the one that comes first
abbrev pub first_cause : Cause → Cause → Cause
first_cause a b = if nat_le (rank_of a) (rank_of b) then a else b

-- a use, and a function of its number
abbrev pub used : {A B : Type 0} → (A → B) → Result A Cause → Result B Cause
used f (Ok x) = Ok (f x)
used f (Err cause) = Err cause

-- two uses: if both fail, the first cause is reported
abbrev pub both : {A B : Type 0} → Result A Cause → Result B Cause → Result (A × B) Cause
both (Ok a) (Ok b) = Ok (a, b)
both (Ok a) (Err cause) = Err cause
both (Err cause) (Ok b) = Err cause
both (Err cause) (Err other) = Err (first_cause cause other)

-- a cause, or an earlier one of the other use
abbrev pub cause_with : {A : Type 0} → Cause → Result A Cause → Cause
cause_with cause (Ok x) = cause
cause_with cause (Err other) = first_cause cause other
