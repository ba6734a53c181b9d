-- What instructions compute (guest_arithmetic, Arithmetic and Flags; guest_operands, Operand; guest_machine, Step;
-- amd64_subset, Row), with one word changed. Each makes a law of instruction_laws false.
use Rattle.std.specs.Prelude.{◌≡◌, ◌↔◌, ◌+◌, ◌-◌, ◌*◌, ◌%◌, ◌<◌, ◌==◌, ℕ, ℤ, Bool, true, false, not, nat_lt}
use Rattle.std.specs.Prelude.{[], ◌∷◌, map, Option, Some, None, Result, Ok, if◌then◌else◌}
use Rattle.std.specs.Option.{option_map}
use Rattle.amd64_subset.specs.declared.instr.Arithmetic.{Arithmetic}
use Rattle.amd64_subset.specs.declared.instr.Arithmetic.TheVariants.{Add, Sub, Compare}
use Rattle.amd64_subset.specs.declared.instr.Condition.{Condition}
use Rattle.amd64_subset.specs.declared.instr.Condition.TheVariants.{Less, LessOrEqual}
use Rattle.amd64_subset.specs.declared.instr.Shift.{Shift}
use Rattle.amd64_subset.specs.declared.instr.Shift.TheVariants.{Left, Right, RightSigned}
use Rattle.amd64_subset.specs.declared.instr.Width.{Width}
use Rattle.amd64_subset.specs.declared.row.Action.{Action}
use Rattle.amd64_subset.specs.declared.row.Action.TheVariants.{ShiftBy}
use Rattle.amd64_subset.specs.declared.row.Group.{Group}
use Rattle.amd64_subset.specs.declared.row.Group.TheVariants as group
use Rattle.amd64_subset.specs.Row.{group_action}
use Rattle.guest_arithmetic.specs.declared.cause.Cause.{Cause}
use Rattle.guest_arithmetic.specs.declared.effect.Change.{Change}
use Rattle.guest_arithmetic.specs.declared.effect.Change.TheVariants.{Set, Unsettled, Kept}
use Rattle.guest_arithmetic.specs.declared.effect.Changes.{Changes}
use Rattle.guest_arithmetic.specs.declared.effect.Effect.{Effect}
use Rattle.guest_arithmetic.specs.declared.flags.Flags.{Flags}
use Rattle.guest_arithmetic.specs.Arithmetic.{each_flag, by_result, bit_out, compute_effect, differ, difference_overflows}
use Rattle.guest_arithmetic.specs.Arithmetic.{half_of, is_negative, magnitude, product_effect, product_fits}
use Rattle.guest_arithmetic.specs.Arithmetic.{shift_effect, shift_overflows, shifted}
use Rattle.guest_arithmetic.specs.Arithmetic.{span_of, sum_overflows}
use Rattle.guest_arithmetic.specs.Cause.{both, used}
use Rattle.guest_arithmetic.specs.Flags.{condition_of, is_less}
use Rattle.guest_arithmetic.specs.Plain.{plain_operations}
use Rattle.instruction_laws.specs.Conditions.{Become, Holds}
use Rattle.instruction_laws.specs.Opcodes.{digits}
use Rattle.instruction_laws.specs.Results.{Computes, IsProduct, Shifts}
use Rattle.instruction_laws.specs.Words.{IsSigned, counts}

-- ** the statements, of any definition

abbrev pub ComputationsBy : (Arithmetic → Width → ℕ → ℕ → Effect) → Type 0
ComputationsBy compute_effect = (kind : Arithmetic) (width : Width) (a b : ℕ) (x y : ℤ) → IsSigned width a x
    → IsSigned width b y
    → (effect : Effect) → (compute_effect kind width a b ≡ effect) ↔ Computes kind width a b x y effect

abbrev pub ProductsBy : (Width → ℕ → ℕ → Effect) → Type 0
ProductsBy product_effect = (width : Width) (a b : ℕ) (x y : ℤ) → IsSigned width a x → IsSigned width b y
    → (effect : Effect) → (product_effect width a b ≡ effect) ↔ IsProduct width x y effect

abbrev pub ShiftsBy : (Shift → Width → ℕ → ℕ → Effect) → Type 0
ShiftsBy shift_effect = (shift : Shift) (width : Width) (a : ℕ) (x : ℤ) (count : ℕ) → IsSigned width a x
    → count < counts width
    → (effect : Effect) → (shift_effect shift width a count ≡ effect) ↔ Shifts shift width a x count effect

abbrev pub FlagsChangeBy : (Changes → Flags Bool → Flags Bool) → Type 0
FlagsChangeBy with_changes = (changes : Changes) (before after : Flags Bool)
    → (with_changes changes before ≡ after) ↔ Become changes before after

abbrev pub ConditionsBy : (Condition → Flags Bool → Result Bool Cause) → Type 0
ConditionsBy condition_of = (condition : Condition) (flags : Flags Bool) (truth : Bool)
    → (condition_of condition flags ≡ Ok truth) ↔ ((truth ≡ true) ↔ Holds condition flags)

abbrev pub DigitsBy : (Group → ℕ → Option Action) → Type 0
DigitsBy group_action = (it : Group) → map (group_action it) (0 ∷ 1 ∷ 2 ∷ 3 ∷ 4 ∷ 5 ∷ 6 ∷ 7 ∷ []) ≡ digits it

-- ** sums and differences

-- `sum_effect`: the carry stands from one more on, since `≤` is `<`
abbrev pub sum_above : Width → ℕ → ℕ → Effect
sum_above width a b =
    by_result width ((a + b) % span_of width) (Set (nat_lt (span_of width) (a + b))) (Set (sum_overflows width a b))

abbrev pub compute_with_sum : Arithmetic → Width → ℕ → ℕ → Effect
compute_with_sum Add width a b = sum_above width a b
compute_with_sum kind width a b = compute_effect kind width a b

-- `difference_effect`: the borrow is turned round
abbrev pub difference_turned : Width → ℕ → ℕ → Effect
difference_turned width a b =
    by_result width ((a + (span_of width - b)) % span_of width) (Set (nat_lt b a))
    (Set (difference_overflows width a b))

abbrev pub compute_with_difference : Arithmetic → Width → ℕ → ℕ → Effect
compute_with_difference Sub width a b = difference_turned width a b
compute_with_difference Compare width a b = difference_turned width a b
compute_with_difference kind width a b = compute_effect kind width a b

-- ** products

-- `product_fits`: the least signed number does not fit, since `≤` is `<`
abbrev pub fits_without_least : Width → ℕ → ℕ → Bool
fits_without_least width a b =
    let product = magnitude width a * magnitude width b in
    if differ (is_negative width a) (is_negative width b)
    then nat_lt product (half_of width)
    else nat_lt product (half_of width)

-- `product_effect`, over any test and any change of ZF
abbrev pub product_by : (Width → ℕ → ℕ → Bool) → Change → Width → ℕ → ℕ → Effect
product_by product_fits zero width a b =
    let lost = Set (not (product_fits width a b)) in
    record {
      number = a * b % span_of width;
      changes = record (each_flag Unsettled) { zero = zero; carry = lost; overflow = lost };
    }

-- ** shifts

-- `shift_overflows`: sar keeps the sign, and tells it
abbrev pub overflows_by_sign : Shift → Width → ℕ → Bool
overflows_by_sign RightSigned width number = is_negative width number
overflows_by_sign shift width number = shift_overflows shift width number

-- `shift_effect`, over any overflow
abbrev pub shift_by : (Shift → Width → ℕ → Bool) → Shift → Width → ℕ → ℕ → Effect
shift_by shift_overflows shift width number count =
    if count == 0 then record { number = number; changes = each_flag Kept }
    else by_result width (shifted shift width number count) (Set (bit_out shift width number count))
    (if count == 1 then Set (shift_overflows shift width number) else Unsettled)

-- ** flags and conditions

-- `changed`: an undefined flag is cleared
abbrev pub changed_to_clear : Change → Bool → Bool
changed_to_clear (Set truth) flag = truth
changed_to_clear Unsettled flag = false
changed_to_clear Kept flag = flag

abbrev pub with_clear_changes : Changes → Flags Bool → Flags Bool
with_clear_changes changes flags = record {
  zero = changed_to_clear changes.zero flags.zero;
  sign = changed_to_clear changes.sign flags.sign;
  carry = changed_to_clear changes.carry flags.carry;
  overflow = changed_to_clear changes.overflow flags.overflow;
}

-- `is_less`: the sign alone, in place of sign and overflow
abbrev pub less_by_sign : Flags Bool → Result Bool Cause
less_by_sign flags = used (λ parts. parts.0) (both (Ok flags.sign) (Ok flags.overflow))

abbrev pub condition_by_sign : Condition → Flags Bool → Result Bool Cause
condition_by_sign Less flags = less_by_sign flags
condition_by_sign condition flags = condition_of plain_operations condition flags

-- `is_less_or_equal`: zero alone, in place of one of both
abbrev pub condition_by_zero : Condition → Flags Bool → Result Bool Cause
condition_by_zero LessOrEqual flags = used (λ parts. parts.0) (both (Ok flags.zero) (is_less plain_operations flags))
condition_by_zero condition flags = condition_of plain_operations condition flags

-- ** opcodes

-- `shift_of`: sar by the digit 6
abbrev pub shift_of_six : ℕ → Option Shift
shift_of_six digit =
    if digit == 4 then Some Left
    else if digit == 5 then Some Right
    else if digit == 6 then Some RightSigned
    else None

abbrev pub action_of_six : Group → ℕ → Option Action
action_of_six group.Shift digit = option_map ShiftBy (shift_of_six digit)
action_of_six it digit = group_action it digit

pub record InstructionsAreRefuted : Type 0 where
  -- with no word changed they are the definitions
  pub product_copy : (width : Width) (a b : ℕ) → product_by product_fits Unsettled width a b ≡ product_effect width a b
  pub shift_copy : (shift : Shift) (width : Width) (number count : ℕ)
      → shift_by shift_overflows shift width number count ≡ shift_effect shift width number count
  pub carry_from_one_more_on : ComputationsBy compute_with_sum → ⊥
  pub borrow_is_turned : ComputationsBy compute_with_difference → ⊥
  pub least_product_does_not_fit : ProductsBy (product_by fits_without_least Unsettled) → ⊥
  pub multiply_keeps_zero : ProductsBy (product_by product_fits Kept) → ⊥
  pub sar_tells_the_sign : ShiftsBy (shift_by overflows_by_sign) → ⊥
  pub undefined_flags_are_cleared : FlagsChangeBy with_clear_changes → ⊥
  pub less_by_the_sign_alone : ConditionsBy condition_by_sign → ⊥
  pub less_or_equal_by_zero_alone : ConditionsBy condition_by_zero → ⊥
  pub sar_by_the_digit_six : DigitsBy action_of_six → ⊥
