-- The laws fix what is computed: one over a wrong definition would make it the same, and here it is not.
use Rattle.std.proofs.Common.{◌≡◌, ◌<◌, ℕ, Bool, true, false, List, Option, None, refl, ap, arith}
use Rattle.std.specs.Prelude.{Result, Ok, is_some, slice_index_or}
use Rattle.amd64_subset.specs.declared.instr.Arithmetic.{Arithmetic}
use Rattle.amd64_subset.specs.declared.instr.Arithmetic.TheVariants.{Add, Sub}
use Rattle.amd64_subset.specs.declared.instr.Condition.{Condition}
use Rattle.amd64_subset.specs.declared.instr.Condition.TheVariants.{Less, LessOrEqual}
use Rattle.amd64_subset.specs.declared.instr.Shift.{Shift}
use Rattle.amd64_subset.specs.declared.instr.Shift.TheVariants.{RightSigned}
use Rattle.amd64_subset.specs.declared.instr.Width.{Width}
use Rattle.amd64_subset.specs.declared.instr.Width.TheVariants.{Long}
use Rattle.amd64_subset.specs.declared.row.Action.{Action}
use Rattle.amd64_subset.specs.declared.row.Group.TheVariants as group
use Rattle.guest_arithmetic.specs.declared.cause.Cause.{Cause}
use Rattle.guest_arithmetic.specs.declared.effect.Change.{Change}
use Rattle.guest_arithmetic.specs.declared.effect.Change.TheVariants.{Set, Unsettled, Kept}
use Rattle.guest_arithmetic.specs.declared.effect.Changes.{Changes}
use Rattle.guest_arithmetic.specs.declared.effect.Effect.{Effect}
use Rattle.guest_arithmetic.specs.declared.flags.Flags.{Flags}
use Rattle.guest_arithmetic.specs.Arithmetic.{bit_out, compute_effect, difference_effect, product_effect, product_fits}
use Rattle.guest_arithmetic.specs.Arithmetic.{shift_effect, shift_overflows, shifted, sum_effect}
use Rattle.guest_arithmetic.specs.Flags.{condition_of, is_less, is_less_or_equal, with_changes}
use Rattle.guest_arithmetic.specs.Plain.{plain_operations}
use Rattle.instruction_laws.specs.Conditions.{Become}
use Rattle.instruction_laws.specs.Laws.{ComputationsAreTheManuals, ConditionsAreTheManuals, FlagsChange}
use Rattle.instruction_laws.specs.Laws.{ProductsAreTheManuals, ShiftsAreTheManuals, WordsAreSigned}
use Rattle.instruction_laws.specs.Results.{Computes, IsProduct, Shifts}
use Rattle.refuted_definitions.proofs.Only.{one_answer}
use Rattle.refuted_definitions.specs.Instructions.{ComputationsBy, ConditionsBy, DigitsBy, FlagsChangeBy, ProductsBy}
use Rattle.refuted_definitions.specs.Instructions.{product_by, shift_by}
use Rattle.refuted_definitions.specs.Instructions.{InstructionsAreRefuted, ShiftsBy, action_of_six, with_clear_changes}

-- ** one flag of an effect

abbrev is_set : Change → Bool
is_set (Set truth) = truth
is_set Unsettled = false
is_set Kept = false

abbrev is_kept : Change → Bool
is_kept (Set truth) = false
is_kept Unsettled = false
is_kept Kept = true

-- ** where a law over a wrong definition leads

module _ (signed : WordsAreSigned) where
  module _ (law : ComputationsAreTheManuals) (compute : Arithmetic → Width → ℕ → ℕ → Effect)
      (wrong : ComputationsBy compute) where
    same_computed : (kind : Arithmetic) (a b : ℕ) → a < 4294967296 → b < 4294967296
        → compute_effect kind Long a b ≡ compute kind Long a b
    same_computed kind a b low lower =
        let first = signed Long a low in
        let second = signed Long b lower in
        one_answer (Computes kind Long a b first.0 second.0) (compute_effect kind Long a b) (compute kind Long a b)
        (law kind Long a b first.0 second.0 first.1 second.1)
        (wrong kind Long a b first.0 second.0 first.1 second.1)

  module _ (law : ProductsAreTheManuals) (product : Width → ℕ → ℕ → Effect) (wrong : ProductsBy product) where
    same_product : (a b : ℕ) → a < 4294967296 → b < 4294967296 → product_effect Long a b ≡ product Long a b
    same_product a b low lower =
        let first = signed Long a low in
        let second = signed Long b lower in
        one_answer (IsProduct Long first.0 second.0) (product_effect Long a b) (product Long a b)
        (law Long a b first.0 second.0 first.1 second.1) (wrong Long a b first.0 second.0 first.1 second.1)

  module _ (law : ShiftsAreTheManuals) (shifts : Shift → Width → ℕ → ℕ → Effect) (wrong : ShiftsBy shifts) where
    same_shifted : (a count : ℕ) → a < 4294967296 → count < 32
        → shift_effect RightSigned Long a count ≡ shifts RightSigned Long a count
    same_shifted a count low few =
        let first = signed Long a low in
        one_answer (Shifts RightSigned Long a first.0 count) (shift_effect RightSigned Long a count)
        (shifts RightSigned Long a count) (law RightSigned Long a first.0 count first.1 few)
        (wrong RightSigned Long a first.0 count first.1 few)

module _ (law : ConditionsAreTheManuals) (condition : Condition → Flags Bool → Result Bool Cause)
    (wrong : ConditionsBy condition) where
  same_truth : (it : Condition) (flags : Flags Bool) (truth : Bool) → condition it flags ≡ Ok truth
      → condition_of plain_operations it flags ≡ Ok truth
  same_truth it flags truth is = (law it flags truth).1 ((wrong it flags truth).0 is)

-- ** the refutations

abbrev flags : Bool → Bool → Bool → Flags Bool
flags zero sign overflow = record { zero = zero; sign = sign; carry = false; overflow = overflow }

no_clearing : FlagsChange → FlagsChangeBy with_clear_changes → ⊥
unfolding with_changes plain_operations
no_clearing law wrong =
    let changes : Changes = record { zero = Unsettled; sign = Kept; carry = Kept; overflow = Kept } in
    let before = flags true false false in
    let e = one_answer (Become changes before) (with_changes plain_operations changes before)
    (with_clear_changes changes before) (law changes before) (wrong changes before) in
    let clear : true ≡ false = ap (λ (f : Flags Bool). f.zero) e in cc

no_six : DigitsBy action_of_six → ⊥
no_six wrong =
    let e : false ≡ true = ap (λ
    (actions : List (Option Action)). is_some (slice_index_or actions 7 None)) (wrong group.Shift) in cc

product_copied : (width : Width) (a b : ℕ) → product_by product_fits Unsettled width a b ≡ product_effect width a b
unfolding product_effect
product_copied width a b = refl

shift_copied : (shift : Shift) (width : Width) (number count : ℕ)
    → shift_by shift_overflows shift width number count ≡ shift_effect shift width number count
unfolding shift_effect
shift_copied shift width number count = refl

pub instructions_refuted : WordsAreSigned → ComputationsAreTheManuals → ProductsAreTheManuals → ShiftsAreTheManuals
    → FlagsChange → ConditionsAreTheManuals → InstructionsAreRefuted
unfolding compute_effect sum_effect difference_effect product_effect product_fits shift_effect shift_overflows shifted
    bit_out condition_of is_less is_less_or_equal plain_operations
instructions_refuted signed computations products shifts flag_changes conditions = record {
  product_copy = product_copied;
  shift_copy = shift_copied;
  carry_from_one_more_on = λ wrong.
      let e : true ≡ false = ap (λ (effect : Effect). is_set effect.changes.carry)
      (same_computed signed computations _ wrong Add 2147483648 2147483648 (omega arith) (omega arith)) in cc;
  borrow_is_turned = λ wrong.
      let e : true ≡ false = ap (λ (effect : Effect). is_set effect.changes.carry)
      (same_computed signed computations _ wrong Sub 0 1 (omega arith) (omega arith)) in cc;
  least_product_does_not_fit = λ wrong.
      let e : false ≡ true = ap (λ (effect : Effect). is_set effect.changes.carry)
      (same_product signed products _ wrong 2147483648 1 (omega arith) (omega arith)) in cc;
  multiply_keeps_zero = λ wrong.
      let e : false ≡ true = ap (λ (effect : Effect). is_kept effect.changes.zero)
      (same_product signed products _ wrong 1 1 (omega arith) (omega arith)) in cc;
  sar_tells_the_sign = λ wrong.
      let e : false ≡ true = ap (λ (effect : Effect). is_set effect.changes.overflow)
      (same_shifted signed shifts _ wrong 2147483648 1 (omega arith) (omega arith)) in cc;
  undefined_flags_are_cleared = no_clearing flag_changes;
  less_by_the_sign_alone = λ wrong.
      let e : Ok false ≡ Ok true = same_truth conditions _ wrong Less (flags false true true) true refl in cc;
  less_or_equal_by_zero_alone = λ wrong.
      let e : Ok true ≡ Ok false = same_truth conditions _ wrong LessOrEqual (flags false true false) false refl in cc;
  sar_by_the_digit_six = no_six;
}
