-- How flags change, and when a condition holds.
use Rattle.std.specs.Prelude.{Bool, not, ◌||◌, Result}
use Rattle.amd64_subset.specs.declared.instr.Condition.{Condition}
use Rattle.amd64_subset.specs.declared.instr.Condition.TheVariants.{Overflow, NotOverflow, Below, NotBelow, Equal}
use Rattle.amd64_subset.specs.declared.instr.Condition.TheVariants.{NotEqual, BelowOrEqual, Above, Sign, NotSign, Less}
use Rattle.amd64_subset.specs.declared.instr.Condition.TheVariants.{NotLess, LessOrEqual, Greater}
use Rattle.guest_arithmetic.specs.declared.cause.Cause.{Cause}
use Rattle.guest_arithmetic.specs.declared.effect.Change.{Change}
use Rattle.guest_arithmetic.specs.declared.effect.Change.TheVariants.{Set, Unsettled, Kept}
use Rattle.guest_arithmetic.specs.declared.effect.Changes.{Changes}
use Rattle.guest_arithmetic.specs.declared.flags.Flags.{Flags}
use Rattle.guest_arithmetic.specs.Arithmetic.{differ}
use Rattle.guest_arithmetic.specs.Cause.{used, both}
use Rattle.guest_arithmetic.specs.Values.{Operations}

module _ {W F B : Type 0} (ops : Operations W F B) where
  abbrev pub changed : Change → F → F
  changed (Set truth) flag = ops.flag truth
  changed Unsettled flag = ops.unsettled flag
  changed Kept flag = flag

  unfoldable pub with_changes : Changes → Flags F → Flags F
  with_changes changes flags = record {
    zero = changed changes.zero flags.zero;
    sign = changed changes.sign flags.sign;
    carry = changed changes.carry flags.carry;
    overflow = changed changes.overflow flags.overflow;
  }

  -- SF and OF differ: the left number was below the right one, as signed numbers
  unfoldable pub is_less : Flags F → Result Bool Cause
  is_less flags = used (λ parts. differ parts.0 parts.1) (both (ops.truth_of flags.sign) (ops.truth_of flags.overflow))

  unfoldable pub is_less_or_equal : Flags F → Result Bool Cause
  is_less_or_equal flags = used (λ parts. parts.0 || parts.1) (both (ops.truth_of flags.zero) (is_less flags))

  unfoldable pub is_below_or_equal : Flags F → Result Bool Cause
  is_below_or_equal flags =
      used (λ parts. parts.0 || parts.1) (both (ops.truth_of flags.carry) (ops.truth_of flags.zero))

  -- the condition by its flags, each of which is used (Intel's manual, volume 2, appendix B, table B-10)
  unfoldable pub condition_of : Condition → Flags F → Result Bool Cause
  condition_of Overflow flags = ops.truth_of flags.overflow
  condition_of NotOverflow flags = used not (ops.truth_of flags.overflow)
  condition_of Below flags = ops.truth_of flags.carry
  condition_of NotBelow flags = used not (ops.truth_of flags.carry)
  condition_of Equal flags = ops.truth_of flags.zero
  condition_of NotEqual flags = used not (ops.truth_of flags.zero)
  condition_of BelowOrEqual flags = is_below_or_equal flags
  condition_of Above flags = used not (is_below_or_equal flags)
  condition_of Sign flags = ops.truth_of flags.sign
  condition_of NotSign flags = used not (ops.truth_of flags.sign)
  condition_of Less flags = is_less flags
  condition_of NotLess flags = used not (is_less flags)
  condition_of LessOrEqual flags = is_less_or_equal flags
  condition_of Greater flags = used not (is_less_or_equal flags)
