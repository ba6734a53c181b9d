-- Arithmetic on plain numbers at a width, and its flags (Intel's manual, volume 1, section 3.4.3.1, and volume 2).
use Rattle.std.specs.Prelude.{ℕ, ◌+◌, ◌-◌, ◌*◌, ◌/◌, ◌%◌, ◌^◌, Bool, true, false, not, ◌||◌, ◌==◌, nat_lt, nat_le}
use Rattle.std.specs.Prelude.{bit_and, bit_or, bit_xor, if◌then◌else◌}
use Rattle.amd64_subset.specs.declared.instr.Width.{Width}
use Rattle.amd64_subset.specs.declared.instr.Width.TheVariants.{Long, Quad}
use Rattle.amd64_subset.specs.declared.instr.Arithmetic.{Arithmetic}
use Rattle.amd64_subset.specs.declared.instr.Arithmetic.TheVariants.{Add, Or, And, Sub, Xor, Compare}
use Rattle.amd64_subset.specs.declared.instr.Shift.{Shift}
use Rattle.amd64_subset.specs.declared.instr.Shift.TheVariants.{Left, Right, RightSigned}
use Rattle.guest_arithmetic.specs.declared.effect.Change.{Change}
use Rattle.guest_arithmetic.specs.declared.effect.Change.TheVariants.{Set, Unsettled, Kept}
use Rattle.guest_arithmetic.specs.declared.effect.Changes.{Changes}
use Rattle.guest_arithmetic.specs.declared.effect.Effect.{Effect}

abbrev pub bits_of : Width → ℕ
bits_of Long = 32
bits_of Quad = 64

-- how many numbers the width has
abbrev pub span_of : Width → ℕ
span_of Long = 2 ^ 32
span_of Quad = 2 ^ 64

-- the number modulo the span of the width
abbrev pub low : Width → ℕ → ℕ
low width number = number % span_of width

-- the least number whose top bit is set
abbrev pub half_of : Width → ℕ
half_of Long = 2 ^ 31
half_of Quad = 2 ^ 63

abbrev pub is_negative : Width → ℕ → Bool
is_negative width number = nat_le (half_of width) number

abbrev pub differ : Bool → Bool → Bool
differ true other = not other
differ false other = other

-- each flag changes in this way
abbrev pub each_flag : Change → Changes
each_flag change = record { zero = change; sign = change; carry = change; overflow = change }

-- a result, which sets ZF and SF
abbrev pub by_result : Width → ℕ → Change → Change → Effect
by_result width number carry overflow = record {
  number = number;
  changes = record {
    zero = Set (number == 0);
    sign = Set (is_negative width number);
    carry = carry;
    overflow = overflow;
  };
}

-- the signed number that a number stands for, plus half the span, so that it is not negative
abbrev pub biased : Width → ℕ → ℕ
biased width number = (number + half_of width) % span_of width

-- OF of a sum: the signed sum is below the least signed number or above the greatest
unfoldable pub sum_overflows : Width → ℕ → ℕ → Bool
sum_overflows width a b =
    nat_lt (biased width a + biased width b) (half_of width)
    || nat_le (3 * half_of width) (biased width a + biased width b)

-- OF of a difference: likewise
unfoldable pub difference_overflows : Width → ℕ → ℕ → Bool
difference_overflows width a b =
    nat_lt (biased width a + half_of width) (biased width b) || nat_le (biased width b + half_of width) (biased width a)

unfoldable pub sum_effect : Width → ℕ → ℕ → Effect
sum_effect width a b =
    by_result width ((a + b) % span_of width) (Set (nat_le (span_of width) (a + b))) (Set (sum_overflows width a b))

unfoldable pub difference_effect : Width → ℕ → ℕ → Effect
difference_effect width a b =
    by_result width ((a + (span_of width - b)) % span_of width) (Set (nat_lt a b))
    (Set (difference_overflows width a b))

unfoldable pub logic_effect : Width → ℕ → Effect
logic_effect width number = by_result width number (Set false) (Set false)

unfoldable pub compute_effect : Arithmetic → Width → ℕ → ℕ → Effect
compute_effect Add width a b = sum_effect width a b
compute_effect Or width a b = logic_effect width (bit_or a b)
compute_effect And width a b = logic_effect width (bit_and a b)
compute_effect Sub width a b = difference_effect width a b
compute_effect Xor width a b = logic_effect width (bit_xor a b)
compute_effect Compare width a b = difference_effect width a b

-- the magnitude of a signed number
abbrev pub magnitude : Width → ℕ → ℕ
magnitude width number = if is_negative width number then span_of width - number else number

-- whether the signed product fits the width
unfoldable pub product_fits : Width → ℕ → ℕ → Bool
product_fits width a b =
    let product = magnitude width a * magnitude width b in
    if differ (is_negative width a) (is_negative width b)
    then nat_le product (half_of width)
    else nat_lt product (half_of width)

unfoldable pub product_effect : Width → ℕ → ℕ → Effect
product_effect width a b =
    let lost = Set (not (product_fits width a b)) in
    record {
      number = a * b % span_of width;
      changes = record (each_flag Unsettled) { carry = lost; overflow = lost };
    }

-- a shift by a count below the number of bits; the bits shifted in are 0, or the sign for sar
unfoldable pub shifted : Shift → Width → ℕ → ℕ → ℕ
shifted Left width number count = number * 2 ^ count % span_of width
shifted Right width number count = number / 2 ^ count
shifted RightSigned width number count =
    if is_negative width number
    then number / 2 ^ count + (span_of width - 1 - (span_of width - 1) / 2 ^ count)
    else number / 2 ^ count

-- the last bit that was shifted out, if the count is not 0
unfoldable pub bit_out : Shift → Width → ℕ → ℕ → Bool
bit_out Left width number count = number / 2 ^ (bits_of width - count) % 2 == 1
bit_out _ width number count = number / 2 ^ (count - 1) % 2 == 1

-- OF of a shift by 1: to the left, whether the sign changed; to the right, the old sign
unfoldable pub shift_overflows : Shift → Width → ℕ → Bool
shift_overflows Left width number =
    differ (is_negative width (shifted Left width number 1)) (bit_out Left width number 1)
shift_overflows Right width number = is_negative width number
shift_overflows RightSigned width number = false

-- a shift by 0 changes no flag
unfoldable pub shift_effect : Shift → Width → ℕ → ℕ → Effect
shift_effect shift width number count =
    if count == 0 then record { number = number; changes = each_flag Kept }
    else by_result width (shifted shift width number count) (Set (bit_out shift width number count))
    (if count == 1 then Set (shift_overflows shift width number) else Unsettled)
