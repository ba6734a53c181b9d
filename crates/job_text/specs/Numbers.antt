-- The numbers that words write.
use Rattle.std.specs.Prelude.{ℕ, ◌^◌, Bool, not, ◌&&◌, ◌==◌, nat_lt, nat_le, List, length, drop, slice_index, codes}
use Rattle.std.specs.Prelude.{nat_eq, option_and_then, Option, Some, None, if◌then◌else◌}
use Rattle.std.specs.Char.{digit_value}
use Rattle.std.specs.List.{list_all, starts_with}
use Rattle.std.specs.Str.Parse.{digits_value}

-- at least one digit in this base, and nothing else
abbrev pub is_numeral : ℕ → List ℕ → Bool
is_numeral base digits = not (length digits == 0) && list_all (λ c. nat_lt (digit_value c) base) digits

-- the number that digits in a base write, if it is below 2^64
unfoldable pub numeral : ℕ → List ℕ → Option ℕ
numeral base digits = if is_numeral base digits && nat_lt (digits_value base digits) (2 ^ 64)
    then Some (digits_value base digits) else None

-- a zero before other bytes
abbrev pub has_leading_zero : List ℕ → Bool
has_leading_zero word = (slice_index word 0 == 48) && nat_lt 1 (length word)

-- the number that a word writes: decimal digits without a leading zero, or `0x` and hexadecimal
-- digits of either case
unfoldable pub number : List ℕ → Option ℕ
number word =
    if starts_with nat_eq word (codes "0x") then numeral 16 (drop 2 word)
    else if has_leading_zero word then None
    else numeral 10 word

-- the number that a word writes, if it lies between two bounds
abbrev pub number_within : ℕ → ℕ → List ℕ → Option ℕ
number_within low high word =
    option_and_then (λ value. if nat_le low value && nat_le value high then Some value else None) (number word)
