-- Which words are a count of objects to make.
use Rattle.std.specs.Prelude.{ℕ, Bool, not, ◌&&◌, ◌==◌, nat_le, nat_lt, List, length, slice_index, Option, Some, None}
use Rattle.std.specs.Prelude.{if◌then◌else◌}
use Rattle.std.specs.Char.{digit_value}
use Rattle.std.specs.List.{list_all}
use Rattle.std.specs.Str.Parse.{digits_value}

-- decimal digits, at least one, of which the first is not zero, and nothing else
abbrev pub is_numeral : List ℕ → Bool
is_numeral word =
    not (length word == 0) && not (slice_index word 0 == 48) && list_all (λ c. nat_lt (digit_value c) 10) word

-- from 1 to 1,000
abbrev pub is_count : ℕ → Bool
is_count n = nat_le 1 n && nat_le n 1000

-- the count that a word writes
unfoldable pub count_of : List ℕ → Option ℕ
count_of word = if is_numeral word && is_count (digits_value 10 word) then Some (digits_value 10 word) else None
