-- Numerals, read by a table of the sixteen digits.
use Rattle.std.specs.Prelude.{ℕ, ◌+◌, ◌*◌, ◌==◌, nat_lt, List, [], ◌∷◌, codes, Option, Some, None, if◌then◌else◌}
use Rattle.std.specs.List.{position_from}

-- the value of a digit
abbrev pub digit_of : ℕ → Option ℕ
digit_of byte = position_from (λ digit. digit == byte) 0 (codes "0123456789abcdef")

-- a number, with one digit more behind it
abbrev pub with_digit : ℕ → ℕ → Option ℕ → Option ℕ
with_digit base before None = None
with_digit base before (Some digit) = if nat_lt digit base then Some (before * base + digit) else None

-- the number that digits write behind one that was read before
unfoldable pub read_behind : ℕ → Option ℕ → List ℕ → Option ℕ
read_behind base before [] = before
read_behind base None (byte ∷ more) = None
read_behind base (Some before) (byte ∷ more) = read_behind base (with_digit base before (digit_of byte)) more

-- the number that digits write in a base
abbrev pub read_number : ℕ → List ℕ → Option ℕ
read_number base digits = read_behind base (Some 0) digits
