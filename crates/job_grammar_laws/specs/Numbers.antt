-- How a job writes numbers, in the words of the guide: "decimal with no sign and no leading zero, or `0x` and
-- hexadecimal digits, and below 2^64". It watches `number` (job_text: `Numbers`). Here a decimal number is what is
-- printed of it, and hexadecimal digits are read by two tables.
use Rattle.std.specs.Prelude.{◌≡◌, ◌⊎◌, ◌+◌, ◌*◌, ◌<◌, ◌≤◌, ◌^◌, ℕ, List, [], ◌∷◌, ◌++◌, length, slice_index, codes}
use Rattle.std.specs.Fmt.{decimal}

-- a byte that is the digit of a value, in either case
pub record IsDigit (byte value : ℕ) : Type 0 where
  pub small : value < 16
  pub either : (slice_index (codes "0123456789abcdef") value ≡ byte)
      ⊎ (slice_index (codes "0123456789ABCDEF") value ≡ byte)

-- digits that follow those of a number and make it another
abbrev pub Extends : ℕ → List ℕ → ℕ → Type 0
Extends before [] n = n ≡ before
Extends before (byte ∷ more) n = (digit : ℕ) × IsDigit byte digit × Extends (before * 16 + digit) more n

-- `0x` and hexadecimal digits
pub record IsHexadecimal (word : List ℕ) (n : ℕ) : Type 0 where
  pub digits : List ℕ
  pub written : word ≡ codes "0x" ++ digits
  pub some : 1 ≤ length digits
  pub value : Extends 0 digits n

-- the word writes the number
pub record Writes (word : List ℕ) (n : ℕ) : Type 0 where
  pub small : n < 2 ^ 64
  pub form : (word ≡ decimal n) ⊎ IsHexadecimal word n
