-- Lines of fuel, and what a limit makes of them.
use Rattle.std.specs.Prelude.{◌≡◌, ◌<◌, ◌≤◌, ◌⊎◌, ℕ, ◌^◌, ◌==◌, Bool, not, if◌then◌else◌, List, [], ◌++◌, length}
use Rattle.std.specs.Prelude.{filter, codes, slice_get, slice_index_or, Option, None, IfSome, IsSomeAnd, is_some}
use Rattle.std.specs.Str.{bytes_eq}
use Rattle.std.specs.Fmt.{decimal}
use Rattle.std.specs.List.{slice_split}
use Rattle.std.specs.Str.Parse.{IsNumeral, digits_value, without_leading_plus}

-- the words of a line: what stands between its spaces and has a byte
unfoldable pub words_of : List ℕ → List (List ℕ)
words_of line = filter (λ word. not (length word == 0)) (slice_split (λ b. b == 32) line)

-- the word behind `fuel`, of words that begin so
abbrev pub fuel_in : List (List ℕ) → Option (List ℕ)
fuel_in words = if bytes_eq (slice_index_or words 0 []) (codes "fuel") then slice_get words 1 else None

-- whether a line gives fuel
abbrev pub has_fuel : List ℕ → Bool
has_fuel line = is_some (fuel_in (words_of line))

-- the line that gives so much fuel
abbrev pub fuel_line : ℕ → List ℕ
fuel_line most = codes "fuel " ++ decimal most

-- a word that is no decimal number of 64 bits above this one
abbrev pub IsWithin : ℕ → List ℕ → Type 0
IsWithin most word = IsNumeral 10 (without_leading_plus word) → digits_value 10 (without_leading_plus word) < 2 ^ 64
    → digits_value 10 (without_leading_plus word) ≤ most

-- a word that is no decimal number of 64 bits up to this one
abbrev pub IsBeyond : ℕ → List ℕ → Type 0
IsBeyond most word = IsNumeral 10 (without_leading_plus word) → digits_value 10 (without_leading_plus word) < 2 ^ 64
    → most < digits_value 10 (without_leading_plus word)

-- a line that gives no fuel, or no more than this
abbrev pub AsksWithin : ℕ → List ℕ → Type 0
AsksWithin most line = IfSome (fuel_in (words_of line)) (IsWithin most)

-- a line that gives fuel, and no decimal number of 64 bits up to this one
abbrev pub AsksBeyond : ℕ → List ℕ → Type 0
AsksBeyond most line = IsSomeAnd (fuel_in (words_of line)) (IsBeyond most)

-- what becomes of a line: the limit, or itself. Of a decimal number of 64 bits it is the limit exactly where the number
-- is above it
abbrev pub IsLimited : ℕ → List ℕ → List ℕ → Type 0
IsLimited most old new = ((new ≡ fuel_line most) × AsksBeyond most old) ⊎ ((new ≡ old) × AsksWithin most old)

-- the same of each of these lines
abbrev pub AreLimited : ℕ → List (List ℕ) → List (List ℕ) → Type 0
AreLimited most old new = (k : ℕ) → k < length old → IsLimited most (slice_index_or old k []) (slice_index_or new k [])
