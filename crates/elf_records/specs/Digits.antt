-- Bytes that are written as hexadecimal digits, two a byte, small letters; a last digit alone is left out.
use Rattle.std.specs.Prelude.{◌+◌, ◌-◌, ◌*◌, ℕ, List, [], ◌∷◌, nat_lt, if◌then◌else◌}

abbrev pub digit_of : ℕ → ℕ
digit_of c = if nat_lt c 0x3a then c - 0x30 else c - 0x57

abbrev pub bytes_of_digits : List ℕ → List ℕ
bytes_of_digits [] = []
bytes_of_digits (c ∷ []) = []
bytes_of_digits (c ∷ d ∷ more) = (digit_of c * 16 + digit_of d) ∷ bytes_of_digits more
