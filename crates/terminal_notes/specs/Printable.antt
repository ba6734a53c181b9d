-- Bytes as a terminal may show them.
use Rattle.std.specs.Prelude.{ℕ, ◌&&◌, List, [], ◌∷◌, ◌++◌, codes, length, take}
use Rattle.std.specs.Prelude.{nat_le, nat_lt, if◌then◌else◌}
use Rattle.hex.specs.Hex.{encode_lower}
use Rattle.std.specs.List.{flat_map}

-- a byte from 0x20 to 0x7e as it is, and another one in hexadecimal, as \x0a
abbrev pub shown_byte : ℕ → List ℕ
shown_byte byte =
    if nat_le 32 byte && nat_le byte 126 then byte ∷ [] else codes "\\x" ++ encode_lower (byte ∷ [])

-- two dots, if there are more than 80 bytes
abbrev pub dots : List ℕ → List ℕ
dots bytes = if nat_lt 80 (length bytes) then codes ".." else []

-- the first 80 bytes, and two dots in place of the others
unfoldable pub printable : List ℕ → List ℕ
printable bytes = flat_map shown_byte (take 80 bytes) ++ dots bytes
