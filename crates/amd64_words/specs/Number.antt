-- Numbers in an instruction's bytes: little-endian, and sign-extended to 64 bits (Intel's manual, volume 2, 2.1.5 and
-- 2.2.1.3).
use Rattle.std.specs.Prelude.{ℕ, ◌+◌, List, slice_index, nat_lt, if◌then◌else◌}
use Rattle.std.specs.Int.{w32, w64, from_le_bytes}
use Rattle.amd64_words.specs.declared.size.Size.{Size}
use Rattle.amd64_words.specs.declared.size.Size.TheVariants.{Zero, One, Four, Eight}

abbrev pub count_of : Size → ℕ
count_of Zero = 0
count_of One = 1
count_of Four = 4
count_of Eight = 8

abbrev pub signed_byte_of : ℕ → ℕ
signed_byte_of number = if nat_lt number 0x80 then number else number + 0xffff_ffff_ffff_ff00

abbrev pub signed_long_of : ℕ → ℕ
signed_long_of number = if nat_lt number 0x8000_0000 then number else number + 0xffff_ffff_0000_0000

-- the number that bytes of this size hold, sign-extended; 0 for no byte
unfoldable pub signed_of : Size → List ℕ → ℕ
signed_of Zero bytes = 0
signed_of One bytes = signed_byte_of (slice_index bytes 0)
signed_of Four bytes = signed_long_of (from_le_bytes w32 bytes)
signed_of Eight bytes = from_le_bytes w64 bytes
