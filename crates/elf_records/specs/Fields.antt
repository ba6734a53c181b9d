-- Numbers at an offset of a list of bytes, as ELF64 files with little-endian data hold them (gABI, "Data
-- Representation").
use Rattle.std.specs.Prelude.{◌+◌, ℕ, List, [], ◌∷◌, ◌++◌, length, take, drop}
use Rattle.byteorder.specs.Endian.{little_from, little_bytes}

-- the unsigned number in the n bytes from offset at, the lowest byte first; a byte past the end counts as 0
unfoldable pub number_at : ℕ → ℕ → List ℕ → ℕ
number_at n at bytes = little_from at n bytes

-- the n bytes from offset at, as they stand
unfoldable pub part_at : ℕ → ℕ → List ℕ → List ℕ
part_at n at bytes = take n (drop at bytes)

-- the lowest n bytes of x, the lowest first
unfoldable pub bytes_of : ℕ → ℕ → List ℕ
bytes_of n x = little_bytes n x

-- the bytes, with others written over them from that offset on
unfoldable pub splice : ℕ → List ℕ → List ℕ → List ℕ
splice at new bytes = take at bytes ++ (new ++ drop (at + length new) bytes)

-- the bytes of a row of fields; each field is given by its width and its value
unfoldable pub spelled : List (ℕ × ℕ) → List ℕ
spelled [] = []
spelled (f ∷ fs) = bytes_of f.0 f.1 ++ spelled fs
