-- The bytes that values and marks are.
use Rattle.std.specs.Prelude.{ℕ, zero, suc, List, [], ◌∷◌, length, map, slice_index_or}
use Rattle.std.specs.List.{range_with_len}
use Rattle.job_meaning.specs.declared.values.Byte.{Byte}
use Rattle.job_meaning.specs.declared.values.Byte.TheVariants.{Hidden, Value}

-- a byte whose mark has this number, from 1, or whose value is this
abbrev pub cell_of : ℕ → ℕ → List Byte → Byte
cell_of zero value marks = Value value
cell_of (suc number) value marks = slice_index_or marks number Hidden

-- a byte
abbrev pub cell : List ℕ → List ℕ → List Byte → ℕ → Byte
cell values slots marks k = cell_of (slice_index_or slots k 0) (slice_index_or values k 0) marks

-- all bytes
unfoldable pub bytes_from : List ℕ → List ℕ → List Byte → List Byte
bytes_from values slots marks = map (cell values slots marks) (range_with_len 0 (length values))

-- how many of these bytes have a mark
abbrev pub marked : List ℕ → ℕ
marked [] = zero
marked (zero ∷ slots) = marked slots
marked (suc number ∷ slots) = suc (marked slots)
