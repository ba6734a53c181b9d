-- Data after they were lent for writing.
use Rattle.std.specs.Prelude.{ℕ, List, ◌++◌, take, drop, length, slice_set, slice_index_or}
use Rattle.std.specs.Borrow.{Lends, MutBor, Fml, Array, u8}
use Rattle.module_data.specs.Pieces.{Piece, no_piece}
use Rattle.module_data.specs.contracts.data.Data as whole
use Rattle.module_data.specs.contracts.piece.ImageData as one

-- a slice keeps its length: new bytes are cut to it, or filled up with the old ones
unfoldable pub refilled : List ℕ → List ℕ → List ℕ
refilled old new = take (length old) (new ++ drop (length new) old)

abbrev pub with_bytes : Piece → List ℕ → Piece
with_bytes piece new = record { instance = piece.instance; bytes = refilled piece.bytes new }

abbrev pub piece_of : List Piece → ℕ → Piece
piece_of d image = slice_index_or d image no_piece

-- a piece ends with the bytes last written to it
abbrev pub LendsBytes : MutBor Piece → MutBor (List ℕ) → Fml
LendsBytes s r = Lends one.the_row (Array u8 0) s r (with_bytes s.now)

-- all other pieces end as they were
abbrev pub LendsData : MutBor (List Piece) → ℕ → MutBor (List ℕ) → Fml
LendsData s image r =
    Lends whole.the_row (Array u8 0) s r (λ w. slice_set s.now image (with_bytes (piece_of s.now image) w))
