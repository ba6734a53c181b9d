-- The data after loads and writes.
use Rattle.std.specs.Prelude.{◌≡◌, ◌==◌, ℕ, List, fold, reverse, Option, Some, option_map}
use Rattle.std.specs.Prelude.{option_and_then, unwrap_or, slice_get, slice_set, slice_index}
use Rattle.std.specs.List.{find}
use Rattle.loaded_modules.specs.declared.instance.Instance.{Instance}
use Rattle.loaded_modules.specs.Images.{JobImages}
use Rattle.module_data.specs.Parts.{fresh_data}
use Rattle.module_data.specs.Pieces.{Piece, data_of, loaded}
use Rattle.module_data.specs.Lending.{piece_of}

-- a byte that some thread writes
pub record Write : Type 0 where
  pub at : ℕ
  pub byte : ℕ

-- one write to the data of an image
unfoldable pub written : ℕ → List Piece → Write → List Piece
written image d w = let piece = piece_of d image in
    slice_set d image (record { instance = piece.instance; bytes = slice_set piece.bytes w.at w.byte })

-- writes by any threads; the first in the list comes first
abbrev pub after_writes : ℕ → List Piece → List Write → List Piece
after_writes image d writes = fold (written image) d writes

-- the byte that was last written at an offset
unfoldable pub last_written : ℕ → List Write → Option ℕ
last_written at writes = option_map (λ w. w.byte) (find (λ w. w.at == at) (reverse writes))

-- the byte that a thread reads there
unfoldable pub byte_read : List Piece → ℕ → ℕ → ℕ → Option ℕ
byte_read d instance image at = option_and_then (λ bytes. slice_get bytes at) (data_of d instance image)

-- after a load and writes, a read gives what was last written there, or the fresh byte
pub record ReadsLast (m : JobImages) (x : Instance) (d : List Piece) (writes : List Write) (at : ℕ) : Type 0 where
  pub last : byte_read (after_writes x.image (loaded m x d) writes) x.number x.image at
      ≡ Some (unwrap_or (last_written at writes) (slice_index (fresh_data m x) at))
