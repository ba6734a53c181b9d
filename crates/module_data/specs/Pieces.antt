-- The data of a job's images: one piece for each image.
use Rattle.std.specs.Prelude.{◌+◌, ◌==◌, ◌&&◌, ℕ, Bool, false, not, nat_lt, List, [], map, length}
use Rattle.std.specs.Prelude.{Option, Some, None, option_and_then, slice_get, slice_set, if◌then◌else◌}
use Rattle.std.specs.List.{range_with_len}
use Rattle.job_text.specs.Numbering.{at_number}
use Rattle.module_table.specs.declared.modules.ImageInfo.{ImageInfo}
use Rattle.loaded_modules.specs.declared.instance.Instance.{Instance}
use Rattle.loaded_modules.specs.Images.{JobImages, infos, static_offset}
use Rattle.module_data.specs.Parts.{fresh_data}

-- the data of one image: the number of their instance (0 for none), and their bytes
pub record Piece : Type 0 where
  pub instance : ℕ
  pub bytes : List ℕ

unfoldable pub no_piece : Piece
no_piece = record { instance = 0; bytes = [] }

-- ---- the data of an instance

abbrev pub is_of : ℕ → Piece → Bool
is_of instance piece = nat_lt 0 instance && (piece.instance == instance)

abbrev pub bytes_of_instance : ℕ → Piece → Option (List ℕ)
bytes_of_instance instance piece = if is_of instance piece then Some piece.bytes else None

-- the data of an instance of an image, if the image has data of this instance
unfoldable pub data_of : List Piece → ℕ → ℕ → Option (List ℕ)
data_of d instance image = option_and_then (bytes_of_instance instance) (slice_get d image)

-- ---- loads

abbrev pub fresh_piece : JobImages → Instance → Piece
fresh_piece m x = record { instance = x.number; bytes = fresh_data m x }

-- a load: the data of an older instance are gone
unfoldable pub loaded : JobImages → Instance → List Piece → List Piece
loaded m x d = slice_set d x.image (fresh_piece m x)

-- ---- before any load

abbrev pub starts : Option ImageInfo → Bool
starts None = false
starts (Some info) = not info.late

-- whether an image starts with the program, by its number
abbrev pub starts_at : JobImages → ℕ → Bool
starts_at m number = starts (at_number (infos m) number)

-- the instance of such an image: its number is the instance's, and its module id
abbrev pub first_instance : JobImages → ℕ → Instance
first_instance m number =
    record { image = number; number = number; id = number; offset = Some (static_offset m number) }

abbrev pub first_piece : JobImages → ℕ → Piece
first_piece m number = if starts_at m number then fresh_piece m (first_instance m number) else no_piece

-- the data at a program's start, by the numbers of the images; entry 0 is empty
unfoldable pub first_data : JobImages → List Piece
first_data m = map (first_piece m) (range_with_len 0 (length m.images + 1))
