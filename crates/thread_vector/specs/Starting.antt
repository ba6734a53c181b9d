-- The slots of a vector before any event.
use Rattle.std.specs.Prelude.{◌≡◌, ◌≤◌, ◌<◌, ◌-◌, ℕ, List, length, slice_get, Option, Some, None, if◌then◌else◌}
use Rattle.module_table.specs.declared.TheConstants.{SURPLUS}
use Rattle.module_table.specs.declared.modules.ImageInfo.{ImageInfo}
use Rattle.loaded_modules.specs.Images.{JobImages, infos, static_offset}
use Rattle.loaded_modules.specs.Loader.{fresh_block}
use Rattle.loaded_modules.specs.declared.instance.Instance.{Instance}
use Rattle.thread_vector.specs.Vectors.{Piece, no_piece, slot_of}

-- the image, if it is a startup image
abbrev pub if_early : Option ImageInfo → Option ImageInfo
if_early None = None
if_early (Some info) = if info.late then None else Some info

abbrev pub startup_info : List ImageInfo → ℕ → Option ImageInfo
startup_info infos image = if_early (slice_get infos (image - 1))

-- a startup image as a loader knows it: its number is also its instance's number and its module id
abbrev pub startup_instance : JobImages → ℕ → Instance
startup_instance images image =
    record { image = image; number = image; id = image; offset = Some (static_offset images image) }

-- the slot of a number: the block of the startup image with that number
abbrev pub IsFirstOf : JobImages → ℕ → Piece → Option ImageInfo → Type 0
IsFirstOf images image piece None = piece ≡ no_piece
IsFirstOf images image piece (Some info) =
    (piece ≡ record { instance = Some image; bytes = fresh_block images (startup_instance images image) })
    × (length piece.bytes ≡ info.size)

abbrev pub IsFirst : JobImages → ℕ → Piece → Type 0
IsFirst images image piece = IsFirstOf images image piece (startup_info (infos images) image)

-- the surplus, and the slots of the numbers from 1 to 64
pub record AreFirst (images : JobImages) (slots : List Piece) : Type 0 where
  pub long : length slots ≡ 65
  pub surplus : length (slot_of slots 0).bytes ≡ SURPLUS
  pub none : (slot_of slots 0).instance ≡ None
  pub each : (image : ℕ) → 1 ≤ image → image < 65 → IsFirst images image (slot_of slots image)
