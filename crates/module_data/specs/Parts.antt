-- Which part of an image is data, and what an instance has there before any write.
use Rattle.std.specs.Prelude.{◌==◌, ◌&&◌, ℕ, Bool, false, not, List, [], length}
use Rattle.std.specs.Prelude.{Option, Some, None, option_map, option_and_then, slice_get}
use Rattle.std.specs.List.{find, range_with_len}
use Rattle.image_file.specs.Spelled.{Part, Spelled, is_writable}
use Rattle.loaded_modules.specs.declared.instance.Instance.{Instance}
use Rattle.loaded_modules.specs.Images.{JobImages, image_at}
use Rattle.loaded_modules.specs.Laws.{start_of}
use Rattle.loaded_modules.specs.LoaderLaws.{loaded_part}

-- ---- which part

abbrev pub has_writable : Option Part → Bool
has_writable None = false
has_writable (Some part) = is_writable part.class

abbrev pub is_number : Option ℕ → ℕ → Bool
is_number None number = false
is_number (Some other) number = other == number

-- a part that programs write: it is writable, and not the one that only the loader writes (GNU_RELRO)
unfoldable pub is_data_part : Spelled → ℕ → Bool
is_data_part image number = has_writable (slice_get image.parts number) && not (is_number image.got number)

-- the number of the first such part
unfoldable pub data_part : Spelled → Option ℕ
data_part image = find (is_data_part image) (range_with_len 0 (length image.parts))

-- ---- its bytes, and where they begin

-- that number for the image of an instance
abbrev pub data_number : JobImages → Instance → Option ℕ
data_number m x = option_and_then data_part (image_at m x.image)

abbrev pub bytes_at : JobImages → Instance → Option ℕ → List ℕ
bytes_at m x None = []
bytes_at m x (Some part) = loaded_part m x part

-- the data at an instance's start: the part as the loader leaves it; empty if the image has none
unfoldable pub fresh_data : JobImages → Instance → List ℕ
fresh_data m x = bytes_at m x (data_number m x)

abbrev pub data_in : Spelled → Option Part
data_in image = option_and_then (slice_get image.parts) (data_part image)

abbrev pub start_in : Instance → Option Spelled → Option ℕ
start_in x None = None
start_in x (Some image) = option_map (start_of image.kind x.number) (data_in image)

-- the address of the first byte of an instance's data
unfoldable pub data_start : JobImages → Instance → Option ℕ
data_start m x = start_in x (image_at m x.image)
