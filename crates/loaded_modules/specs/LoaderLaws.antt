-- Where images lie, over all instances at once.
use Rattle.std.specs.Prelude.{ℕ, List, []}
use Rattle.std.specs.Prelude.{Option, Some, None, slice_get}
use Rattle.image_file.specs.Spelled.{Part, Spelled}
use Rattle.loaded_modules.specs.declared.instance.Instance.{Instance}
use Rattle.loaded_modules.specs.Images.{JobImages, image_at}
use Rattle.loaded_modules.specs.Loader.{bias, part_bytes}

-- the bytes of a part by its number, counted from 0; none if there is no such part
abbrev pub bytes_or_none : JobImages → Spelled → Instance → Option Part → List ℕ
bytes_or_none m image x None = []
bytes_or_none m image x (Some part) = part_bytes m image x part

abbrev pub loaded_in : JobImages → Instance → Option Spelled → ℕ → List ℕ
loaded_in m x None part = []
loaded_in m x (Some image) part = bytes_or_none m image x (slice_get image.parts part)

unfoldable pub loaded_part : JobImages → Instance → ℕ → List ℕ
loaded_part m x part = loaded_in m x (image_at m x.image) part

-- how far an instance's image is moved
abbrev pub bias_in : Instance → Option Spelled → ℕ
bias_in x None = 0
bias_in x (Some image) = bias image.kind x.number

unfoldable pub bias_of : JobImages → Instance → ℕ
bias_of m x = bias_in x (image_at m x.image)

-- the parts of an instance's image
abbrev pub parts_in : Option Spelled → List Part
parts_in None = []
parts_in (Some image) = image.parts

unfoldable pub parts_of : JobImages → Instance → List Part
parts_of m x = parts_in (image_at m x.image)
