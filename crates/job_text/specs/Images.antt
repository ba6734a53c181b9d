-- Images by their numbers, which count from 1 in image order.
use Rattle.std.specs.Prelude.{ℕ, ◌+◌, ◌-◌, Bool, Option, ◌≤◌, List, [], length, position, slice_get}
use Rattle.std.specs.Option.{option_map, option_map_or}
use Rattle.std.specs.Str.{bytes_eq}
use Rattle.job_text.specs.declared.images.Image.{Image}

-- a number of an image
abbrev pub IsImageNumber : List Image → ℕ → Type 0
IsImageNumber images number = (1 ≤ number) × (number ≤ length images)

-- the name of an image, by its number
abbrev pub image_name : List Image → ℕ → List ℕ
image_name images number = option_map_or (λ image. image.name) (slice_get images (number - 1)) []

-- whether this is the image's name
abbrev pub is_named : List ℕ → Image → Bool
is_named name image = bytes_eq name image.name

-- the number of the image with this name
abbrev pub image_number : List Image → List ℕ → Option ℕ
image_number images name = option_map (λ index. index + 1) (position (is_named name) images)
