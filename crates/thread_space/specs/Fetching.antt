-- Fetches of 15 bytes of code at once: from the first code part that holds one of the 15 addresses, if it holds all.
use Rattle.std.specs.Prelude.{◌≡◌, ◌+◌, ◌≤◌, ◌&&◌, ℕ, Bool, false, suc, List, [], ◌∷◌, length, nat_lt, Option, Some}
use Rattle.std.specs.Prelude.{None, slice_get, slice_range, if◌then◌else◌}
use Rattle.image_file.specs.Spelled.{Part, Spelled}
use Rattle.loaded_modules.specs.declared.instance.Instance.{Instance}
use Rattle.loaded_modules.specs.Images.{JobImages, image_at}
use Rattle.loaded_modules.specs.Loader.{bias, part_bytes}
use Rattle.loaded_modules.specs.LoaderLaws.{bias_of}
use Rattle.thread_space.specs.Places.{behind}
use Rattle.image_names.specs.Functions.{is_code}

-- this many bytes from a start on hold one of the 15 addresses from `place` on
abbrev pub meets : ℕ → ℕ → ℕ → Bool
meets start size place = nat_lt start (place + 15) && nat_lt place (start + size)

module _ (m : JobImages) (image : Spelled) (x : Instance) where
  -- a part is code, and holds one of those addresses
  abbrev pub part_meets : ℕ → Option Part → Bool
  part_meets place None = false
  part_meets place (Some part) =
      is_code part.class && meets (part.address + bias image.kind x.number) (length (part_bytes m image x part)) place

  -- the number of the first such part from number i on
  abbrev pub first_code : ℕ → ℕ → List Part → Option ℕ
  first_code place i [] = None
  first_code place i (part ∷ more) = if part_meets place (Some part) then Some i else first_code place (suc i) more

abbrev pub code_in : JobImages → ℕ → Instance → Option Spelled → Option ℕ
code_in m place x None = None
code_in m place x (Some image) = first_code m image x place 0 image.parts

-- the same for an instance
unfoldable pub code_number : JobImages → ℕ → Instance → Option ℕ
code_number m place x = code_in m place x (image_at m x.image)

-- these are the 15 bytes from an address on, all in one part
pub record Copies (m : JobImages) (image : Spelled) (x : Instance) (i place : ℕ) (bytes : List ℕ) : Type 0 where
  pub part : Part
  pub at : ℕ
  pub is : slice_get image.parts i ≡ Some part
  pub begins : behind (part.address + bias_of m x) place ≡ Some at
  pub room : at + 15 ≤ length (part_bytes m image x part)
  pub copied : bytes ≡ slice_range (part_bytes m image x part) at (at + 15)
