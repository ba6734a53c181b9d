-- Images of objects without sections for programs to write: threads share no data in them.
use Rattle.std.specs.Prelude.{◌≡◌, ℕ, false, List, is_some, map}
use Rattle.std.specs.List.{All, list_any}
use Rattle.elf_object.specs.Object.{IsWritable}
use Rattle.link_core.specs.Images.{image_of}
use Rattle.link_needs.specs.Linking.{Linking, has_writable_data}
use Rattle.module_data.specs.Parts.{data_part}

-- no section of the object in the writable class has bytes, in the file or in memory
abbrev pub IsDataless : List ℕ → Type 0
IsDataless b = (s : ℕ) → IsWritable b s → ⊥

-- no object that an image is linked from has such bytes
abbrev pub IsOfDataless : Linking → Type 0
IsOfDataless l = All IsDataless l.objects

-- the images of these links have no data that threads share: in each, the writable class is empty, and no part
-- is written by programs
pub record ShareNoData (ls : List Linking) : Type 0 where
  pub classes : All (λ (l : Linking). has_writable_data l ≡ false) ls
  pub parts : list_any (λ image. is_some (data_part image)) (map image_of ls) ≡ false

-- images that are linked from such objects share no data
abbrev pub DatalessObjectsShareNoData : Type 0
DatalessObjectsShareNoData = (ls : List Linking) → All IsOfDataless ls → ShareNoData ls
