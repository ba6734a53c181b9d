-- The words of a relocation in code, and a window of a part's bytes.
use Rattle.std.specs.Prelude.{◌≡◌, ◌≤◌, ◌<◌, ◌+◌, ℕ, List, [], ◌++◌, length, slice_index_or, Option, Some, None}
use Rattle.elf_records.specs.Fields.{bytes_of}
use Rattle.image_file.specs.declared.relocation.ImageRelocation.{ImageRelocation}
use Rattle.image_file.specs.Spelled.{Part, Spelled}
use Rattle.loaded_modules.specs.declared.instance.Instance.{Instance}
use Rattle.loaded_modules.specs.Images.{JobImages}
use Rattle.loaded_modules.specs.Loader.{with_relocation}
use Rattle.loaded_modules.specs.declared.relocating.Words.{Words}

-- the bytes of one word or two
abbrev pub second_bytes : Option ℕ → List ℕ
second_bytes None = []
second_bytes (Some word) = bytes_of 8 word

abbrev pub words_bytes : Words → List ℕ
words_bytes words = bytes_of 8 words.first ++ second_bytes words.second

-- the window holds the bytes of the whole from an offset on
pub record IsWindow (whole : List ℕ) (from : ℕ) (window : List ℕ) : Type 0 where
  pub within : from + length window ≤ length whole
  pub same : (k : ℕ) (d : ℕ) → k < length window → slice_index_or window k d ≡ slice_index_or whole (from + k) d

-- the bytes of a part, with those of a relocation written at their place, if there is one
abbrev pub with_numbered : JobImages → Spelled → Instance → Part → List ℕ → Option ImageRelocation → List ℕ
with_numbered m image x part bytes None = bytes
with_numbered m image x part bytes (Some r) = with_relocation m image x part bytes r
