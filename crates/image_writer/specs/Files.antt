-- When bytes are a file of an image: it begins with the page of headers, and each part stands at its offset. Bytes
-- between parts may be anything; no loader reads them.
use Rattle.std.specs.Prelude.{◌≡◌, ℕ, List, Some, length, take, slice_get}
use Rattle.elf_records.specs.Fields.{part_at}
use Rattle.image_file.specs.Spelled.{Part, Spelled}
use Rattle.image_writer.specs.Outlined.{outline_of}
use Rattle.image_writer.specs.Page.{file_offset, page}

pub record IsFileOf (file : List ℕ) (s : Spelled) : Type 0 where
  pub page_is : take 4096 file ≡ page (outline_of s)
  pub parts_are : (i : ℕ) (p : Part) → slice_get s.parts i ≡ Some p
      → part_at (length p.bytes) (file_offset s.kind p.address) file ≡ p.bytes
