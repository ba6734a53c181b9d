-- The bytes of an image's file: a page of headers, and then each part at its address, with zeros between.
use Rattle.std.specs.Prelude.{◌+◌, ◌-◌, ℕ, List, [], ◌∷◌, ◌++◌, length, replicate}
use Rattle.image_file.specs.Spelled.{Part, Spelled}
use Rattle.image_writer.specs.Outlined.{outline_of}
use Rattle.image_writer.specs.Page.{base_of, page}

-- the parts from an address on
abbrev pub laid : ℕ → List Part → List ℕ
laid at [] = []
laid at (p ∷ more) = replicate (p.address - at) 0 ++ (p.bytes ++ laid (p.address + length p.bytes) more)

-- the file
unfoldable pub written : Spelled → List ℕ
written s = page (outline_of s) ++ laid (base_of s.kind) s.parts
