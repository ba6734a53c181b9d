-- Bytes written in place, one patch after another: as a writer leaves them, and as a reader finds each byte.
use Rattle.std.specs.Prelude.{◌+◌, ◌-◌, ◌≤◌, ◌&&◌, ◌||◌, ℕ, Bool, false, Option, List, [], ◌∷◌, length, slice_get}
use Rattle.std.specs.Prelude.{nat_le, nat_lt, if◌then◌else◌}
use Rattle.elf_records.specs.Fields.{splice}

-- bytes, and the place where they are written
pub record Patch : Type 0 where
  pub at : ℕ
  pub bytes : List ℕ

-- the bytes after all patches; the last of the list is written first
abbrev pub patched : List Patch → List ℕ → List ℕ
patched [] bs = bs
patched (p ∷ ps) bs = splice p.at p.bytes (patched ps bs)

-- the patch writes place k
abbrev pub covers : Patch → ℕ → Bool
covers p k = nat_le p.at k && nat_lt k (p.at + length p.bytes)

-- a patch of the list writes place k
abbrev pub in_any : List Patch → ℕ → Bool
in_any [] k = false
in_any (p ∷ ps) k = covers p k || in_any ps k

-- the byte at place k after all patches: that of the first patch of the list that writes it, else the old one
abbrev pub byte_of : List Patch → List ℕ → ℕ → Option ℕ
byte_of [] bs k = slice_get bs k
byte_of (p ∷ ps) bs k = if covers p k then slice_get p.bytes (k - p.at) else byte_of ps bs k

-- each patch lies in n bytes
abbrev pub FitIn : List Patch → ℕ → Type 0
FitIn [] n = Unit {0}
FitIn (p ∷ ps) n = (p.at + length p.bytes ≤ n) × FitIn ps n
