-- The parts and the blocks of an instance, byte by byte.
use Rattle.std.specs.Prelude.{◌≡◌, ◌+◌, ◌-◌, ◌<◌, ◌≤◌, ◌⊎◌, ℕ, List, Some, length, slice_get}
use Rattle.std.specs.List.{All, Contains}
use Rattle.image_file.specs.declared.part.TlsPart.{TlsPart}
use Rattle.image_file.specs.declared.relocation.ImageRelocation.{ImageRelocation}
use Rattle.image_file.specs.Spelled.{Part, Spelled}
use Rattle.image_writer.specs.Contents.{Contents}
use Rattle.image_writer.specs.Linkable.{AreRising, IsLinkable, width}
use Rattle.image_writer.specs.Tables.{finished}
use Rattle.loaded_modules.specs.declared.instance.Instance.{Instance}
use Rattle.loaded_modules.specs.Images.{JobImages, image_at}
use Rattle.loaded_modules.specs.Loader.{fresh_block, part_bytes}
use Rattle.loaded_modules.specs.LoaderLaws.{loaded_part}
use Rattle.relocated_parts.specs.Left.{left_byte, written_byte}

-- ** parts

-- the end of a part
abbrev pub end_of : Part → ℕ
end_of part = part.address + length part.bytes

-- the bytes that a relocation writes all lie in the part, or none does
abbrev pub LiesWhole : Part → ImageRelocation → Type 0
LiesWhole part r =
    ((part.address ≤ r.place) × (r.place + width r.kind ≤ end_of part))
    ⊎ ((r.place + width r.kind ≤ part.address) ⊎ (end_of part ≤ r.place))

-- these are the part's bytes in an instance
pub record IsLeft (m : JobImages) (image : Spelled) (x : Instance) (part : Part) (bytes : List ℕ) : Type 0 where
  pub long : length bytes ≡ length part.bytes
  pub each : (k own : ℕ) → slice_get part.bytes k ≡ Some own
      → slice_get bytes k ≡ Some (left_byte m image x (part.address + k) own)

-- if relocations lie one after another, each of them whole in the part or outside it
abbrev pub PartsAreLeft : Type 0
PartsAreLeft = (m : JobImages) (image : Spelled) (x : Instance) (part : Part) → AreRising image.relocations
    → All (LiesWhole part) image.relocations → IsLeft m image x part (part_bytes m image x part)

-- ** images that a linker makes

-- the instance is one of the image that these contents become
pub record IsMade (m : JobImages) (c : Contents) (x : Instance) : Type 0 where
  pub linkable : IsLinkable c
  pub image : image_at m x.image ≡ Some (finished c)

-- its parts, the tables among them
abbrev pub LoadedPartsAreLeft : Type 0
LoadedPartsAreLeft = (m : JobImages) (c : Contents) (x : Instance) (i : ℕ) (part : Part) → IsMade m c x
    → slice_get (finished c).parts i ≡ Some part → IsLeft m (finished c) x part (loaded_part m x i)

-- the relocation writes the byte at the address
abbrev pub Covers : ImageRelocation → ℕ → Type 0
Covers r address = (r.place ≤ address) × (address < r.place + width r.kind)

-- each byte is one of the word of the relocation that covers it, and the part's own if none does
pub record AreCovered (m : JobImages) (image : Spelled) (x : Instance) (part : Part) (bytes : List ℕ) : Type 0 where
  pub written : (k : ℕ) (r : ImageRelocation) → k < length part.bytes → Contains image.relocations r
      → Covers r (part.address + k)
      → slice_get bytes k ≡ Some (written_byte m image x r (part.address + k - r.place))
  pub own : (k own : ℕ) → slice_get part.bytes k ≡ Some own
      → ((r : ImageRelocation) → Contains image.relocations r → Covers r (part.address + k) → ⊥)
      → slice_get bytes k ≡ Some own

abbrev pub LoadedBytesAreCovered : Type 0
LoadedBytesAreCovered = (m : JobImages) (c : Contents) (x : Instance) (i : ℕ) (part : Part) → IsMade m c x
    → slice_get (finished c).parts i ≡ Some part → AreCovered m (finished c) x part (loaded_part m x i)

-- a thread's block before any write: the initial image, as the instance has the part that holds it, and zeros
pub record IsBlock (m : JobImages) (c : Contents) (x : Instance) (t : TlsPart) (bytes : List ℕ) : Type 0 where
  pub long : length bytes ≡ t.size
  pub initial : (i k own : ℕ) (part : Part) → slice_get (finished c).parts i ≡ Some part → k < t.initial
      → part.address ≤ t.address + k → slice_get part.bytes (t.address + k - part.address) ≡ Some own
      → slice_get bytes k ≡ Some (left_byte m (finished c) x (t.address + k) own)
  pub rest : (k : ℕ) → t.initial ≤ k → k < t.size → slice_get bytes k ≡ Some 0

abbrev pub BlocksAreLeft : Type 0
BlocksAreLeft = (m : JobImages) (c : Contents) (x : Instance) (t : TlsPart) → IsMade m c x → c.tls ≡ Some t
    → IsBlock m c x t (fresh_block m x)
