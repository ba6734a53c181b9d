-- The laws of a draft's file that is made of its frame and its parts.
use Rattle.std.specs.Prelude.{◌≡◌, ◌+◌, ◌<◌, ◌≤◌, ◌⊎◌, ℕ, List, [], ◌∷◌, ◌++◌, Some, All, length, drop, map, slice_get}
use Rattle.image_faults.specs.Faults.{IsImage}
use Rattle.image_file.specs.Spelled.{spelled}
use Rattle.image_rules.specs.declared.places.FileKind.{FileKind}
use Rattle.image_writer.specs.declared.draft.Draft.{Draft}
use Rattle.image_writer.specs.declared.outline.PartPlace.{PartPlace}
use Rattle.image_writer.specs.Contents.{contents_of, part_in}
use Rattle.image_writer.specs.Frames.{AreInside, back_of, front_of, outline_told}
use Rattle.image_writer.specs.Linkable.{IsLinkable}
use Rattle.image_writer.specs.Loadable.{HoldsTls, IsLoadable}
use Rattle.image_writer.specs.Outlined.{end_of}
use Rattle.image_writer.specs.Page.{base_of, file_offset}
use Rattle.image_writer.specs.Tables.{finished}
use Rattle.image_writer.specs.Told.{places_end, IsRelocationFitting, IsSymbolFitting}
use Rattle.image_writer.specs.Written.{laid, written}

-- a draft has a frame if it can be linked, whatever bytes its parts have
abbrev pub LinkableDraftsHaveFrames : Type 0
LinkableDraftsHaveFrames = (d : Draft) (file : List ℕ) → IsLinkable (contents_of d file) → AreInside d file
    → IsLoadable (outline_told d) × HoldsTls (outline_told d)

-- the file of its image is its parts in that frame
abbrev pub FramesHoldTheParts : Type 0
FramesHoldTheParts = (d : Draft) (file : List ℕ) → IsLinkable (contents_of d file) → AreInside d file
    → written (finished (contents_of d file))
    ≡ front_of d ++ (laid (base_of d.kind) (contents_of d file).parts ++ back_of d)

-- and it is read as that very image, if all numbers of the draft lie in the ranges of their types
abbrev pub FilesAreRead : Type 0
FilesAreRead = (d : Draft) (file : List ℕ) → IsLinkable (contents_of d file)
    → All IsSymbolFitting d.symbols.now → All IsRelocationFitting d.relocations.now
    → IsImage (written (finished (contents_of d file)))
    × (spelled (written (finished (contents_of d file))) ≡ finished (contents_of d file))

-- each part begins no earlier than the one before it ends
abbrev pub Rise : ℕ → List PartPlace → Type 0
Rise at [] = Unit {0}
Rise at (p ∷ more) = (at ≤ p.address) × Rise (end_of p) more

-- byte k of a file is in none of these parts
abbrev pub IsBetween : FileKind → List PartPlace → ℕ → Type 0
IsBetween kind places k =
    All (λ (p : PartPlace). (k < file_offset kind p.address) ⊎ (file_offset kind p.address + p.size ≤ k)) places

-- a file of parts at their offsets that is zero between them, without its first page, is these parts laid
abbrev pub PartsLieInPlace : Type 0
PartsLieInPlace = (kind : FileKind) (file : List ℕ) (places : List PartPlace) → Rise (base_of kind) places
    → length file ≡ file_offset kind (places_end kind places)
    → ((k : ℕ) → 4096 ≤ k → k < length file → IsBetween kind places k → slice_get file k ≡ Some 0)
    → drop 4096 file ≡ laid (base_of kind) (map (part_in kind file) places)
