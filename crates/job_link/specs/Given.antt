-- The objects of the images of a job, each with its sequences, and the first that has a fault.
use Rattle.std.specs.Prelude.{◌≡◌, ◌<◌, ◌⊎◌, ℕ, List, [], Some, length, map, slice_get, slice_index_or}
use Rattle.std.specs.List.{All}
use Rattle.object_rules.specs.declared.fault.FaultKind.{FaultKind}
use Rattle.object_rules.specs.declared.fault.FaultKind.TheVariants.{Sequence, StrayCall, WritableData}
use Rattle.object_rules.specs.declared.fault.ObjectFault.{ObjectFault}
use Rattle.object_rules.specs.declared.fault.ObjectFault.TheVariants.{OutOfMemory, At}
use Rattle.elf_object.specs.Faults.{IsFirst, IsFirstAt, IsObject, Stands}
use Rattle.elf_object.specs.Object.{IsWritable}
use Rattle.job_text.specs.declared.images.Image.{Image}
use Rattle.job_text.specs.Jobs.{JobParts}
use Rattle.link_faults.specs.declared.image_kind.ImageKind.{ImageKind}
use Rattle.sequence_forms.specs.declared.places.Site.{Site}
use Rattle.sequence_match.specs.Faults.{AreSites, Nowhere, Stands as SequenceStands}
use Rattle.job_link.specs.declared.writable.WritableSections.{WritableSections}
use Rattle.job_link.specs.declared.writable.WritableSections.TheVariants.{Kept, Refused}

-- ** one file

-- it is an object, and its thread-local accesses are sequences
pub record IsSoundObject (b : List ℕ) : Type 0 where
  pub object : IsObject b
  pub no_loose : Nowhere Sequence b
  pub no_stray : Nowhere StrayCall b

-- if data that programs write is refused, no section of it has any, in the file or in memory
abbrev pub Allows : WritableSections → List ℕ → Type 0
Allows Kept b = Unit {0}
Allows Refused b = (section : ℕ) → IsWritable b section → ⊥

-- it is sound, and has nothing that is refused
pub record IsTaken (writable : WritableSections) (b : List ℕ) : Type 0 where
  pub sound : IsSoundObject b
  pub allowed : Allows writable b

-- the lowest of its sections that are refused
abbrev pub IsDataFault : WritableSections → List ℕ → ℕ → ℕ → FaultKind → Type 0
IsDataFault Kept b section entry kind = ⊥
IsDataFault Refused b section entry kind =
    IsFirstAt (IsWritable b) (Some section) × (entry ≡ 0) × (kind ≡ WritableData)

abbrev pub IsDataFaultOf : WritableSections → List ℕ → ObjectFault → Type 0
IsDataFaultOf writable b OutOfMemory = ⊥
IsDataFaultOf writable b (At section entry kind) = IsDataFault writable b section entry kind

-- what a refusal says of a file: its first fault as an object; without one, its lowest refused section; without one,
-- the first fault of its sequences; nothing when memory runs out
abbrev pub IsFileFault : WritableSections → List ℕ → ObjectFault → Type 0
IsFileFault writable b OutOfMemory = Unit {0}
IsFileFault writable b (At section entry kind) =
    IsFirst Stands b section entry kind
    ⊎ (IsObject b × (IsDataFault writable b section entry kind
    ⊎ (Allows writable b × IsFirst SequenceStands b section entry kind)))

-- ** the images

-- the input of a link
pub record Given : Type 0 where
  pub kind : ImageKind
  pub objects : List (List ℕ)
  pub sites : List (List Site)

-- the objects are sound, and the sites are their own sequences
pub record IsGivenImage (g : Given) : Type 0 where
  pub sound : All IsSoundObject g.objects
  pub each : length g.sites ≡ length g.objects
  pub own : (o : ℕ) → o < length g.objects → AreSites (slice_index_or g.objects o []) (slice_index_or g.sites o [])

-- these are the images of the job, in image order, over the bytes of files by their names
pub record AreGiven (bytes : List ℕ → List ℕ) (job : JobParts) (images : List Given) : Type 0 where
  pub kinds : map (λ (g : Given). g.kind) images ≡ map (λ (image : Image). image.kind) job.images
  pub objects : map (λ (g : Given). g.objects) images
      ≡ map (λ (image : Image). map bytes image.objects) job.images
  pub given : All IsGivenImage images

-- ** the first of these names whose file is refused, and its fault

pub record IsFirstFaulty (writable : WritableSections) (bytes : List ℕ → List ℕ) (names : List (List ℕ))
    (name : List ℕ) (fault : ObjectFault) : Type 0 where
  pub at : ℕ
  pub there : slice_get names at ≡ Some name
  pub here : IsFileFault writable (bytes name) fault
  pub before : (k : ℕ) (other : List ℕ) → k < at → slice_get names k ≡ Some other → IsTaken writable (bytes other)
