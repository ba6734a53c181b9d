-- Reading objects one after another.
use Rattle.std.specs.Prelude.{◌≡◌, ◌+◌, ◌<◌, ◌⊎◌, ℕ, List, [], length, map, slice_index_or, MatchResult, Result}
use Rattle.std.specs.List.{All, Contains}
use Rattle.object_rules.specs.declared.fault.ObjectFault.TheVariants.{OutOfMemory}
use Rattle.link_faults.specs.declared.image_kind.ImageKind.{ImageKind}
use Rattle.job_text.specs.declared.images.Image.{Image}
use Rattle.job_text.specs.Jobs.{JobParts}
use Rattle.sequence_match.specs.Faults.{AreSites}
use Rattle.job_link.specs.declared.images.ReadObject.{ReadObject}
use Rattle.job_link.specs.declared.reading.ReadRefusal.{ReadRefusal}
use Rattle.job_link.specs.declared.writable.WritableSections.{WritableSections}
use Rattle.job_link.specs.Given.{Given, IsFileFault, IsFirstFaulty, IsGivenImage, IsTaken}

-- what a refusal says of files by these names; nothing when memory runs out
abbrev pub IsReadRefusal : WritableSections → (List ℕ → List ℕ) → List (List ℕ) → ReadRefusal → Type 0
IsReadRefusal writable bytes names refusal =
    (refusal.fault ≡ OutOfMemory) ⊎ IsFirstFaulty writable bytes names refusal.name.now refusal.fault

-- what a refusal says of the file of this name
abbrev pub IsRefusalOf : WritableSections → (List ℕ → List ℕ) → List ℕ → ReadRefusal → Type 0
IsRefusalOf writable bytes name refusal =
    (refusal.name.now ≡ name) × IsFileFault writable (bytes name) refusal.fault

-- the result of reading the file of this name
abbrev pub IsReading : WritableSections → (List ℕ → List ℕ) → List ℕ → Result ReadObject ReadRefusal → Type 0
IsReading writable bytes name came = MatchResult came
    (λ read. (read.object ≡ bytes name) × AreSites (bytes name) read.sites.items × IsTaken writable (bytes name))
    (IsRefusalOf writable bytes name)

-- the objects of each image of a job
abbrev pub objects_of : (List ℕ → List ℕ) → JobParts → List (List (List ℕ))
objects_of bytes job = map (λ (image : Image). map bytes image.objects) job.images

-- the kinds of image to link
abbrev pub kinds_of : List Given → List ImageKind
kinds_of images = map (λ (g : Given). g.kind) images

-- images of the job's kinds, in image order; those of these numbers have been read
pub record IsReadIn (bytes : List ℕ → List ℕ) (job : JobParts) (numbers : List ℕ) (images : List Given) : Type 0 where
  pub kinds : kinds_of images ≡ map (λ (image : Image). image.kind) job.images
  pub given : All IsGivenImage images
  pub objects : (k : ℕ) → k < length job.images → Contains numbers (k + 1)
      → slice_index_or (map (λ (g : Given). g.objects) images) k [] ≡ slice_index_or (objects_of bytes job) k []
