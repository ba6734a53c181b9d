-- When images are those of a job; a linker that links the job makes such images.
use Rattle.std.specs.Prelude.{◌≡◌, ◌≢◌, ℕ, true, false, List, length, map, All, is_some, slice_get, Some}
use Rattle.image_file.specs.declared.relocation.ImageRelocation.{ImageRelocation}
use Rattle.image_file.specs.Spelled.{Spelled}
use Rattle.image_faults.specs.declared.loader_kind.LoaderKind.TheVariants.{JumpSlot, ThreadOffset}
use Rattle.image_rules.specs.declared.places.FileKind.{FileKind}
use Rattle.image_rules.specs.declared.places.FileKind.TheVariants.{Exe as ExeFile, Pie as PieFile, Module as ModuleFile}
use Rattle.job_text.specs.Jobs.{JobParts}
pub use Rattle.job_text.specs.LateImages.{LateLast}
use Rattle.link_faults.specs.declared.image_kind.ImageKind.{ImageKind}
use Rattle.link_faults.specs.declared.image_kind.ImageKind.TheVariants.{Exe, Pie, Start, Late}
use Rattle.loaded_modules.specs.Images.{JobImages, is_late}
use Rattle.loaded_modules.specs.Loader.{export_of, name_of}
use Rattle.loaded_modules.specs.Loader.{of_job}

-- the kind that the file of an image has
abbrev pub file_kind_of : ImageKind → FileKind
file_kind_of Exe = ExeFile
file_kind_of Pie = PieFile
file_kind_of Start = ModuleFile
file_kind_of Late = ModuleFile

-- a startup image shares the symbol that the relocation names; JUMP_SLOT names the run time's function that
-- finds thread-local data
abbrev pub NamesShared : JobImages → Spelled → ImageRelocation → Type 0
NamesShared m image r = r.symbol ≢ 0 → r.kind ≢ JumpSlot → is_some (export_of m (name_of image r.symbol)) ≡ true

-- it needs no block of its own image at a fixed offset from the thread pointer
abbrev pub IsDynamic : ImageRelocation → Type 0
IsDynamic r = r.symbol ≡ 0 → r.kind ≢ ThreadOffset

pub record AreModules (job : JobParts) (images : List Spelled) : Type 0 where
  pub each : length images ≡ length job.images
  pub kinds : map (λ image. image.kind) images ≡ map (λ image. file_kind_of image.kind) job.images
  pub late_last : LateLast (of_job job images).kinds
  pub shared : All (λ image. All (NamesShared (of_job job images) image) image.relocations) images
  pub flagged : (index : ℕ) (kind : ImageKind) (image : Spelled) → slice_get (of_job job images).kinds index ≡ Some kind
      → slice_get images index ≡ Some image → is_late kind ≡ true → image.is_flagged ≡ false
      → All IsDynamic image.relocations
