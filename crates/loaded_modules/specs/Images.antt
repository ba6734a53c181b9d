-- The images of a job, and the facts about them before anything is loaded: when each is loaded, its TLS segment
-- (gABI, "Program Header": PT_TLS), whether it uses static TLS (gABI, "Dynamic Section": DF_STATIC_TLS), and where
-- the blocks of the images that start with the program lie (Drepper, "ELF Handling For Thread-Local Storage",
-- section 3, variant II).
use Rattle.std.specs.Prelude.{ℕ, List, [], ◌∷◌, take, Option, Some, None}
use Rattle.image_file.specs.declared.part.TlsPart.{TlsPart}
use Rattle.image_file.specs.Spelled.{Spelled}
use Rattle.job_text.specs.Numbering.{at_number}
pub use Rattle.link_faults.specs.ImageKinds.{is_late}
use Rattle.link_faults.specs.declared.image_kind.ImageKind.{ImageKind}
use Rattle.module_table.specs.declared.modules.ImageInfo.{ImageInfo}
use Rattle.module_table.specs.Modules.{startup_end}

-- the images of a job in image order, each with the kind that the job gives it: image 1 is the program
pub record JobImages : Type 0 where
  pub kinds : List ImageKind
  pub images : List Spelled

-- the size and the alignment of each thread's block
abbrev pub block_size : Option TlsPart → ℕ
block_size None = 0
block_size (Some tls) = tls.size

abbrev pub block_alignment : Option TlsPart → ℕ
block_alignment None = 1
block_alignment (Some tls) = tls.alignment

abbrev pub info_of : ImageKind → Spelled → ImageInfo
info_of kind image = record {
  late = is_late kind;
  statics = image.is_flagged;
  size = block_size image.tls;
  align = block_alignment image.tls;
}

abbrev pub infos_of : List ImageKind → List Spelled → List ImageInfo
infos_of (kind ∷ kinds) (image ∷ images) = info_of kind image ∷ infos_of kinds images
infos_of kinds images = []

unfoldable pub infos : JobImages → List ImageInfo
infos m = infos_of m.kinds m.images

-- how far below the thread pointer the block of the last startup image begins
unfoldable pub last_offset : JobImages → ℕ
last_offset m = startup_end (infos m) 0

-- how far below the thread pointer the block of a startup image begins, by the image's number
unfoldable pub static_offset : JobImages → ℕ → ℕ
static_offset m number = startup_end (take number (infos m)) 0

-- an image, by its number, counted from 1
unfoldable pub image_at : JobImages → ℕ → Option Spelled
image_at m number = at_number m.images number

-- how many bytes each thread's block of an image has, by the image's number
abbrev pub size_of : Option Spelled → ℕ
size_of None = 0
size_of (Some image) = block_size image.tls

unfoldable pub size_at : JobImages → ℕ → ℕ
size_at m number = size_of (image_at m number)
