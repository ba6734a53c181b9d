-- Which images a text can spell. It watches what `job_of` makes of image lines (job_text: `Grammar`, `LineFaults`,
-- `LineEffects` and `Jobs`), in the words of the guide: "a name of an image has 1 to 64 letters, digits, `_`, `.` and
-- `-`; names of objects have 1 to 255 bytes; there are at most 64 images". That words have bytes, `Spellable` says.
use Rattle.std.specs.Prelude.{◌≡◌, ◌≢◌, ◌≤◌, ℕ, List, ◌∷◌, ◌++◌, length, codes}
use Rattle.std.specs.List.{All, AllPairs, Contains}
use Rattle.job_text.specs.declared.images.Image.{Image}
use Rattle.link_faults.specs.declared.image_kind.ImageKind.TheVariants.{Start, Late}

-- the bytes of a name
abbrev pub letters : List ℕ
letters = codes "ABCDEFGHIJKLMNOPQRSTUVWXYZabcdefghijklmnopqrstuvwxyz0123456789_.-"

pub record IsName (name : List ℕ) : Type 0 where
  pub some : 1 ≤ length name
  pub short : length name ≤ 64
  pub bytes : All (Contains letters) name

-- an image has a name and objects
pub record IsSpelled (image : Image) : Type 0 where
  pub name : IsName image.name
  pub objects : 1 ≤ length image.objects
  pub short : All (λ object. length object ≤ 255) image.objects

-- where the kinds stand: a program, then modules that start with it, then late ones
abbrev pub IsProgram : Image → Type 0
IsProgram image = (image.kind ≢ Start) × (image.kind ≢ Late)

abbrev pub IsStart : Image → Type 0
IsStart image = image.kind ≡ Start

abbrev pub IsLate : Image → Type 0
IsLate image = image.kind ≡ Late

pub record InOrder (images : List Image) : Type 0 where
  pub program : Image
  pub starts : List Image
  pub lates : List Image
  pub all : images ≡ program ∷ starts ++ lates
  pub is_program : IsProgram program
  pub are_starts : All IsStart starts
  pub are_lates : All IsLate lates

-- the images of a text's job
pub record AreSpelled (images : List Image) : Type 0 where
  pub few : length images ≤ 64
  pub each : All IsSpelled images
  pub apart : AllPairs (λ (a b : Image). a.name ≢ b.name) images
  pub order : InOrder images
