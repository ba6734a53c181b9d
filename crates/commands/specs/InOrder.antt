-- What holds before a command's last step: the order of a job's images, and their links.
use Rattle.std.specs.Prelude.{◌≡◌, ◌<◌, ◌≤◌, ◌^◌, ℕ, Bool, List, length, map, Ok}
use Rattle.job_link.specs.Given.{Given, AreGiven}
use Rattle.job_link.specs.Linked.{AllLink}
use Rattle.job_text.specs.Jobs.{JobParts, job_of}
use Rattle.job_text.specs.LateImages.{LateLast}
use Rattle.job_text.specs.ProgramFirst.{ProgramFirst}
use Rattle.link_faults.specs.declared.image_kind.ImageKind.{ImageKind}
use Rattle.link_needs.specs.Linking.{Linking}
use Rattle.linked_jobs.specs.Ready.{AreJob}
use Rattle.elf_records.specs.FieldLaws.{AreBytes}
use Rattle.commands.specs.Jobs.{links_of}

-- the images of a job are in order: the first and no other is the program, and those that a thread opens come last
pub record AreInOrder (kinds : List ImageKind) : Type 0 where
  pub late : LateLast kinds
  pub program : ProgramFirst kinds

-- the images of each job that a text spells are in order
abbrev pub IsInOrder : List ℕ → JobParts → Type 0
IsInOrder text job = job_of text ≡ Ok job → AreInOrder (map (λ image. image.kind) job.images)

-- all images of a job, which are made of these files, link, and these are their links
pub record AreLinked (job : JobParts) (images : List Given) (ls : List Linking) : Type 0 where
  pub some : 1 ≤ length job.images
  pub few : length job.images ≤ 64
  pub order : AreInOrder (map (λ image. image.kind) job.images)
  pub bytes : List ℕ → List ℕ
  pub small : (name : List ℕ) → AreBytes (bytes name)
  pub given : AreGiven bytes job images
  pub relax : Bool
  pub links : AllLink images relax
  pub links_are : ls ≡ links_of images relax

-- an image is linked from fewer than 2^32 objects, so that all their symbols have numbers of their own
abbrev pub IsOfFew : Given → Type 0
IsOfFew g = length g.objects < 2 ^ 32

-- the links of a job's images, in image order; each is made of sound objects
pub record AreLinks (job : JobParts) (ls : List Linking) : Type 0 where
  pub links : AreJob ls
  pub kinds : map (λ l. l.kind) ls ≡ map (λ image. image.kind) job.images
