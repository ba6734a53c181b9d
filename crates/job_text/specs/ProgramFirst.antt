-- The images of a job in image order: the program comes first, and no other image is one.
use Rattle.std.proofs.Common.{◌≡◌, ℕ, true, false, List, [], ◌∷◌, ◌++◌, map, Ok, ap}
use Rattle.std.specs.List.{All}
use Rattle.std.proofs.lemmas.List.Elements.{All-append, All-map, All-weaker}
use Rattle.job_text.specs.Groups.{IsOf, of_text}
use Rattle.job_text.specs.Jobs.{JobParts, job_of}
use Rattle.job_text.specs.declared.images.Image.{Image}
use Rattle.link_faults.specs.ImageKinds.{is_module}
use Rattle.link_faults.specs.declared.image_kind.ImageKind.{ImageKind}
use Rattle.link_faults.specs.declared.image_kind.ImageKind.TheVariants.{Start, Late}

-- of the kinds of images in image order, the first is a program and all others are modules
abbrev pub ProgramFirst : List ImageKind → Type 0
ProgramFirst [] = ⊥
ProgramFirst (kind ∷ kinds) = (is_module kind ≡ false) × All (λ other. is_module other ≡ true) kinds

abbrev IsModule : Image → Type 0
IsModule image = is_module image.kind ≡ true

-- the law
pub program_first : (text : List ℕ) (job : JobParts) → job_of text ≡ Ok job
    → ProgramFirst (map (λ image. image.kind) job.images)
program_first = of_text (λ job. ProgramFirst (map (λ image. image.kind) job.images)) (λ program d is are. (
  is,
  All-map (λ (other : ImageKind). is_module other ≡ true) (λ (image : Image). image.kind) (d.starts ++ d.lates)
      (All-append IsModule d.starts d.lates
      (All-weaker (IsOf Start) IsModule (λ image start. ap is_module start) d.starts are.starts)
      (All-weaker (IsOf Late) IsModule (λ image late. ap is_module late) d.lates are.lates)),
))
