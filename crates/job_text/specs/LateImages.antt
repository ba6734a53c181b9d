-- The images of a job in image order: the late ones, which a thread opens, come last.
use Rattle.std.proofs.Common.{◌≡◌, ◌∙◌, ℕ, zero, suc, true, false, List, [], ◌∷◌, ◌++◌, map, Ok, refl, sym, ap, arith}
use Rattle.std.proofs.lemmas.Bool.{false≢true}
use Rattle.std.proofs.lemmas.List.Elements.{All-cons, All-head, All-map, All-tail, All-weaker}
use Rattle.std.specs.List.{All, AllPairs}
use Rattle.job_text.specs.Groups.{IsOf, of_text}
use Rattle.job_text.specs.Jobs.{JobParts, job_of}
use Rattle.job_text.specs.declared.images.Image.{Image}
use Rattle.link_faults.specs.ImageKinds.{is_module}
pub use Rattle.link_faults.specs.ImageKinds.{is_late}
use Rattle.link_faults.specs.declared.image_kind.ImageKind.{ImageKind}
use Rattle.link_faults.specs.declared.image_kind.ImageKind.TheVariants.{Exe, Pie, Start, Late}

-- late images come after all that are loaded with the program
abbrev pub LateLast : List ImageKind → Type 0
LateLast kinds = AllPairs (λ (a b : ImageKind). is_late a ≡ true → is_late b ≡ true) kinds

abbrev IsEarly : Image → Type 0
IsEarly image = is_late image.kind ≡ false

abbrev IsLate : Image → Type 0
IsLate image = is_late image.kind ≡ true

behind : (early lates : List Image) → All IsEarly early → All IsLate lates
    → LateLast (map (λ image. image.kind) (early ++ lates))
behind [] lates none late i j d lt within is =
    All-map (λ (kind : ImageKind). is_late kind ≡ true) (λ (image : Image). image.kind) lates late j d within
behind (x ∷ xs) lates first late zero j d lt within is =
    absurd (false≢true (sym (All-head IsEarly x xs first) ∙ is))
behind (x ∷ xs) lates first late (suc i) zero d lt within is = absurd (omega (arith, lt))
behind (x ∷ xs) lates first late (suc i) (suc j) d lt within is =
    behind xs lates (All-tail IsEarly x xs first) late i j d (omega (arith, lt)) (omega (arith, within)) is

program_early : (kind : ImageKind) → is_module kind ≡ false → is_late kind ≡ false
program_early Exe is = refl
program_early Pie is = refl
program_early Start is = refl
program_early Late is = absurd (cc is)

-- the law
pub late_last : (text : List ℕ) (job : JobParts) → job_of text ≡ Ok job
    → LateLast (map (λ image. image.kind) job.images)
late_last = of_text (λ job. LateLast (map (λ image. image.kind) job.images)) (λ program d is are.
    behind (program ∷ d.starts) d.lates
    (All-cons IsEarly program d.starts (program_early program.kind is)
    (All-weaker (IsOf Start) IsEarly (λ image start. ap is_late start) d.starts are.starts))
    (All-weaker (IsOf Late) IsLate (λ image late. ap is_late late) d.lates are.lates))
