-- The images of a job in their groups: the program, the modules that start with it, and the late ones.
use Rattle.std.proofs.Common.{◌≡◌, ◌+◌, ℕ, Bool, true, false, List, [], ◌∷◌, Option, Some, None, Result, Ok, refl, ap}
use Rattle.std.proofs.Common.{subst}
use Rattle.std.specs.List.{All}
use Rattle.std.specs.Option.{IfSome}
use Rattle.std.proofs.lemmas.List.Elements.{All-nil, All-push}
use Rattle.job_text.specs.Drafts.{Declared, nothing_declared}
use Rattle.job_text.specs.Grammar.{heading_of}
use Rattle.job_text.specs.Jobs.{JobParts, fault_or, job_from, job_of, job_of_program, job_with}
use Rattle.job_text.specs.LineEffects.{with_heading, with_image, with_text, with_words}
use Rattle.job_text.specs.LineFaults.{fault_of}
use Rattle.job_text.specs.Words.{is_skipped, lines_of, words_of}
use Rattle.job_text.specs.declared.fault.JobFault.{JobFault}
use Rattle.job_text.specs.declared.fault.JobFaultKind.{JobFaultKind}
use Rattle.job_text.specs.declared.grammar.Heading.TheVariants as heading
use Rattle.job_text.specs.declared.grammar.Heading.{Heading}
use Rattle.job_text.specs.declared.images.Image.{Image}
use Rattle.link_faults.specs.ImageKinds.{is_module}
use Rattle.link_faults.specs.declared.image_kind.ImageKind.{ImageKind}
use Rattle.link_faults.specs.declared.image_kind.ImageKind.TheVariants.{Exe, Pie, Start, Late}

abbrev IsProgram : Image → Type 0
IsProgram image = is_module image.kind ≡ false

abbrev pub IsOf : ImageKind → Image → Type 0
IsOf kind image = image.kind ≡ kind

-- the images of each group are of its kind
pub record AreGroups (d : Declared) : Type 0 where
  pub program : IfSome d.program IsProgram
  pub starts : All (IsOf Start) d.starts
  pub lates : All (IsOf Late) d.lates

-- ** each line keeps the groups

with_one : (kind : ImageKind) (image : Image) (d : Declared) → IsOf kind image → AreGroups d
    → AreGroups (with_image image kind d)
with_one Exe image d is are = record { program = ap is_module is; starts = are.starts; lates = are.lates }
with_one Pie image d is are = record { program = ap is_module is; starts = are.starts; lates = are.lates }
with_one Start image d is are =
    record { program = are.program; starts = All-push (IsOf Start) d.starts image are.starts is; lates = are.lates }
with_one Late image d is are =
    record { program = are.program; starts = are.starts; lates = All-push (IsOf Late) d.lates image are.lates is }

with_more : (h : Heading) (words : List (List ℕ)) (d : Declared) → AreGroups d → AreGroups (with_words h words d)
with_more (heading.Image kind) words d are = with_one kind _ d refl are
with_more heading.Threads words d are = record { program = are.program; starts = are.starts; lates = are.lates }
with_more heading.Fuel words d are = record { program = are.program; starts = are.starts; lates = are.lates }
with_more heading.Order words d are = record { program = are.program; starts = are.starts; lates = are.lates }
with_more (heading.Thread verb) words d are = record { program = are.program; starts = are.starts; lates = are.lates }
with_more heading.Short words d are = are

with_headed : (h : Option Heading) (words : List (List ℕ)) (d : Declared) → AreGroups d
    → AreGroups (with_heading h words d)
with_headed None words d are = are
with_headed (Some h) words d are = with_more h words d are

with_line_of : (skipped : Bool) (line : List ℕ) (d : Declared) → is_skipped line ≡ skipped → AreGroups d
    → AreGroups (with_text line d)
unfolding with_text
with_line_of true line d is are = rw is are
with_line_of false line d is are = rw is (with_headed (heading_of (words_of line)) (words_of line) d are)

-- ** what holds of a job whose images are in groups holds of a text's

module _ (P : JobParts → Type 0)
    (holds : (program : Image) (d : Declared) → IsProgram program → AreGroups d → P (job_with program d)) where
  of_declared : (p : Option Image) (d : Declared) (job : JobParts) → IfSome p IsProgram → AreGroups d
      → job_of_program p d ≡ Ok job → P job
  of_declared None d job is are e = absurd (cc e)
  of_declared (Some program) d job is are e = subst P (same (job_with program d) job e) (holds program d is are)
    where
      same : (x y : JobParts) → ◌≡◌ {A = Result JobParts JobFault} (Ok x) (Ok y) → x ≡ y
      same x y e = cc

  past_fault : (number : ℕ) (fault : Option JobFaultKind) (rest : Result JobParts JobFault) (job : JobParts)
      → fault_or number fault rest ≡ Ok job → rest ≡ Ok job
  past_fault number None rest job is = is
  past_fault number (Some kind) rest job is = absurd (cc is)

  of_lines : (lines : List (List ℕ)) (number : ℕ) (d : Declared) (job : JobParts) → AreGroups d
      → job_from d number lines ≡ Ok job → P job
  unfolding job_from
  of_lines [] number d job are is = of_declared d.program d job are.program are is
  of_lines (line ∷ more) number d job are is =
      of_lines more (number + 1) (with_text line d) job (with_line_of (is_skipped line) line d refl are)
      (past_fault number (fault_of d number line) _ job is)

  pub of_text : (text : List ℕ) (job : JobParts) → job_of text ≡ Ok job → P job
  unfolding job_of
  of_text text job is = of_lines (lines_of text) 1 nothing_declared job
      (record { program = tt; starts = All-nil (IsOf Start); lates = All-nil (IsOf Late) }) is
