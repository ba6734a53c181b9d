-- A job, as contracts see it, and how the lines make it.
use Rattle.std.specs.Prelude.{ℕ, ◌+◌, List, [], ◌∷◌, ◌++◌, length, map, Option, Some, None}
use Rattle.std.specs.Prelude.{unwrap_or, Result, Ok, Err}
use Rattle.job_text.specs.Drafts.{Declared, nothing_declared}
use Rattle.job_text.specs.LineEffects.{with_text}
use Rattle.job_text.specs.LineFaults.{fault_of}
use Rattle.job_text.specs.Words.{lines_of}
use Rattle.job_text.specs.declared.draft.Slot.{Slot}
use Rattle.job_text.specs.declared.draft.Slot.TheVariants.{Program, Start, Late}
use Rattle.job_text.specs.declared.draft.Plan.{Plan}
use Rattle.job_text.specs.declared.fault.JobFault.{JobFault}
use Rattle.job_text.specs.declared.fault.JobFault.TheVariants.{At}
use Rattle.job_text.specs.declared.fault.JobFaultKind.{JobFaultKind}
use Rattle.job_text.specs.declared.fault.JobFaultKind.TheVariants.{NoExe}
use Rattle.job_text.specs.declared.images.Image.{Image}
use Rattle.job_text.specs.declared.thread_lines.ThreadLine.{ThreadLine}

-- the images in image order, their numbers in the order of their lines, the steps of a call, the
-- threads of the first turns, and the lines of each thread, thread 1 first
pub record JobParts : Type 0 where
  pub images : List Image
  pub mentions : List ℕ
  pub fuel : ℕ
  pub order : List ℕ
  pub lines : List (List ThreadLine)

-- the number of an image: the program is 1, then come the `starts` start images, then the late ones
abbrev pub number_of : ℕ → Slot → ℕ
number_of starts Program = 1
number_of starts (Start index) = 2 + index
number_of starts (Late index) = 2 + starts + index

-- a line of a thread, with its image's number
abbrev pub numbered_line : ℕ → Plan → ThreadLine
numbered_line starts plan = record { image = number_of starts plan.slot; action = plan.action }

-- the images in image order
abbrev pub in_image_order : Image → List Image → List Image → List Image
in_image_order program starts lates = program ∷ starts ++ lates

-- the job with this program; without a line `fuel` a call has 100,000 steps
abbrev pub job_with : Image → Declared → JobParts
job_with program d = record {
  images = in_image_order program d.starts d.lates;
  mentions = map (number_of (length d.starts)) d.mentions;
  fuel = unwrap_or d.fuel 100000;
  order = unwrap_or d.order [];
  lines = map (map (numbered_line (length d.starts))) d.lines;
}

-- the job of this program, if there is one; else the fault of a job without a program
abbrev pub job_of_program : Option Image → Declared → Result JobParts JobFault
job_of_program None d = Err (At 0 NoExe)
job_of_program (Some program) d = Ok (job_with program d)

-- the job that the lines declare
abbrev pub job_declared : Declared → Result JobParts JobFault
job_declared d = job_of_program d.program d

-- the fault, if there is one; else the rest
abbrev pub fault_or : ℕ → Option JobFaultKind → Result JobParts JobFault → Result JobParts JobFault
fault_or number None rest = rest
fault_or number (Some kind) rest = Err (At number kind)

-- the job that these lines make, the first of which has this number, after lines that declared d; or the fault
-- of the first faulty line
unfoldable pub job_from : Declared → ℕ → List (List ℕ) → Result JobParts JobFault
job_from d number [] = job_declared d
job_from d number (line ∷ more) =
    fault_or number (fault_of d number line) (job_from (with_text line d) (number + 1) more)

-- the job that a text spells, or its first fault
unfoldable pub job_of : List ℕ → Result JobParts JobFault
job_of text = job_from nothing_declared 1 (lines_of text)
