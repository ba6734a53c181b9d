-- Which jobs have a text, part by part. It watches the limits that `job_of` keeps (job_text: `Jobs`), and says what
-- `IsJob` leaves out: words have a byte at least, and neither a space nor a line feed stands in one; images of a group
-- are mentioned in their order; and there are no more lines than a text may have.
use Rattle.std.specs.Prelude.{◌≡◌, ◌≢◌, ◌≤◌, ◌<◌, ◌+◌, ◌^◌, ◌==◌, ◌↔◌, ℕ, List, ◌++◌, length, Ok}
use Rattle.std.specs.Prelude.{if◌then◌else◌}
use Rattle.std.specs.List.{All, AllPairs, filter_map, sum_by}
use Rattle.job_text.specs.Images.{IsImageNumber}
use Rattle.job_text.specs.Jobs.{JobParts, job_of}
use Rattle.job_text.specs.Numbering.{at_number}
use Rattle.job_text.specs.Threads.{IsThread}
use Rattle.job_text.specs.declared.images.Image.{Image}
use Rattle.job_text.specs.declared.thread_lines.Action.{Action}
use Rattle.job_text.specs.declared.thread_lines.Action.TheVariants.{Call, Open, Close, Peek}
use Rattle.job_text.specs.declared.thread_lines.ThreadLine.{ThreadLine}
use Rattle.job_grammar_laws.specs.Grammar.{IsWord, group, names, of_group}
use Rattle.job_grammar_laws.specs.Images.{IsSpelled}

-- a text spells the job
abbrev pub HasText : JobParts → Type 0
HasText job = (text : List ℕ) × (job_of text ≡ Ok job)

-- the name of a symbol
abbrev pub IsSymbol : List ℕ → Type 0
IsSymbol symbol = IsWord symbol × (length symbol ≤ 255)

-- what a line can say of what is done
abbrev pub IsWritable : Action → Type 0
IsWritable (Call symbol a b c) = IsSymbol symbol × (a < 2 ^ 64) × (b < 2 ^ 64) × (c < 2 ^ 64)
IsWritable Open = Unit {0}
IsWritable Close = Unit {0}
IsWritable (Peek symbol n) = IsSymbol symbol × (n ≤ 4096)

-- the images in the order in which a text has to name them
abbrev pub mentioned : JobParts → List Image
mentioned job = filter_map (at_number job.images) job.mentions

-- images that lines can name, one after the other
pub record AreNameable (images : List Image) : Type 0 where
  pub few : length images ≤ 64
  pub each : All IsSpelled images
  pub objects : All (λ image. All IsWord image.objects) images
  pub apart : AllPairs (λ (a b : List ℕ). a ≢ b) (names images)
  pub one_program : AllPairs (λ (a b : Image). group a.kind ≡ 0 → group b.kind ≢ 0) images
  pub some_program : 1 ≤ length (of_group 0 images)

-- a line of a thread that can be written
pub record IsSpellableLine (images : List Image) (line : ThreadLine) : Type 0 where
  pub image : IsImageNumber images line.image
  pub action : IsWritable line.action

-- the lines of the shortest text: `threads`, `fuel` and `order` only where they are needed
abbrev pub least_lines : JobParts → ℕ
least_lines job =
    length job.images + (if length job.lines == 1 then 0 else 1) + (if job.fuel == 100000 then 0 else 1)
    + (if length job.order == 0 then 0 else 1) + sum_by length job.lines

pub record IsSpellable (job : JobParts) : Type 0 where
  pub numbers : All (IsImageNumber job.images) job.mentions
  pub named : AreNameable (mentioned job)
  pub images : job.images ≡ of_group 0 (mentioned job) ++ of_group 1 (mentioned job) ++ of_group 2 (mentioned job)
  pub some_thread : 1 ≤ length job.lines
  pub few_threads : length job.lines ≤ 64
  pub some_fuel : 1 ≤ job.fuel
  pub little_fuel : job.fuel < 2 ^ 32
  pub order_named : All (IsThread (length job.lines)) job.order
  pub lines : All (All (IsSpellableLine job.images)) job.lines
  pub few_lines : least_lines job ≤ 65536

-- a job has a text exactly if it can be spelled
abbrev pub TextsAreSpelled : Type 0
TextsAreSpelled = (job : JobParts) → HasText job ↔ IsSpellable job
