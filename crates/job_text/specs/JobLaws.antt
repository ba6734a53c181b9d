-- What holds of each job, and what an answer is.
use Rattle.std.specs.List.{All}
use Rattle.std.specs.Prelude.{◌≡◌, ℕ, ◌≤◌, ◌<◌, ◌^◌, List, length}
use Rattle.std.specs.Prelude.{Result, Ok, Err}
use Rattle.job_text.specs.Actions.{IsAction}
use Rattle.job_text.specs.Threads.{IsThread, of_thread}
use Rattle.job_text.specs.Images.{IsImageNumber}
use Rattle.job_text.specs.Listings.{IsListOf}
use Rattle.job_text.specs.declared.fault.JobFault.{JobFault}
use Rattle.job_text.specs.declared.fault.JobFault.TheVariants.{At, OutOfMemory}
use Rattle.job_text.specs.declared.images.Image.{Image}
use Rattle.job_text.specs.declared.thread_lines.ThreadLine.{ThreadLine}
use Rattle.job_text.specs.Jobs.{JobParts}

-- the record of these parts
abbrev pub job_parts : List Image → List ℕ → ℕ → List ℕ → List (List ThreadLine) → JobParts
job_parts images mentions fuel order lines =
    record { images = images; mentions = mentions; fuel = fuel; order = order; lines = lines }

-- a line of a thread is about an image of the job
pub record IsLineOf (images : List Image) (line : ThreadLine) : Type 0 where
  pub image : IsImageNumber images line.image
  pub shown : IsAction line.action

-- what holds of each job
pub record IsJob (job : JobParts) : Type 0 where
  pub some_image : 1 ≤ length job.images
  pub few_images : length job.images ≤ 64
  pub mentioned : IsListOf (IsImageNumber job.images) job.mentions
  pub some_thread : 1 ≤ length job.lines
  pub few_threads : length job.lines ≤ 64
  pub some_fuel : 1 ≤ job.fuel
  pub little_fuel : job.fuel < 2 ^ 32
  pub order_named : All (IsThread (length job.lines)) job.order
  pub lines_placed : All (All (IsLineOf job.images)) job.lines

-- the lines of a thread; none if there is no such thread
abbrev pub lines_of_thread : JobParts → ℕ → List ThreadLine
lines_of_thread job thread = of_thread job.lines thread

-- a result is the defined one, or OutOfMemory
abbrev pub IsAnswer : Result JobParts JobFault → Result JobParts JobFault → Type 0
IsAnswer right (Ok job) = right ≡ Ok job
IsAnswer right (Err OutOfMemory) = Unit {0}
IsAnswer right (Err (At line kind)) = right ≡ Err (At line kind)
