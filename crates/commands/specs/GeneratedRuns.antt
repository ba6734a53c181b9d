-- What `gen N` says: the summary of a run of a generated job over generated objects.
use Rattle.std.specs.Prelude.{ℕ, true, List, Result, Ok, Err}
use Rattle.command_replies.specs.Says.{JobFaultSays}
use Rattle.generated_job.specs.Generated.{generated_files}
use Rattle.generated_laws.specs.Jobs.{generated_parts}
use Rattle.job_link.specs.declared.writable.WritableSections.TheVariants.{Kept}
use Rattle.job_link.specs.Given.{Given, AreGiven}
use Rattle.job_link.specs.Mentions.{bytes_in}
use Rattle.job_text.specs.Jobs.{JobParts}
use Rattle.job_text.specs.declared.fault.JobFault.{JobFault}
use Rattle.commands.specs.declared.telling.Telling.TheVariants.{Summary}
use Rattle.commands.specs.Jobs.{BytesSay, DoLink}
use Rattle.commands.specs.RunJobs.{IsRun}
use Rattle.commands.specs.Runs.{HasRun}

-- it ran: its objects are the generated ones, all its images link, with sequences rewritten, and the output is one line
pub record GenSays (count status : ℕ) (text : List ℕ) : Type 0 where
  pub images : List Given
  pub given : AreGiven (bytes_in (generated_files count)) (generated_parts count) images
  pub ran : DoLink (IsRun HasRun (Summary count)) true (generated_parts count) images status text

-- ** on the way

-- what is said over generated objects of a job, or of a text that is not one
abbrev pub MadeSays : ℕ → Result JobParts JobFault → ℕ → List ℕ → Type 0
MadeSays count (Ok job) status text =
    BytesSay (IsRun HasRun (Summary count)) true Kept (bytes_in (generated_files count)) job status text
MadeSays count (Err fault) status text = JobFaultSays fault status text
