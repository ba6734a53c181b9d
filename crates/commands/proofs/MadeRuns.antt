-- Of a job that is made nothing is refused.
use Rattle.std.proofs.Common.{◌≤◌, ℕ, true, List, Result, subst}
use Rattle.command_replies.specs.declared.fault.CommandFault.{CommandFault}
use Rattle.command_replies.specs.Steps.{Comes}
use Rattle.generated_job.specs.Generated.{generated_files, generated_text}
use Rattle.generated_laws.specs.Jobs.{generated_parts}
use Rattle.generated_laws.specs.JobLaws.{GeneratedTextsAreJobs}
use Rattle.generated_laws.specs.Linked.{GeneratedObjectsLink}
use Rattle.generated_laws.specs.Sound.{GeneratedObjectsAreFaultless}
use Rattle.job_link.specs.declared.writable.WritableSections.TheVariants.{Kept}
use Rattle.job_link.specs.Mentions.{bytes_in}
use Rattle.job_text.specs.Jobs.{job_of}
use Rattle.commands.specs.GeneratedRuns.{GenSays, MadeSays}
use Rattle.commands.specs.RunJobs.{IsRun}
use Rattle.commands.specs.Runs.{HasRun}
use Rattle.commands.specs.declared.telling.Telling.TheVariants.{Summary}
use Rattle.commands.proofs.MadeImages.{made_link}
use Rattle.commands.proofs.MadeObjects.{mentioned_faultless}
use Rattle.commands.proofs.NoFault.{never_refused}
use Rattle.commands.proofs.Saying.{Text, comes_by, items}

module _ (texts : GeneratedTextsAreJobs) (objects : GeneratedObjectsAreFaultless) (link : GeneratedObjectsLink) (n : ℕ)
    (some : 1 ≤ n) (few : n ≤ 1000) where
  gen_says : (status : ℕ) (text : List ℕ) → MadeSays n (job_of (generated_text n)) status text → GenSays n status text
  gen_says status text says =
      let own =
      never_refused (IsRun HasRun (Summary n)) true Kept (bytes_in (generated_files n)) (generated_parts n) status text
      (mentioned_faultless objects n few) (λ name there. tt)
      (made_link link n some few) (subst (λ job. MadeSays n job status text) (texts n some few) says)
      in
      record { images = own.images; given = own.given; ran = own.linked }

  pub gen_comes : (r : Result Text CommandFault) → Comes items (MadeSays n (job_of (generated_text n))) r
      → Comes items (GenSays n) r
  gen_comes r = comes_by (MadeSays n (job_of (generated_text n))) (GenSays n) r gen_says
