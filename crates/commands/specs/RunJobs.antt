-- What `run` and `race` say of a job whose images all link: the text of its run.
use Rattle.std.specs.Prelude.{◌≡◌, ℕ, Bool, true, List, map}
use Rattle.job_link.specs.Given.{Given}
use Rattle.job_text.specs.declared.images.Image.{Image}
use Rattle.job_text.specs.Jobs.{JobParts}
use Rattle.link_core.specs.Images.{linked_of}
use Rattle.link_needs.specs.Linking.{Linking}
use Rattle.run_summary.specs.Summaries.{counts_of, summary_text}
use Rattle.run_summary.specs.declared.sites.SiteCounts.{SiteCounts}
use Rattle.transcript_text.specs.Texts.{Shown, transcript_text}
use Rattle.commands.specs.declared.telling.Telling.{Telling}
use Rattle.commands.specs.declared.telling.Telling.TheVariants.{Transcript, Summary}
use Rattle.commands.specs.Jobs.{links_of}
use Rattle.commands.specs.Runs.{as_checked}

-- ---- the text of a run

-- for a job with these images and these numbers of sites: the transcript, or a line of numbers
abbrev pub told : Telling → List Image → SiteCounts → Shown → List ℕ
told Transcript images counts shown = transcript_text images shown
told (Summary count) images counts shown = summary_text count counts shown

-- for linked images
abbrev pub told_of : Telling → JobParts → List Linking → Shown → List ℕ
told_of telling job ls shown = told telling job.images (counts_of (map linked_of ls)) shown

-- the links of a run, as `check` sees them, are those that `check` judges, in either setting of the run
abbrev pub CheckedLinksAreRun : Type 0
CheckedLinksAreRun = (images : List Given) (relax : Bool) → as_checked (links_of images relax) ≡ links_of images true

-- Ran: what holds of a job's transcript, for one thread of the host or for many
module _ (Ran : JobParts → List Linking → Shown → Type 0) (telling : Telling) (job : JobParts) (ls : List Linking) where
  -- it ran, and this is the text of its transcript or its summary
  pub record IsTold (text : List ℕ) : Type 0 where
    pub transcript : Shown
    pub ran : Ran job ls transcript
    pub told_is : text ≡ told_of telling job ls transcript

  -- status 0, and the text of its run
  abbrev pub IsRun : ℕ → List ℕ → Type 0
  IsRun status text = (status ≡ 0) × IsTold text
