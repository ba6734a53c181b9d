-- What `check JOB` says of a job whose images all link.
use Rattle.std.specs.Prelude.{ℕ, List, Option, Some, None}
use Rattle.command_replies.specs.Says.{Is}
use Rattle.job_text.specs.Jobs.{JobParts}
use Rattle.link_needs.specs.Linking.{Linking}
use Rattle.whole_meaning.specs.Jobs.{lines_of, meant_world, verdict_of, verdict_text}
use Rattle.whole_meaning.specs.Loads.{meaning_of}
use Rattle.whole_meaning.specs.declared.unclean.UncleanStep.{UncleanStep}

-- the first unclean step of the lowest thread that makes one, in the job's meaning over its objects' own sections; none
-- if no step of any thread is unclean
abbrev pub verdict : JobParts → List Linking → Option UncleanStep
verdict job ls = verdict_of (lines_of (meant_world (meaning_of ls) job.fuel job.lines job.order))

-- status 0 if there is none; else 9, and its thread, line, address and cause
abbrev pub SaysOf : Option UncleanStep → ℕ → List ℕ → Type 0
SaysOf None status text = Is 0 (verdict_text None) status text
SaysOf (Some step) status text = Is 9 (verdict_text (Some step)) status text

abbrev pub VerdictSays : JobParts → List Linking → ℕ → List ℕ → Type 0
VerdictSays job ls status text = SaysOf (verdict job ls) status text
