-- What each command says over the files of a store, which names it asks for, and how it leaves the files.
use Rattle.std.specs.Prelude.{◌≡◌, ℕ, true, List, [], ◌∷◌, Option, Some, None}
use Rattle.command_line.specs.declared.tasks.Command.{Command}
use Rattle.command_line.specs.declared.tasks.Command.TheVariants.{Plain, Race}
use Rattle.command_line.specs.declared.tasks.Task.TheVariants.{Run, Check, Link, Sites, Show, Gen}
use Rattle.command_line.specs.Rewritings.{is_allowed}
use Rattle.command_replies.specs.Says.{HasFile}
use Rattle.job_link.specs.declared.writable.WritableSections.TheVariants.{Kept, Refused}
use Rattle.ports.specs.Files.{Files, file_at}
use Rattle.commands.specs.declared.telling.Telling.TheVariants.{Transcript}
use Rattle.commands.specs.Checks.{VerdictSays}
use Rattle.commands.specs.GeneratedRuns.{GenSays}
use Rattle.commands.specs.Jobs.{FileSays, asked_names}
use Rattle.commands.specs.Links.{Leaves, LinkSays, SitesSays}
use Rattle.commands.specs.Listings.{ListingSays}
use Rattle.commands.specs.Races.{HasRace}
use Rattle.commands.specs.RunJobs.{IsRun}
use Rattle.commands.specs.Runs.{HasRun}

-- what a command says over these files; the second files are those after it; `race` is refused like `run`, and also for
-- an object that has data for programs to write
abbrev pub CommandSays : Files → Option Files → Command → ℕ → List ℕ → Type 0
CommandSays fs after (Plain (Run job rewriting)) status text =
    FileSays None (IsRun HasRun Transcript) (is_allowed rewriting) Kept fs job status text
CommandSays fs after (Race job rewriting) status text =
    FileSays None (IsRun HasRace Transcript) (is_allowed rewriting) Refused fs job status text
CommandSays fs after (Plain (Check job)) status text = FileSays None VerdictSays true Kept fs job status text
CommandSays fs after (Plain (Link job image out rewriting)) status text =
    LinkSays fs after job image out rewriting status text
CommandSays fs after (Plain (Sites job image)) status text = SitesSays fs job image status text
CommandSays fs after (Plain (Show file)) status text =
    HasFile (file_at fs file) (λ bytes. ListingSays bytes status text)
CommandSays fs after (Plain (Gen count)) status text = GenSays count status text

-- the files after a command: as before, unless `link` put a whole image
abbrev pub CommandLeaves : Option Files → Option Files → Command → Type 0
CommandLeaves before after (Plain (Link job image out rewriting)) =
    Leaves before after (λ fs. LinkSays fs after job image out rewriting)
CommandLeaves before after command = after ≡ before

-- the names that a command asks for: the job and then its objects, or the file; none for a generated job
abbrev pub command_names : Files → Command → List (List ℕ)
command_names fs (Plain (Run job rewriting)) = asked_names fs job None
command_names fs (Race job rewriting) = asked_names fs job None
command_names fs (Plain (Check job)) = asked_names fs job None
command_names fs (Plain (Link job image out rewriting)) = asked_names fs job (Some image)
command_names fs (Plain (Sites job image)) = asked_names fs job (Some image)
command_names fs (Plain (Show file)) = file ∷ []
command_names fs (Plain (Gen count)) = []
