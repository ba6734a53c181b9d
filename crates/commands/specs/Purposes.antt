-- What a command does with a job, with the image by its name or by its place, and what it says.
use Rattle.std.specs.Prelude.{◌≡◌, ◌+◌, ◌<◌, ℕ, Bool, true, false, List, Option, Some, None, Result, length}
use Rattle.command_line.specs.declared.tasks.Rewriting.{Rewriting}
use Rattle.command_line.specs.Rewritings.{is_allowed}
use Rattle.job_link.specs.declared.writable.WritableSections.TheVariants.{Kept}
use Rattle.job_text.specs.declared.fault.JobFault.{JobFault}
use Rattle.job_text.specs.declared.fault.JobFault.TheVariants.{At}
use Rattle.job_text.specs.declared.fault.JobFaultKind.TheVariants.{Name}
use Rattle.job_text.specs.Images.{image_number}
use Rattle.job_text.specs.Jobs.{JobParts}
use Rattle.link_needs.specs.Linking.{Linking}
use Rattle.ports.specs.Files.{Files}
use Rattle.commands.specs.declared.purpose.Ending.{Ending as Placed}
use Rattle.commands.specs.declared.purpose.Ending.TheVariants as found
use Rattle.commands.specs.declared.purpose.Purpose.{Purpose}
use Rattle.commands.specs.declared.purpose.Purpose.TheVariants.{Run, Check, File, Sites}
use Rattle.commands.specs.Checks.{VerdictSays}
use Rattle.commands.specs.Jobs.{FileSays, JobSays, objects_of}
use Rattle.commands.specs.Links.{AreLines, IsPut, OfImage, OfLink}
use Rattle.commands.specs.Races.{HasRace}
use Rattle.commands.specs.RunJobs.{IsRun}
use Rattle.commands.specs.Runs.{HasRun}
use Rattle.commands.specs.declared.telling.Telling.TheVariants.{Transcript}

-- the name of the image that a command is about
abbrev pub wanted_by : Purpose → Option (List ℕ)
wanted_by (Run telling) = None
wanted_by Check = None
wanted_by (File put) = Some put.image.now
wanted_by (Sites image) = Some image.now

-- the name of the file that it puts
abbrev pub put_by : Purpose → Option (List ℕ)
put_by (Run telling) = None
put_by Check = None
put_by (File put) = Some put.out.now
put_by (Sites image) = None

-- whether it judges the job
abbrev pub Judges : Purpose → Type 0
Judges Check = Unit {0}
Judges purpose = ⊥

-- what is said if all images link, with the files before and after
abbrev pub Tells : Purpose → Option Files → Option Files → JobParts → List Linking → ℕ → List ℕ → Type 0
Tells (Run telling) before after job ls status text = IsRun HasRun telling job ls status text
Tells Check before after job ls status text = VerdictSays job ls status text
Tells (File put) before after job ls status text =
    OfImage put.image.now (λ own number. IsPut before after put.image.now put.out.now) job ls status text
Tells (Sites image) before after job ls status text =
    OfImage image.now (λ own number. AreLines (objects_of own number)) job ls status text

-- what `race` says
abbrev pub IsRace : JobParts → List Linking → ℕ → List ℕ → Type 0
IsRace = IsRun HasRace Transcript

-- the second files are those after the command
abbrev pub JobTold : Purpose → Rewriting → Files → Option Files → Result JobParts JobFault → ℕ → List ℕ → Type 0
JobTold purpose rewriting fs after job status text =
    JobSays (wanted_by purpose) (Tells purpose (Some fs) after) (is_allowed rewriting) Kept fs job status text

abbrev pub FileTold : Purpose → Rewriting → Files → Option Files → List ℕ → ℕ → List ℕ → Type 0
FileTold purpose rewriting fs after name status text =
    FileSays (wanted_by purpose) (Tells purpose (Some fs) after) (is_allowed rewriting) Kept fs name status text

-- ---- with the image found

abbrev pub Finds : Purpose → JobParts → Placed → Type 0
Finds (Run telling) job ending = ending ≡ found.Run telling
Finds Check job ending = ending ≡ found.Check
Finds (File put) job (found.File place own) =
    (own ≡ put) × (image_number job.images put.image.now ≡ Some (place + 1))
Finds (Sites image) job (found.Sites place) = image_number job.images image.now ≡ Some (place + 1)
Finds purpose job ending = ⊥

-- the image's place is one of the job's images
abbrev pub IsWithin : Placed → JobParts → Type 0
IsWithin (found.Run telling) job = Unit {0}
IsWithin found.Check job = Unit {0}
IsWithin (found.File place put) job = place < length job.images
IsWithin (found.Sites place) job = place < length job.images

-- the fault of a name without an image
abbrev pub IsMissing : Bool → JobFault → Type 0
IsMissing true fault = ⊥
IsMissing false fault = fault ≡ At 0 Name

abbrev pub puts : Placed → Option (List ℕ)
puts (found.Run telling) = None
puts found.Check = None
puts (found.File place put) = Some put.out.now
puts (found.Sites place) = None

-- whether it judges the job
abbrev pub JudgesAt : Placed → Type 0
JudgesAt found.Check = Unit {0}
JudgesAt ending = ⊥

abbrev pub Makes : Placed → Option Files → Option Files → JobParts → List Linking → ℕ → List ℕ → Type 0
Makes (found.Run telling) before after job ls status text = IsRun HasRun telling job ls status text
Makes found.Check before after job ls status text = VerdictSays job ls status text
Makes (found.File place put) before after job ls status text =
    OfLink place (IsPut before after put.image.now put.out.now) ls status text
Makes (found.Sites place) before after job ls status text =
    OfLink place (AreLines (objects_of job place)) ls status text
