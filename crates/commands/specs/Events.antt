-- No run and no race prints an event that nobody made.
use Rattle.std.specs.Prelude.{List}
use Rattle.job_text.specs.Jobs.{JobParts}
use Rattle.lawful_points.specs.Made.{EventsAreMade}
use Rattle.link_needs.specs.Linking.{Linking}
use Rattle.transcript_text.specs.Texts.{Shown}
use Rattle.commands.specs.Races.{HasRace}
use Rattle.commands.specs.Runs.{HasRun}

-- each event of a run's transcript is told by one line of the thread that it names, and each line that says that it
-- opened or closed its image has its event
abbrev pub RunsMakeTheirEvents : Type 0
RunsMakeTheirEvents = (job : JobParts) (ls : List Linking) (transcript : Shown) → HasRun job ls transcript
    → EventsAreMade job.lines transcript

-- so it is in a race
abbrev pub RacesMakeTheirEvents : Type 0
RacesMakeTheirEvents = (job : JobParts) (ls : List Linking) (transcript : Shown) → HasRace job ls transcript
    → EventsAreMade job.lines transcript
