-- The laws: a transcript is read back from its text, which no other transcript has.
use Rattle.std.specs.Prelude.{◌≡◌, ◌<◌, ◌^◌, ℕ, List, length, slice_get, Ok}
use Rattle.std.specs.List.{All}
use Rattle.job_text.specs.Images.{IsImageNumber}
use Rattle.job_text.specs.Jobs.{JobParts, job_of}
use Rattle.job_text.specs.Numbering.{at_number}
use Rattle.job_text.specs.Threads.{of_thread}
use Rattle.job_text.specs.declared.images.Image.{Image}
use Rattle.module_table.specs.declared.events.Event.{Event}
use Rattle.transcript_text.specs.Texts.{Shown, transcript_text}
use Rattle.transcript_text.specs.declared.outcomes.Line.{Line}
use Rattle.transcript_text.specs.declared.outcomes.Outcome.{Outcome}
use Rattle.transcript_text.specs.declared.outcomes.Outcome.TheVariants as outcome
use Rattle.transcript_laws.specs.Reader.{event_read, line_read}

-- ** numbers within their types

abbrev pub IsByte : ℕ → Type 0
IsByte b = b < 2 ^ 8

abbrev pub IsHalf : ℕ → Type 0
IsHalf n = n < 2 ^ 32

abbrev pub IsWord : ℕ → Type 0
IsWord n = n < 2 ^ 64

abbrev pub FitsOutcome : Outcome → Type 0
FitsOutcome (outcome.Returned value) = IsWord value
FitsOutcome (outcome.Opened instance) = IsHalf instance
FitsOutcome outcome.Closed = Unit {0}
FitsOutcome (outcome.Bytes bytes) = All IsByte bytes
FitsOutcome (outcome.Refused refusal) = Unit {0}
FitsOutcome (outcome.Fault fault) = Unit {0}

pub record FitsLine (line : Line) : Type 0 where
  pub points : All IsWord line.points
  pub outcome : FitsOutcome line.outcome

-- as many lines as a vector may hold, each within its types
pub record FitsThread (lines : List Line) : Type 0 where
  pub few : IsWord (length lines)
  pub each : All FitsLine lines

-- an event is of an image
pub record FitsEvent (images : List Image) (event : Event) : Type 0 where
  pub thread : IsHalf event.thread
  pub line : IsHalf event.line
  pub image : IsImageNumber images event.image

-- a transcript over a job: a list of lines for each of its threads, and events of its images
pub record IsOver (job : JobParts) (shown : Shown) : Type 0 where
  pub threads : length shown.threads ≡ length job.lines
  pub few_threads : IsHalf (length shown.threads)
  pub lines : All FitsThread shown.threads
  pub few_events : IsWord (length shown.events)
  pub events : All (FitsEvent job.images) shown.events

-- ** the laws

-- what the text says of each line and each event is the transcript's, and it says nothing of others
pub record IsReadBack (images : List Image) (shown : Shown) (text : List ℕ) : Type 0 where
  pub lines : (thread k : ℕ) → line_read text thread k ≡ at_number (of_thread shown.threads thread) k
  pub events : (n : ℕ) → event_read images text n ≡ slice_get shown.events n

abbrev pub TranscriptsAreRead : Type 0
TranscriptsAreRead = (text : List ℕ) (job : JobParts) → job_of text ≡ Ok job → (shown : Shown) → IsOver job shown
    → IsReadBack job.images shown (transcript_text job.images shown)

abbrev pub TextsDetermineTranscripts : Type 0
TextsDetermineTranscripts = (text : List ℕ) (job : JobParts) → job_of text ≡ Ok job
    → (a b : Shown) → IsOver job a → IsOver job b
    → transcript_text job.images a ≡ transcript_text job.images b → a ≡ b
