-- No event that nobody made: each event of a history is told by one line, and each line that says that it opened or
-- closed its image has its event.
use Rattle.std.specs.Prelude.{◌≡◌, ℕ, Bool, true, false, List, [], ◌∷◌, Some, slice_get}
use Rattle.job_text.specs.declared.thread_lines.Action.{Action}
use Rattle.job_text.specs.declared.thread_lines.Action.TheVariants.{Open, Close}
use Rattle.job_text.specs.declared.thread_lines.ThreadLine.{ThreadLine}
use Rattle.module_table.specs.declared.events.Event.{Event}
use Rattle.transcript_text.specs.declared.outcomes.Line.{Line as ShownLine}
use Rattle.transcript_text.specs.declared.outcomes.Outcome.{Outcome}
use Rattle.transcript_text.specs.declared.outcomes.Outcome.TheVariants.{Opened, Closed}
use Rattle.transcript_text.specs.Texts.{Shown}
use Rattle.thread_blocks.specs.Turns.{at_number}

-- it says that an image was opened, or closed
abbrev pub SaysEvent : Outcome → Type 0
SaysEvent (Opened instance) = Unit {0}
SaysEvent Closed = Unit {0}
SaysEvent other = ⊥

-- an open that says that its image was opened, or a close that says that its image was closed
abbrev pub IsAccepted : Bool → Action → Outcome → Type 0
IsAccepted true Open (Opened instance) = Unit {0}
IsAccepted false Close Closed = Unit {0}
IsAccepted opens action outcome = ⊥

-- a line of a job's thread, and what the transcript shows of it; threads and their lines are counted from 1
pub record IsLine (lines : List (List ThreadLine)) (shown : Shown) (thread number : ℕ) (line : ThreadLine)
    (said : ShownLine) : Type 0 where
  pub own : List ThreadLine
  pub printed : List ShownLine
  pub own_is : at_number lines thread ≡ Some own
  pub printed_is : at_number shown.threads thread ≡ Some printed
  pub line_is : at_number own number ≡ Some line
  pub said_is : at_number printed number ≡ Some said

-- the line made this event, before which there were `point` others
pub record HasMade (thread number : ℕ) (line : ThreadLine) (said : ShownLine) (point : ℕ) (e : Event) : Type 0 where
  -- the event names the line and its image
  pub thread_is : e.thread ≡ thread
  pub number_is : e.line ≡ number
  pub image_is : e.image ≡ line.image
  pub accepted : IsAccepted e.opens line.action said.outcome
  -- the line had one look, which saw all events before
  pub point_is : said.points ≡ point ∷ []

-- a line of the job made the event
pub record IsMade (lines : List (List ThreadLine)) (shown : Shown) (point : ℕ) (e : Event) : Type 0 where
  pub thread : ℕ
  pub number : ℕ
  pub line : ThreadLine
  pub said : ShownLine
  pub is_line : IsLine lines shown thread number line said
  pub made : HasMade thread number line said point e

-- the line made an event of the transcript
pub record MadeOne (shown : Shown) (thread number : ℕ) (line : ThreadLine) (said : ShownLine) : Type 0 where
  pub point : ℕ
  pub event : Event
  pub there : slice_get shown.events point ≡ Some event
  pub made : HasMade thread number line said point event

-- the events of a transcript are those that its lines made
pub record EventsAreMade (lines : List (List ThreadLine)) (shown : Shown) : Type 0 where
  pub each : (point : ℕ) (e : Event) → slice_get shown.events point ≡ Some e → IsMade lines shown point e
  pub all : (thread number : ℕ) (line : ThreadLine) (said : ShownLine) → IsLine lines shown thread number line said
      → SaysEvent said.outcome → MadeOne shown thread number line said
