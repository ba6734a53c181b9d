-- The looks that the printed lines of a thread tell: their points, and the events that they added.
use Rattle.std.specs.Prelude.{ℕ, true, false, List, [], ◌∷◌, ◌++◌, length, map, Option, Some, None}
use Rattle.job_text.specs.declared.thread_lines.Action.{Action}
use Rattle.job_text.specs.declared.thread_lines.Action.TheVariants.{Open, Close}
use Rattle.module_table.specs.declared.events.Event.{Event}
use Rattle.transcript_text.specs.declared.outcomes.Line.{Line as ShownLine}
use Rattle.transcript_text.specs.declared.outcomes.Outcome.{Outcome}
use Rattle.transcript_text.specs.declared.outcomes.Outcome.TheVariants.{Opened, Closed}
use Rattle.lawful_points.specs.Points.{Look}
use Rattle.thread_blocks.specs.Lines.{Line, event_at}

-- a point: how many events a look saw, and the event that its turn added, if it added one
pub record Point : Type 0 where
  pub number : ℕ
  pub added : Option Event

abbrev pub points_of : List Look → List Point
points_of looks = map (λ look. record { number = length look.seen; added = look.added }) looks

-- ** lines

-- the event of a line with this outcome: that of an open or a close that was accepted
abbrev pub added_by : ℕ → Line → Outcome → Option Event
added_by thread line outcome = by line.told.action outcome
  where
    by : Action → Outcome → Option Event
    by Open (Opened instance) = Some (event_at thread line.number true line.told.image)
    by Close Closed = Some (event_at thread line.number false line.told.image)
    by action answer = None

-- the points that a line tells; one that adds an event has a single look
abbrev pub told_line : ℕ → Line → ShownLine → List Point
told_line thread line said =
    map (λ (number : ℕ). record { number = number; added = added_by thread line said.outcome }) said.points

-- the points that the lines of a thread tell
abbrev pub told_by : ℕ → List Line → List ShownLine → List Point
told_by thread (line ∷ lines) (said ∷ more) = told_line thread line said ++ told_by thread lines more
told_by thread lines said = []
