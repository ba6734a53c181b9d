-- What holds of the points that are told.
use Rattle.std.specs.Prelude.{◌≡◌, ◌+◌, ◌≤◌, ℕ, List, [], ◌∷◌, ◌++◌, length, is_some, if◌then◌else◌}
use Rattle.module_table.specs.declared.events.Event.{Event}
use Rattle.shared_modules.specs.Laws.{Placed, own_events}
use Rattle.lawful_points.specs.Points.{placed}
use Rattle.lawful_points.specs.Told.{Point}

-- ** lawful in a history

-- points from this number on never fall, and those after an event's point are above it
abbrev pub Rise : ℕ → List Point → Type 0
Rise least [] = Unit {0}
Rise least (point ∷ more) =
    (least ≤ point.number) × Rise (if is_some point.added then point.number + 1 else point.number) more

-- none is past the end of a history
abbrev pub AreWithin : ℕ → List Point → Type 0
AreWithin long [] = Unit {0}
AreWithin long (point ∷ more) = (point.number ≤ long) × AreWithin long more

-- their events, each with its point
abbrev pub events_of : List Point → List Placed
events_of [] = []
events_of (point ∷ more) = placed point.number point.added ++ events_of more

-- the points of a thread are lawful in a history: its events there are those of the points, each at its point
pub record AreLawfulPoints (thread : ℕ) (history : List Event) (points : List Point) : Type 0 where
  pub rise : Rise 0 points
  pub within : AreWithin (length history) points
  pub own : own_events thread history ≡ events_of points
