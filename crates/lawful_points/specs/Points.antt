-- Lawful points: how the looks of a thread fit the history of all threads.
use Rattle.std.specs.Prelude.{◌≡◌, ℕ, List, [], ◌∷◌, ◌++◌, length, map, Option, Some, None}
use Rattle.module_table.specs.declared.events.Event.{Event}
use Rattle.shared_modules.specs.Laws.{Placed, own_events}
use Rattle.thread_blocks.specs.Turns.{with_event}
use Rattle.thread_blocks.specs.Turns.{AllFronts, IsFront}

-- a look of a thread: the events that it saw, and the event that its turn added, if it added one
pub record Look : Type 0 where
  pub seen : List Event
  pub added : Option Event

-- each look sees all that the one before saw, and the event that was added there
abbrev pub Follows : List Event → List Look → Type 0
Follows old [] = Unit {0}
Follows old (look ∷ more) = IsFront old look.seen × Follows (with_event look.seen look.added) more

-- an event with the number of events before it
abbrev pub placed : ℕ → Option Event → List Placed
placed point None = []
placed point (Some e) = record { at = point; event = e } ∷ []

-- the events that looks added, each at the point of its look
abbrev pub made : List Look → List Placed
made [] = []
made (look ∷ more) = placed (length look.seen) look.added ++ made more

-- what looks saw
abbrev pub seen_by : List Look → List (List Event)
seen_by looks = map (λ look. look.seen) looks

-- the looks of a thread are lawful in a history
pub record AreLawful (thread : ℕ) (history : List Event) (looks : List Look) : Type 0 where
  -- they never see less than before, and see the thread's own events from the next look on
  pub follows : Follows [] looks
  -- each saw a front of the history
  pub fronts : AllFronts (seen_by looks) history
  -- the events of the history that name the thread are those that it added, in their order and at their places
  pub own : own_events thread history ≡ made looks
