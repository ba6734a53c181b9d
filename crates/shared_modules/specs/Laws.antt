-- The events of one thread, whatever passes there are.
use Rattle.std.specs.Prelude.{◌==◌, ◌+◌, ℕ, if◌then◌else◌, List, [], ◌∷◌}
use Rattle.module_table.specs.declared.events.Event.{Event}

-- an event, and how many came before it
pub record Placed : Type 0 where
  pub at : ℕ
  pub event : Event

-- a thread's events in a list that begins at a place
abbrev pub own_from : ℕ → ℕ → List Event → List Placed
own_from thread at [] = []
own_from thread at (e ∷ es) = if e.thread == thread
    then record { at = at; event = e } ∷ own_from thread (at + 1) es
    else own_from thread (at + 1) es

-- a thread's events, with their places
abbrev pub own_events : ℕ → List Event → List Placed
own_events thread events = own_from thread 0 events
