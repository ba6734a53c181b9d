-- What a turn finds in the shared history, and the pass after it.
use Rattle.std.specs.Prelude.{◌≡◌, ◌+◌, ℕ, Bool, false, List, [], ◌∷◌, length, drop, Option, None}
use Rattle.loaded_modules.specs.Images.{infos, last_offset}
use Rattle.module_table.specs.declared.events.Event.{Event}
use Rattle.module_table.specs.Past.{IsLegal}
use Rattle.module_table.specs.Past.{Past, past}
use Rattle.shared_modules.specs.Passes.{PassView}
use Rattle.shared_modules.specs.Views.{Knows}
use Rattle.job_turns.specs.declared.asking.Ask.{Ask}
use Rattle.job_turns.specs.declared.asking.LineAnswer.{LineAnswer}
use Rattle.job_turns.specs.Alone.{TakesOwnTurn, has_data}
use Rattle.job_turns.specs.Asking.{answer_to}
use Rattle.job_turns.specs.Standing.{Run, ask_of}
use Rattle.job_turns.specs.Turning.{event_asked}
use Rattle.thread_blocks.specs.Turns.{with_event}
use Rattle.thread_space.specs.Kept.{HasSeen}
use Rattle.racing_thread.specs.Tallies.{is_registry, look_tally}

-- the state after these events, over the images of a shared history
abbrev pub left_by : PassView → List Event → Past
left_by p events = past p.shared.images.infos p.shared.images.last_offset events

-- a pass before and after a question to the history: the pass found this history, and its thread added this event
pub record Finds (registry : Bool) (p : PassView) (history : List Event) (own : Option Event) (q : PassView)
    : Type 0 where
  -- the history continues what was seen, by other threads' events
  pub known : Knows history p.threads p.seen
  pub legal : IsLegal p.shared.images.infos p.shared.images.last_offset history
  pub seen_is : q.seen ≡ with_event history own
  -- no event of it was passed over
  pub whole : q.told ≡ q.seen
  pub loads_are : q.loads ≡ p.loads + (look_tally registry (length p.seen) (length history)).loads
  pub turns_are : q.turns ≡ p.turns + (look_tally registry (length p.seen) (length history)).turns

abbrev pub Looks : PassView → List Event → PassView → Type 0
Looks p history q = Finds false p history None q

-- the history's answer to what a thread asks
pub record Answers (thread : ℕ) (ask : Ask) (p : PassView) (history : List Event) (q : PassView)
    (answer : Option LineAnswer) (own : Option Event) : Type 0 where
  pub finds : Finds (is_registry ask) p history own q
  pub answer_is : answer ≡ answer_to (left_by p history) ask
  pub own_is : own ≡ event_asked thread (left_by p history) ask

-- ** a turn

-- the list, the pass of the thread alone and its runner have seen the same events
pub record IsLevel (r : Run) (p : PassView) (events : List Event) : Type 0 where
  pub events_are : events ≡ p.seen
  pub has_seen : HasSeen r.kept.vector p.seen
  pub threads_are : p.threads ≡ r.kept.vector.thread ∷ []
  pub images_are : p.shared.images
      ≡ record { infos = infos r.kept.vector.images; last_offset = last_offset r.kept.vector.images }
  pub no_data : has_data r.kept.vector.images ≡ false

-- a turn of a thread that races: it finds a history, and takes the turn that it would take there alone
pub record TakesRacingTurn (r : Run) (p : PassView) (events : List Event) (q : PassView) (r' : Run) : Type 0 where
  pub history : List Event
  pub finds : Finds (is_registry (ask_of r)) p history
      (event_asked r.kept.vector.thread (left_by p history) (ask_of r)) q
  pub takes : TakesOwnTurn r (drop (length p.seen) history) r'
  pub events_are : events ≡ q.seen
