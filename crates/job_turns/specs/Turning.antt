-- One turn of a runner at a history that others continued.
use Rattle.std.specs.Prelude.{◌≡◌, ◌+◌, ◌++◌, ℕ, true, false, List, drop, length, Option, None}
use Rattle.loaded_modules.specs.Images.{infos, last_offset}
use Rattle.module_data.specs.Pieces.{Piece}
use Rattle.module_table.specs.declared.events.Event.{Event}
use Rattle.module_table.specs.History.{History, left}
use Rattle.module_table.specs.Past.{IsLegal}
use Rattle.module_table.specs.Past.{Past, close_refusal, open_refusal}
use Rattle.thread_blocks.specs.Lines.{event_at, unless_refused}
use Rattle.thread_blocks.specs.Turns.{with_event}
use Rattle.job_turns.specs.declared.asking.Ask.{Ask}
use Rattle.job_turns.specs.declared.asking.Ask.TheVariants.{Done, Look, Opens, Closes}
use Rattle.job_turns.specs.declared.turning.Common.{Common}
use Rattle.thread_space.specs.Kept.{HasSeen}
use Rattle.job_turns.specs.Standing.{Run, TakesTurn, ask_of}

-- the event that a thread's question adds to a history that leaves this state, if it adds one
abbrev pub event_asked : ℕ → Past → Ask → Option Event
event_asked thread p Done = None
event_asked thread p (Look line) = None
event_asked thread p (Opens line image) = unless_refused (open_refusal p image) (event_at thread line true image)
event_asked thread p (Closes line image) = unless_refused (close_refusal p image) (event_at thread line false image)

-- the history with the event of the question, if there is one
pub record AddsAsked (thread : ℕ) (ask : Ask) (old new : History) : Type 0 where
  pub infos_are : new.infos ≡ old.infos
  pub last_is : new.last_offset ≡ old.last_offset
  pub events_are : new.events ≡ with_event old.events (event_asked thread (left old) ask)
  pub legal : IsLegal new.infos new.last_offset new.events

-- a runner can take its turn: it has seen a front of this history, and the data are those of its images
pub record CanTurn (h : History) (d : List Piece) (r : Run) : Type 0 where
  pub infos_are : h.infos ≡ infos r.kept.vector.images
  pub last_is : h.last_offset ≡ last_offset r.kept.vector.images
  pub front : List Event
  pub rest : List Event
  pub events_are : h.events ≡ front ++ rest
  pub has_seen : HasSeen r.kept.vector front
  pub pieces_are : length d ≡ length r.kept.vector.images.images + 1

-- what its turn leaves
pub record Turned (h : History) (d : List Piece) (r : Run) (h' : History) (d' : List Piece) (r' : Run) : Type 0 where
  pub adds : AddsAsked r.kept.vector.thread (ask_of r) h h'
  pub pieces_are : length d' ≡ length d
  pub takes : TakesTurn r (drop r.kept.vector.past.seen h.events) d r' d'

-- the same of what all threads share
abbrev pub CanTurnIn : Common → Run → Type 0
CanTurnIn s r = CanTurn s.registry s.pieces r

abbrev pub TurnedIn : Common → Run → Common → Run → Type 0
TurnedIn s r s' r' = Turned s.registry s.pieces r s'.registry s'.pieces r'
