-- What contracts see of a shared history and of its passes, and how each call changes them.
use Rattle.std.specs.Prelude.{◌≡◌, ◌+◌, ◌<◌, ℕ, nat_lt, List, [], ◌∷◌, ◌++◌, length, drop, MatchBool}
use Rattle.std.specs.Prelude.{Ok, Err}
use Rattle.atomic_table.specs.Seated.{TableId}
use Rattle.module_table.specs.declared.events.Event.{Event}
use Rattle.module_table.specs.declared.events.Opened.{Opened}
use Rattle.module_table.specs.declared.events.Closed.{Closed}
use Rattle.module_table.specs.declared.events.OpenRefusal.{OpenRefusal}
use Rattle.module_table.specs.declared.events.OpenRefusal.TheVariants.{OutOfMemory as NoRoomToOpen}
use Rattle.module_table.specs.declared.events.CloseRefusal.{CloseRefusal}
use Rattle.module_table.specs.declared.events.CloseRefusal.TheVariants.{OutOfMemory as NoRoomToClose}
use Rattle.module_table.specs.History.{History, open_answer, close_answer}
use Rattle.module_table.specs.Past.{IsLegal}
use Rattle.shared_modules.specs.declared.board.Images.{Images}
use Rattle.shared_modules.specs.declared.board.Turn.TheVariants.{Away}
use Rattle.shared_modules.specs.declared.board.View.{View}
use Rattle.shared_modules.specs.Plays.{Sat}
use Rattle.shared_modules.specs.Views.{all_threads, first_half, second_half, Knows, StartsWith, longer, history_at}

-- the identity of a shared history, and what its registry never changes
pub record SharedView : Type 0 where
  pub table : TableId
  pub images : Images

-- the shared history of a pass; the part of it that the pass has seen; the history at its last load of the length, of
-- which the code keeps nothing: its length is the number that was loaded; how often it loaded and took its turn; the
-- threads that it speaks for
pub record PassView : Type 0 where
  pub shared : SharedView
  pub seen : List Event
  pub told : List Event
  pub loads : ℕ
  pub turns : ℕ
  pub threads : List ℕ

abbrev pub pass_view : TableId → View → PassView
pass_view table v = record {
  shared = record { table = table; images = v.images };
  seen = v.seen;
  told = v.told;
  loads = v.loads;
  turns = v.turns;
  threads = v.threads;
}

-- between two calls a pass is not at the lock, and speaks for a thread
pub record IsPass (seen : ℕ) (me : Sat) : Type 0 where
  pub seen_is : seen ≡ length me.0.seen
  pub idle : me.0.turn ≡ Away
  pub bare : me.1 ≡ []
  pub speaks : 0 < length me.0.threads
  pub legal : IsLegal me.0.images.infos me.0.images.last_offset me.0.seen

-- the pass of all threads, at the start
abbrev pub first_pass : SharedView → List Event → PassView
first_pass shared events =
    record { shared = shared; seen = events; told = events; loads = 0; turns = 0; threads = all_threads }

-- ---- passes that are split, and joined

abbrev pub left_pass : PassView → PassView
left_pass p = record p { threads = first_half p.threads }

abbrev pub right_pass : PassView → PassView
right_pass p = record p { loads = 0; turns = 0; threads = second_half p.threads }

abbrev pub joined : PassView → PassView → PassView
joined p q = record p {
  seen = longer p.seen q.seen;
  told = longer p.told q.told;
  loads = p.loads + q.loads;
  turns = p.turns + q.turns;
  threads = p.threads ++ q.threads;
}

-- the shorter seen list is a prefix of the longer, and the rest of the longer names no thread of the shorter one's pass
abbrev pub Agree : PassView → PassView → Type 0
Agree p q = MatchBool (nat_lt (length p.seen) (length q.seen))
    (Knows q.seen p.threads p.seen) (Knows p.seen q.threads q.seen)

-- ---- one load

-- the loaded history continues what was seen, with events of other threads than the pass's
pub record IsLoaded (p q : PassView) : Type 0 where
  pub rest : q ≡ record p { told = q.told; loads = p.loads + 1 }
  pub seen : Knows q.told p.threads p.seen
  pub told : StartsWith q.told p.told

-- ---- one turn

-- the pass belongs to the same shared history, and speaks for the same threads
pub record IsSamePass (p q : PassView) : Type 0 where
  pub shared : q.shared ≡ p.shared
  pub threads : q.threads ≡ p.threads

-- a turn without a result
abbrev pub tried : PassView → PassView
tried p = record p { turns = p.turns + 1 }

-- memory ran out: nothing changed except the count of turns
pub record IsTried (p q : PassView) (before after : List Event) : Type 0 where
  pub pass : q ≡ tried p
  pub into : after ≡ before

-- the history that was found continues what was seen, with events of other threads than the pass's; it is legal, and
-- the pass has then seen all of it
pub record IsCaught (p : PassView) (history : List Event) (q : PassView) : Type 0 where
  pub rest : q ≡ record p { seen = q.seen; told = q.seen; loads = p.loads + 1; turns = p.turns + 1 }
  pub seen : Knows history p.threads p.seen
  pub told : StartsWith history p.told
  pub legal : IsLegal p.shared.images.infos p.shared.images.last_offset q.seen

-- the list has what it had, and then the events of the history that the pass had not seen
abbrev pub IsTold : PassView → List Event → List Event → List Event → Type 0
IsTold p history before after = after ≡ before ++ drop (length p.seen) history

-- the history that was found accepts the event, which is the last that the pass has seen
pub record IsAccepted (p : PassView) (event : Event) (answers : History → Type 0) (q : PassView)
    (before after : List Event) : Type 0 where
  pub history : List Event
  pub caught : IsCaught p history q
  pub added : q.seen ≡ history ++ event ∷ []
  pub answer : answers (history_at p.shared.images history)
  pub lacked : IsTold p history before after

-- the history that was found refuses it, and the pass has seen all of that history
pub record IsRefused (p : PassView) (answers : History → Type 0) (q : PassView) (before after : List Event)
    : Type 0 where
  pub caught : IsCaught p q.seen q
  pub answer : answers (history_at p.shared.images q.seen)
  pub lacked : IsTold p q.seen before after

abbrev pub IsOpened : PassView → Event → Opened → PassView → List Event → List Event → Type 0
IsOpened p event opened q before after =
    IsAccepted p event (λ h. open_answer h event.image ≡ Ok opened) q before after

-- out of memory comes first; else the refusal is that of the history
abbrev pub IsOpenRefused : PassView → ℕ → PassView → List Event → List Event → OpenRefusal → Type 0
IsOpenRefused p image q before after NoRoomToOpen = IsTried p q before after
IsOpenRefused p image q before after refusal =
    IsRefused p (λ h. open_answer h image ≡ Err refusal) q before after

abbrev pub IsClosed : PassView → Event → Closed → PassView → List Event → List Event → Type 0
IsClosed p event closed q before after =
    IsAccepted p event (λ h. close_answer h event.image ≡ Ok closed) q before after

abbrev pub IsCloseRefused : PassView → ℕ → PassView → List Event → List Event → CloseRefusal → Type 0
IsCloseRefused p image q before after NoRoomToClose = IsTried p q before after
IsCloseRefused p image q before after refusal =
    IsRefused p (λ h. close_answer h image ≡ Err refusal) q before after
