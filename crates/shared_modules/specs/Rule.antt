-- The rule of the table: one history, of which every list of every seat is a prefix, and a ticket lock. Tickets,
-- loads and turns are unbounded here; only the words of the table are taken modulo 2^64.
use Rattle.std.specs.Prelude.{◌≡◌, ◌⊎◌, ◌≤◌, ◌<◌, ◌==◌, ◌+◌, ◌%◌, ◌^◌, ℕ, List, [], ◌∷◌, length, Option, Some}
use mathlib.Core.Option.{none, some}
use mathlib.Core.Option as maybe
use lib.ListN.{get_elem?}
use Rattle.atomic_table.specs.Table.{State}
use Rattle.module_table.specs.declared.events.Event.{Event}
use Rattle.module_table.specs.History.{History}
use Rattle.module_table.specs.Past.{IsLegal}
use Rattle.shared_modules.specs.declared.board.Images.{Images}
use Rattle.shared_modules.specs.declared.board.Turn.{Turn}
use Rattle.shared_modules.specs.declared.board.Turn.TheVariants.{Away, Waits, Holds}
use Rattle.shared_modules.specs.declared.board.Lesson.{Lesson}
use Rattle.shared_modules.specs.declared.board.View.{View}
use Rattle.shared_modules.specs.Views.{flag, times, all_threads, Knows, StartsWith, images_of}

-- which slots of the table are filled, and with what
abbrev pub Homes : Type 0
Homes = List (maybe.Option (Option History))

-- a seat holds the one slot
abbrev pub out : Homes
out = none ∷ []

-- ---- sums over all seats

abbrev pub total : {A : Type 0} → (A → ℕ) → List A → ℕ
total f [] = 0
total f (v ∷ vs) = f v + total f vs

-- 1 with a ticket, else 0
abbrev pub waits : Turn → ℕ
waits Away = 0
waits (Waits ticket) = 1
waits (Holds ticket note) = 1

-- 1 with that ticket, else 0
abbrev pub has : ℕ → Turn → ℕ
has t Away = 0
has t (Waits ticket) = flag (ticket == t)
has t (Holds ticket note) = flag (ticket == t)

abbrev pub waiting : List View → ℕ
waiting views = total (λ (v : View). waits v.turn) views

-- ---- one seat

-- tickets drawn and not served are from `serving` to below `drawn`; the seat whose ticket is being served has the
-- registry's slot, and its note is the history
abbrev pub TurnFits : List Event → ℕ → ℕ → Homes → Turn → Type 0
TurnFits history serving drawn homes Away = Unit {0}
TurnFits history serving drawn homes (Waits t) = (serving ≤ t) × (t < drawn)
TurnFits history serving drawn homes (Holds t note) = (t ≡ serving) × (t < drawn) × (note ≡ history) × (homes ≡ out)

abbrev pub IsLearnt : Lesson → Type 0
IsLearnt lesson = Knows lesson.more lesson.threads lesson.less

pub record Fits (images : Images) (history : List Event) (serving drawn : ℕ) (homes : Homes) (v : View) : Type 0 where
  pub images_are : 0 < length v.threads → v.images ≡ images
  pub seen : 0 < length v.threads → Knows history v.threads v.seen
  pub told : StartsWith history v.told
  pub turn : TurnFits history serving drawn homes v.turn
  pub speaks : waits v.turn ≤ length v.threads
  pub lesson : IsLearnt v.lesson

-- ---- the registry

-- the registry is in its slot, with the history
pub record AtHome (images : Images) (history : List Event) (homes : Homes) : Type 0 where
  pub registry : History
  pub there : homes ≡ some (Some registry) ∷ []
  pub images_are : images_of registry ≡ images
  pub events_are : registry.events ≡ history

-- or a seat whose ticket is being served has it
pub record IsOut (homes : Homes) (views : List View) : Type 0 where
  pub gone : homes ≡ out
  pub seat : ℕ
  pub view : View
  pub there : get_elem? views seat ≡ some view
  pub ticket : ℕ
  pub note : List Event
  pub holds : view.turn ≡ Holds ticket note

-- ---- all seats

pub record Kept (images : Images) (s : State (Option History) View) : Type 0 where
  pub history : List Event
  pub serving : ℕ
  pub words : s.words ≡ (serving + waiting s.views) % 2 ^ 64 ∷ serving % 2 ^ 64 ∷ length history ∷ []
  pub legal : IsLegal images.infos images.last_offset history
  pub each : (i : ℕ) (v : View) → get_elem? s.views i ≡ some v
      → Fits images history serving (serving + waiting s.views) s.homes v
  pub threads : (x : ℕ) → total (λ (v : View). times x v.threads) s.views ≡ times x all_threads
  pub sizes : total (λ (v : View). length v.threads) s.views ≡ 64
  pub tickets : (t : ℕ) → total (λ (v : View). has t v.turn) s.views ≤ 1
  pub home : AtHome images history s.homes ⊎ IsOut s.homes s.views
