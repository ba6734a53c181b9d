-- The laws of turns. They hold for any relations; a clause states them for those that a test decides, and for threads
-- over marked values and over plain numbers.
use Rattle.std.specs.Prelude.{◌≡◌, ◌⊎◌, ℕ, suc, Bool, true, List, Option}
use Rattle.job_meaning.specs.declared.values.Byte.{Byte}
use Rattle.job_meaning.specs.declared.values.Flag.{Flag}
use Rattle.job_meaning.specs.declared.values.Word.{Word}
use Rattle.module_table.specs.declared.events.Event.{Event}
use Rattle.thread_blocks.specs.Held.{Held, Owned}
use Rattle.thread_blocks.specs.JobWorlds.{Shared, shared_order}
use Rattle.thread_blocks.specs.Lines.{Line}
use Rattle.thread_blocks.specs.RunTime.{Runs}
use Rattle.thread_blocks.specs.Turns.{Thread, Turns, turns}
use Rattle.thread_blocks.specs.Turns.{IsFront}
use Rattle.order_laws.specs.Alike.{AreAlike, AtHistory, SameOne}
use Rattle.order_laws.specs.Points.{FrontsAreTold, PointsKeep}
use Rattle.order_laws.specs.Worlds.{AreLent, IsSomeUnclean, SameWorld}

-- ** turns of one thread

-- related threads whose turns see what may be seen stay related, or the first has an unclean line
abbrev pub TurnsKeep : {S S' E : Type 0} (Rel Wait Rest : S → S' → Type 0) (Fine : List E → Type 0) (L : Type 0)
    → Type 0
TurnsKeep {S} {S'} {E} Rel Wait Rest Fine L = (x : Turns S L E) (y : Turns S' L E) (event : L → List E → Option E)
    → AreAlike Rel Wait Rest Fine x y event
    → (all : List (List E)) (t : Thread S L E) (t' : Thread S' L E)
    → AtHistory y event Fine t' all → SameOne Wait Rest t t' → SameOne Wait Rest (turns x t all) (turns y t' all)

-- ** turns of all threads, in some order

-- related worlds stay related, or the first has an unclean line. Each list of events that is ever seen is a front of
-- the one that the second world ends with
module _ {W F B W' F' B' : Type 0} (Rel Wait Rest : ℕ → Held W F B → Held W' F' B' → Type 0)
    (Data : List (Owned B) → List (Owned B') → Type 0) (Within : ℕ → Type 0) (Fine : List Event → Type 0)
    (L : Type 0) where
  abbrev pub OrdersKeep : Type 0
  OrdersKeep = (x : ℕ → Turns (Held W F B) L Event) (y : ℕ → Turns (Held W' F' B') L Event)
      (event event' : ℕ → L → List Event → Option Event)
      → ((i : ℕ) (line : L) (seen : List Event) → event' i line seen ≡ event i line seen)
      → ((i : ℕ) → Within i
      → AreAlike (Rel (suc i)) (Wait (suc i)) (Rest (suc i)) Fine (x (suc i)) (y (suc i)) (event' (suc i)))
      → ((i : ℕ) → Within i → AreLent Wait Rest Data (suc i))
      → (order : List ℕ) (w : Shared W F B L) (w' : Shared W' F' B' L) → SameWorld Wait Rest Data Within w w'
      → ((seen : List Event) → IsFront seen (shared_order y event' order w').events → Fine seen)
      → IsSomeUnclean (shared_order x event order w)
      ⊎ SameWorld Wait Rest Data Within (shared_order x event order w) (shared_order y event' order w')

-- ** as clauses

-- what a thread of the meaning holds
abbrev pub Meant : Type 0
Meant = Held Word Flag Byte

-- tests as relations
abbrev pub Passes : {A : Type 0} → (A → Bool) → A → Type 0
Passes test a = test a ≡ true

abbrev pub BothPass : {A A' : Type 0} → (A → A' → Bool) → A → A' → Type 0
BothPass test a a' = test a a' ≡ true

abbrev pub TurnsStayAlike : Type 0
TurnsStayAlike = (rel wait rest : Meant → Runs → Bool) (fine : List Event → Bool)
    → TurnsKeep (BothPass rel) (BothPass wait) (BothPass rest) (Passes fine) Line

-- the law of points, for a thread of the machine in a history
abbrev pub PointsAreTold : Type 0
PointsAreTold = PointsKeep Runs Line Event × FrontsAreTold Event

abbrev pub OrdersStayAlike : Type 0
OrdersStayAlike = (rel wait rest : ℕ → Meant → Runs → Bool) (shared : List (Owned Byte) → List (Owned ℕ) → Bool)
    (within : ℕ → Bool) (fine : List Event → Bool)
    → OrdersKeep (λ i. BothPass (rel i)) (λ i. BothPass (wait i)) (λ i. BothPass (rest i)) (BothPass shared)
    (Passes within) (Passes fine) Line
