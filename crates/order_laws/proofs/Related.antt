-- The laws: of any relations, and so of those that tests decide.
use Rattle.std.specs.Prelude.{ℕ, List}
use Rattle.module_table.specs.declared.events.Event.{Event}
use Rattle.thread_blocks.specs.Held.{Held, Owned}
use Rattle.thread_blocks.specs.Lines.{Line}
use Rattle.thread_blocks.specs.RunTime.{Runs}
use Rattle.order_laws.specs.Laws.{BothPass, OrdersKeep, OrdersStayAlike, Passes, PointsAreTold, TurnsKeep}
use Rattle.order_laws.specs.Laws.{TurnsStayAlike}
use Rattle.order_laws.proofs.Points.{fronts_told, points_keep}
use Rattle.order_laws.proofs.Turns.{turns_alike}
use Rattle.order_laws.proofs.Worlds.{order_alike}

pub turns_keep : {S S' E : Type 0} (Rel Wait Rest : S → S' → Type 0) (Fine : List E → Type 0) (L : Type 0)
    → TurnsKeep Rel Wait Rest Fine L
turns_keep Rel Wait Rest Fine L x y event alike all t t' at same =
    turns_alike Rel Wait Rest Fine x y event alike all t t' at same

pub turns_stay : TurnsStayAlike
turns_stay rel wait rest fine = turns_keep (BothPass rel) (BothPass wait) (BothPass rest) (Passes fine) Line

module _ {W F B W' F' B' : Type 0} (Rel Wait Rest : ℕ → Held W F B → Held W' F' B' → Type 0)
    (Data : List (Owned B) → List (Owned B') → Type 0) (Within : ℕ → Type 0) (Fine : List Event → Type 0)
    (L : Type 0) where
  pub orders_keep : OrdersKeep Rel Wait Rest Data Within Fine L
  orders_keep x y event event' same_event alike lent order w w' same fronts =
      order_alike Rel Wait Rest Data Within Fine x y event event' same_event alike lent order w w' same fronts

pub orders_stay : OrdersStayAlike
orders_stay rel wait rest shared within fine =
    orders_keep (λ i. BothPass (rel i)) (λ i. BothPass (wait i)) (λ i. BothPass (rest i)) (BothPass shared)
    (Passes within) (Passes fine) Line

pub points_told : PointsAreTold
points_told = (points_keep Runs Line Event, fronts_told Event)
