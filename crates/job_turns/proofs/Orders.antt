-- Turns in an order are those of every thread of the definitions that the runners stand for.
use Rattle.std.proofs.Common.{◌≡◌, ℕ, suc, Bool, List, [], ◌∷◌, Some, refl, ◌∙◌}
use Rattle.std.specs.Prelude.{slice_get}
use Rattle.loaded_modules.specs.Images.{JobImages}
use Rattle.thread_blocks.specs.JobWorlds.{Shared}
use Rattle.thread_blocks.specs.Lines.{Line}
use Rattle.thread_turns.specs.Orders.{StayFit, TakesTurns}
use Rattle.thread_turns.proofs.Lists.{beside}
use Rattle.thread_turns.proofs.Orders.{order_stands}
use Rattle.job_turns.specs.Standing.{Run}
use Rattle.job_turns.specs.Progress.{Runners, Share, Stands, StandsForSome, is_over, job_order}
use Rattle.job_turns.specs.Turning.{CanTurn, CanTurnIn, TurnedIn}
use Rattle.job_turns.proofs.OneTurn.{over_stays, turned_stands}

pub turns_stand : (m : JobImages) (fuel : ℕ) (order : List ℕ) (w : Shared ℕ Bool ℕ Line) (x y : Runners)
    → Stands m fuel w x → TakesTurns is_over TurnedIn x order y → Stands m fuel (job_order m fuel order w) y
turns_stand m fuel =
    order_stands is_over TurnedIn (job_order m fuel) (Stands m fuel) (λ w. refl) (λ thread order w. refl)
    (λ w x thread stands over. over_stays m fuel w x stands thread over)
    (λ w x k r s r' stands at turned. turned_stands m fuel w x k r s.registry s.pieces r' at turned stands)

-- ---- each runner can take its turn

can_turn : (x : Runners) (k : ℕ) (r : Run) → StandsForSome x → slice_get x.runs k ≡ Some r
    → CanTurn x.shared.registry x.shared.pieces r
can_turn x k r some at =
    let found = beside x.runs some.world.threads k r some.stands.count at in
    let is = some.stands.each k r found.0 at found.1 in
    record {
      infos_are = rw is.images_are some.stands.infos_are;
      last_is = rw is.images_are some.stands.last_is;
      front = is.front;
      rest = is.rest;
      events_are = some.stands.events_are ∙ is.events_are;
      has_seen = is.has_seen;
      pieces_are = rw is.images_are some.stands.pieces_are;
    }

pub stay_fit : StayFit CanTurnIn TurnedIn Share
stay_fit = record {
  can = λ s runs k r some at. can_turn (record { shared = s; runs = runs }) k r some at;
  stays = λ s runs k r s' r' some at turned. record {
    images = some.images;
    fuel = some.fuel;
    world = job_order some.images some.fuel (suc k ∷ []) some.world;
    stands = turned_stands some.images some.fuel some.world
        (record { shared = s; runs = runs }) k r s'.registry s'.pieces
        r' at turned some.stands;
  };
}
