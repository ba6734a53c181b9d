-- Turns in an order are those of every thread of the definition that the code stands for.
use Rattle.std.proofs.Common.{◌≡◌, ℕ, suc, List, [], ◌∷◌, Some, refl, sym}
use Rattle.std.specs.Prelude.{slice_get}
use Rattle.job_meaning.specs.declared.values.Byte.{Byte}
use Rattle.job_meaning.specs.declared.values.Flag.{Flag}
use Rattle.job_meaning.specs.declared.values.Word.{Word}
use Rattle.link_needs.specs.Linking.{Linking}
use Rattle.thread_blocks.specs.JobWorlds.{Shared}
use Rattle.thread_blocks.specs.Lines.{Line}
use Rattle.thread_turns.specs.Orders.{StayFit, TakesTurns}
use Rattle.thread_turns.proofs.Lists.{beside}
use Rattle.thread_turns.proofs.Orders.{order_stands}
use Rattle.whole_meaning.specs.Loads.{loads_of}
use Rattle.job_check.specs.Histories.{IsLeftBy}
use Rattle.job_check.specs.Progress.{CanTurn, MeantThreads, Share, Stands, StandsForSome, Turned, meant_order}
use Rattle.job_check.specs.Standing.{Run, is_done}
use Rattle.job_check.proofs.OneTurn.{over_stays, turned_stands}

pub turns_stand : (ls : List Linking) (fuel : ℕ) (order : List ℕ) (w : Shared Word Flag Byte Line) (x y : MeantThreads)
    → Stands ls fuel w x → TakesTurns is_done Turned x order y → Stands ls fuel (meant_order ls fuel order w) y
turns_stand ls fuel =
    order_stands is_done Turned (meant_order ls fuel) (Stands ls fuel) (λ w. refl) (λ thread order w. refl)
    (λ w x thread stands over. over_stays ls fuel w x stands thread over)
    (λ w x k r s r' stands at takes. turned_stands ls fuel w x k r s r' at takes stands)

-- ** each thread can take its turn

-- the history is one of the thread's images
some_left : (x : MeantThreads) (k : ℕ) (r : Run) → StandsForSome x → slice_get x.runs k ≡ Some r
    → IsLeftBy r.kept.images x.shared.table
unfolding loads_of
some_left x k r some at =
    let found = beside x.runs some.world.threads k r some.stands.count at in
    rw (some.stands.each k r found.0 at found.1).images_are
    (record { events = some.world.events; legal = some.stands.legal; left = sym some.stands.leaves })

pub stay_fit : StayFit CanTurn Turned Share
stay_fit = record {
  can = λ s runs k r some at. some_left (record { shared = s; runs = runs }) k r some at;
  stays = λ s runs k r s' r' some at takes. record {
    images = some.images;
    fuel = some.fuel;
    world = meant_order some.images some.fuel (suc k ∷ []) some.world;
    stands = turned_stands some.images some.fuel some.world
        (record { shared = s; runs = runs }) k r s' r' at takes some.stands;
  };
}
