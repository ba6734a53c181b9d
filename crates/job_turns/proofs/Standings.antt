-- What stands for the definition's threads still stands for them once a turn was put in.
use Rattle.std.proofs.Common.{◌≡◌, ◌++◌, ℕ, suc, Bool, List, [], ◌∷◌, length, Option, Some, None, sym, ◌∙◌}
use Rattle.std.proofs.Common.{append_assoc}
use Rattle.std.specs.Prelude.{slice_set}
use Rattle.loaded_modules.specs.Images.{JobImages, infos, last_offset}
use Rattle.module_data.specs.Pieces.{Piece}
use Rattle.module_table.specs.declared.events.Event.{Event}
use Rattle.module_table.specs.History.{History}
use Rattle.module_table.specs.Past.{IsLegal}
use Rattle.module_table.specs.Past.{past}
use Rattle.thread_blocks.specs.Held.{Owned}
use Rattle.thread_blocks.specs.JobWorlds.{Shared}
use Rattle.thread_blocks.specs.Lines.{Line}
use Rattle.thread_blocks.specs.RunTime.{Runs}
use Rattle.thread_blocks.specs.Turns.{Thread, with_event}
use Rattle.thread_space.specs.Kept.{shared_of}
use Rattle.job_turns.specs.Standing.{Run}
use Rattle.job_turns.specs.Progress.{IsRunner, Runners, Stands}
use Rattle.thread_turns.proofs.Lists.{each_set, set-length}

-- an event after a front of a history comes after its rest
pub front_grows : {E : Type 0} (events front rest : List E) (e : Option E) → events ≡ front ++ rest
    → with_event events e ≡ front ++ with_event rest e
front_grows events front rest None are = are
front_grows events front rest (Some e) are = rw are (append_assoc front rest (e ∷ []))

pub runner_grows : (m : JobImages) (fuel thread : ℕ) (events : List Event) (e : Option Event) (r : Run)
    (t : Thread Runs Line Event) → IsRunner m fuel thread events r t → IsRunner m fuel thread (with_event events e) r t
runner_grows m fuel thread events e r t is = record {
  thread_is = is.thread_is;
  images_are = is.images_are;
  fuel_is = is.fuel_is;
  stands = is.stands;
  front = is.front;
  rest = with_event is.rest e;
  events_are = front_grows events is.front is.rest e is.events_are;
  has_seen = is.has_seen;
}

module _ (m : JobImages) (fuel : ℕ) (w : Shared ℕ Bool ℕ Line) (x : Runners) (stands : Stands m fuel w x)
    (e : Option Event) where
  abbrev events_then : List Event
  events_then = with_event w.events e

  -- what is behind the turn of thread k
  pub record Behind (k : ℕ) (h : History) (d : List Piece) (r : Run) (t : Thread Runs Line Event)
      (shared : List (Owned ℕ)) : Type 0 where
    pub infos_are : h.infos ≡ x.shared.registry.infos
    pub last_is : h.last_offset ≡ x.shared.registry.last_offset
    pub events_are : h.events ≡ events_then
    pub legal : IsLegal h.infos h.last_offset h.events
    pub pieces_are : length d ≡ length x.shared.pieces
    pub shared_is : shared ≡ shared_of m (past (infos m) (last_offset m) events_then) d
    pub runner : IsRunner m fuel (suc k) events_then r t

  abbrev world_then : ℕ → Thread Runs Line Event → List (Owned ℕ) → Shared ℕ Bool ℕ Line
  world_then k t shared = record { threads = slice_set w.threads k t; events = events_then; shared = shared }

  abbrev then : ℕ → History → List Piece → Run → Runners
  then k h d r = record { shared = record { registry = h; pieces = d }; runs = slice_set x.runs k r }

  pub stands_then : (k : ℕ) (h : History) (d : List Piece) (r : Run) (t : Thread Runs Line Event)
      (shared : List (Owned ℕ))
      → Behind k h d r t shared → Stands m fuel (world_then k t shared) (then k h d r)
  stands_then k h d r t shared behind =
      let infos_are = behind.infos_are ∙ stands.infos_are in
      let last_is = behind.last_is ∙ stands.last_is in
      record {
        infos_are = infos_are;
        last_is = last_is;
        events_are = behind.events_are;
        legal = rw (← infos_are, ← last_is, ← behind.events_are) behind.legal;
        pieces_are = behind.pieces_are ∙ stands.pieces_are;
        shared_is = behind.shared_is;
        count = set-length x.runs k r ∙ stands.count ∙ sym (set-length w.threads k t);
        each = each_set (λ n a b. IsRunner m fuel (suc n) events_then a b) x.runs w.threads k r t behind.runner
            (λ n a b at_a at_b. runner_grows m fuel (suc n) w.events e a b (stands.each n a b at_a at_b));
      }
