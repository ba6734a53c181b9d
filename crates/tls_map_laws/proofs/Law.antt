-- A thread by itself: from its first look on it has what the map says, at all rising points.
use Rattle.std.proofs.Common.{◌≡◌, ℕ, List, [], ◌∷◌, Option, Some, None, refl}
use Rattle.guest_arithmetic.specs.Plain.{plain_operations}
use Rattle.guest_machine.specs.Run.{run}
use Rattle.guest_machine.specs.RunLaws.{state_after}
use Rattle.guest_machine.specs.State.{start_of}
use Rattle.guest_machine.specs.Use.{left}
use Rattle.loaded_modules.specs.declared.instance.Instance.{Instance}
use Rattle.module_table.specs.declared.events.Event.{Event}
use Rattle.shared_data.specs.Told.{steps_of}
use Rattle.thread_blocks.specs.Held.{Held}
use Rattle.thread_blocks.specs.Instances.{Loads, instances}
use Rattle.thread_blocks.specs.JobWorlds.{held_in, thread_ready}
use Rattle.thread_blocks.specs.Lines.{Line, event_by}
use Rattle.thread_blocks.specs.Turns.{Turns, ready, turns, with_last}
use Rattle.thread_blocks.specs.Turns.{IsFront}
use Rattle.whole_meaning.specs.Meanings.{Meaning}
use Rattle.whole_meaning.specs.Threads.{ops}
use Rattle.tls_map_laws.specs.Map.{Act}
use Rattle.tls_map_laws.specs.Told.{AtRising, first_acts, look_acts, run_acts, turns_acts}
use Rattle.tls_map_laws.proofs.Entries.{blocks}
use Rattle.tls_map_laws.proofs.Known.{Known}
use Rattle.tls_map_laws.proofs.Keeping.{Fits}
use Rattle.tls_map_laws.proofs.Begins.{FitsBy, looked_fits}
use Rattle.tls_map_laws.proofs.Turns.{KeepsMap, Stands, rising_fits, rising_stands, within_fits}

-- ** before its first line

module _ {B : Type 0} (l : Loads B) (thread : ℕ) (history : List Event) (known : Known l thread history) where
  no_blocks : (ys : List Instance) → blocks l thread [] ys ≡ []
  no_blocks [] = refl
  no_blocks (y ∷ ys) = no_blocks ys

  nothing_fits : Fits l thread history known [] [] [] []
  nothing_fits = record {
    rest = [];
    data_behind = tt;
    owners = rw (no_blocks (instances l [])) refl;
    ranges = rw (no_blocks (instances l [])) refl;
    front = (history, refl);
    live = λ n t. cc;
    untouched = λ later f g y m none. refl;
  }

pub machine_first : (l : Loads ℕ) (thread : ℕ) (history : List Event) (known : Known l thread history)
    → FitsBy l thread history known (first_acts l) (thread_ready plain_operations l thread)
machine_first l thread history known =
    looked_fits l thread history known [] []
    (record {
      after = left (start_of plain_operations 0 0 (plain_operations.word 0) (plain_operations.word 0)
          (plain_operations.word 0)) (record { seen = []; stack = []; own = [] });
      owners = [];
      asked = None;
    })
    (nothing_fits l thread history known) ([], refl) (history, refl)

pub meant_first : (m : Meaning) (thread : ℕ) (history : List Event) (known : Known m.loads thread history)
    → FitsBy m.loads thread history known (first_acts m.loads) (thread_ready ops m.loads thread)
meant_first m thread history known =
    looked_fits m.loads thread history known [] []
    (record {
      after = left (start_of ops 0 0 (ops.word 0) (ops.word 0) (ops.word 0))
          (record { seen = []; stack = []; own = [] });
      owners = [];
      asked = None;
    })
    (nothing_fits m.loads thread history known) ([], refl) (history, refl)

-- ** its turns. h: what it holds before the first

module _ {W F B : Type 0} (l : Loads B) (thread : ℕ) (x : Turns (Held W F B) Line Event)
    (step_acts : List (Act B) → Held W F B → List (Act B)) (asks : List Event → Held W F B → Option Instance)
    (keeps : (history : List Event) (known : Known l thread history)
    → KeepsMap l thread history known x step_acts asks)
    (history : List Event) (known : Known l thread history) (h : Held W F B) (lines : List Line)
    (first : FitsBy l thread history known (first_acts l) h) (none : IsFront h.after.memory.seen []) where
  -- the law between turns
  pub alone_fits : (points : List (List Event)) → AtRising x (event_by l thread) history (ready h lines) points
      → FitsBy l thread history known (turns_acts l thread x step_acts asks (ready h lines) points (first_acts l))
      (held_in (turns x (ready h lines) points).phase)
  alone_fits points rising =
      rising_fits l thread x step_acts asks keeps history known points (ready h lines) (first_acts l) [] first none
      rising.follows rising.fronts

  -- in the turn that follows
  pub alone_stands : (points : List (List Event)) (seen : List Event)
      → AtRising x (event_by l thread) history (ready h lines) (with_last points seen)
      → Stands l thread x step_acts asks keeps history known
      (turns_acts l thread x step_acts asks (ready h lines) points (first_acts l)) (turns x (ready h lines) points) seen
  alone_stands points seen rising =
      rising_stands l thread x step_acts asks keeps history known points seen (ready h lines) (first_acts l)
      [] first none
      rising.follows rising.fronts

  -- and after any steps of one
  pub alone_within : (points : List (List Event)) (seen : List Event) (from : ℕ × Held W F B) (n : ℕ)
      → AtRising x (event_by l thread) history (ready h lines) (with_last points seen)
      → let t = turns x (ready h lines) points in
      steps_of x t.todo t.phase seen ≡ Some from
      → FitsBy l thread history known (run_acts l thread x step_acts asks n from.1
      (look_acts l thread x step_acts asks t.todo t.phase seen
      (turns_acts l thread x step_acts asks (ready h lines) points (first_acts l))))
      (state_after (run x.steps n from.1))
  alone_within points seen from n rising begun =
      let t = turns x (ready h lines) points in
      let did = turns_acts l thread x step_acts asks (ready h lines) points (first_acts l) in
      let stands = alone_stands points seen rising in
      within_fits l thread history known x step_acts asks
      (keeps history known) did t seen from n stands.fits stands.front
      stands.mine begun
