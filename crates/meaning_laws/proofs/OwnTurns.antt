-- Where no image has data, what a thread of a job means is what it means alone, at fronts of the history.
use Rattle.std.proofs.Common.{◌≡◌, ◌+◌, ◌*◌, ◌∙◌, ◌++◌, ℕ, zero, suc, true, List, [], ◌∷◌, Option, Some, None, refl}
use Rattle.std.proofs.Common.{subst, arith}
use Rattle.std.specs.Prelude.{slice_get}
use Rattle.std.specs.List.{flat_map}
use Rattle.guest_machine.specs.State.{start_of}
use Rattle.guest_machine.specs.Use.{left}
use Rattle.job_meaning.specs.declared.values.Byte.{Byte}
use Rattle.job_text.specs.declared.thread_lines.ThreadLine.{ThreadLine}
use Rattle.loaded_modules.specs.declared.instance.Instance.{Instance}
use Rattle.module_table.specs.declared.events.Event.{Event}
use Rattle.thread_blocks.specs.Held.{Owned, data_after}
use Rattle.thread_blocks.specs.Instances.{instances}
use Rattle.thread_blocks.specs.JobWorlds.{numbered_lines, ready_from, job_start, thread_ready}
use Rattle.thread_blocks.specs.Lines.{Line, event_by}
use Rattle.thread_blocks.specs.Turns.{Thread, Turns, ready, whole_order}
use Rattle.thread_blocks.specs.Turns.{IsFront}
use Rattle.whole_meaning.specs.Jobs.{meant_world}
use Rattle.whole_meaning.specs.Meanings.{Meaning}
use Rattle.whole_meaning.specs.Threads.{Meant, meant_turns, ops}
use Rattle.meaning_laws.specs.Laws.{HasNoData, ThreadsMeanTheirOwn}
use Rattle.thread_blocks.proofs.Alone.{Holds, IsOn, order_points}
use Rattle.thread_blocks.proofs.Blocks.{HoldsBlocks, look_holds}
use Rattle.meaning_laws.proofs.Steps.{meant_keeps}

abbrev Ours : Type 0
Ours = Thread Meant Line Event

-- which thread stands where at first
thread_at : (m : Meaning) (first : ℕ) (lines : List (List ThreadLine)) (i number : ℕ) (own : List ThreadLine)
    → number ≡ first + i → slice_get lines i ≡ Some own
    → slice_get (ready_from ops m.loads first lines) i
    ≡ Some (ready (thread_ready ops m.loads number) (numbered_lines 1 own))
thread_at m first [] i number own e at = cc
thread_at m first (lines ∷ more) zero number own e at =
    let same : number ≡ first = omega arith in
    let here : lines ≡ own = cc in rw (same, here) refl
thread_at m first (lines ∷ more) (suc i) number own e at = thread_at m (suc first) more i number own (omega arith) at

module _ (m : Meaning) (none : HasNoData m) (fuel : ℕ) where
  abbrev each : ℕ → Turns Meant Line Event
  each thread = meant_turns m thread fuel

  abbrev event : ℕ → Line → List Event → Option Event
  event thread = event_by m.loads thread

  -- ** at first no data is shared

  no_range : (y : Instance) (rest : List (Owned Byte)) → data_after m.loads (λ y. true) [] y ++ rest ≡ rest
  no_range y rest = rw (none y) refl

  no_first : (ys : List Instance) → flat_map (data_after m.loads (λ y. true) []) ys ≡ []
  no_first [] = refl
  no_first (y ∷ ys) = no_range y (flat_map (data_after m.loads (λ y. true) []) ys) ∙ no_first ys

  -- ** and each thread holds blocks, and has seen nothing

  ready_holds : (first : ℕ) → HoldsBlocks (thread_ready ops m.loads first)
  ready_holds first = look_holds m.loads none first [] (record {
    after = left (start_of ops 0 0 (ops.word 0) (ops.word 0) (ops.word 0)) (record { seen = []; stack = []; own = [] });
    owners = [];
    asked = None;
  })

  first_holds : (first : ℕ) (lines : List (List ThreadLine)) (i : ℕ) (t : Ours)
      → slice_get (ready_from ops m.loads first lines) i ≡ Some t → Holds t
  first_holds first [] i t found = cc
  first_holds first (own ∷ lines) zero t found =
      let same : ready (thread_ready ops m.loads first) (numbered_lines 1 own) ≡ t = cc in
      subst (λ (u : Ours). Holds u) same (ready_holds first)
  first_holds first (own ∷ lines) (suc i) t found = first_holds (suc first) lines i t found

  first_saw : (first : ℕ) (lines : List (List ThreadLine)) (i : ℕ) (t : Ours)
      → slice_get (ready_from ops m.loads first lines) i ≡ Some t → IsFront t.seen []
  first_saw first [] i t found = cc
  first_saw first (own ∷ lines) zero t found =
      let same : ready (thread_ready ops m.loads first) (numbered_lines 1 own) ≡ t = cc in
      subst (λ (u : Ours). IsFront u.seen []) same ([], refl)
  first_saw first (own ∷ lines) (suc i) t found = first_saw (suc first) lines i t found

  starts : (lines : List (List ThreadLine))
      → IsOn each event (λ thread. meant_keeps m none thread fuel) (job_start ops m.loads lines)
  starts lines = record {
    shared = no_first (instances m.loads []);
    holds = λ i t found. first_holds 1 lines i t found;
    saw = λ i t found. first_saw 1 lines i t found;
  }

-- the law
pub own_turns : ThreadsMeanTheirOwn
unfolding meant_world
own_turns m fuel lines order zero own none at = cc
own_turns m fuel lines order (suc i) own none at =
    let points = order_points (λ thread. meant_turns m thread fuel) (λ thread. event_by m.loads thread)
    (λ thread. meant_keeps m none thread fuel) (whole_order (4 * fuel) lines order) i (job_start ops m.loads lines)
    (ready (thread_ready ops m.loads (suc i)) (numbered_lines 1 own))
    (thread_at m 1 lines i (suc i) own (omega arith) at)
    (starts m none fuel lines) in (points.points, points.rises, points.fronts, points.thread)
