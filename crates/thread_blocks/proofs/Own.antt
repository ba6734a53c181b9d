-- Where no image has data, a thread among others takes the turns that it would take alone, at fronts of the history.
use Rattle.std.proofs.Common.{◌≡◌, ◌∙◌, ◌*◌, ◌++◌, ℕ, zero, suc, true, List, [], ◌∷◌, Option, Some, None, refl, subst}
use Rattle.std.proofs.Common.{arith}
use Rattle.std.specs.Prelude.{slice_get}
use Rattle.std.specs.List.{flat_map}
use Rattle.guest_arithmetic.specs.Plain.{plain_operations}
use Rattle.guest_machine.specs.State.{start_of}
use Rattle.guest_machine.specs.Use.{left}
use Rattle.job_text.specs.declared.thread_lines.ThreadLine.{ThreadLine}
use Rattle.loaded_modules.specs.declared.instance.Instance.{Instance}
use Rattle.module_table.specs.declared.events.Event.{Event}
use Rattle.thread_blocks.specs.Held.{Owned, data_after}
use Rattle.thread_blocks.specs.Instances.{Loads, instances}
use Rattle.thread_blocks.specs.JobStatements.{HasNoData, ThreadsTakeTheirOwnTurns}
use Rattle.thread_blocks.specs.JobWorlds.{job_start, job_world, numbered_lines, ready_from, thread_ready}
use Rattle.thread_blocks.specs.Lines.{Line, event_by}
use Rattle.thread_blocks.specs.RunTime.{Runs, thread_turns}
use Rattle.thread_blocks.specs.Turns.{Turns, Thread, ready, whole_order}
use Rattle.thread_blocks.specs.Turns.{IsFront}
use Rattle.thread_blocks.proofs.Endings.{thread_at}
use Rattle.thread_blocks.proofs.Alone.{Holds, IsOn, order_points}
use Rattle.thread_blocks.proofs.Blocks.{HoldsBlocks, look_holds}
use Rattle.thread_blocks.proofs.OwnBlocks.{keeps_blocks}

abbrev Ours : Type 0
Ours = Thread Runs Line Event

module _ (l : Loads ℕ) (none : HasNoData l) (fuel : ℕ) where
  abbrev each : ℕ → Turns Runs Line Event
  each thread = thread_turns l thread fuel

  abbrev event : ℕ → Line → List Event → Option Event
  event thread = event_by l thread

  no_range : (y : Instance) (rest : List (Owned ℕ)) → data_after l (λ y. true) [] y ++ rest ≡ rest
  no_range y rest = rw (none y) refl

  no_first : (ys : List Instance) → flat_map (data_after l (λ y. true) []) ys ≡ []
  no_first [] = refl
  no_first (y ∷ ys) = no_range y (flat_map (data_after l (λ y. true) []) ys) ∙ no_first ys

  -- a thread before its first line
  ready_holds : (first : ℕ) → HoldsBlocks (thread_ready plain_operations l first)
  ready_holds first = look_holds l none first [] (record {
    after = left (start_of plain_operations 0 0 (plain_operations.word 0) (plain_operations.word 0)
        (plain_operations.word 0)) (record { seen = []; stack = []; own = [] });
    owners = [];
    asked = None;
  })

  first_holds : (first : ℕ) (lines : List (List ThreadLine)) (i : ℕ) (t : Ours)
      → slice_get (ready_from plain_operations l first lines) i ≡ Some t → Holds t
  first_holds first [] i t found = cc
  first_holds first (own ∷ lines) zero t found =
      let same : ready (thread_ready plain_operations l first) (numbered_lines 1 own) ≡ t = cc in
      subst Holds same (ready_holds first)
  first_holds first (own ∷ lines) (suc i) t found = first_holds (suc first) lines i t found

  first_saw : (first : ℕ) (lines : List (List ThreadLine)) (i : ℕ) (t : Ours)
      → slice_get (ready_from plain_operations l first lines) i ≡ Some t
      → IsFront t.seen []
  first_saw first [] i t found = cc
  first_saw first (own ∷ lines) zero t found =
      let same : ready (thread_ready plain_operations l first) (numbered_lines 1 own) ≡ t = cc in
      subst (λ (u : Ours). IsFront u.seen []) same ([], refl)
  first_saw first (own ∷ lines) (suc i) t found = first_saw (suc first) lines i t found

  starts : (lines : List (List ThreadLine))
      → IsOn each event (λ thread. keeps_blocks l none thread fuel) (job_start plain_operations l lines)
  starts lines = record {
    shared = no_first (instances l []);
    holds = λ i t found. first_holds 1 lines i t found;
    saw = λ i t found. first_saw 1 lines i t found;
  }

-- the law
pub own_turns : ThreadsTakeTheirOwnTurns
unfolding job_world
own_turns l fuel lines order zero own none at = cc
own_turns l fuel lines order (suc i) own none at =
    let points = order_points (λ thread. thread_turns l thread fuel) (λ thread. event_by l thread)
    (λ thread. keeps_blocks l none thread fuel) (whole_order (4 * fuel) lines order) i
    (job_start plain_operations l lines)
    (ready (thread_ready plain_operations l (suc i)) (numbered_lines 1 own))
    (thread_at l 1 lines i (suc i) own (omega arith) at)
    (starts l none fuel lines) in (points.points, points.rises, points.fronts, points.thread)
