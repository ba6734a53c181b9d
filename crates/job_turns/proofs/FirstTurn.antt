-- Before the first turn.
use Rattle.std.proofs.Common.{◌≡◌, ◌+◌, ℕ, suc, List, [], length, Some, refl, sym, ap, subst, ◌∙◌, arith}
use Rattle.std.specs.Prelude.{slice_get}
use Rattle.std.proofs.lemmas.List.FromFn.{length-map-range_with_len}
use Rattle.job_text.specs.declared.thread_lines.ThreadLine.{ThreadLine}
use Rattle.job_text.specs.Jobs.{JobParts}
use Rattle.job_text.specs.Threads.{of_thread}
use Rattle.loaded_modules.specs.Images.{JobImages, infos, last_offset}
use Rattle.module_data.specs.Pieces.{first_data, first_piece}
use Rattle.module_table.specs.declared.events.Event.{Event}
use Rattle.module_table.specs.Past.{IsLegal}
use Rattle.thread_blocks.specs.Held.{looked_at}
use Rattle.thread_blocks.specs.JobLoads.{job_loads}
use Rattle.thread_blocks.specs.JobWorlds.{job_start, numbered_lines, ready_from, thread_ready}
use Rattle.thread_blocks.specs.Lines.{Line}
use Rattle.thread_blocks.specs.RunTime.{Runs}
use Rattle.thread_blocks.specs.Turns.{Thread, ready}
use Rattle.thread_space.specs.Kept.{HasSeen, Kept, blocks_of}
use Rattle.job_turns.specs.Standing.{IsFirstRun, IsIdle, Run, StandsFor}
use Rattle.thread_space.specs.Steps.{IsNew}
use Rattle.thread_space.proofs.Owners.{owned_again}
use Rattle.thread_space.proofs.StartKept.{begins, first_shared, start_kept}
use Rattle.thread_turns.proofs.Ready.{lines_at, ready-length, ready_at}
use Rattle.thread_vector.specs.Holding.{IsLeftBy}
use Rattle.thread_vector.specs.Vectors.{fresh, held}
use Rattle.job_turns.specs.Progress.{IsFirst, IsRunner, Runners, Stands}
use Rattle.guest_arithmetic.specs.Plain.{plain_operations}

-- ---- a thread before its first line

module _ (m : JobImages) (legal : IsLegal (infos m) (last_offset m) []) (thread : ℕ) (k : Kept) (new : IsNew thread m k)
  where
    left_now : IsLeftBy k.vector.images k.vector.past
    left_now = rw (new.images, new.past) (record { events = []; legal = legal; left = sym (begins m) })

    pub seen_none : HasSeen k.vector []
    seen_none = rw (new.images, new.past) (begins m)

    ready_blocks : looked_at (job_loads m) thread [] [] ≡ blocks_of k.vector
    ready_blocks =
        rw (← new.images, ← new.thread_is)
        (start_kept k.vector left_now (rw new.images new.past)
        (λ i. subst (λ y. held k.vector i ≡ fresh y k.vector.past i) (sym new.images) (new.blocks i)))

    ready_idle : IsIdle k (thread_ready plain_operations (job_loads m) thread)
    ready_idle = record {
      seen = seen_none;
      blocks = owned_again _ ∙ ready_blocks;
      stack = sym new.stack;
    }

pub first_runner_stands : (m : JobImages) (job : JobParts) (legal : IsLegal (infos m) (last_offset m) []) (thread : ℕ)
    (r : Run)
    (own : List ThreadLine) → IsFirstRun thread m job r → of_thread job.lines thread ≡ own
    → StandsFor r (ready (thread_ready plain_operations (job_loads m) thread) (numbered_lines 1 own))
first_runner_stands m job legal thread r own first lines = record {
  todo = rw (first.begun, first.lines, lines) refl;
  said = rw first.said refl;
  phase = rw first.call (ready_idle m legal thread r.kept first.kept);
}

-- ---- all of them

module _ (m : JobImages) (job : JobParts) (x : Runners) (first : IsFirst m job x) where
  first_each : (k : ℕ) (r : Run) (t : Thread Runs Line Event) → slice_get x.runs k ≡ Some r
      → slice_get (ready_from plain_operations (job_loads m) 1 job.lines) k ≡ Some t
      → IsRunner m job.fuel (suc k) [] r t
  first_each k r t at_r at_t =
      let one : k + 1 ≡ suc k = omega arith in
      let run = subst (λ n. IsFirstRun n m job r) one (first.each k r at_r) in
      let is = ready_at (thread_ready plain_operations (job_loads m)) (ready_from plain_operations (job_loads m))
      (λ n. refl) (λ n own lines. refl) 1 job.lines
      k t at_t in
      let number : 1 + k ≡ suc k = omega arith in
      record {
        thread_is = run.kept.thread_is;
        images_are = run.kept.images;
        fuel_is = run.fuel;
        stands = subst (λ y. StandsFor r y)
            (sym (is.is ∙ ap (λ n. ready (thread_ready plain_operations (job_loads m) n)
            (numbered_lines 1 is.own)) number))
            (first_runner_stands m job first.legal (suc k) r is.own run (lines_at job.lines k is.own is.own_is));
        front = [];
        rest = [];
        events_are = refl;
        has_seen = seen_none m first.legal (suc k) r.kept run.kept;
      }

  first_pieces : length x.shared.pieces ≡ length m.images + 1
  unfolding first_data
  first_pieces = rw first.pieces_are (length-map-range_with_len (first_piece m) 0 (length m.images + 1))

  pub first_stands : Stands m job.fuel (job_start plain_operations (job_loads m) job.lines) x
  first_stands = record {
    infos_are = first.infos_are;
    last_is = first.last_is;
    events_are = first.events_are;
    legal = first.legal;
    pieces_are = first_pieces;
    shared_is = first_shared m first.legal.images ∙ rw (first.pieces_are, begins m) refl;
    count = first.count ∙ sym
        (ready-length (thread_ready plain_operations (job_loads m)) (ready_from plain_operations (job_loads m))
        (λ n. refl)
        (λ n own lines. refl) 1 job.lines);
    each = first_each;
  }
