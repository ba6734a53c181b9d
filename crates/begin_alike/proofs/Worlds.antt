-- All turns of a job, where calls are alike.
use Rattle.std.proofs.Common.{◌≡◌, ◌≤◌, ◌⊎◌, ◌*◌, ℕ, suc, List, length, None, inl, inr, refl, subst, arith}
use Rattle.std.specs.Prelude.{Option}
use Rattle.job_text.specs.declared.thread_lines.ThreadLine.{ThreadLine}
use Rattle.module_table.specs.declared.events.Event.{Event}
use Rattle.thread_blocks.specs.Instances.{Loads}
use Rattle.thread_blocks.specs.JobWorlds.{job_world, numbered_lines, job_start, thread_ready}
use Rattle.thread_blocks.specs.Lines.{event_by}
use Rattle.thread_blocks.specs.RunTime.{Runs, thread_turns}
use Rattle.thread_blocks.specs.Turns.{ready, whole_order, with_event}
use Rattle.thread_blocks.specs.TurnsAlike.{HasUnclean}
use Rattle.thread_blocks.specs.Turns.{IsFront}
use Rattle.thread_blocks.proofs.Orders.{front-trans}
use Rattle.whole_meaning.specs.Jobs.{lines_of, meant_world, verdict_of}
use Rattle.whole_meaning.specs.Meanings.{Meaning}
use Rattle.whole_meaning.specs.Threads.{Meant, meant_turns, ops}
use Rattle.lawful_points.specs.Laws.{AtFronts}
use Rattle.lawful_points.specs.Raced.{first_of, raced_of}
use Rattle.order_laws.specs.Alike.{AreAlike, SameOne}
use Rattle.order_laws.specs.Worlds.{AreLent, IsSomeUnclean}
use Rattle.order_laws.proofs.Turns.{turns_alike}
use Rattle.order_laws.proofs.Worlds.{order_alike}
use Rattle.tied_meaning.specs.Numbers.{Setting}
use Rattle.tied_meaning.specs.Ties.{AreTied}
use Rattle.tied_meaning.specs.Threads.{AtRest, InCall, SameData, Waiting}
use Rattle.held_alike.proofs.Lent.{each_lent}
use Rattle.begin_alike.specs.Begun.{CallsAreAlike}
use Rattle.begin_alike.specs.Laws.{CleanJobsPrint, CleanThreadsPrint, EndsIn, JobsStayAlike, SameJob, all_said}
use Rattle.begin_alike.specs.Laws.{meant_thread}
use Rattle.begin_alike.proofs.Begins.{begin_alike, event_same}
use Rattle.begin_alike.proofs.Firsts.{ready_rests, start_alike}
use Rattle.begin_alike.proofs.Printed.{lines_same, verdict_clean}
use Rattle.guest_arithmetic.specs.Plain.{plain_operations}

module _ (g : Setting) (m : Meaning) (q : Loads ℕ) (history : List Event) (tied : AreTied g m q history)
    (calls : CallsAreAlike g m q history) where
  abbrev Call : ℕ → Meant → Runs → Type 0
  Call i = InCall g m q history i

  abbrev Rest : ℕ → Meant → Runs → Type 0
  Rest i = AtRest g m q history i

  abbrev Wait : ℕ → Meant → Runs → Type 0
  Wait i = Waiting g m q history i

  abbrev Fine : List Event → Type 0
  Fine seen = IsFront seen history

  -- ** threads and data, as order_laws asks for them

  lent : (i : ℕ) → AreLent Wait Rest (SameData g q) i
  lent i = each_lent g m q history i

  pub threads_do : (fuel thread : ℕ) → 1 ≤ thread → thread ≤ 64
      → AreAlike (Call thread) (Wait thread) (Rest thread) Fine (meant_turns m thread fuel) (thread_turns q thread fuel)
      (event_by q thread)
  unfolding meant_turns thread_turns
  threads_do fuel thread one most = record {
    steps = calls.steps thread one most;
    fuel = omega arith;
    begin = λ seen line front own h h' r. begin_alike g m q history thread tied seen line front
        (subst (λ (e : Option Event). IsFront (with_event seen e) history)
        (event_same g m q history thread tied line seen) own) h h' r;
    resume = λ seen front h h' w. calls.resume thread one most seen front h h' w;
  }

  -- ** jobs

  module _ (fuel : ℕ) (lines : List (List ThreadLine)) (order : List ℕ) (few : length lines ≤ 64)
      (ends : EndsIn q fuel lines order history) where
    pub world_alike : IsSomeUnclean (meant_world m fuel lines order)
        ⊎ SameJob g m q history (meant_world m fuel lines order) (job_world q fuel lines order)
    unfolding meant_world job_world
    world_alike =
        order_alike Call Wait Rest (SameData g q) (λ (i : ℕ). suc i ≤ 64) Fine
        (λ (thread : ℕ). meant_turns m thread fuel) (λ (thread : ℕ). thread_turns q thread fuel)
        (λ (thread : ℕ). event_by m.loads thread) (λ (thread : ℕ). event_by q thread)
        (λ i line seen. event_same g m q history i tied line seen)
        (λ i most. threads_do fuel (suc i) (omega arith) most) (λ i most. lent (suc i))
        (whole_order (4 * fuel) lines order) (job_start ops m.loads lines) (job_start plain_operations q lines)
        (start_alike g m q history tied lines few)
        (λ e front. front-trans (λ (thread : ℕ). thread_turns q thread fuel) (λ (thread : ℕ). event_by q thread) e
        (job_world q fuel lines order).events history front ends)

    pub job_printed : verdict_of (lines_of (meant_world m fuel lines order)) ≡ None
        → ((job_world q fuel lines order).events ≡ (meant_world m fuel lines order).events)
        × (all_said (job_world q fuel lines order) ≡ lines_of (meant_world m fuel lines order))
    job_printed verdict = of_worlds world_alike
      where
        of_worlds : IsSomeUnclean (meant_world m fuel lines order)
            ⊎ SameJob g m q history (meant_world m fuel lines order) (job_world q fuel lines order)
            → ((job_world q fuel lines order).events ≡ (meant_world m fuel lines order).events)
            × (all_said (job_world q fuel lines order) ≡ lines_of (meant_world m fuel lines order))
        of_worlds (inl h) =
            absurd (verdict_clean (meant_world m fuel lines order).threads verdict h.number h.thread h.there h.unclean)
        of_worlds (inr h) = (
          h.events,
          lines_same Wait Rest (meant_world m fuel lines order).threads (job_world q fuel lines order).threads
              (λ i. h.each i) (verdict_clean (meant_world m fuel lines order).threads verdict),
        )

  -- ** one thread at any points that its own events are at

  pub thread_printed : (fuel thread : ℕ) → 1 ≤ thread → thread ≤ 64
      → (own : List ThreadLine) (points : List (List Event))
      → AtFronts (thread_turns q thread fuel) (event_by q thread) history (first_of q thread own) points
      → HasUnclean (meant_thread m fuel thread own points).said
      ⊎ ((raced_of q fuel thread own points).said ≡ (meant_thread m fuel thread own points).said)
  thread_printed fuel thread one most own points at =
      of_threads (turns_alike (Call thread) (Wait thread) (Rest thread) Fine (meant_turns m thread fuel)
      (thread_turns q thread fuel) (event_by q thread) (threads_do fuel thread one most) points
      (ready (thread_ready ops m.loads thread) (numbered_lines 1 own)) (first_of q thread own) at
      (inr (record { todo = refl; said = refl; seen = refl; phase = ready_rests g m q history tied thread })))
    where
      of_threads : SameOne (Wait thread) (Rest thread) (meant_thread m fuel thread own points)
          (raced_of q fuel thread own points)
          → HasUnclean (meant_thread m fuel thread own points).said
          ⊎ ((raced_of q fuel thread own points).said ≡ (meant_thread m fuel thread own points).said)
      of_threads (inl h) = inl h
      of_threads (inr h) = inr h.said

-- ** the laws

pub jobs_stay : JobsStayAlike
jobs_stay g m q history tied calls fuel lines order few ends =
    world_alike g m q history tied calls fuel lines order few ends

pub jobs_print : CleanJobsPrint
jobs_print g m q history tied calls fuel lines order few ends =
    job_printed g m q history tied calls fuel lines order few ends

pub threads_print : CleanThreadsPrint
threads_print g m q history tied calls = thread_printed g m q history tied calls
