-- What is answered after a look.
use Rattle.std.proofs.Common.{◌≡◌, ◌==◌, ℕ, Bool, true, false, List, length, Option, Some, None, refl, sym, ap, ◌∙◌}
use Rattle.std.specs.Prelude.{if◌then◌else◌, is_none, is_some}
use Rattle.std.specs.List.{find}
use Rattle.guest_arithmetic.specs.Plain.{plain_operations}
use Rattle.guest_operands.specs.declared.stop.Stop.TheVariants.{Address}
use Rattle.guest_operands.specs.RangeLaws.{range_accesses}
use Rattle.guest_operands.specs.Use.{left}
use Rattle.guest_machine.specs.Machine.{Answers, Standing, answer_of}
use Rattle.loaded_modules.specs.declared.instance.Instance.{Instance}
use Rattle.module_table.specs.declared.events.Event.{Event}
use Rattle.module_table.specs.PastLaws.{live}
use Rattle.thread_blocks.specs.declared.asked.Asked.{Asked}
use Rattle.thread_blocks.specs.Held.{Owned, reached, reached_at, with_owned}
use Rattle.thread_blocks.specs.Instances.{Loads}
use Rattle.thread_blocks.specs.JobLoads.{job_loads}
use Rattle.thread_blocks.specs.RunTime.{Runs as Thread, answer_word, answered, resumed_by, resumed_in, resumed}
use Rattle.thread_blocks.specs.Turns.{Answered, Calls, Says, Stopped}
use Rattle.transcript_text.specs.declared.outcomes.LineFault.TheVariants.{Unloaded as UnloadedFault}
use Rattle.transcript_text.specs.declared.outcomes.Outcome.TheVariants.{Fault}
use Rattle.thread_turns.specs.declared.parts.Resumed.TheVariants as goes
use Rattle.thread_space.specs.Kept.{HasSeen, Kept, held_at, live_in, memory_of, owned_of, shape_of}
use Rattle.thread_space.specs.Live.{IsLive}
use Rattle.job_turns.specs.Running.{IsSameThread, Resumes}
use Rattle.thread_space.specs.Steps.{Reaches}
use Rattle.job_turns.proofs.Answering.{answer_made, answer_refused, live_seen}
use Rattle.thread_space.proofs.Live.{among_live, live_image}
use Rattle.thread_space.proofs.Looks.{reach_kept}
use Rattle.thread_space.proofs.Owners.{owned_again}
use Rattle.job_turns.proofs.SameThread.{held_after, held_still, same_thread}
use Rattle.thread_space.proofs.StartupBlocks.{reach_startups}
use Rattle.thread_vector.specs.Holding.{IsLeftBy}
use Rattle.thread_vector.proofs.Facts.{facts}

-- ** the same thread

pub same_again : (k : Kept) → IsSameThread k k
same_again k = record { thread = refl; images = refl; past = refl; startups = λ startups. startups; pieces = refl }

pub same_then : (k k1 k2 : Kept) → IsSameThread k k1 → IsSameThread k1 k2 → IsSameThread k k2
same_then k k1 k2 one two = record {
  thread = two.thread ∙ one.thread;
  images = two.images ∙ one.images;
  past = two.past ∙ one.past;
  startups = λ startups. two.startups (one.startups startups);
  pieces = two.pieces ∙ one.pieces;
}

pub same_reached : (k k1 : Kept) (instance : ℕ) → Reaches k instance k1 → IsSameThread k k1
same_reached k k1 instance reaches = record {
  thread = reaches.leaves.thread;
  images = reaches.leaves.images;
  past = reaches.leaves.past;
  startups = reach_startups k.vector k1.vector instance reaches.leaves.images reaches.blocks;
  pieces = ap length reaches.data_is;
}

-- an instance with an id is live
pub id_live : (k : Kept) (id : ℕ) (x : Instance) → IsLeftBy k.vector.images k.vector.past
    → find (λ (x : Instance). x.id == id) (live_in k.vector.images k.vector.past) ≡ Some x
    → live k.vector.past x.number ≡ true
unfolding live
id_live k id x left is =
    ap is_some (live_image k.vector.images k.vector.past x (facts k.vector.images k.vector.past left).own
    (among_live k.vector.images k.vector.past _ x is))

-- ** before a block is reached

module _ (m : Standing ℕ Bool) (k : Kept) (wanted : Asked) where
  abbrev loads : Loads ℕ
  loads = job_loads k.vector.images

  abbrev here : List Event → Thread
  here seen = held_at seen m.state None k

  -- what is known of who asks, and of who has the id
  resumed-known : (seen : List Event) → HasSeen k.vector seen → (gone : Bool)
      → is_none (find (λ (x : Instance). x.number == wanted.asking) (live_in k.vector.images k.vector.past)) ≡ gone
      → (found : Option Instance)
      → find (λ (x : Instance). x.id == wanted.id) (live_in k.vector.images k.vector.past) ≡ found
      → resumed_by loads k.vector.thread seen (here seen) (Some wanted)
      ≡ (if gone then Says (Answered (Fault UnloadedFault)) (here seen)
      else resumed_in loads k.vector.thread wanted (here seen) found)
  resumed-known seen has gone is-gone found is =
      ap (λ (all : List Instance). if is_none (find (λ (x : Instance). x.number == wanted.asking) all)
      then Says (Answered (Fault UnloadedFault)) (here seen)
      else resumed_in loads k.vector.thread wanted (here seen) (find (λ (x : Instance). x.id == wanted.id) all))
      (live_seen k seen has)
      ∙ ap (λ b. if b then Says (Answered (Fault UnloadedFault)) (here seen)
      else resumed_in loads k.vector.thread wanted (here seen)
      (find (λ (x : Instance). x.id == wanted.id) (live_in k.vector.images k.vector.past))) is-gone
      ∙ ap (λ found. if gone then Says (Answered (Fault UnloadedFault)) (here seen)
      else resumed_in loads k.vector.thread wanted (here seen) found) is

  -- who asks is gone
  pub asker_gone : is_none (find (λ (x : Instance). x.number == wanted.asking) (live_in k.vector.images k.vector.past))
      ≡ true
      → Resumes m k wanted goes.Unloaded m k
  asker_gone gone = record {
    same = same_again k;
    takes = refl;
    clean = tt;
    resumes = λ seen has. resumed-known seen has true gone _ refl;
  }

  module _ (there : is_none (find (λ (x : Instance). x.number == wanted.asking) (live_in k.vector.images k.vector.past))
      ≡ false) where
    pub none_has_now : find (λ (x : Instance). x.id == wanted.id) (live_in k.vector.images k.vector.past) ≡ None
        → Resumes m k wanted (goes.Stops (Address m.state.place)) m k
    none_has_now none = record {
      same = same_again k;
      takes = refl;
      clean = tt;
      resumes = λ seen has. resumed-known seen has false there None none;
    }

    -- ** a block that is reached

    module _ (x : Instance)
        (is : find (λ (x : Instance). x.id == wanted.id) (live_in k.vector.images k.vector.past) ≡ Some x)
        (left-by : IsLeftBy k.vector.images k.vector.past) (k1 : Kept) (reaches : Reaches k x.number k1) where
      has-seen : (seen : List Event) → HasSeen k.vector seen → HasSeen k1.vector seen
      has-seen seen has = rw (reaches.leaves.images, reaches.leaves.past) has

      now-left : IsLeftBy k1.vector.images k1.vector.past
      now-left = rw (reaches.leaves.images, reaches.leaves.past) left-by

      now-live : IsLive k1.vector.images k1.vector.past x
      now-live = rw (reaches.leaves.images, reaches.leaves.past) (among_live k.vector.images k.vector.past _ x is)

      owned-then : (seen : List Event) → HasSeen k.vector seen
          → reached_at loads k.vector.thread seen x (owned_of k.vector k.pieces) ≡ owned_of k1.vector k1.pieces
      owned-then seen has =
          ap (λ images. reached_at (job_loads images) k.vector.thread seen x (owned_of k.vector k.pieces))
          (sym reaches.leaves.images)
          ∙ ap (λ thread. reached_at (job_loads k1.vector.images) thread seen x (owned_of k.vector k.pieces))
          (sym reaches.leaves.thread)
          ∙ reach_kept k.vector k1.vector reaches.leaves.images reaches.leaves.past now-left x now-live reaches.blocks k.pieces seen (has-seen seen has)
          ∙ ap (owned_of k1.vector) (sym reaches.data_is)

      with-stack : (seen : List Event) (ys : List (Owned ℕ)) → ys ≡ owned_of k1.vector k1.pieces
          → with_owned (here seen) ys ≡ held_at seen m.state None k1
      with-stack seen ys e = rw (e, sym reaches.stack) refl

      reached-then : (seen : List Event) → HasSeen k.vector seen
          → reached loads k.vector.thread x (here seen) ≡ held_at seen m.state None k1
      reached-then seen has =
          ap (λ (xs : List (Owned ℕ)). with_owned (here seen) (reached_at loads k.vector.thread seen x xs))
          (owned_again (owned_of k.vector k.pieces))
          ∙ with-stack seen _ (owned-then seen has)

      abbrev word : ℕ
      word = answer_word (job_loads k1.vector.images) k1.vector.thread wanted x

      then-answered : (seen : List Event) → HasSeen k.vector seen
          → resumed_by loads k.vector.thread seen (here seen) (Some wanted)
          ≡ resumed (held_at seen m.state None k1)
          (answered (job_loads k1.vector.images) k1.vector.thread wanted x (held_at seen m.state None k1))
      then-answered seen has =
          resumed-known seen has false there (Some x) is
          ∙ ap (λ h. resumed h (answered loads k.vector.thread wanted x h)) (reached-then seen has)
          ∙ ap (λ l. resumed (held_at seen m.state None k1)
          (answered l k.vector.thread wanted x (held_at seen m.state None k1)))
          (ap job_loads (sym reaches.leaves.images))
          ∙ ap (λ t. resumed (held_at seen m.state None k1)
          (answered (job_loads k1.vector.images) t wanted x (held_at seen m.state None k1))) (sym reaches.leaves.thread)

      module _ (m' : Standing ℕ Bool) (k' : Kept) (shape : shape_of k' ≡ shape_of k1) where
        all-same : IsSameThread k k'
        all-same = same_then k k1 k' (same_reached k k1 x.number reaches) (same_thread k1 k' shape)

        pub asked_answered : Answers true m (memory_of k1) m' (memory_of k')
            (answer_of plain_operations (range_accesses plain_operations) word m.state (memory_of k1))
            → Resumes m k wanted goes.Goes m' k'
        asked_answered made = record {
          same = all-same;
          takes = made.1;
          clean = tt;
          resumes = λ seen has. then-answered seen has
              ∙ ap (resumed (held_at seen m.state None k1))
              (answer_made k1 seen (has-seen seen has) word m m' k' shape made)
              ∙ ap Calls (held_after seen m.state m'.state None k1 k' shape);
        }

        pub asked_refused : Answers false m (memory_of k1) m' (memory_of k')
            (answer_of plain_operations (range_accesses plain_operations) word m.state (memory_of k1))
            → Resumes m k wanted (goes.Stops (Address m.state.place)) m' k'
        asked_refused refused = record {
          same = all-same;
          takes = refused.1;
          clean = tt;
          resumes = λ seen has.
              let both = answer_refused k1 seen (has-seen seen has) word m m' k' shape refused in
              then-answered seen has
              ∙ ap (resumed (held_at seen m.state None k1)) both.0
              ∙ ap (Says (Stopped (Address m.state.place))) (sym (held_still seen m.state None k1 k' shape both.1))
              ∙ ap (λ (n : Standing ℕ Bool). Says (Stopped (Address m.state.place)) (held_at seen n.state None k'))
              (sym refused.1);
        }
