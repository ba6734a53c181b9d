-- What is asked for between two looks: it is answered at once, or the run ends there, or it waits.
use Rattle.std.proofs.Common.{◌≡◌, ◌==◌, ℕ, Bool, true, false, List, Option, Some, None, refl, ap, ◌∙◌}
use Rattle.std.specs.Prelude.{if◌then◌else◌}
use Rattle.std.specs.List.{find}
use Rattle.guest_arithmetic.specs.Plain.{plain_operations}
use Rattle.guest_operands.specs.declared.stop.Stop.TheVariants.{Address}
use Rattle.guest_operands.specs.RangeLaws.{range_accesses}
use Rattle.guest_machine.specs.Machine.{Answers, Standing, answer_of}
use Rattle.guest_machine.specs.Run.{Goes, Looks, Next}
use Rattle.loaded_modules.specs.declared.instance.Instance.{Instance}
use Rattle.module_table.specs.declared.events.Event.{Event}
use Rattle.thread_blocks.specs.declared.asked.Asked.{Asked}
use Rattle.thread_blocks.specs.Instances.{Loads, instances, is_startup_id}
use Rattle.thread_blocks.specs.JobLoads.{job_loads}
use Rattle.thread_blocks.specs.RunTime.{Runs as Thread, answer_word, asked_at, asked_next, found_at_once, goes_answered}
use Rattle.thread_turns.specs.declared.parts.Ended.TheVariants as ran
use Rattle.thread_space.specs.Kept.{HasSeen, Kept, held_at, live_in, memory_of, shape_of}
use Rattle.job_turns.specs.Running.{AnswersLook, asked_in}
use Rattle.job_turns.proofs.Answering.{answer_made, answer_refused, asked_is, live_seen}
use Rattle.job_turns.proofs.SameThread.{held_after}

module _ (m : Standing ℕ Bool) (k : Kept) where
  abbrev loads : Loads ℕ
  loads = job_loads k.vector.images

  abbrev next-of : List Event → Option Asked → Option Asked → Next Thread
  next-of seen asked wanted = asked_next loads k.vector.thread (held_at seen m.state asked k) wanted

  next-is : (seen : List Event) (asked : Option Asked) → HasSeen k.vector seen → (wanted : Option Asked)
      → asked_in k m.state ≡ wanted
      → next-of seen asked (asked_at loads k.vector.thread (held_at seen m.state asked k).after)
      ≡ next-of seen asked wanted
  next-is seen asked has wanted e = ap (next-of seen asked) (asked_is k seen has m.state ∙ e)

  -- where no live instance asks, the access is refused
  pub none_asks : asked_in k m.state ≡ None → AnswersLook m k (Some (ran.Over (Address m.state.place))) m k
  none_asks e = record {
    shape = refl;
    takes = refl;
    clean = tt;
    still = λ seen has. refl;
    next = λ seen asked has. next-is seen asked has None e;
  }

  module _ (wanted : Asked) (asks : asked_in k m.state ≡ Some wanted) where
    -- what is no startup image's waits
    pub has_to_wait : is_startup_id loads wanted.id ≡ false → AnswersLook m k (Some (ran.Waits wanted)) m k
    has_to_wait late = record {
      shape = refl;
      takes = refl;
      clean = tt;
      still = λ seen has. refl;
      next = λ seen asked has. next-is seen asked has (Some wanted) asks
          ∙ ap (λ b. if b then found_at_once loads k.vector.thread wanted (held_at seen m.state asked k)
          (find (λ (x : Instance). x.id == wanted.id) (instances loads seen))
          else Looks (held_at seen m.state (Some wanted) k)) late;
    }

    module _ (early : is_startup_id loads wanted.id ≡ true) where
      at-once : (seen : List Event) (asked : Option Asked) → HasSeen k.vector seen → (found : Option Instance)
          → find (λ (x : Instance). x.id == wanted.id) (live_in k.vector.images k.vector.past) ≡ found
          → next-of seen asked (asked_at loads k.vector.thread (held_at seen m.state asked k).after)
          ≡ found_at_once loads k.vector.thread wanted (held_at seen m.state asked k) found
      at-once seen asked has found is = next-is seen asked has (Some wanted) asks
          ∙ ap (λ b. if b then found_at_once loads k.vector.thread wanted (held_at seen m.state asked k)
          (find (λ (x : Instance). x.id == wanted.id) (instances loads seen))
          else Looks (held_at seen m.state (Some wanted) k)) early
          ∙ ap (λ live. found_at_once loads k.vector.thread wanted (held_at seen m.state asked k)
          (find (λ (x : Instance). x.id == wanted.id) live)) (live_seen k seen has)
          ∙ ap (found_at_once loads k.vector.thread wanted (held_at seen m.state asked k)) is

      -- an id that no live instance has is refused
      pub none_has : find (λ (x : Instance). x.id == wanted.id) (live_in k.vector.images k.vector.past) ≡ None
          → AnswersLook m k (Some (ran.Over (Address m.state.place))) m k
      none_has none = record {
        shape = refl;
        takes = refl;
        clean = tt;
        still = λ seen has. refl;
        next = λ seen asked has. at-once seen asked has None none;
      }

      module _ (x : Instance)
          (is : find (λ (x : Instance). x.id == wanted.id) (live_in k.vector.images k.vector.past) ≡ Some x)
          (m' : Standing ℕ Bool) (k' : Kept) (shape : shape_of k' ≡ shape_of k) where
        abbrev word : ℕ
        word = answer_word loads k.vector.thread wanted x

        -- it is answered
        pub is_answered : Answers true m (memory_of k) m' (memory_of k')
            (answer_of plain_operations (range_accesses plain_operations) word m.state (memory_of k))
            → AnswersLook m k None m' k'
        is_answered made = record {
          shape = shape;
          takes = made.1;
          clean = tt;
          still = λ seen has. tt;
          next = λ seen asked has. at-once seen asked has (Some x) is
              ∙ ap (goes_answered loads k.vector.thread (held_at seen m.state asked k))
              (answer_made k seen has word m m' k' shape made)
              ∙ ap Goes (held_after seen m.state m'.state asked k k' shape);
        }

        -- or the return is refused
        pub is_refused : Answers false m (memory_of k) m' (memory_of k')
            (answer_of plain_operations (range_accesses plain_operations) word m.state (memory_of k))
            → AnswersLook m k (Some (ran.Over (Address m.state.place))) m' k'
        is_refused refused = record {
          shape = shape;
          takes = refused.1;
          clean = tt;
          still = λ seen has. (answer_refused k seen has word m m' k' shape refused).1;
          next = λ seen asked has. at-once seen asked has (Some x) is
              ∙ ap (goes_answered loads k.vector.thread (held_at seen m.state asked k))
              (answer_refused k seen has word m m' k' shape refused).0;
        }
