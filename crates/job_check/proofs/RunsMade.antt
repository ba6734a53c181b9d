-- A run is that of the meaning.
use Rattle.std.proofs.Common.{◌≡◌, ℕ, zero, suc, ◌-◌, ◌==◌, true, false, List, Some, None, arith, refl, sym, ap, ◌∙◌}
use Rattle.guest_machine.specs.Run.{Ended as EndedWith, Stepping, returned, run}
use Rattle.guest_machine.proofs.Runs.{run-ends, run-goes, run-looks, run-over, run-spent}
use Rattle.guest_operands.specs.declared.state.State.{State}
use Rattle.guest_operands.specs.declared.stop.Stop.{Stop}
use Rattle.job_meaning.specs.declared.values.Flag.{Flag}
use Rattle.job_meaning.specs.declared.values.Word.{Word}
use Rattle.module_table.specs.declared.events.Event.{Event}
use Rattle.whole_meaning.specs.Loads.{meaning_of}
use Rattle.whole_meaning.specs.Running.{meaning}
use Rattle.whole_meaning.specs.Threads.{Meant, meant_steps, ops}
use Rattle.job_check.specs.Running.{KeepsJob, Ran, RunsOn, Steps, ran_as}
use Rattle.thread_turns.specs.declared.parts.Ended.TheVariants.{Over, Waits}
use Rattle.job_check.specs.declared.step.Stepped.TheVariants.{Goes, Looks, Ends}
use Rattle.marked_memory.specs.Kept.{HasSeen, Kept, held_at}
use Rattle.job_check.specs.Stepping.{Asks}

pub keeps_same : (k : Kept) → KeepsJob k k
keeps_same k = record { thread = refl; images = refl; live = refl; lent = refl }

pub keeps_then : (k k' k'' : Kept) → KeepsJob k k' → KeepsJob k' k'' → KeepsJob k k''
keeps_then k k' k'' a b = record {
  thread = b.thread ∙ a.thread;
  images = b.images ∙ a.images;
  live = b.live ∙ a.live;
  lent = b.lent ∙ a.lent;
}

pub keeps_seen : (k k' : Kept) (seen : List Event) → KeepsJob k k' → HasSeen k seen → HasSeen k' seen
keeps_seen k k' seen keeps has = rw (keeps.images, keeps.live) has

abbrev stepping : Kept → Stepping Meant
stepping k = meant_steps (meaning_of k.images) k.thread

pub same_stepping : (k k' : Kept) → KeepsJob k k'
    → meant_steps (meaning_of k'.images) k'.thread ≡ meant_steps (meaning_of k.images) k.thread
same_stepping k k' keeps = rw (keeps.images, keeps.thread) refl

-- what is left to run from here is what was to run at first
pub record Reaches (count : ℕ) (state : State Word Flag) (k : Kept) (left : ℕ) (state' : State Word Flag)
    (k' : Kept) : Type 0 where
  pub keeps : KeepsJob k k'
  pub same : (seen : List Event) → HasSeen k seen
      → run (meant_steps (meaning_of k'.images) k'.thread) left (held_at seen state' k')
      ≡ run (meant_steps (meaning_of k.images) k.thread) count (held_at seen state k)

module _ (count : ℕ) (first : State Word Flag) (start : Kept) (state : State Word Flag) (k : Kept) where
  pub ended : (left : ℕ) (ran : Ran) (state' : State Word Flag) (k' : Kept) → Reaches count first start left state k
      → KeepsJob k k'
      → ((seen : List Event) → HasSeen k seen
      → run (meant_steps (meaning_of k.images) k.thread) left (held_at seen state k)
      ≡ ran_as ran (held_at seen state' k'))
      → RunsOn count first start ran state' k'
  ended left ran state' k' reaches keeps runs = record {
    keeps = keeps_then start k k' reaches.keeps keeps;
    runs = λ seen has. sym (reaches.same seen has) ∙ runs seen (keeps_seen start k seen reaches.keeps has);
  }

  -- the call is over
  pub run_over : (left : ℕ) (stop : Stop) → (state.place == 0x2000) ≡ true
      → stop ≡ returned (ops.number_of state.registers.rax) state.place
      → Reaches count first start left state k → RunsOn count first start (Over (stop, left)) state k
  unfolding meant_steps meaning
  run_over left stop here is reaches = ended left (Over (stop, left)) state k reaches (keeps_same k)
      (λ seen has. run-over (stepping k) left (held_at seen state k) stop (rw here (ap Some (sym is))))

  goes-on : (seen : List Event) → (state.place == 0x2000) ≡ false → (stepping k).over (held_at seen state k) ≡ None
  unfolding meant_steps meaning
  goes-on seen elsewhere = rw elsewhere refl

  -- no step is left
  pub run_spent : (stop : Stop) → (state.place == 0x2000) ≡ false → Asks stop state k
      → Reaches count first start 0 state k → RunsOn count first start (Over (stop, 0)) state k
  run_spent stop elsewhere asks reaches = ended 0 (Over (stop, 0)) state k reaches (keeps_same k)
      (λ seen has. run-spent (stepping k) (held_at seen state k) (goes-on seen elsewhere)
      ∙ ap (λ (stop : Stop). EndedWith stop 0 (held_at seen state k)) (asks seen has))

  pub run_looks : (left : ℕ) (state' : State Word Flag) (k' : Kept) → (left ≡ 0 → ⊥) → (state.place == 0x2000) ≡ false
      → Steps state k Looks state' k'
      → Reaches count first start left state k → RunsOn count first start (Waits left) state' k'
  run_looks zero state' k' some elsewhere steps reaches = absurd (some refl)
  run_looks (suc more) state' k' some elsewhere steps reaches =
      ended (suc more) (Waits (suc more)) state' k' reaches steps.keeps
      (λ seen has. run-looks (stepping k) more (held_at seen state k) (held_at seen state' k') (goes-on seen elsewhere)
      (steps.steps seen has))

  stays-held : (stop : Stop) (state' : State Word Flag) (k' : Kept) (seen : List Event)
      → Steps state k (Ends stop) state' k' → held_at seen state k ≡ held_at seen state' k'
  stays-held stop state' k' seen steps = rw (steps.stays.0, steps.stays.1) refl

  pub run_ends : (left : ℕ) (stop : Stop) (state' : State Word Flag) (k' : Kept) → (left ≡ 0 → ⊥)
      → (state.place == 0x2000) ≡ false → Steps state k (Ends stop) state' k'
      → Reaches count first start left state k → RunsOn count first start (Over (stop, left)) state' k'
  run_ends zero stop state' k' some elsewhere steps reaches = absurd (some refl)
  run_ends (suc more) stop state' k' some elsewhere steps reaches =
      ended (suc more) (Over (stop, suc more)) state' k' reaches steps.keeps
      (λ seen has. run-ends (stepping k) more (held_at seen state k) stop (goes-on seen elsewhere)
      (steps.steps seen has)
      ∙ ap (EndedWith stop (suc more)) (stays-held stop state' k' seen steps))

  went-on : (more : ℕ) (state' : State Word Flag) (k' : Kept) → (state.place == 0x2000) ≡ false
      → Steps state k Goes state' k'
      → Reaches count first start (suc more) state k → Reaches count first start more state' k'
  went-on more state' k' elsewhere steps reaches = record {
    keeps = keeps_then start k k' reaches.keeps steps.keeps;
    same = λ seen has. let here = keeps_seen start k seen reaches.keeps has in
        ap (λ (x : Stepping Meant). run x more (held_at seen state' k')) (same_stepping k k' steps.keeps)
        ∙ sym (run-goes (stepping k) more (held_at seen state k) (held_at seen state' k') (goes-on seen elsewhere)
        (steps.steps seen here))
        ∙ reaches.same seen has;
  }

  pub run_goes : (left : ℕ) (state' : State Word Flag) (k' : Kept) → (left ≡ 0 → ⊥) → (state.place == 0x2000) ≡ false
      → Steps state k Goes state' k'
      → Reaches count first start left state k → Reaches count first start (left - 1) state' k'
  run_goes zero state' k' some elsewhere steps reaches = absurd (some refl)
  run_goes (suc more) state' k' some elsewhere steps reaches = let e : suc more - 1 ≡ more = omega arith in
      rw e (went-on more state' k' elsewhere steps reaches)
