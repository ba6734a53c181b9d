-- The machine's threads have what the map says, after any turns at rising points of a history.
use Rattle.std.proofs.Common.{◌≡◌, ◌==◌, ℕ, Bool, true, false, List, Option, Some, None, Result, Ok, Err, if◌then◌else◌}
use Rattle.std.proofs.Common.{refl, sym, subst}
use Rattle.std.specs.Prelude.{is_none}
use Rattle.guest_arithmetic.specs.Plain.{plain_operations}
use Rattle.guest_operands.specs.declared.state.State.{State}
use Rattle.guest_operands.specs.declared.stop.Stop.{Stop}
use Rattle.guest_machine.specs.Access.{load_of}
use Rattle.guest_machine.specs.Machine.{with_answer}
use Rattle.guest_machine.specs.Run.{Next, Goes, Ends, Looks, is_look, machine, next_of}
use Rattle.guest_machine.specs.State.{at_place, with_stack}
use Rattle.guest_machine.specs.Step.{return_of}
use Rattle.guest_machine.specs.Use.{◌>>=◌, After, clean, left, plus, there}
use Rattle.loaded_modules.specs.declared.instance.Instance.{Instance}
use Rattle.module_table.specs.declared.events.Event.{Event}
use Rattle.transcript_text.specs.declared.outcomes.LineFault.TheVariants.{Unloaded}
use Rattle.transcript_text.specs.declared.outcomes.Outcome.TheVariants.{Fault}
use Rattle.thread_blocks.specs.declared.asked.Asked.{Asked}
use Rattle.thread_blocks.specs.Held.{Owner, looked, reached}
use Rattle.thread_blocks.specs.Instances.{Loads, instance_with_id, instances, is_startup_id, numbered_instance}
use Rattle.thread_blocks.specs.RunTime.{Runs, answer_word, answered, asked_at, asked_next, found_at_once, goes_answered}
use Rattle.thread_blocks.specs.RunTime.{resume_line, resumed_by, resumed_in, shows, thread_accesses, thread_next}
use Rattle.thread_blocks.specs.RunTime.{thread_steps, thread_turns, resumed}
use Rattle.thread_blocks.specs.Spaces.{Space, next_image}
use Rattle.thread_blocks.specs.SpaceLaws.{after_of}
use Rattle.thread_blocks.specs.Turns.{Answered, Begun, Says}
use Rattle.thread_blocks.specs.Turns.{IsFront}
use Rattle.tls_map_laws.specs.Map.{Act}
use Rattle.tls_map_laws.specs.Acts.{Noted}
use Rattle.tls_map_laws.specs.Machine.{asks_in, machine_acts, machine_asks, noted_acts, noted_start, noted_step}
use Rattle.tls_map_laws.specs.Told.{with_asked, with_look}
use Rattle.tls_map_laws.proofs.Places.{Member}
use Rattle.tls_map_laws.proofs.Noting.{follows}
use Rattle.tls_map_laws.proofs.Steps.{FitsIn, NotedFits, acc, puts, step_fits}
use Rattle.tls_map_laws.proofs.Known.{Known}
use Rattle.tls_map_laws.proofs.Moment.{found_member}
use Rattle.tls_map_laws.proofs.Begins.{BegunFits, FitsBy, begin_fits, looked_fits, reached_fits}
use Rattle.tls_map_laws.proofs.Turns.{KeepsMap, NextFits}

module _ (l : Loads ℕ) (thread : ℕ) (history : List Event) (known : Known l thread history) where
  abbrev Fit : List (Act ℕ) → Runs → Type 0
  Fit acts h = FitsBy l thread history known acts h

  abbrev Next_fits : List (Act ℕ) → Next Runs → Type 0
  Next_fits acts next = NextFits l thread history known acts next

  abbrev Begin : List (Act ℕ) → Begun Runs → Type 0
  Begin acts begun = BegunFits l thread history known acts begun

  -- ** answers: a return changes no memory

  abbrev InFits : List (Act ℕ) → List Owner → Space Event ℕ → Type 0
  InFits acts os space = FitsIn l thread history known acts os space

  abbrev ResultFits : List (Act ℕ) → List Owner → Result (After ℕ Bool (Space Event ℕ)) Stop → Type 0
  ResultFits acts os (Ok at) = InFits acts os at.memory
  ResultFits acts os (Err stop) = Unit {0}

  then_fits : {A : Type 0} (acts : List (Act ℕ)) (os : List Owner) (r : Result A Stop)
      (f : A → Result (After ℕ Bool (Space Event ℕ)) Stop) → ((a : A) → ResultFits acts os (f a))
      → ResultFits acts os (r >>= f)
  then_fits acts os (Ok a) f h = h a
  then_fits acts os (Err stop) f h = tt

  return_fits : (acts : List (Act ℕ)) (os : List Owner) (state : State ℕ Bool) (memory : Space Event ℕ)
      → InFits acts os memory
      → ResultFits acts os (return_of plain_operations (thread_accesses l thread) state memory)
  unfolding return_of
  return_fits acts os state memory fits =
      let to : ℕ → ℕ → State ℕ Bool = λ stack place.
      at_place (with_stack state (plain_operations.word (plus stack 8))) place in
      let jumps : ℕ → ℕ → Result (After ℕ Bool (Space Event ℕ)) Stop = λ stack word.
      clean state.place (plain_operations.number_of word) >>= λ place. Ok (left (to stack place) memory) in
      then_fits acts os (clean state.place (plain_operations.number_of state.registers.rsp))
      (λ stack. there state.place (load_of plain_operations (thread_accesses l thread) memory stack 8) >>= jumps stack)
      (λ stack. then_fits acts os
      (there state.place (load_of plain_operations (thread_accesses l thread) memory stack 8))
      (jumps stack)
      (λ word. then_fits acts os (clean state.place (plain_operations.number_of word))
      (λ place. Ok (left (to stack place) memory)) (λ place. fits)))

  answer_fits : (acts : List (Act ℕ)) (asked : Asked) (x : Instance) (h : Runs) → Fit acts h
      → ResultFits acts h.owners (answered l thread asked x h)
  answer_fits acts asked x h fits =
      return_fits acts h.owners (with_answer h.after.state (answer_word l thread asked x)) h.after.memory fits

  -- ** steps

  goes_fits : (acts : List (Act ℕ)) (h : Runs) (result : Result (After ℕ Bool (Space Event ℕ)) Stop)
      → ResultFits acts h.owners result → Next_fits acts (goes_answered l thread h result)
  goes_fits acts h (Ok at) fits = fits
  goes_fits acts h (Err stop) fits = tt

  at_once_fits : (acts : List (Act ℕ)) (asked : Asked) (h : Runs) (x : Option Instance) → Fit acts h
      → Next_fits acts (found_at_once l thread asked h x)
  at_once_fits acts asked h None fits = tt
  at_once_fits acts asked h (Some x) fits =
      goes_fits acts h (answered l thread asked x h) (answer_fits acts asked x h fits)

  either_next : (acts : List (Act ℕ)) (b : Bool) (x y : Next Runs) → Next_fits acts x → Next_fits acts y
      → Next_fits acts (if b then x else y)
  either_next acts true x y f g = f
  either_next acts false x y f g = g

  asked_fits : (acts : List (Act ℕ)) (h : Runs) (asked : Option Asked) → Fit acts h
      → Next_fits acts (asked_next l thread h asked)
  asked_fits acts h None fits = tt
  asked_fits acts h (Some asked) fits =
      either_next acts (is_startup_id l asked.id)
      (found_at_once l thread asked h (instance_with_id l h.after.memory.seen asked.id))
      (Looks (record h { asked = Some asked }))
      (at_once_fits acts asked h (instance_with_id l h.after.memory.seen asked.id) fits) fits

  next_fits : (acts : List (Act ℕ)) (h : Runs) (noted : Next (After ℕ Bool (Noted l thread))) → Fit acts h
      → NotedFits l thread history known h.owners (acc l thread history known)
      (puts l thread history known) noted
      → ((at : After ℕ Bool (Noted l thread)) → noted ≡ Looks at → noted_start l thread acts h ≡ at)
      → Next_fits (noted_acts l thread acts noted) (thread_next l thread h (next_image (after_of (λ n. n.space)) noted))
  next_fits acts h (Goes at) fits after same = after
  next_fits acts h (Ends stop) fits after same = tt
  next_fits acts h (Looks at) fits after same =
      let asked = asked_at l thread (after_of (λ n. n.space) at) in
      subst (λ (a : After ℕ Bool (Noted l thread)). Next_fits a.memory.acts (asked_next l thread h asked))
      (same at refl)
      (asked_fits acts h asked fits)

  next_goes : (at : After ℕ Bool (Noted l thread)) (result : Result (After ℕ Bool (Noted l thread)) Stop)
      → next_of result ≡ Looks at → ⊥
  next_goes at (Ok after) e = cc
  next_goes at (Err stop) e = cc

  looks_same : (acts : List (Act ℕ)) (h : Runs) (after : After ℕ Bool (Noted l thread))
      → noted_step l thread acts h ≡ Looks after → noted_start l thread acts h ≡ after
  unfolding machine
  looks_same acts h after e = by_look (is_look h.after.state.place) _ e
    where
      by_look : (looks : Bool) (result : Result (After ℕ Bool (Noted l thread)) Stop)
          → (if looks then Looks (noted_start l thread acts h) else next_of result) ≡ Looks after
          → noted_start l thread acts h ≡ after
      by_look true result e = cc
      by_look false result e = absurd (next_goes after result e)

  thread_fits : (acts : List (Act ℕ)) (h : Runs) → Fit acts h
      → Next_fits (machine_acts l thread acts h) ((thread_steps l thread).step h)
  unfolding thread_steps
  thread_fits acts h fits =
      let noted = noted_step l thread acts h in
      subst (λ (next : Next (After ℕ Bool (Space Event ℕ))).
      Next_fits (noted_acts l thread acts noted) (thread_next l thread h next))
      (sym (follows l thread (noted_start l thread acts h)))
      (next_fits acts h noted fits (step_fits l thread history known acts h.owners h.after fits)
      (λ at e. looks_same acts h at e))

  -- ** a look in the middle of a line

  resumed_fits : (acts : List (Act ℕ)) (h : Runs) (result : Result (After ℕ Bool (Space Event ℕ)) Stop) → Fit acts h
      → ResultFits acts h.owners result → Begin acts (resumed h result)
  resumed_fits acts h (Ok after) fits now = now
  resumed_fits acts h (Err stop) fits now = fits

  in_fits : (acts : List (Act ℕ)) (asked : Asked) (h : Runs) (x : Option Instance) → Fit acts h
      → ((y : Instance) → x ≡ Some y → Member y (instances l h.after.memory.seen))
      → Begin (with_asked l x acts) (resumed_in l thread asked h x)
  in_fits acts asked h None fits member = fits
  in_fits acts asked h (Some x) fits member =
      let now = reached_fits l thread history known acts x h fits (member x refl) in
      let g = reached l thread x h in
      resumed_fits (with_asked l (Some x) acts) g (answered l thread asked x g) now
      (answer_fits (with_asked l (Some x) acts) asked x g now)

  by_fits : (acts : List (Act ℕ)) (seen : List Event) (h : Runs) (asked : Option Asked) → Fit acts h
      → h.after.memory.seen ≡ seen
      → Begin (with_asked l (asks_in l thread seen asked) acts) (resumed_by l thread seen h asked)
  by_fits acts seen h None fits same = fits
  by_fits acts seen h (Some asked) fits same =
      either (is_none (numbered_instance l seen asked.asking))
      (in_fits acts asked h (instance_with_id l seen asked.id) fits
      (λ y e. subst (λ (s : List Event). Member y (instances l s)) (sym same)
      (found_member (λ (x : Instance). x.id == asked.id) (instances l seen) y e)))
    where
      either : (closed : Bool) → Begin (with_asked l (instance_with_id l seen asked.id) acts)
          (resumed_in l thread asked h (instance_with_id l seen asked.id))
          → Begin (with_asked l (if closed then None else instance_with_id l seen asked.id) acts)
          (if closed then Says (Answered (Fault Unloaded)) h
          else resumed_in l thread asked h (instance_with_id l seen asked.id))
      either true now = fits
      either false now = now

  resume_fits : (acts : List (Act ℕ)) (seen : List Event) (h : Runs) → Fit acts h → IsFront h.after.memory.seen seen
      → IsFront seen history
      → Begin (with_asked l (machine_asks l thread seen h) (with_look l seen acts)) (resume_line l thread seen h)
  unfolding resume_line
  resume_fits acts seen h fits f g =
      let quiet = record h { asked = None } in
      by_fits (with_look l seen acts) seen (looked l thread seen quiet) h.asked
      (looked_fits l thread history known acts seen quiet fits f g) refl

  -- the law of a thread
  pub machine_keeps : (fuel : ℕ)
      → KeepsMap l thread history known (thread_turns l thread fuel) (machine_acts l thread) (machine_asks l thread)
  unfolding thread_turns
  machine_keeps fuel = record {
    step = λ acts h fits. thread_fits acts h fits;
    begin = λ acts line seen h fits f g.
        begin_fits plain_operations l (shows l thread) thread history known acts line seen h fits f g;
    resume = λ acts seen h fits f g. resume_fits acts seen h fits f g;
  }
