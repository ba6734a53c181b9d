-- A thread of the machine: its steps and its looks do with data what is told of them.
use Rattle.std.proofs.Common.{◌≡◌, ◌++◌, ℕ, Bool, true, false, List, [], Option, Some, None, Result, Ok, Err}
use Rattle.std.proofs.Common.{if◌then◌else◌, refl, sym, ap, subst}
use Rattle.std.specs.Prelude.{is_none}
use Rattle.address_map.specs.Map.{stack_start}
use Rattle.guest_arithmetic.specs.Plain.{plain_operations}
use Rattle.guest_operands.specs.declared.state.State.{State}
use Rattle.guest_operands.specs.declared.stop.Stop.{Stop}
use Rattle.guest_machine.specs.Access.{Accesses, load_of}
use Rattle.guest_machine.specs.Machine.{with_answer}
use Rattle.guest_machine.specs.Run.{Next, Goes, Ends, Looks, is_look, machine, next_of}
use Rattle.guest_machine.specs.Step.{return_of}
use Rattle.guest_machine.specs.State.{at_place, with_stack}
use Rattle.guest_machine.specs.Use.{◌>>=◌, After, clean, left, plus, there}
use Rattle.loaded_modules.specs.declared.instance.Instance.{Instance}
use Rattle.module_table.specs.declared.events.Event.{Event}
use Rattle.transcript_text.specs.declared.outcomes.LineFault.TheVariants.{Unloaded}
use Rattle.transcript_text.specs.declared.outcomes.Outcome.TheVariants.{Fault}
use Rattle.thread_blocks.specs.declared.asked.Asked.{Asked}
use Rattle.thread_blocks.specs.Held.{Owned, Owner, looked, owned_by, reached}
use Rattle.thread_blocks.specs.Instances.{Loads, instance_with_id, instances, is_startup_id, numbered_instance}
use Rattle.thread_blocks.specs.RunTime.{Runs, answer_word, answered, asked_at, asked_next, found_at_once, goes_answered}
use Rattle.thread_blocks.specs.RunTime.{resume_line, resumed_by, resumed_in, shows, thread_accesses, thread_next}
use Rattle.thread_blocks.specs.RunTime.{thread_steps, thread_turns, resumed}
use Rattle.thread_blocks.specs.Spaces.{Space, next_image, no_field, put_byte, space_accesses}
use Rattle.thread_blocks.specs.SpaceLaws.{after_of}
use Rattle.thread_blocks.specs.Turns.{Answered, Begun, Says}
use Rattle.thread_blocks.proofs.Image.{machine_image}
use Rattle.shared_data.specs.Changes.{Change, Noted, noted_by, noting, unchanged}
use Rattle.shared_data.specs.Laws.{NotesFollow}
use Rattle.shared_data.specs.Steps.{machine_changes}
use Rattle.shared_data.proofs.Begins.{BegunHolds, begin_holds}
use Rattle.shared_data.proofs.Fits.{HasAll, put_fits}
use Rattle.shared_data.proofs.Held.{Holds, Numbered, Stands, look_holds, reach_holds}
use Rattle.shared_data.proofs.Last.{append_none}
use Rattle.shared_data.proofs.Left.{AreLeft}
use Rattle.shared_data.proofs.Noting.{Keeps, NotedHolds, Proved, ResultKeeps, StoresKeep, noted_holds, noting_image}
use Rattle.shared_data.proofs.Noting.{plain, proved_accesses, proved_image, then_keeps}
use Rattle.shared_data.proofs.Turns.{NextHolds, TellAll}

-- ** the machine

module _ (l : Loads ℕ) (thread : ℕ) where
  abbrev acc : Accesses (Space Event ℕ) ℕ
  acc = thread_accesses l thread

  puts : (space : Space Event ℕ) (place byte : ℕ)
      → acc.put space place byte ≡ put_byte (stack_start thread) space place byte
  unfolding thread_accesses space_accesses
  puts space place byte = refl

  pub follows : (os : List Owner) (at : After ℕ Bool (Noted Event ℕ))
      → (machine plain_operations acc no_field).step (after_of (λ noted. noted.space) at)
      ≡ next_image (after_of (λ noted. noted.space))
      ((machine plain_operations (noting (stack_start thread) os acc) no_field).step at)
  follows os at =
      (machine_image plain_operations (noting (stack_start thread) os acc) acc (λ noted. noted.space)
      (noting_image (stack_start thread) os acc) no_field no_field (λ m. refl)).step at

  -- ** at these events

  module _ (seen : List Event) where
    abbrev Here : List Event → List (Owned ℕ) → Type 0
    Here = Stands l thread seen

    stores : StoresKeep Here
    stores now os own place byte stands =
        (stands.0, put_fits l thread (instances l seen) place byte os own stands.1)

    module _ (log : List (Change ℕ)) (os : List Owner) where
      abbrev noted_step : After ℕ Bool (Noted Event ℕ) → Next (After ℕ Bool (Noted Event ℕ))
      noted_step at = (machine plain_operations (noting (stack_start thread) os acc) no_field).step at

      machine_noted : (at : After ℕ Bool (Space Event ℕ)) → Keeps Here log os at.memory
          → NotedHolds (stack_start thread) os acc Here stores log puts
          (noted_step (left at.state (unchanged at.memory)))
      machine_noted at keeps =
          let fine : After ℕ Bool (Proved (stack_start thread) os acc Here stores log puts) = left at.state (
            unchanged at.memory,
            subst (λ (cs : List (Change ℕ)). Keeps Here cs os at.memory)
                (sym (append_none log)) keeps,
          ) in
          let lender = proved_accesses (stack_start thread) os acc Here stores log puts in
          let image = machine_image plain_operations lender (noting (stack_start thread) os acc)
          (plain (stack_start thread) os acc Here stores log puts) (proved_image
          (stack_start thread) os acc Here stores log puts)
          no_field no_field (λ m. refl) in
          subst (NotedHolds (stack_start thread) os acc Here stores log puts) (sym (image.step fine))
          (noted_holds (stack_start thread) os acc Here stores log puts
          ((machine plain_operations lender no_field).step fine))

    -- ** answers

    -- a return changes no memory
    return_keeps : (log : List (Change ℕ)) (os : List Owner) (state : State ℕ Bool) (memory : Space Event ℕ)
        → Keeps Here log os memory
        → ResultKeeps Here log os (return_of plain_operations acc state memory)
    unfolding return_of
    return_keeps log os state memory keeps =
        let to : ℕ → ℕ → State ℕ Bool = λ stack place.
        at_place (with_stack state (plain_operations.word (plus stack 8))) place in
        let jumps : ℕ → ℕ → Result (After ℕ Bool (Space Event ℕ)) Stop = λ stack word.
        clean state.place (plain_operations.number_of word) >>= λ place. Ok (left (to stack place) memory) in
        then_keeps Here log os (clean state.place (plain_operations.number_of state.registers.rsp))
        (λ stack. there state.place (load_of plain_operations acc memory stack 8) >>= jumps stack)
        (λ stack. then_keeps Here log os (there state.place (load_of plain_operations acc memory stack 8)) (jumps stack)
        (λ word. then_keeps Here log os (clean state.place (plain_operations.number_of word))
        (λ place. Ok (left (to stack place) memory)) (λ place. keeps)))

    answer_keeps : (log : List (Change ℕ)) (asked : Asked) (x : Instance) (h : Runs) → Holds l thread seen log h
        → ResultKeeps Here log h.owners (answered l thread asked x h)
    answer_keeps log asked x h holds =
        return_keeps log h.owners (with_answer h.after.state (answer_word l thread asked x)) h.after.memory holds

    -- ** steps

    goes_holds : (log : List (Change ℕ)) (h : Runs) (result : Result (After ℕ Bool (Space Event ℕ)) Stop)
        → ResultKeeps Here log h.owners result → NextHolds l thread seen log (goes_answered l thread h result)
    goes_holds log h (Ok at) keeps = keeps
    goes_holds log h (Err stop) keeps = tt

    at_once_holds : (log : List (Change ℕ)) (asked : Asked) (h : Runs) (x : Option Instance) → Holds l thread seen log h
        → NextHolds l thread seen log (found_at_once l thread asked h x)
    at_once_holds log asked h None holds = tt
    at_once_holds log asked h (Some x) holds =
        goes_holds log h (answered l thread asked x h) (answer_keeps log asked x h holds)

    either_next : (log : List (Change ℕ)) (b : Bool) (x y : Next Runs) → NextHolds l thread seen log x
        → NextHolds l thread seen log y
        → NextHolds l thread seen log (if b then x else y)
    either_next log true x y f g = f
    either_next log false x y f g = g

    asked_holds : (log : List (Change ℕ)) (h : Runs) (asked : Option Asked) → Holds l thread seen log h
        → NextHolds l thread seen log (asked_next l thread h asked)
    asked_holds log h None holds = tt
    asked_holds log h (Some asked) holds =
        either_next log (is_startup_id l asked.id)
        (found_at_once l thread asked h (instance_with_id l h.after.memory.seen asked.id))
        (Looks (record h { asked = Some asked }))
        (at_once_holds log asked h (instance_with_id l h.after.memory.seen asked.id) holds) holds

    -- what the noted step left, the thread's step leaves; where the machine waits, nothing was stored
    next_holds : (log : List (Change ℕ)) (h : Runs) (noted : Next (After ℕ Bool (Noted Event ℕ)))
        → NotedHolds (stack_start thread) h.owners acc Here stores log puts noted
        → ((at : After ℕ Bool (Noted Event ℕ)) → noted ≡ Looks at → at.memory.space ≡ h.after.memory)
        → NextHolds l thread seen (log ++ noted_by noted) (thread_next l thread h
        (next_image (after_of (λ n. n.space)) noted))
    next_holds log h (Goes at) keeps same = keeps
    next_holds log h (Ends stop) keeps same = tt
    next_holds log h (Looks at) keeps same =
        asked_holds (log ++ at.memory.changes) h (asked_at l thread (after_of (λ n. n.space) at))
        (subst (λ (space : Space Event ℕ). Keeps Here (log ++ at.memory.changes) h.owners space) (same at refl) keeps)

    next_goes : (at : After ℕ Bool (Noted Event ℕ)) (result : Result (After ℕ Bool (Noted Event ℕ)) Stop)
        → next_of result ≡ Looks at → ⊥
    next_goes at (Ok after) e = cc
    next_goes at (Err stop) e = cc

    looks_same : (os : List Owner) (at after : After ℕ Bool (Noted Event ℕ)) → noted_step [] os at ≡ Looks after
        → at ≡ after
    unfolding machine
    looks_same os at after e = by_look (is_look at.state.place) _ e
      where
        by_look : (looks : Bool) (result : Result (After ℕ Bool (Noted Event ℕ)) Stop)
            → (if looks then Looks at else next_of result) ≡ Looks after → at ≡ after
        by_look true result e = cc
        by_look false result e = absurd (next_goes after result e)

    step_holds : (log : List (Change ℕ)) (h : Runs) → Holds l thread seen log h
        → NextHolds l thread seen (log ++ machine_changes l thread h) ((thread_steps l thread).step h)
    unfolding thread_steps
    step_holds log h holds =
        let start : After ℕ Bool (Noted Event ℕ) = left h.after.state (unchanged h.after.memory) in
        let noted = noted_step log h.owners start in
        subst (λ (next : Next (After ℕ Bool (Space Event ℕ))). NextHolds l thread seen (log ++ noted_by noted)
        (thread_next l thread h next))
        (sym (follows h.owners start))
        (next_holds log h noted (machine_noted log h.owners h.after holds)
        (λ at e. sym (ap (λ (a : After ℕ Bool (Noted Event ℕ)). a.memory.space) (looks_same h.owners start at e))))

    -- ** looks

    resumed_holds : (log : List (Change ℕ)) (h : Runs) (result : Result (After ℕ Bool (Space Event ℕ)) Stop)
        → Holds l thread seen log h
        → ResultKeeps Here log h.owners result → BegunHolds l thread seen log (resumed h result)
    resumed_holds log h (Ok after) holds keeps = keeps
    resumed_holds log h (Err stop) holds keeps = holds

    resumed_in_holds : (log : List (Change ℕ)) (asked : Asked) (h : Runs) (x : Option Instance) → Numbered l seen
        → Holds l thread seen log h → BegunHolds l thread seen log (resumed_in l thread asked h x)
    resumed_in_holds log asked h None own holds = holds
    resumed_in_holds log asked h (Some x) own holds =
        let now = reach_holds l thread seen log x h own holds in
        let h = reached l thread x h in
        resumed_holds log h (answered l thread asked x h) now (answer_keeps log asked x h now)

    either_begun : (log : List (Change ℕ)) (b : Bool) (x y : Begun Runs) → BegunHolds l thread seen log x
        → BegunHolds l thread seen log y
        → BegunHolds l thread seen log (if b then x else y)
    either_begun log true x y f g = f
    either_begun log false x y f g = g

    resumed_by_holds : (log : List (Change ℕ)) (h : Runs) (asked : Option Asked)
        → Numbered l seen
        → Holds l thread seen log h → BegunHolds l thread seen log (resumed_by l thread seen h asked)
    resumed_by_holds log h None own holds = holds
    resumed_by_holds log h (Some asked) own holds =
        either_begun log (is_none (numbered_instance l seen asked.asking)) (Says (Answered (Fault Unloaded)) h)
        (resumed_in l thread asked h (instance_with_id l seen asked.id)) holds
        (resumed_in_holds log asked h (instance_with_id l seen asked.id) own holds)

    resume_holds : (log : List (Change ℕ)) (h : Runs) → Numbered l seen → AreLeft log (owned_by h)
        → HasAll l (instances l seen) (owned_by h)
        → BegunHolds l thread seen log (resume_line l thread seen h)
    unfolding resume_line
    resume_holds log h own kept all =
        let quiet = record h { asked = None } in
        resumed_by_holds log (looked l thread seen quiet) h.asked own
        (look_holds l thread log seen quiet own kept all)

  -- the law of a thread
  pub machine_tells : (fuel : ℕ) → TellAll l thread (thread_turns l thread fuel) (machine_changes l thread)
  unfolding thread_turns
  machine_tells fuel = record {
    step = λ seen log h holds. step_holds seen log h holds;
    begin = λ log line seen h own next follows kept all.
        begin_holds plain_operations l (shows l thread) thread log line seen h own next follows kept all;
    resume = λ log seen h own kept all. resume_holds seen log h own kept all;
  }

pub notes_follow : NotesFollow
notes_follow l thread owners at = follows l thread owners at
