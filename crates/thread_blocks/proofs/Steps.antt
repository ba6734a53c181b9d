-- What a write keeps of a thread's memory, its steps keep.
use Rattle.std.proofs.Common.{ℕ, zero, suc, Bool, true, false, List, Option, Some, None, Result, Ok, Err, refl, sym}
use Rattle.std.proofs.Common.{subst}
use Rattle.std.specs.Prelude.{if◌then◌else◌}
use Rattle.guest_arithmetic.specs.Plain.{plain_operations}
use Rattle.guest_machine.specs.Access.{Accesses}
use Rattle.guest_machine.specs.Machine.{with_answer}
use Rattle.guest_machine.specs.Run.{Next, Goes, Ends, Looks, Outcome, Ended, Waits, over_or, go_on, run, machine}
use Rattle.guest_machine.specs.Step.{return_of}
use Rattle.guest_machine.specs.Use.{After, left}
use Rattle.guest_operands.specs.declared.stop.Stop.{Stop}
use Rattle.loaded_modules.specs.declared.instance.Instance.{Instance}
use Rattle.module_table.specs.declared.events.Event.{Event}
use Rattle.thread_blocks.specs.declared.asked.Asked.{Asked}
use Rattle.thread_blocks.specs.Held.{Owner}
use Rattle.thread_blocks.specs.Instances.{Loads, instance_with_id, is_startup_id}
use Rattle.thread_blocks.specs.RunTime.{Runs, answer_word, answered, asked_at, asked_next, found_at_once, goes_answered}
use Rattle.thread_blocks.specs.RunTime.{thread_accesses, thread_next, thread_steps, resumed}
use Rattle.thread_blocks.specs.Spaces.{Space, next_image, no_field}
use Rattle.thread_blocks.specs.SpaceLaws.{IsImage, after_of, mapped}
use Rattle.thread_blocks.specs.Turns.{Begun, Says, Calls}
use Rattle.thread_blocks.proofs.Image.{machine_image, return_of-image}

module _ (l : Loads ℕ) (thread : ℕ) (Keeps : List Owner → Space Event ℕ → Type 0)
    (put : (os : List Owner) (m : Space Event ℕ) (place byte : ℕ) → Keeps os m
    → Keeps os ((thread_accesses l thread).put m place byte)) where
  abbrev pub Holds : Runs → Type 0
  Holds h = Keeps h.owners h.after.memory

  abbrev pub BegunHolds : Begun Runs → Type 0
  BegunHolds (Says ending h) = Holds h
  BegunHolds (Calls h) = Holds h

  -- ** the machine

  module _ (os : List Owner) where
    abbrev Fine : Type 0
    Fine = (m : Space Event ℕ) × Keeps os m

    abbrev plain : Fine → Space Event ℕ
    plain m = m.0

    abbrev fine_accesses : Accesses Fine ℕ
    fine_accesses = record {
      byte = λ m place. (thread_accesses l thread).byte m.0 place;
      writes = λ m place. (thread_accesses l thread).writes m.0 place;
      put = λ m place byte. ((thread_accesses l thread).put m.0 place byte, put os m.0 place byte m.1);
      code = λ m place. (thread_accesses l thread).code m.0 place;
    }

    fine_image : IsImage fine_accesses (thread_accesses l thread) plain
    fine_image = record {
      byte = λ m place. refl;
      writes = λ m place. refl;
      put = λ m place byte. refl;
      code = λ m place. refl;
    }

    abbrev NextFine : Next (After ℕ Bool (Space Event ℕ)) → Type 0
    NextFine (Goes at) = Keeps os at.memory
    NextFine (Ends stop) = Unit {0}
    NextFine (Looks at) = Keeps os at.memory

    next_fine : (next : Next (After ℕ Bool Fine)) → NextFine (next_image (after_of plain) next)
    next_fine (Goes at) = at.memory.1
    next_fine (Ends stop) = tt
    next_fine (Looks at) = at.memory.1

    machine_fine : (at : After ℕ Bool (Space Event ℕ)) → Keeps os at.memory
        → NextFine ((machine plain_operations (thread_accesses l thread) no_field).step at)
    machine_fine at are =
        let fine : After ℕ Bool Fine = left at.state (at.memory, are) in
        let image = machine_image plain_operations fine_accesses
        (thread_accesses l thread) plain fine_image no_field no_field
        (λ m. refl) in
        subst NextFine (sym (image.step fine)) (next_fine ((machine plain_operations fine_accesses no_field).step fine))

    abbrev ResultFine : Result (After ℕ Bool (Space Event ℕ)) Stop → Type 0
    ResultFine (Ok at) = Keeps os at.memory
    ResultFine (Err stop) = Unit {0}

    result_fine : (result : Result (After ℕ Bool Fine) Stop) → ResultFine (mapped plain result)
    result_fine (Ok at) = at.memory.1
    result_fine (Err stop) = tt

  -- an answer
  answer_holds : (asked : Asked) (x : Instance) (h : Runs) → Holds h → ResultFine h.owners (answered l thread asked x h)
  answer_holds asked x h holds =
      let fine : Fine h.owners = (h.after.memory, holds) in
      let state = with_answer h.after.state (answer_word l thread asked x) in
      let image = return_of-image plain_operations (fine_accesses h.owners) (thread_accesses l thread) (plain h.owners)
      (fine_image h.owners) state fine in
      subst (ResultFine h.owners) (sym image) (result_fine h.owners (return_of plain_operations
      (fine_accesses h.owners) state fine))

  -- ** steps

  abbrev pub NextHolds : Next Runs → Type 0
  NextHolds (Goes h) = Holds h
  NextHolds (Ends stop) = Unit {0}
  NextHolds (Looks h) = Holds h

  goes_holds : (h : Runs) (result : Result (After ℕ Bool (Space Event ℕ)) Stop) → ResultFine h.owners result
      → NextHolds (goes_answered l thread h result)
  goes_holds h (Ok at) fine = fine
  goes_holds h (Err stop) fine = tt

  found_holds : (asked : Asked) (h : Runs) (x : Option Instance) → Holds h
      → NextHolds (found_at_once l thread asked h x)
  found_holds asked h None holds = tt
  found_holds asked h (Some x) holds = goes_holds h (answered l thread asked x h) (answer_holds asked x h holds)

  either_next : (b : Bool) (x y : Next Runs) → NextHolds x → NextHolds y → NextHolds (if b then x else y)
  either_next true x y f g = f
  either_next false x y f g = g

  asked_holds : (h : Runs) (asked : Option Asked) → Holds h → NextHolds (asked_next l thread h asked)
  asked_holds h None holds = tt
  asked_holds h (Some asked) holds =
      either_next (is_startup_id l asked.id)
      (found_at_once l thread asked h (instance_with_id l h.after.memory.seen asked.id))
      (Looks (record h { asked = Some asked }))
      (found_holds asked h (instance_with_id l h.after.memory.seen asked.id) holds) holds

  next_holds : (h : Runs) (next : Next (After ℕ Bool (Space Event ℕ))) → Holds h → NextFine h.owners next
      → NextHolds (thread_next l thread h next)
  next_holds h (Goes at) holds fine = fine
  next_holds h (Ends stop) holds fine = tt
  next_holds h (Looks at) holds fine = asked_holds h (asked_at l thread at) holds

  pub step_holds : (h : Runs) → Holds h → NextHolds ((thread_steps l thread).step h)
  unfolding thread_steps
  step_holds h holds = next_holds h _ holds (machine_fine h.owners h.after holds)

  -- ** runs

  abbrev pub OutHolds : Outcome Runs → Type 0
  OutHolds (Ended stop n h) = Holds h
  OutHolds (Waits n h) = Holds h

  over_holds : (n : ℕ) (h : Runs) (over : Option Stop) (rest : Outcome Runs) → Holds h → OutHolds rest
      → OutHolds (over_or n h over rest)
  over_holds n h None rest holds more = more
  over_holds n h (Some stop) rest holds more = holds

  go_on_holds : (n m : ℕ) (h : Runs) (next : Next Runs) → Holds h → NextHolds next
      → ((g : Runs) → Holds g → OutHolds (run (thread_steps l thread) n g))
      → OutHolds (go_on m h (run (thread_steps l thread) n) next)
  go_on_holds n m h (Goes g) holds now rest = rest g now
  go_on_holds n m h (Ends stop) holds now rest = holds
  go_on_holds n m h (Looks g) holds now rest = now

  pub run_holds : (n : ℕ) (h : Runs) → Holds h → OutHolds (run (thread_steps l thread) n h)
  run_holds zero h holds =
      over_holds zero h ((thread_steps l thread).over h) (Ended ((thread_steps l thread).spent h) zero h) holds holds
  run_holds (suc n) h holds =
      over_holds (suc n) h ((thread_steps l thread).over h)
      (go_on (suc n) h (run (thread_steps l thread) n) ((thread_steps l thread).step h)) holds
      (go_on_holds n (suc n) h ((thread_steps l thread).step h) holds (step_holds h holds) (λ g now. run_holds n g now))

  -- an answer in the middle of a line
  resumed_of : (h : Runs) (result : Result (After ℕ Bool (Space Event ℕ)) Stop) → Holds h → ResultFine h.owners result
      → BegunHolds (resumed h result)
  resumed_of h (Ok at) holds fine = fine
  resumed_of h (Err stop) holds fine = holds

  pub resumed_holds : (asked : Asked) (x : Instance) (h : Runs) → Holds h
      → BegunHolds (resumed h (answered l thread asked x h))
  resumed_holds asked x h holds = resumed_of h (answered l thread asked x h) holds (answer_holds asked x h holds)
