-- One step in a call, where no sequence begins.
use Rattle.std.proofs.Common.{if◌then◌else◌, ◌≡◌, ◌∙◌, ◌≤◌, inl, inr, ℕ, Bool, true, false, List, All, length, Option}
use Rattle.std.proofs.Common.{Some, None, Result, Ok, Err, refl, sym, ap, subst, arith}
use Rattle.std.specs.List.{list_any}
use Rattle.amd64_subset.specs.declared.instr.Decoded.{Decoded}
use Rattle.amd64_subset.specs.Decoding.{decoded}
use Rattle.guest_arithmetic.specs.declared.cause.Cause.{Cause}
use Rattle.guest_arithmetic.specs.Plain.{plain_operations}
use Rattle.guest_operands.specs.declared.state.State.{State}
use Rattle.guest_operands.specs.declared.stop.Stop.{Stop}
use Rattle.guest_operands.specs.declared.stop.Stop.TheVariants.{Returned, Look, Address, Code, Unclean, Steps}
use Rattle.guest_operands.specs.Use.{After}
use Rattle.guest_machine.specs.Access.{Accesses, fetch_of}
use Rattle.guest_machine.specs.Follow.{Follows, SameAfter}
use Rattle.guest_machine.specs.Run.{Next, Ends, is_look, machine, next_of}
use Rattle.guest_machine.specs.Simulate.{Advances}
use Rattle.guest_machine.specs.Step.{step_of}
use Rattle.job_meaning.specs.declared.values.Byte.{Byte}
use Rattle.job_meaning.specs.declared.values.Flag.{Flag}
use Rattle.job_meaning.specs.declared.values.Word.{Word}
use Rattle.job_meaning.specs.Reading.{beside_linker, linker_with}
use Rattle.loaded_modules.specs.declared.instance.Instance.{Instance}
use Rattle.module_table.specs.declared.events.Event.{Event}
use Rattle.thread_blocks.specs.Held.{Owner, owned}
use Rattle.thread_blocks.specs.Instances.{Loads, instances}
use Rattle.thread_blocks.specs.RunTime.{Runs, thread_accesses, thread_next, thread_steps}
use Rattle.thread_blocks.specs.Spaces.{Space}
use Rattle.thread_blocks.specs.Turns.{IsFront}
use Rattle.whole_meaning.specs.declared.marks.Mark.{Mark}
use Rattle.whole_meaning.specs.Fields.{address_at, lent, lent_frame, marked_frame}
use Rattle.whole_meaning.specs.Meanings.{Meaning}
use Rattle.whole_meaning.specs.Reading.{done, hindrance, marked_step, plain_step, reaches_linker}
use Rattle.whole_meaning.specs.Threads.{Meant, Memory, held_next, meant_accesses, meant_mark, meant_shut, ops}
use Rattle.tied_meaning.specs.Numbers.{Setting, alike}
use Rattle.tied_meaning.specs.Threads.{AtRest, InCall, IsPlaced, SameMemory, Waiting}
use Rattle.tied_meaning.specs.Ties.{AreTied}
use Rattle.marked_code.proofs.Related.{marked_step_follows}
use Rattle.call_alike.specs.Laws.{UsualStepsAdvance, usual_step}
use Rattle.call_alike.proofs.Memories.{memory_kept}
use Rattle.call_alike.proofs.Pointers.{Keeps, pointer_stays}
use Rattle.call_alike.proofs.Threads.{call_code, low_open}

-- ** the meaning's step

module _ (acc : Accesses Memory Byte) (mark : ℕ → Mark) (shut : ℕ → Bool) (s : State Word Flag) (memory : Memory) where
  done_keeps : (why : Option Cause) (it : Option Decoded) → Keeps s.thread_pointer (done ops acc mark why it s memory)
  done_keeps (Some why) it = tt
  done_keeps None None = tt
  done_keeps None (Some d) =
      pointer_stays ops (lent ops acc (address_at mark s.place d.disp))
      (lent_frame (address_at mark s.place d.disp) (marked_frame mark s.place d)) s memory d.instr.operation

  step_keeps : Keeps s.thread_pointer (marked_step ops acc mark shut s memory)
  unfolding marked_step plain_step
  step_keeps =
      beside (reaches_linker ops acc mark shut s memory) (done ops acc mark why it s memory) (done_keeps why it)
    where
      why : Option Cause
      why = hindrance ops mark s (fetch_of acc memory s.place)

      it : Option Decoded
      it = decoded (fetch_of acc memory s.place)

      beside : (b : Bool) (r : Result (After Word Flag Memory) Stop) → Keeps s.thread_pointer r
          → Keeps s.thread_pointer (beside_linker b s.place r)
      beside true r k = tt
      beside false r k = k

  -- where it stands at a place of the linker's own it is unclean
  shut_stops : shut s.place ≡ true
      → (why : Cause) × (marked_step ops acc mark shut s memory ≡ Err (Unclean s.place why))
  unfolding marked_step reaches_linker
  shut_stops e = (linker_with (plain_step ops acc mark s memory), rw e refl)

module _ {g : Setting} {m : Meaning} {q : Loads ℕ} {history : List Event} {thread : ℕ} (tied : AreTied g m q history)
    (low : 1 ≤ thread) where
  abbrev Calling : Meant → Runs → Type 0
  Calling = InCall g m q history thread

  abbrev Same : Meant → Memory → Space Event ℕ → Type 0
  Same h = SameMemory g m q history thread h.owners h.after.memory.seen

  abbrev real_step : Runs → Result (After ℕ Bool (Space Event ℕ)) Stop
  real_step h' =
      step_of plain_operations (thread_accesses q thread) (λ place. false) h'.after.state h'.after.memory

  abbrev pub AdvancesTo : Meant → Runs → Next Meant → Type 0
  AdvancesTo h h' next =
      Advances (thread_steps q thread) Calling (Waiting g m q history thread) (AtRest g m q history thread) h next h'

  step_follows : {h : Meant} {h' : Runs} → Calling h h'
      → Follows (SameAfter (alike g) (Same h)) (usual_step m thread h) (real_step h')
  step_follows {h} {h'} call =
      marked_step_follows (Same h) g (meant_accesses m thread) (thread_accesses q thread) (meant_shut m thread)
      (meant_mark m thread) (memory_kept g m q history thread tied h.owners h.after.memory.seen call.front)
      h.after.state h'.after.state h.after.memory h'.after.memory call.state call.memory (low_open tied call)
      (call_code tied call low)

  -- ** what comes of it

  pub at_rest : {h : Meant} {h' : Runs} → Calling h h' → AtRest g m q history thread h h'
  at_rest {h} {h'} call = record {
    owners = call.owners;
    own = call.memory.space.own;
    placed = subst (λ (os : List Owner). All (IsPlaced g q thread) (owned os h'.after.memory.own)) (sym call.owners)
        call.memory.placed;
    paired = ap length call.owners ∙ call.memory.paired;
    seen = call.memory.space.seen;
    front = call.front;
    asked = call.asked;
  }

  goes_on : {h : Meant} {h' : Runs} → Calling h h' → (a : After Word Flag Memory) (a' : After ℕ Bool (Space Event ℕ))
      → a.state.thread_pointer ≡ h.after.state.thread_pointer → SameAfter (alike g) (Same h) a a'
      → Calling (record h { after = a }) (record h' { after = a' })
  goes_on {h} call a a' stays same = record {
    state = same.state;
    pointer = stays ∙ call.pointer;
    memory = subst (λ (seen : List Event). SameMemory g m q history thread h.owners seen a.memory a'.memory)
        (sym same.memory.events) same.memory;
    owners = call.owners;
    front = subst (λ (seen : List Event). IsFront seen history) (sym same.memory.events) call.front;
    asked = call.asked;
  }

  step_there : (h' : Runs) → is_look h'.after.state.place ≡ false
      → (thread_steps q thread).step h' ≡ thread_next q thread h' (next_of (real_step h'))
  unfolding thread_steps machine
  step_there h' e = rw e refl

  module _ (h : Meant) (h' : Runs) (call : Calling h h') (on : (thread_steps q thread).over h' ≡ None)
      (look : is_look h'.after.state.place ≡ false) where
    step_is : {r : Result (After ℕ Bool (Space Event ℕ)) Stop} → real_step h' ≡ r
        → (thread_steps q thread).step h' ≡ thread_next q thread h' (next_of r)
    step_is e =
        step_there h' look
        ∙ ap (λ (r : Result (After ℕ Bool (Space Event ℕ)) Stop). thread_next q thread h' (next_of r)) e

    ends : (stop : Stop) → real_step h' ≡ Err stop → AdvancesTo h h' (Ends stop)
    ends stop e = inr (0, (h', (omega arith, refl, on, step_is e, at_rest call)))

    advances : (r : Result (After Word Flag Memory) Stop) (r' : Result (After ℕ Bool (Space Event ℕ)) Stop)
        → real_step h' ≡ r' → Keeps h.after.state.thread_pointer r → Follows (SameAfter (alike g) (Same h)) r r'
        → AdvancesTo h h' (held_next m thread h (next_of r))
    advances (Ok a) (Ok a') e stays same =
        let b : Runs = record h' { after = a' } in
        (0, (b, (omega arith, (on, (b, (step_is e, refl))), goes_on call a a' stays same)))
    advances (Ok a) (Err stop) e stays same = absurd same
    advances (Err (Returned number)) r' e stays same = ends (Returned number) (e ∙ same)
    advances (Err (Look place)) r' e stays same = ends (Look place) (e ∙ same)
    advances (Err (Address place)) r' e stays same = ends (Address place) (e ∙ same)
    advances (Err (Code place)) r' e stays same = ends (Code place) (e ∙ same)
    advances (Err (Unclean place why)) r' e stays same = inl tt
    advances (Err (Steps place)) r' e stays same = ends (Steps place) (e ∙ same)

  -- where the run time is called the meaning is unclean
  look_stops : (h : Meant) → is_look h.after.state.place ≡ true
      → (why : Cause) × (usual_step m thread h ≡ Err (Unclean h.after.state.place why))
  look_stops h look =
      shut_stops (meant_accesses m thread) (meant_mark m thread h.after.memory)
      (meant_shut m thread h.after.memory) h.after.state h.after.memory
      (ap (λ (b : Bool). if b then true else list_any (λ (x : Instance). m.room x h.after.state.place)
      (instances m.loads h.after.memory.seen)) look)

  pub usual_advances : (h : Meant) (h' : Runs) → Calling h h' → (thread_steps q thread).over h' ≡ None
      → AdvancesTo h h' (held_next m thread h (next_of (usual_step m thread h)))
  usual_advances h h' call on = of_look (is_look h.after.state.place) refl
    where
      of_look : (b : Bool) → is_look h.after.state.place ≡ b
          → AdvancesTo h h' (held_next m thread h (next_of (usual_step m thread h)))
      of_look true e = let p = look_stops h e in rw p.1 (inl tt)
      of_look false e =
          advances h h' call on (ap is_look (sym call.state.place) ∙ e) (usual_step m thread h) (real_step h') refl
          (step_keeps (meant_accesses m thread) (meant_mark m thread h.after.memory)
          (meant_shut m thread h.after.memory) h.after.state h.after.memory) (step_follows call)

-- ** the law

pub usual_steps : UsualStepsAdvance
usual_steps g m q history thread tied low h h' call on = usual_advances tied low h h' call on
