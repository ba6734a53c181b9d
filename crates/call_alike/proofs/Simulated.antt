-- A call of the meaning is a call of the machine: its steps, its end, and looks in its middle.
use Rattle.std.proofs.Common.{if◌then◌else◌, ◌≡◌, ◌≤◌, ◌==◌, ◌⊎◌, inl, inr, ℕ, Bool, true, false, List, Option, Some}
use Rattle.std.proofs.Common.{None, Result, Ok, Err, refl, sym, ap}
use Rattle.std.specs.Prelude.{option_map, unwrap_or}
use Rattle.guest_arithmetic.specs.declared.cause.Cause.{Cause}
use Rattle.guest_arithmetic.specs.Plain.{plain_operations}
use Rattle.guest_operands.specs.declared.stop.Stop.{Stop}
use Rattle.guest_operands.specs.declared.stop.Stop.TheVariants.{Returned, Look, Address, Code, Unclean, Steps}
use Rattle.guest_machine.specs.Follow.{Uses}
use Rattle.guest_machine.specs.Run.{Next, Goes, Ends, Looks, machine, next_of, returned}
use Rattle.guest_machine.specs.Simulate.{IsSimulated, IsUnclean, OverAlike}
use Rattle.module_table.specs.declared.events.Event.{Event}
use Rattle.thread_blocks.specs.Instances.{Loads}
use Rattle.thread_blocks.specs.RunTime.{Runs, thread_steps}
use Rattle.whole_meaning.specs.declared.sequences.Sequence.{Sequence}
use Rattle.whole_meaning.specs.Meanings.{Meaning}
use Rattle.whole_meaning.specs.Running.{asked, meaning}
use Rattle.whole_meaning.specs.Threads.{Meant, held_next, meant_steps, ops, sequence_at, sequence_next}
use Rattle.tied_meaning.specs.Numbers.{Setting}
use Rattle.tied_meaning.specs.Threads.{AtRest, InCall, Waiting}
use Rattle.tied_meaning.specs.Ties.{AreTied}
use Rattle.tied_meaning.proofs.Values.{values_follow}
use Rattle.site_steps.proofs.Advances.{advance}
use Rattle.site_steps.proofs.Resume.{resumed_alike}
use Rattle.call_alike.specs.Laws.{CallsStayAlike, usual_step}
use Rattle.call_alike.proofs.Steps.{AdvancesTo, at_rest, usual_advances}

-- ** where the fuel is spent the meaning is unclean

asked_unclean : {S : Type 0} (place : ℕ) (next : Next S) → IsUnclean (asked place next)
asked_unclean place (Goes after) = tt
asked_unclean place (Looks after) = tt
asked_unclean place (Ends (Returned number)) = tt
asked_unclean place (Ends (Look at)) = tt
asked_unclean place (Ends (Address at)) = tt
asked_unclean place (Ends (Code at)) = tt
asked_unclean place (Ends (Unclean at why)) = tt
asked_unclean place (Ends (Steps at)) = tt

spent_unclean : (m : Meaning) (thread : ℕ) (h : Meant) → IsUnclean ((meant_steps m thread).spent h)
unfolding meant_steps meaning
spent_unclean m thread h = asked_unclean h.after.state.place _

-- ** ends

-- how a call ends whose last place is the end's, or not
abbrev meant_end : Bool → Meant → Option Stop
meant_end c h = if c then Some (returned (ops.number_of h.after.state.registers.rax) h.after.state.place) else None

abbrev real_end : Bool → Runs → Option Stop
real_end c h' =
    if c then Some (returned (plain_operations.number_of h'.after.state.registers.rax) h'.after.state.place) else None

returned_alike : (r r' : Result ℕ Cause) (place place' : ℕ) → Uses (λ n n'. n ≡ n') r r'
    → IsUnclean (returned r place) ⊎ (◌≡◌ {A = Option Stop} (Some (returned r' place')) (Some (returned r place)))
returned_alike (Ok a) (Ok b) place place' e = inr (ap (λ n. Some (Returned n)) (sym e))
returned_alike (Ok a) (Err why) place place' e = absurd e
returned_alike (Err why) r' place place' e = inl tt

module _ {g : Setting} {m : Meaning} {q : Loads ℕ} {history : List Event} {thread : ℕ} (tied : AreTied g m q history)
    (low : 1 ≤ thread) where
  abbrev Calling : Meant → Runs → Type 0
  Calling = InCall g m q history thread

  abbrev Resting : Meant → Runs → Type 0
  Resting = AtRest g m q history thread

  end_alike : (c : Bool) (h : Meant) (h' : Runs) → Calling h h'
      → OverAlike Resting h h' (meant_end c h) (real_end c h')
  end_alike false h h' call = tt
  end_alike true h h' call =
      with_rest (returned_alike (ops.number_of h.after.state.registers.rax)
      (plain_operations.number_of h'.after.state.registers.rax) h.after.state.place h'.after.state.place
      ((values_follow g).number_of _ _ call.state.registers.rax))
    where
      IsUncleanEnd : Type 0
      IsUncleanEnd = IsUnclean (returned (ops.number_of h.after.state.registers.rax) h.after.state.place)

      with_rest : IsUncleanEnd ⊎ (real_end true h' ≡ meant_end true h)
          → IsUncleanEnd ⊎ ((real_end true h' ≡ meant_end true h) × Resting h h')
      with_rest (inl unclean) = inl unclean
      with_rest (inr e) = inr (e, at_rest tied low call)

  over_alike : (h : Meant) (h' : Runs) → Calling h h'
      → OverAlike Resting h h' ((meant_steps m thread).over h) ((thread_steps q thread).over h')
  unfolding meant_steps thread_steps meaning machine
  over_alike h h' call =
      rw (← ap (λ place. place == 0x2000) call.state.place) (end_alike (h.after.state.place == 0x2000) h h' call)

  both_go_on : (h : Meant) (h' : Runs) → Calling h h' → (meant_steps m thread).over h ≡ None
      → (thread_steps q thread).over h' ≡ None
  unfolding meant_steps thread_steps meaning machine
  both_go_on h h' call e =
      rw (← ap (λ place. place == 0x2000) call.state.place) (neither (h.after.state.place == 0x2000) e)
    where
      neither : (c : Bool) → meant_end c h ≡ None → real_end c h' ≡ None
      neither false e = refl
      neither true e = absurd cc

  -- ** steps

  module _ (high : thread ≤ 64) where
    step_alike : (h : Meant) (h' : Runs) → Calling h h' → (meant_steps m thread).over h ≡ None
        → AdvancesTo tied low h h' ((meant_steps m thread).step h)
    unfolding meant_steps meaning
    step_alike h h' call e = of_sequence (sequence_at m thread h.after.memory.seen h.after.state.place) refl
      where
        of_sequence : (o : Option Sequence) → sequence_at m thread h.after.memory.seen h.after.state.place ≡ o
            → AdvancesTo tied low h h' (held_next m thread h
            (unwrap_or (option_map (sequence_next m thread h.after) o) (next_of (usual_step m thread h))))
        of_sequence None f = usual_advances tied low h h' call (both_go_on h h' call e)
        of_sequence (Some s) f = advance g m q history thread tied low high h h' call s f

    pub call_simulated : IsSimulated (meant_steps m thread) (thread_steps q thread) Calling
        (Waiting g m q history thread) Resting
    call_simulated = record { over = over_alike; step = step_alike; spent = spent_unclean m thread }

-- ** the law

pub calls_alike : CallsStayAlike
calls_alike g m q history tied = record {
  steps = λ thread low high. call_simulated tied low high;
  resume = λ thread low high seen front h h' wait. resumed_alike g m q history thread tied seen front h h' wait;
}
