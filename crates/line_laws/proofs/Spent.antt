-- A call ends for want of steps exactly where it has taken all of them.
use Rattle.std.proofs.Common.{◌≡◌, ◌*◌, ℕ, ◌∷◌, refl, sym, ap, subst, ◌∙◌}
use Rattle.guest_arithmetic.specs.declared.cause.Cause.{Cause}
use Rattle.guest_arithmetic.specs.declared.cause.Cause.TheVariants as cause
use Rattle.guest_operands.specs.declared.stop.Stop.{Stop}
use Rattle.guest_operands.specs.declared.stop.Stop.TheVariants.{Returned, Look, Address, Code, Unclean, Steps}
use Rattle.guest_machine.specs.Run.{Ends, Goes, Looks, Next, machine}
use Rattle.thread_blocks.specs.Instances.{Loads}
use Rattle.thread_blocks.specs.RunTime.{Runs, thread_steps, thread_turns}
use Rattle.thread_blocks.specs.Turns.{Stopped}
use Rattle.whole_meaning.specs.Meanings.{Meaning}
use Rattle.whole_meaning.specs.Running.{asked, meaning}
use Rattle.whole_meaning.specs.Threads.{Meant, held_next, meant_steps, meant_turns}
use Rattle.step_laws.specs.Steps.{HasNoCause}
use Rattle.line_laws.specs.Counted.{EndsSo, HasTaken, MachineStepsAreCounted, MeantStepsAreCounted}
use Rattle.line_laws.proofs.Leading.{ends_so, has_taken}
use Rattle.line_laws.proofs.Ours.{IsForSteps, machine_alone, meaning_alone}

-- ** the machine

machine_spent : (l : Loads ℕ) (thread fuel : ℕ) (h : Runs)
    → (thread_turns l thread fuel).steps.spent h ≡ Steps h.after.state.place
unfolding thread_turns thread_steps machine
machine_spent l thread fuel h = refl

four_times : (l : Loads ℕ) (thread fuel : ℕ) → (thread_turns l thread fuel).fuel ≡ 4 * fuel
unfolding thread_turns
four_times l thread fuel = refl

same_place : {a b : ℕ} → Steps a ≡ Steps b → a ≡ b
same_place e = cc

pub machine_counted : MachineStepsAreCounted
machine_counted l thread fuel line todo held earlier seen first more = record {
  taken = λ place is.
      let x = thread_turns l thread fuel in
      let all = has_taken x IsForSteps (machine_alone l thread fuel) line todo held earlier seen first more
      (Steps place) (λ own. own) is in (
        all.0,
        (
          subst (λ (n : ℕ). HasTaken (thread_turns l thread fuel) n line held first more all.0)
              (four_times l thread fuel) all.1.0,
          same_place (sym (machine_spent l thread fuel all.0) ∙ all.1.1),
        ),
      );
  said = λ t has. subst (λ (stop : Stop). EndsSo (thread_turns l thread fuel) line todo held earlier seen (first ∷ more)
      (Stopped stop))
      (machine_spent l thread fuel t)
      (ends_so (thread_turns l thread fuel) line todo held earlier seen first more t
      (subst (λ (n : ℕ). HasTaken (thread_turns l thread fuel) n line held first more t)
      (sym (four_times l thread fuel)) has));
}

-- ** the meaning

all_steps : (m : Meaning) (thread fuel : ℕ) → (meant_turns m thread fuel).fuel ≡ fuel
unfolding meant_turns
all_steps m thread fuel = refl

-- no cause: the limit's
spent_clean : (m : Meaning) (thread fuel : ℕ) (h : Meant) → HasNoCause ((meant_turns m thread fuel).steps.step h)
    → (meant_turns m thread fuel).steps.spent h ≡ Unclean h.after.state.place cause.Steps
unfolding meant_turns meant_steps meaning
spent_clean m thread fuel h none = of_next _ none
  where
    of_next : (next : Next _) → HasNoCause (held_next m thread h next)
        → asked h.after.state.place next ≡ Unclean h.after.state.place cause.Steps
    of_next (Goes at) none = refl
    of_next (Looks at) none = refl
    of_next (Ends (Returned number)) none = refl
    of_next (Ends (Look place)) none = refl
    of_next (Ends (Address place)) none = refl
    of_next (Ends (Code place)) none = refl
    of_next (Ends (Unclean place why)) none = absurd none
    of_next (Ends (Steps place)) none = refl

-- a cause: its own
spent_unclean : (m : Meaning) (thread fuel : ℕ) (h : Meant) (place : ℕ) (why : Cause)
    → (meant_turns m thread fuel).steps.step h ≡ Ends (Unclean place why)
    → (meant_turns m thread fuel).steps.spent h ≡ Unclean place why
unfolding meant_turns meant_steps meaning
spent_unclean m thread fuel h place why e = of_next _ e
  where
    of_next : (next : Next _) → held_next m thread h next ≡ Ends (Unclean place why)
        → asked h.after.state.place next ≡ Unclean place why
    of_next (Goes at) e = absurd cc
    of_next (Looks at) e = absurd cc
    of_next (Ends stop) e = let same : stop ≡ Unclean place why = cc in rw same refl

-- if the limit is asked for, the step had no cause
data CauseOf {S : Type 0} (next : Next S) : Type 0 where
  NoCause : HasNoCause next → CauseOf next
  ACause : (place : ℕ) (why : Cause) → next ≡ Ends (Unclean place why) → CauseOf next

cause_of : {S : Type 0} (next : Next S) → CauseOf next
cause_of (Goes s) = NoCause tt
cause_of (Looks s) = NoCause tt
cause_of (Ends (Returned number)) = NoCause tt
cause_of (Ends (Look place)) = NoCause tt
cause_of (Ends (Address place)) = NoCause tt
cause_of (Ends (Code place)) = NoCause tt
cause_of (Ends (Unclean place why)) = ACause place why refl
cause_of (Ends (Steps place)) = NoCause tt

same_unclean : {a b : ℕ} {why other : Cause} → Unclean a why ≡ Unclean b other → (a ≡ b) × (why ≡ other)
same_unclean e = (cc, cc)

limit_alone : (m : Meaning) (thread fuel : ℕ) (h : Meant) (place : ℕ)
    → (meant_turns m thread fuel).steps.spent h ≡ Unclean place cause.Steps
    → CauseOf ((meant_turns m thread fuel).steps.step h)
    → HasNoCause ((meant_turns m thread fuel).steps.step h) × (h.after.state.place ≡ place)
limit_alone m thread fuel h place e (NoCause none) =
    (none, (same_unclean (sym (spent_clean m thread fuel h none) ∙ e)).0)
limit_alone m thread fuel h place e (ACause at why step) =
    let same = same_unclean (sym (spent_unclean m thread fuel h at why step) ∙ e) in
    absurd ((meaning_alone m thread fuel).step h (Unclean at cause.Steps)
    (step ∙ ap (λ (why : Cause). Ends (Unclean at why)) same.1) (λ own. own))

pub meaning_counted : MeantStepsAreCounted
meaning_counted m thread fuel line todo held earlier seen first more = record {
  taken = λ place is.
      let all = has_taken (meant_turns m thread fuel) IsForSteps
      (meaning_alone m thread fuel) line todo held earlier seen first more
      (Unclean place cause.Steps) (λ own. own) is in
      let limit = limit_alone m thread fuel all.0 place all.1.1
      (cause_of ((meant_turns m thread fuel).steps.step all.0)) in (
        all.0,
        (
          subst (λ (n : ℕ). HasTaken (meant_turns m thread fuel) n line held first more all.0)
              (all_steps m thread fuel) all.1.0,
          limit.0,
          limit.1,
        ),
      );
  said = λ t has none. at_end t has (Unclean t.after.state.place cause.Steps) (spent_clean m thread fuel t none);
  other = λ t place why has step. at_end t has (Unclean place why) (spent_unclean m thread fuel t place why step);
}
  where
    at_end : (t : Meant) → HasTaken (meant_turns m thread fuel) fuel line held first more t → (stop : Stop)
        → (meant_turns m thread fuel).steps.spent t ≡ stop
        → EndsSo (meant_turns m thread fuel) line todo held earlier seen (first ∷ more) (Stopped stop)
    at_end t has stop e = subst
        (λ (stop : Stop). EndsSo (meant_turns m thread fuel) line todo held earlier seen (first ∷ more)
        (Stopped stop)) e
        (ends_so (meant_turns m thread fuel) line todo held earlier seen first more t
        (subst (λ (n : ℕ). HasTaken (meant_turns m thread fuel) n line held first more t)
        (sym (all_steps m thread fuel)) has))
