-- How a run ends says where it ends: over, or with no step left, or where a step ends or waits.
use Rattle.std.proofs.Common.{◌≡◌, ◌⊎◌, ◌<◌, ◌≤◌, ◌==◌, ℕ, zero, suc, Bool, true, false, Option, Some, None, Result, Ok}
use Rattle.std.proofs.Common.{Err, refl, sym, subst, inl, inr, arith}
use Rattle.std.specs.Prelude.{if◌then◌else◌}
use Rattle.std.proofs.lemmas.Bool.Decides.{nat_tests}
use Rattle.guest_arithmetic.specs.Plain.{plain_operations}
use Rattle.guest_operands.specs.declared.stop.Stop.{Stop}
use Rattle.guest_operands.specs.Access.{Accesses}
use Rattle.guest_operands.specs.Use.{After}
use Rattle.guest_machine.specs.Run.{Next, Goes, Ends, Looks, Outcome, Ended, Waits, Stepping, go_on, is_look}
use Rattle.guest_machine.specs.Run.{machine, next_of, over_or, run}
use Rattle.guest_machine.specs.RunLaws.{state_after, steps_left, stop_of}
use Rattle.guest_machine.specs.Step.{step_of}
use Rattle.thread_blocks.proofs.Calls.{machine_stays}

module _ {S : Type 0} (x : Stepping S) where
  abbrev pub Rests : Outcome S → Type 0
  Rests (Ended stop n s) = (x.over s ≡ Some stop) ⊎ ((n ≡ 0) ⊎ (x.step s ≡ Ends stop))
  Rests (Waits n s) = (x.step s ≡ Looks s) × (0 < n)

  over-rests : (n : ℕ) (s : S) (over : Option Stop) (rest : Outcome S) → x.over s ≡ over → Rests rest
      → Rests (over_or n s over rest)
  over-rests n s None rest e h = h
  over-rests n s (Some stop) rest e h = inl e

  module _ (stays : (s t : S) → x.step s ≡ Looks t → t ≡ s) where
    go_on-rests : (n : ℕ) (s : S) (next : Next S) → x.step s ≡ next → ((t : S) → Rests (run x n t))
        → Rests (go_on (suc n) s (run x n) next)
    go_on-rests n s (Goes t) e h = h t
    go_on-rests n s (Ends stop) e h = inr (inr e)
    go_on-rests n s (Looks t) e h =
        let same = stays s t e in
        let P : S → Type 0 = λ u. x.step u ≡ Looks t in
        (subst P (sym same) e, omega arith)

    -- the law
    pub run_rests : (n : ℕ) (s : S) → Rests (run x n s)
    run_rests zero s = over-rests zero s (x.over s) _ refl (inr (inl refl))
    run_rests (suc n) s = over-rests (suc n) s (x.over s) _ refl (go_on-rests n s (x.step s) refl (λ t. run_rests n t))

-- ** no step is left that was not there

module _ {S : Type 0} (x : Stepping S) where
  over-left : (n m : ℕ) (s : S) (over : Option Stop) (rest : Outcome S) → n ≤ m → steps_left rest ≤ m
      → steps_left (over_or n s over rest) ≤ m
  over-left n m s None rest h k = k
  over-left n m s (Some stop) rest h k = h

  go_on-left : (n : ℕ) (s : S) (next : Next S) → ((t : S) → steps_left (run x n t) ≤ n)
      → steps_left (go_on (suc n) s (run x n) next) ≤ suc n
  go_on-left n s (Goes t) h = let k = h t in omega arith
  go_on-left n s (Ends stop) h = omega arith
  go_on-left n s (Looks t) h = omega arith

  pub run_left : (n : ℕ) (s : S) → steps_left (run x n s) ≤ n
  run_left zero s = over-left zero zero s (x.over s) _ (omega arith) (omega arith)
  run_left (suc n) s = over-left (suc n) (suc n) s (x.over s) _ (omega arith)
      (go_on-left n s (x.step s) (λ t. run_left n t))

-- ** the machine

over-there : (place : ℕ) → is_look place ≡ true → (place == 0x2000) ≡ false
over-there place looks = grind (arith, nat_tests)

not_over : (b : Bool) (s stop : Stop) → b ≡ false → (if b then Some s else None) ≡ Some stop → ⊥
not_over true s stop f e = cc
not_over false s stop f e = cc

looks_or_steps : {W F M : Type 0} (b : Bool) (a : After W F M) (r : Result (After W F M) Stop) (stop : Stop) → b ≡ true
    → (if b then Looks a else next_of r) ≡ Ends stop → ⊥
looks_or_steps true a r stop t e = cc
looks_or_steps false a r stop t e = cc

steps_no_look : {W F M : Type 0} (b : Bool) (a t : After W F M) (r : Result (After W F M) Stop)
    → (if b then Looks a else next_of r) ≡ Looks t → b ≡ true
steps_no_look true a t r e = refl
steps_no_look false a t (Ok after) e = cc
steps_no_look false a t (Err stop) e = cc

module _ {M : Type 0} (acc : Accesses M ℕ) (is_field : M → ℕ → Bool) where
  abbrev the-machine : Stepping (After ℕ Bool M)
  the-machine = machine plain_operations acc is_field

  waits-there : (out : Outcome (After ℕ Bool M)) → Rests the-machine out → is_look (state_after out).state.place ≡ true
      → 0 < steps_left out
      → out ≡ Waits (steps_left out) (state_after out)
  unfolding machine
  waits-there (Waits n at) h looks some = refl
  waits-there (Ended stop n at) (inl over) looks some =
      absurd (not_over (at.state.place == 0x2000) _ stop (over-there at.state.place looks) over)
  waits-there (Ended stop n at) (inr (inl none)) looks some = absurd (omega arith)
  waits-there (Ended stop n at) (inr (inr ends)) looks some =
      absurd (looks_or_steps (is_look at.state.place) at
      (step_of plain_operations acc (is_field at.memory) at.state at.memory) stop looks ends)

  ends-there : (out : Outcome (After ℕ Bool M)) → Rests the-machine out
      → (is_look (state_after out).state.place ≡ true → 0 < steps_left out → ⊥)
      → out ≡ Ended (stop_of out) (steps_left out) (state_after out)
  unfolding machine
  ends-there (Ended stop n at) h not = refl
  ends-there (Waits n at) h not =
      absurd (not (steps_no_look (is_look at.state.place) at at
      (step_of plain_operations acc (is_field at.memory) at.state at.memory) h.0) h.1)

  -- where another has to answer and a step is left, the run waits
  pub run_waits : (n : ℕ) (s : After ℕ Bool M) → let out = run (machine plain_operations acc is_field) n s in
      is_look (state_after out).state.place ≡ true → 0 < steps_left out → out ≡ Waits (steps_left out) (state_after out)
  run_waits n s looks some =
      waits-there _ (run_rests the-machine (machine_stays plain_operations acc is_field) n s) looks some

  -- and where not, it ends
  pub run_ends : (n : ℕ) (s : After ℕ Bool M) → let out = run (machine plain_operations acc is_field) n s in
      (is_look (state_after out).state.place ≡ true → 0 < steps_left out → ⊥)
      → out ≡ Ended (stop_of out) (steps_left out) (state_after out)
  run_ends n s not = ends-there _ (run_rests the-machine (machine_stays plain_operations acc is_field) n s) not
