-- Runs with a number of steps left: of any steps, and of the machine.
use Rattle.std.specs.Prelude.{ℕ, zero, suc, ◌||◌, ◌==◌, Bool, Result, Ok, Err, Option, Some, None, if◌then◌else◌}
use Rattle.address_map.specs.Map.{descriptor_place, getter_place, return_place}
use Rattle.guest_arithmetic.specs.declared.cause.Cause.{Cause}
use Rattle.guest_arithmetic.specs.declared.cause.Cause.TheVariants.{Answer}
use Rattle.guest_operands.specs.declared.stop.Stop.{Stop}
use Rattle.guest_operands.specs.declared.stop.Stop.TheVariants.{Returned, Unclean, Steps}
use Rattle.guest_arithmetic.specs.Values.{Operations}
use Rattle.guest_operands.specs.Access.{Accesses}
use Rattle.guest_operands.specs.Use.{After}
use Rattle.guest_machine.specs.Step.{step_of}

-- the result of a step: the next state, a stop, or a look, which the run time answers
pub data Next (S : Type 0) : Type 0 where
  Goes : S → Next S
  Ends : Stop → Next S
  Looks : S → Next S

-- the result of a run, with the number of steps left: a stop, or a look whose own step is still to be counted
pub data Outcome (S : Type 0) : Type 0 where
  Ended : Stop → ℕ → S → Outcome S
  Waits : ℕ → S → Outcome S

pub record Stepping (S : Type 0) : Type 0 where
  -- the stop of a state where a run is over
  pub over : S → Option Stop
  pub step : S → Next S
  -- the stop if no step is left
  pub spent : S → Stop

abbrev pub over_or : {S : Type 0} → ℕ → S → Option Stop → Outcome S → Outcome S
over_or n s (Some stop) rest = Ended stop n s
over_or n s None rest = rest

abbrev pub go_on : {S : Type 0} → ℕ → S → (S → Outcome S) → Next S → Outcome S
go_on n s run (Goes t) = run t
go_on n s run (Ends stop) = Ended stop n s
go_on n s run (Looks t) = Waits n t

-- a run of at most this many steps
abbrev pub run : {S : Type 0} → Stepping S → ℕ → S → Outcome S
run x zero s = over_or zero s (x.over s) (Ended (x.spent s) zero s)
run x (suc n) s = over_or (suc n) s (x.over s) (go_on (suc n) s (run x n) (x.step s))

abbrev pub next_of : {W F M : Type 0} → Result (After W F M) Stop → Next (After W F M)
next_of (Ok after) = Goes after
next_of (Err stop) = Ends stop

-- the stop of a call that returned %rax
abbrev pub returned : Result ℕ Cause → ℕ → Stop
returned (Ok number) place = Returned number
returned (Err cause) place = Unclean place Answer

-- the addresses at which the machine stops for a look: `__tls_get_addr` and a descriptor's function
abbrev pub is_look : ℕ → Bool
is_look place = (place == getter_place) || (place == descriptor_place)

module _ {W F B M : Type 0} (ops : Operations W F B) (acc : Accesses M B) (is_field : M → ℕ → Bool) where
  -- the machine: a call ends where it returns to
  unfoldable pub machine : Stepping (After W F M)
  machine = record {
    over = λ at. if at.state.place == return_place
        then Some (returned (ops.number_of at.state.registers.rax) at.state.place)
        else None;
    step = λ at. if is_look at.state.place
        then Looks at
        else next_of (step_of ops acc (is_field at.memory) at.state at.memory);
    spent = λ at. Steps at.state.place;
  }
