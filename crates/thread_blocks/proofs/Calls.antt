-- The bare machine at a look, and how it stands before a call.
use Rattle.std.proofs.Common.{◌≡◌, ℕ, ◌-◌, ◌^◌, ◌<◌, Bool, true, false, Result, Ok, Err, refl, arith}
use Rattle.std.specs.Prelude.{if◌then◌else◌}
use Rattle.address_map.specs.Map.{pointer_of, stack_end}
use Rattle.guest_operands.specs.declared.stop.Stop.{Stop}
use Rattle.guest_machine.specs.Access.{Accesses}
use Rattle.guest_arithmetic.specs.Plain.{plain_operations}
use Rattle.guest_machine.specs.Run.{Looks, machine, is_look, next_of}
use Rattle.guest_machine.specs.State.{start_of}
use Rattle.guest_machine.specs.Step.{step_of}
use Rattle.guest_machine.specs.Use.{After}
use Rattle.guest_arithmetic.specs.Values.{Operations}
use Rattle.thread_blocks.specs.MachineTurns.{call_start}

looks_stay : {W F M : Type 0} (b : Bool) (a t : After W F M) (r : Result (After W F M) Stop)
    → (if b then Looks a else next_of r) ≡ Looks t → t ≡ a
looks_stay true a t r e = cc
looks_stay false a t (Ok after) e = cc
looks_stay false a t (Err stop) e = cc

-- at a look nothing has changed
pub machine_stays : {W F B M : Type 0} (ops : Operations W F B) (acc : Accesses M B) (is_field : M → ℕ → Bool)
    (s t : After W F M) → (machine ops acc is_field).step s ≡ Looks t → t ≡ s
unfolding machine
machine_stays ops acc is_field s t e =
    looks_stay (is_look s.state.place) s t (step_of ops acc (is_field s.memory) s.state s.memory) e

plain_word : (number : ℕ) → number < 2 ^ 64 → plain_operations.word number ≡ number
unfolding plain_operations
plain_word number small = omega arith

pub plain_start : (thread place a b c : ℕ) → a < 2 ^ 64 → b < 2 ^ 64 → c < 2 ^ 64
    → call_start plain_operations thread place a b c
    ≡ (record (start_of plain_operations place (stack_end thread - 8) a b c) { thread_pointer = pointer_of thread })
plain_start thread place a b c f g h = rw (plain_word a f, plain_word b g, plain_word c h) refl
