-- A machine as callers see it.
use Rattle.std.specs.Prelude.{◌≡◌, ℕ, ◌+◌, Bool, true, false, Result, Ok, IsErr}
use Rattle.guest_operands.specs.declared.stop.Stop.{Stop}
use Rattle.guest_operands.specs.declared.state.State.{State}
use Rattle.guest_arithmetic.specs.Values.{Operations}
use Rattle.guest_operands.specs.Access.{Accesses}
use Rattle.guest_operands.specs.Use.{After, left}
use Rattle.guest_machine.specs.Step.{return_of}

-- a machine: its state, and the steps that it took
pub record Standing (W F : Type 0) : Type 0 where
  pub state : State W F
  pub taken : ℕ

abbrev pub with_answer : {W F : Type 0} → State W F → W → State W F
with_answer state word = record state { registers = record state.registers { rax = word } }

-- the answer to a look: a word in %rax, and the return address popped
abbrev pub answer_of : {W F B M : Type 0} → Operations W F B → Accesses M B → W → State W F → M
    → Result (After W F M) Stop
answer_of ops acc word state memory = return_of ops acc (with_answer state word) memory

-- an answer is one step, and a refused one changes nothing
abbrev pub Answers : {W F M : Type 0} → Bool → Standing W F → M → Standing W F → M → Result (After W F M) Stop → Type 0
Answers true old memory new memory' next = (next ≡ Ok (left new.state memory')) × (new.taken ≡ old.taken + 1)
Answers false old memory new memory' next = IsErr next × (new ≡ old) × (memory' ≡ memory)
