-- What sequences and the run time answer.
use Rattle.std.proofs.Common.{◌≡◌, ◌∙◌, ◌<◌, ◌^◌, ℕ, Result, Ok, Err, ap, arith}
use Rattle.guest_arithmetic.specs.declared.cause.Cause.{Cause}
use Rattle.guest_operands.specs.declared.state.State.{State}
use Rattle.guest_operands.specs.State.{at_place}
use Rattle.guest_operands.specs.Use.{◌>>=◌, After, clean, left, plus}
use Rattle.job_meaning.specs.declared.values.Flag.{Flag}
use Rattle.job_meaning.specs.declared.values.Word.{Word}
use Rattle.job_meaning.specs.declared.values.Word.TheVariants.{Number}
use Rattle.sequence_forms.specs.declared.forms.Form.TheVariants.{Gd, GdInd, Ld, LdInd, IeMov, IeAdd, DescLea, DescCall}
use Rattle.whole_meaning.specs.Laws.{AnswersAgree, RunTimeAnswersAgree}
use Rattle.whole_meaning.specs.Sequences.{Stack, after_call, called_with, descriptor_called, descriptor_calls}
use Rattle.whole_meaning.specs.Sequences.{stack_use, variable_address, variable_distance, without_flags}
use Rattle.whole_meaning.specs.declared.sequences.Sequence.{Sequence}
use Rattle.whole_meaning.specs.Threads.{Memory}
use Rattle.guest_machine.specs.Machine.{with_answer}

-- a step that was done left its state
done : {A : Type 0} (place : ℕ) (wanted : Result A Cause) (state : State Word Flag) (memory : A → Memory)
    (after : After Word Flag Memory)
    → (clean place wanted >>= (λ u. Ok (left state (memory u)))) ≡ Ok after → after.state ≡ state
done place (Ok u) state memory after e = cc
done place (Err why) state memory after e = cc

module _ (stack : Stack Memory) (s : Sequence) (thread start : ℕ) (state : State Word Flag) (memory : Memory)
    (after : After Word Flag Memory) where
  called : (word : Word) → called_with stack s thread start word state memory ≡ Ok after
      → after.state.registers.rax ≡ word
  called word e =
      ap (λ (now : State Word Flag). now.registers.rax)
      (done state.place (stack_use stack state memory) (at_place (with_answer (after_call state) word) s.next)
      (stack.forget memory) after e)

  described : descriptor_called stack s thread start state memory ≡ Ok after
      → after.state.registers.rax ≡ Number (variable_distance s start state.thread_pointer)
  described e =
      ap (λ (now : State Word Flag). now.registers.rax)
      (done state.place (descriptor_calls stack s thread start state memory)
      (at_place (without_flags (with_answer state (Number (variable_distance s start state.thread_pointer)))) s.next)
      (λ uses. stack.forget memory uses.1) after e)

-- the address is the distance and the thread pointer
apart : (s t : Sequence) (start pointer : ℕ) → s.offset ≡ t.offset → pointer < 2 ^ 64
    → variable_address s start ≡ plus (variable_distance t start pointer) pointer
apart s t start pointer same low = omega (arith, same, low)

pub answers : AnswersAgree
answers stack thread start Gd s t state state' memory memory' after after' is same low general descriptor = (
  variable_distance t start state'.thread_pointer,
  described stack t thread start state' memory' after' descriptor,
  called stack s thread start state memory after (Number (variable_address s start)) general
      ∙ ap Number (apart s t start state'.thread_pointer same low),
)
answers stack thread start GdInd s t state state' memory memory' after after' is same low general descriptor = (
  variable_distance t start state'.thread_pointer,
  described stack t thread start state' memory' after' descriptor,
  called stack s thread start state memory after (Number (variable_address s start)) general
      ∙ ap Number (apart s t start state'.thread_pointer same low),
)
answers stack thread start Ld s t state state' memory memory' after after' is same low general descriptor = absurd is
answers stack thread start LdInd s t state state' memory memory' after after' is same low general descriptor = absurd is
answers stack thread start IeMov s t state state' memory memory' after after' is same low general descriptor = absurd is
answers stack thread start IeAdd s t state state' memory memory' after after' is same low general descriptor = absurd is
answers stack thread start DescLea s t state state' memory memory' after after' is same low general descriptor =
    absurd is
answers stack thread start DescCall s t state state' memory memory' after after' is same low general descriptor =
    absurd is

pub run_time_answers : RunTimeAnswersAgree
run_time_answers l thread general descriptor x low same plain is = rw (plain, is, same) (omega (arith, low))
