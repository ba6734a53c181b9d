-- Calls of functions: the start of a call, the words on its stack, and the line in the transcript.
use Rattle.std.specs.Prelude.{ℕ, ◌-◌, true, false, List, ◌++◌, replicate, Option, Some, None, option_map}
use Rattle.address_map.specs.Map.{pointer_of, return_place, stack_end, stack_size}
use Rattle.guest_operands.specs.declared.state.State.{State}
use Rattle.guest_operands.specs.declared.stop.Stop.TheVariants.{Returned, Look, Address, Code, Unclean, Steps}
use Rattle.guest_machine.specs.Access.{bytes_from}
use Rattle.guest_machine.specs.Ranges.{Range}
use Rattle.guest_machine.specs.State.{start_of}
use Rattle.guest_arithmetic.specs.Values.{Operations}
use Rattle.transcript_text.specs.declared.outcomes.Line.{Line}
use Rattle.transcript_text.specs.declared.outcomes.LineFault.TheVariants.{Address as AddressFault, Code as CodeFault}
use Rattle.transcript_text.specs.declared.outcomes.LineFault.TheVariants.{Steps as StepsFault}
use Rattle.transcript_text.specs.declared.outcomes.Outcome.{Outcome as Answer}
use Rattle.transcript_text.specs.declared.outcomes.Outcome.TheVariants.{Returned as ReturnedAnswer, Fault}
use Rattle.thread_blocks.specs.Turns.{Ending, Answered, Stopped, Said}

unfoldable pub zeros : {B : Type 0} → B → ℕ → List B
zeros zero_byte count = replicate count zero_byte

module _ {W F B : Type 0} (ops : Operations W F B) where
  -- the eight bytes of a word
  abbrev pub word_bytes : ℕ → List B
  word_bytes number = bytes_from ops (ops.word number) 0 8

  -- a stack before a call: zeros, and the return address in its last eight bytes
  abbrev pub fresh_stack : List B
  fresh_stack = zeros (ops.byte 0) (stack_size - 8) ++ word_bytes return_place

  -- the word at the thread pointer, which holds the thread pointer and can only be read (psABI, section 3.4.6)
  abbrev pub pointer_word : ℕ → Range B
  pointer_word thread = record {
    start = pointer_of thread;
    bytes = word_bytes (pointer_of thread);
    readable = true;
    writable = false;
    runnable = false;
  }

-- ---- the start of a call

module _ {W F B : Type 0} (ops : Operations W F B) where
  -- a machine before a call of the function at this address: its three arguments in %rdi, %rsi and %rdx (psABI,
  -- section 3.2.3), and %rsp at the return address
  abbrev pub call_start : (thread place a b c : ℕ) → State W F
  call_start thread place a b c =
      let start = start_of ops place (stack_end thread - 8) (ops.word a) (ops.word b) (ops.word c) in
      record start { thread_pointer = pointer_of thread }

-- ---- lines in the transcript

-- the end of a line in the transcript; an unclean one has no answer
abbrev pub answer_of : Ending → Option Answer
answer_of (Answered answer) = Some answer
answer_of (Stopped (Returned number)) = Some (ReturnedAnswer number)
answer_of (Stopped (Look place)) = Some (Fault AddressFault)
answer_of (Stopped (Address place)) = Some (Fault AddressFault)
answer_of (Stopped (Code place)) = Some (Fault CodeFault)
answer_of (Stopped (Unclean place cause)) = None
answer_of (Stopped (Steps place)) = Some (Fault StepsFault)

-- a line in the transcript
abbrev pub shown : Said → Option Line
shown said = option_map (λ outcome. record { points = said.points; outcome = outcome }) (answer_of said.ending)
