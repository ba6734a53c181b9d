-- The step of a sequence, with one definition for each form (Drepper, "ELF Handling For Thread-Local Storage", section
-- 4; psABI, "Thread-Local Storage"): what it finds, what it leaves unknown, and how much stack it needs.
use Rattle.std.specs.Prelude.{ℕ, ◌-◌, ◌^◌, Bool, true, false, Result, Ok, Err, if◌then◌else◌}
use Rattle.std.specs.List.{list_all}
use Rattle.guest_arithmetic.specs.declared.cause.Cause.{Cause}
use Rattle.guest_arithmetic.specs.declared.cause.Cause.TheVariants as cause
use Rattle.guest_arithmetic.specs.Cause.{both}
use Rattle.guest_operands.specs.declared.state.State.{State}
use Rattle.guest_operands.specs.declared.stop.Stop.{Stop}
use Rattle.guest_operands.specs.State.{at_place, register_of, with_word}
use Rattle.guest_operands.specs.Use.{◌>>=◌, After, clean, left, plus}
use Rattle.guest_machine.specs.Run.{Next, Ends, Looks, next_of}
use Rattle.guest_machine.specs.Touch.{places_from}
use Rattle.job_meaning.specs.declared.values.Flag.{Flag}
use Rattle.job_meaning.specs.declared.values.Flag.TheVariants.{Unsettled}
use Rattle.job_meaning.specs.declared.values.Token.TheVariants.{Base, Descriptor}
use Rattle.job_meaning.specs.declared.values.Word.{Word}
use Rattle.job_meaning.specs.declared.values.Word.TheVariants.{Number, Undefined, Marked}
use Rattle.job_meaning.specs.Marked.{is_same, used_number}
use Rattle.sequence_forms.specs.declared.forms.Form.{Form}
use Rattle.sequence_forms.specs.declared.forms.Form.TheVariants.{Gd, Ld, IeMov, IeAdd, GdInd, LdInd, DescLea, DescCall}
use Rattle.whole_meaning.specs.declared.sequences.Sequence.{Sequence}
use Rattle.guest_machine.specs.Machine.{with_answer}

-- the stack in a thread's memory
pub record Stack (M : Type 0) : Type 0 where
  -- the byte at an address lies on the stack
  pub holds : M → ℕ → Bool
  -- the memory with the stack's bytes below an address unknown
  pub forget : M → ℕ → M

-- ** what it needs

module _ {M : Type 0} (stack : Stack M) where
  -- the eight bytes below %rsp are stack
  abbrev pub has_room : M → ℕ → Result ℕ Cause
  has_room memory number = if list_all (stack.holds memory) (places_from (plus number (2 ^ 64 - 8)) 8)
      then Ok number
      else Err cause.Undefined

  abbrev pub room_below : M → Result ℕ Cause → Result ℕ Cause
  room_below memory (Ok number) = has_room memory number
  room_below memory (Err why) = Err why

  -- %rsp, with room for a return address below it
  abbrev pub stack_use : State Word Flag → M → Result ℕ Cause
  stack_use state memory = room_below memory (used_number state.registers.rsp)

-- %rax holds the descriptor of this instance and symbol
abbrev pub descriptor_use : Sequence → Word → Result (Unit {0}) Cause
descriptor_use s (Number number) = Err cause.Descriptor
descriptor_use s Undefined = Err cause.Undefined
descriptor_use s (Marked (Base block)) = Err cause.Base
descriptor_use s (Marked (Descriptor instance symbol)) =
    if is_same (Descriptor instance symbol) (Descriptor s.instance s.symbol) then Ok tt else Err cause.Descriptor

-- ** what it leaves

abbrev pub without_flags : State Word Flag → State Word Flag
without_flags state =
    record state { flags = record { zero = Unsettled; sign = Unsettled; carry = Unsettled; overflow = Unsettled } }

-- a call leaves these registers unknown to its caller (psABI, "Registers and the Stack Frame"), and the flags
abbrev pub after_call : State Word Flag → State Word Flag
after_call state = without_flags (record state {
  registers = record state.registers {
    rcx = Undefined;
    rdx = Undefined;
    rsi = Undefined;
    rdi = Undefined;
    r8 = Undefined;
    r9 = Undefined;
    r10 = Undefined;
    r11 = Undefined;
  };
})

-- ** the step

-- start: the address of the thread's block of the target's instance
module _ (s : Sequence) (start : ℕ) where
  -- the address of the variable, and its distance from the thread pointer
  abbrev pub variable_address : ℕ
  variable_address = plus start s.offset

  abbrev pub variable_distance : ℕ → ℕ
  variable_distance pointer = plus variable_address (2 ^ 64 - pointer)

-- thread: the thread that runs it
module _ {M : Type 0} (stack : Stack M) (s : Sequence) (thread start : ℕ) where
  -- the base of the thread's block of the code's own instance
  abbrev pub own_base : Word
  own_base = Marked (Base (record { thread = thread; instance = s.instance; start = start }))

  -- %rax holds the answer, and nothing is known below %rsp
  abbrev pub called_with : Word → State Word Flag → M → Result (After Word Flag M) Stop
  called_with word state memory = do
    below ← clean state.place (stack_use stack state memory)
    Ok (left (at_place (with_answer (after_call state) word) s.next) (stack.forget memory below))

  -- a register holds the distance
  abbrev pub loaded : State Word Flag → M → Result (After Word Flag M) Stop
  loaded state memory =
      Ok (left (at_place (with_word state s.register (Number (variable_distance s start state.thread_pointer)))
      s.next) memory)

  -- a register holds a sum, and the flags are unknown
  abbrev pub with_sum : ℕ → State Word Flag → State Word Flag
  with_sum number state = without_flags (with_word state s.register (Number number))

  -- the distance is added to a register
  abbrev pub added : State Word Flag → M → Result (After Word Flag M) Stop
  added state memory = do
    number ← clean state.place (used_number (register_of state.registers s.register))
    Ok (left (at_place (with_sum (plus number (variable_distance s start state.thread_pointer)) state) s.next) memory)

  -- %rax holds the descriptor
  abbrev pub described : State Word Flag → M → Result (After Word Flag M) Stop
  described state memory =
      Ok (left (at_place (with_answer state (Marked (Descriptor s.instance s.symbol))) s.next) memory)

  abbrev pub descriptor_calls : State Word Flag → M → Result (Unit {0} × ℕ) Cause
  descriptor_calls state memory = both (descriptor_use s state.registers.rax) (stack_use stack state memory)

  -- %rax held the descriptor and holds the distance, the flags are unknown, and nothing is known below %rsp
  abbrev pub descriptor_called : State Word Flag → M → Result (After Word Flag M) Stop
  descriptor_called state memory = do
    uses ← clean state.place (descriptor_calls state memory)
    Ok (left (at_place (without_flags (with_answer state (Number (variable_distance s start state.thread_pointer))))
        s.next)
        (stack.forget memory uses.1))

  -- the step of each form
  abbrev pub does : Form → State Word Flag → M → Result (After Word Flag M) Stop
  does Gd state memory = called_with (Number (variable_address s start)) state memory
  does GdInd state memory = called_with (Number (variable_address s start)) state memory
  does Ld state memory = called_with own_base state memory
  does LdInd state memory = called_with own_base state memory
  does IeMov state memory = loaded state memory
  does IeAdd state memory = added state memory
  does DescLea state memory = described state memory
  does DescCall state memory = descriptor_called state memory

  unfoldable pub sequence_result : State Word Flag → M → Result (After Word Flag M) Stop
  sequence_result state memory = does s.form state memory

-- the forms that call the run time, and look if their variable's instance is not a startup one
abbrev pub asks : Form → Bool
asks IeMov = false
asks IeAdd = false
asks DescLea = false
asks form = true

-- a look changes nothing, and is made only if the rest of the step is clean
abbrev pub looks_first : {W F M : Type 0} → Bool → After W F M → Result (After W F M) Stop → Next (After W F M)
looks_first false at result = next_of result
looks_first true at (Ok after) = Looks at
looks_first true at (Err stop) = Ends stop
