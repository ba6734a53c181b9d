-- The laws of unclean and of clean steps.
use Rattle.std.specs.Prelude.{◌≡◌, ◌<◌, ℕ, ◌+◌, ◌-◌, ◌%◌, ◌^◌, ◌==◌, Bool, true, false, nat_lt, Option, Some, None}
use Rattle.std.specs.Prelude.{Result, Ok, if◌then◌else◌}
use Rattle.address_map.specs.Map.{return_place}
use Rattle.amd64_words.specs.declared.register.Register.{Register}
use Rattle.amd64_subset.specs.declared.instr.Arithmetic.TheVariants.{Add}
use Rattle.amd64_subset.specs.declared.instr.Decoded.{Decoded}
use Rattle.amd64_subset.specs.declared.instr.Operation.{Operation}
use Rattle.amd64_subset.specs.declared.instr.Operation.TheVariants.{Move, StoreByte, ExtendByte, ExtendLong}
use Rattle.amd64_subset.specs.declared.instr.Operation.TheVariants.{LoadAddress, Compute, Test, Multiply, Shift, Push}
use Rattle.amd64_subset.specs.declared.instr.Operation.TheVariants.{Pop, Leave, Call, Jump, JumpIf, Return, Nop}
use Rattle.amd64_subset.specs.declared.instr.Operation.TheVariants.{Undefined}
use Rattle.amd64_subset.specs.declared.instr.Target.{Target}
use Rattle.amd64_subset.specs.declared.instr.Target.TheVariants.{Relative, Indirect}
use Rattle.amd64_subset.specs.declared.instr.Width.TheVariants.{Quad}
use Rattle.amd64_subset.specs.declared.operand.Base.TheVariants.{Absolute}
use Rattle.amd64_subset.specs.declared.operand.Memory.{Memory}
use Rattle.amd64_subset.specs.declared.operand.Operand.{Operand}
use Rattle.amd64_subset.specs.declared.operand.Operand.TheVariants.{InMemory, Register as InRegister}
use Rattle.amd64_subset.specs.declared.operand.Operands.{Operands}
use Rattle.amd64_subset.specs.declared.operand.Operands.TheVariants.{IntoRegister, IntoMemory, Immediate}
use Rattle.guest_arithmetic.specs.declared.cause.Cause.{Cause}
use Rattle.guest_operands.specs.declared.frame.Frame.{Frame}
use Rattle.guest_operands.specs.declared.state.State.{State}
use Rattle.guest_operands.specs.declared.stop.Stop.{Stop}
use Rattle.guest_operands.specs.declared.stop.Stop.TheVariants.{Unclean}
use Rattle.guest_operands.specs.Access.{Accesses, Refusal}
use Rattle.guest_operands.specs.Frame.{frame_of}
use Rattle.guest_operands.specs.State.{with_word}
use Rattle.guest_operands.specs.Use.{After, left, plus}
use Rattle.guest_machine.specs.Run.{Ends, next_of}
use Rattle.guest_machine.specs.Step.{act, step_of}
use Rattle.job_meaning.specs.declared.values.Byte.{Byte}
use Rattle.job_meaning.specs.declared.values.Flag.{Flag}
use Rattle.job_meaning.specs.declared.values.Flag.TheVariants.{Unsettled}
use Rattle.job_meaning.specs.declared.values.Word.{Word}
use Rattle.job_meaning.specs.declared.values.Word.TheVariants.{Number}
use Rattle.whole_meaning.specs.declared.marks.Mark.{Mark}
use Rattle.whole_meaning.specs.Meanings.{Meaning}
use Rattle.whole_meaning.specs.Threads.{Meant, Memory as Space, held_next, meant_accesses, meant_mark, meant_shut}
use Rattle.whole_meaning.specs.Threads.{meant_steps, ops}
use Rattle.cause_laws.specs.Instructions.{operand_of}
use Rattle.cause_laws.specs.Operands.{address_of, block_of, first_mark, offset_of, operand_address, owner, value_of}
use Rattle.cause_laws.specs.Rows.{IsFirst, Row, instruction, order}
use Rattle.step_laws.specs.Steps.{StartsNoSequence}
use Rattle.cause_laws.specs.Steps.{next_with}

-- ** causes

-- the row of a cause, of what a thread holds, with a step left or without one
abbrev pub RowOf : Meaning → ℕ → Meant → Bool → Cause → Type 0
RowOf m thread h left why = Row (meant_accesses m thread) (meant_mark m thread h.after.memory)
    (meant_shut m thread h.after.memory) h.after.state h.after.memory left why

-- a cause is answered, and at the instruction's address, exactly where it is the first whose row holds
pub record IsAnswered (m : Meaning) (thread : ℕ) (h : Meant) (left : Bool) : Type 0 where
  pub first : (why : Cause) (at : ℕ) → next_with (meant_steps m thread) left h ≡ Ends (Unclean at why)
      → (at ≡ h.after.state.place) × IsFirst (RowOf m thread h left) order why
  pub answered : (why : Cause) → IsFirst (RowOf m thread h left) order why
      → next_with (meant_steps m thread) left h ≡ Ends (Unclean h.after.state.place why)

abbrev pub CausesAreAnswered : Type 0
CausesAreAnswered = (m : Meaning) (thread : ℕ) (h : Meant) (left : Bool) → StartsNoSequence m thread h
    → IsAnswered m thread h left

-- ** clean steps

-- the same operand, wherever it lies: at the address that the displacement is
abbrev pub absolute : Memory
absolute = record { from_thread_pointer = false; base = Absolute; index = None }

abbrev pub moved : Operand → Operand
moved (InRegister register) = InRegister register
moved (InMemory memory) = InMemory absolute

abbrev pub moved_operands : Operands → Operands
moved_operands (IntoRegister to from) = IntoRegister to (moved from)
moved_operands (IntoMemory to from) = IntoMemory absolute from
moved_operands (Immediate to) = Immediate (moved to)

abbrev pub moved_target : Target → Target
moved_target (Relative distance) = Relative distance
moved_target (Indirect operand) = Indirect (moved operand)

-- an instruction with its operand at the address that the displacement is
abbrev pub with_absolute : Operation → Operation
with_absolute (Move width operands) = Move width (moved_operands operands)
with_absolute (StoreByte to from) = StoreByte absolute from
with_absolute (ExtendByte width to from) = ExtendByte width to (moved from)
with_absolute (ExtendLong to from) = ExtendLong to (moved from)
with_absolute (LoadAddress width to from) = LoadAddress width to absolute
with_absolute (Compute arithmetic width operands) = Compute arithmetic width (moved_operands operands)
with_absolute (Test width left_operand right) = Test width (moved left_operand) right
with_absolute (Multiply width to from) = Multiply width to (moved from)
with_absolute (Shift shift width to count) = Shift shift width (moved to) count
with_absolute (Push from) = Push from
with_absolute (Pop to) = Pop to
with_absolute Leave = Leave
with_absolute (Call target) = Call (moved_target target)
with_absolute (Jump target) = Jump (moved_target target)
with_absolute (JumpIf condition distance) = JumpIf condition distance
with_absolute Return = Return
with_absolute (Nop operand) = Nop operand
with_absolute Undefined = Undefined

-- the numbers of an instruction without fields, and with another displacement
abbrev pub bare_frame : ℕ → Decoded → Frame
bare_frame place it = frame_of (λ at. false) place it

abbrev pub displaced : ℕ → Frame → Frame
displaced number frame = record frame { displacement = number }

module _ {M : Type 0} (acc : Accesses M Byte) where
  -- a memory where eight bytes from an address on are those of a number, when they are read
  abbrev pub byte_there : ℕ → ℕ → ℕ → Result Byte Refusal → Result Byte Refusal
  byte_there number start place other = let k = plus place (2 ^ 64 - start) in
      if nat_lt k 8 then Ok (ops.byte_of (ops.word number) k) else other

  abbrev pub with_number_at : ℕ → ℕ → Accesses M Byte
  with_number_at number start = record acc {
    byte = λ memory place. byte_there number start place (acc.byte memory place);
  }

module _ {M : Type 0} (acc : Accesses M Byte) (mark : ℕ → Mark) (state : State Word Flag) (memory : M) where
  module _ (result : Result (After Word Flag M) Stop) where
    -- without a field: the machine's step over marked values
    abbrev pub IsOwn : Type 0
    IsOwn = result ≡ step_of ops acc (λ place. false) state memory

  module _ (result : Result (After Word Flag M) Stop) (it : Decoded) where
    -- with an offset field as the displacement: the instruction does the same as with its operand at its address
    abbrev pub IsPlaced : Type 0
    IsPlaced = (operand : Memory) × ((address : ℕ) × ((operand_of it.instr.operation ≡ Some operand)
        × (operand_address mark state it operand ≡ Some address)
        × (result ≡ act ops acc (displaced address (bare_frame state.place it))
        (with_absolute it.instr.operation) state memory)))

    -- with an address field: wherever the word may lie, the instruction does the same as with that operand
    abbrev pub IsSupplied : ℕ → Type 0
    IsSupplied number = (start : ℕ) → start < 2 ^ 64
        → result ≡ act ops (with_number_at acc number start) (displaced start (bare_frame state.place it))
        (with_absolute it.instr.operation) state memory

    -- with an offset field as the immediate: a register holds the sum of the base and the field's number, and no flag
    -- is known
    abbrev pub summed : Register → ℕ → State Word Flag
    summed to number = record (with_word state to (Number (number % 2 ^ 64))) {
      flags = record { zero = Unsettled; sign = Unsettled; carry = Unsettled; overflow = Unsettled };
      place = plus state.place it.len;
    }

    abbrev pub IsSummed : ℕ → Type 0
    IsSummed number = (to : Register) × ((start : ℕ)
        × ((it.instr.operation ≡ Compute Add Quad (Immediate (InRegister to)))
        × (block_of (owner mark state it it.imm) (value_of mark state it to) ≡ Some start)
        × (result ≡ Ok (left (summed to (start + number)) memory))))

    -- by its fields: an offset field or an address field as its displacement, an offset field as its immediate
    abbrev pub IsDone : Option ℕ → Option ℕ → Option ℕ → Type 0
    IsDone (Some number) address immediate = IsPlaced
    IsDone None (Some number) immediate = IsSupplied number
    IsDone None None (Some number) = IsSummed number
    IsDone None None None = IsOwn result

  -- the result of the instruction that is read, if one is
  abbrev pub IsGeneric : Result (After Word Flag M) Stop → Option Decoded → Type 0
  IsGeneric result None = IsOwn result
  IsGeneric result (Some it) = IsDone result it (offset_of (first_mark mark state it it.disp))
      (address_of (first_mark mark state it it.disp)) (offset_of (first_mark mark state it it.imm))

-- where no row holds, the step is the machine's step over marked values, with the operand that a field gives
abbrev pub CleanStepsAreGeneric : Type 0
CleanStepsAreGeneric = (m : Meaning) (thread : ℕ) (h : Meant) → StartsNoSequence m thread h
    → (h.after.state.place == return_place) ≡ false → ((why : Cause) → RowOf m thread h true why → ⊥)
    → (result : Result (After Word Flag Space) Stop)
    × (((meant_steps m thread).step h ≡ held_next m thread h (next_of result))
    × IsGeneric (meant_accesses m thread) (meant_mark m thread h.after.memory) h.after.state h.after.memory result
    (instruction (meant_accesses m thread) h.after.state h.after.memory))
