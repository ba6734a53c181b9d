-- What an instruction may do with a field in it that holds a number which only the linker knows.
use Rattle.std.specs.Prelude.{ℕ, ℤ, pos, negsuc, suc, ◌-◌, ◌%◌, ◌^◌, ◌==◌, ◌&&◌, ◌||◌, Bool, true, false, not, nat_lt}
use Rattle.std.specs.Prelude.{Option, Some, None, option_and_then, Result, Ok, if◌then◌else◌, is_ok}
use Rattle.amd64_subset.specs.declared.instr.Arithmetic.TheVariants.{Add, Compare}
use Rattle.amd64_subset.specs.declared.instr.Decoded.{Decoded}
use Rattle.amd64_subset.specs.declared.instr.Operation.{Operation}
use Rattle.amd64_subset.specs.declared.instr.Operation.TheVariants.{Move, StoreByte, ExtendByte, ExtendLong}
use Rattle.amd64_subset.specs.declared.instr.Operation.TheVariants.{LoadAddress, Compute, Test, Multiply, Shift, Call}
use Rattle.amd64_subset.specs.declared.instr.Operation.TheVariants.{Jump, Nop}
use Rattle.amd64_subset.specs.declared.instr.Target.{Target}
use Rattle.amd64_subset.specs.declared.instr.Target.TheVariants.{Relative, Indirect}
use Rattle.amd64_subset.specs.declared.instr.Width.TheVariants.{Quad}
use Rattle.amd64_subset.specs.declared.operand.Base.{Base}
use Rattle.amd64_subset.specs.declared.operand.Base.TheVariants.{NextInstruction}
use Rattle.amd64_subset.specs.declared.operand.Memory.{Memory}
use Rattle.amd64_subset.specs.declared.operand.Operand.{Operand}
use Rattle.amd64_subset.specs.declared.operand.Operand.TheVariants.{InMemory, Register as InRegister}
use Rattle.amd64_subset.specs.declared.operand.Operands.{Operands}
use Rattle.amd64_subset.specs.declared.operand.Operands.TheVariants.{IntoRegister, IntoMemory, Immediate}
use Rattle.guest_arithmetic.specs.Values.{Operations}
use Rattle.guest_operands.specs.declared.frame.Frame.{Frame}
use Rattle.guest_operands.specs.declared.state.State.{State}
use Rattle.guest_operands.specs.Access.{Accesses, Refusal}
use Rattle.guest_operands.specs.Frame.{frame_of}
use Rattle.guest_operands.specs.Operand.{address_of}
use Rattle.guest_operands.specs.State.{register_of}
use Rattle.guest_operands.specs.Use.{plus}
use Rattle.guest_machine.specs.declared.touch.Touches.{Touches}
use Rattle.job_meaning.specs.Reading.{is_at}
use Rattle.whole_meaning.specs.declared.marks.Mark.{Mark}
use Rattle.whole_meaning.specs.declared.marks.Mark.TheVariants.{Offset, Address}

-- ** an instruction's operand in memory

abbrev pub operand_in : Operand → Option Memory
operand_in (InRegister register) = None
operand_in (InMemory memory) = Some memory

abbrev pub operands_in : Operands → Option Memory
operands_in (IntoRegister to from) = operand_in from
operands_in (IntoMemory to from) = Some to
operands_in (Immediate to) = operand_in to

abbrev pub target_in : Target → Option Memory
target_in (Relative distance) = None
target_in (Indirect operand) = operand_in operand

-- no instruction has more than one
unfoldable pub memory_in : Operation → Option Memory
memory_in (Move width operands) = operands_in operands
memory_in (StoreByte to from) = Some to
memory_in (ExtendByte width to from) = operand_in from
memory_in (ExtendLong to from) = operand_in from
memory_in (LoadAddress width to from) = Some from
memory_in (Compute arithmetic width operands) = operands_in operands
memory_in (Test width left right) = operand_in left
memory_in (Multiply width to from) = operand_in from
memory_in (Shift shift width to count) = operand_in to
memory_in (Call target) = target_in target
memory_in (Jump target) = target_in target
memory_in (Nop operand) = option_and_then operand_in operand
memory_in operation = None

-- the operand in memory of an instruction that reads its 64 bits and does not write it
unfoldable pub read_in : Operation → Option Memory
read_in (Move Quad (IntoRegister to from)) = operand_in from
read_in (Compute arithmetic Quad (IntoRegister to from)) = operand_in from
read_in (Compute Compare Quad (IntoMemory to from)) = Some to
read_in (Compute Compare Quad (Immediate to)) = operand_in to
read_in (Test Quad left right) = operand_in left
read_in (Multiply Quad to from) = operand_in from
read_in (Call (Indirect operand)) = operand_in operand
read_in (Jump (Indirect operand)) = operand_in operand
read_in operation = None

-- ** the numbers of fields

-- an offset field begins here
abbrev pub starts_offset : Mark → Bool
starts_offset (Offset number byte) = byte == 0
starts_offset mark = false

-- the field's own number if an offset field begins here, and else what was decoded
abbrev pub field_number : Mark → ℕ → ℕ
field_number (Offset number byte) read = if byte == 0 then number else read
field_number mark read = read

-- the address that an address field stands for, if one begins here
abbrev pub field_address : Mark → Option ℕ
field_address (Address number addend byte) = if byte == 0 then Some number else None
field_address mark = None

-- an addend is minus this many
abbrev pub is_minus : ℤ → ℕ → Bool
is_minus (pos n) size = false
is_minus (negsuc n) size = suc n == size

-- relative to the next instruction's address, and not to the thread pointer
abbrev pub is_from_next : Base → Bool
is_from_next NextInstruction = true
is_from_next base = false

abbrev pub reads_next : Option Memory → Bool
reads_next None = false
reads_next (Some memory) = is_from_next memory.base && not memory.from_thread_pointer

module _ (mark : ℕ → Mark) where
  -- the number of a displacement or an immediate of four bytes that begins here in an instruction
  abbrev pub number_in : ℕ → Option ℕ → ℕ → ℕ
  number_in here None read = read
  number_in here (Some at) read = field_number (mark (plus here at)) read

  -- the frame of an instruction, with a field's own number in its place
  unfoldable pub marked_frame : ℕ → Decoded → Frame
  marked_frame here it = record (frame_of (λ place. starts_offset (mark place)) here it) {
    displacement = number_in here it.disp it.instr.displacement;
    immediate = number_in here it.imm it.instr.immediate;
  }

  -- the address that an instruction's address field stands for, if it has one
  abbrev pub address_at : ℕ → Option ℕ → Option ℕ
  address_at here None = None
  address_at here (Some at) = field_address (mark (plus here at))

module _ {W F B : Type 0} (ops : Operations W F B) (mark : ℕ → Mark) (state : State W F) where
  -- ** offset fields

  -- an operand's address can be used: its base is one of the code's own instance, and its index is a number
  abbrev pub has_address : Decoded → Option Memory → Bool
  has_address it None = false
  has_address it (Some memory) = is_ok (address_of ops (marked_frame mark state.place it) state memory)

  -- the sum of such a base and an immediate at byte k
  abbrev pub adds_to_base : Decoded → ℕ → Operation → Bool
  adds_to_base it k (Compute Add Quad (Immediate (InRegister to))) = is_ok (ops.moved (register_of state.registers to)
      (marked_frame mark state.place it).immediate (plus state.place k))
  adds_to_base it k operation = false

  -- an offset field may begin at byte k: as the displacement of an operand in memory, or as an immediate
  abbrev pub takes_offset : ℕ → Decoded → Bool
  takes_offset k it =
      (is_at it.disp k && has_address it (memory_in it.instr.operation))
      || (is_at it.imm k && adds_to_base it k it.instr.operation)

  -- ** address fields

  -- an address field may begin at byte k: as the displacement of an operand that is read, if its addend leads from the
  -- field to the next instruction
  abbrev pub takes_address : ℤ → ℕ → Decoded → Bool
  takes_address addend k it =
      (is_at it.disp k && reads_next (read_in it.instr.operation)) && is_minus addend (it.len - k)

-- for the step, an address field's word lies at address 0, and nothing else does: the object's bytes in the field are
-- ignored
abbrev pub lent_frame : Option ℕ → Frame → Frame
lent_frame None frame = frame
lent_frame (Some number) frame = record frame { displacement = (2 ^ 64 - frame.next) % 2 ^ 64 }

module _ {W F B : Type 0} (ops : Operations W F B) where
  -- byte k of a word that is lent, and after its eight bytes what the memory has
  abbrev pub lent_byte : ℕ → ℕ → Result B Refusal → Result B Refusal
  lent_byte number k other = if nat_lt k 8 then Ok (ops.byte_of (ops.word number) k) else other

  -- a memory with a word lent at address 0, which can only be read
  abbrev pub lent_at : {M : Type 0} → Accesses M B → ℕ → Accesses M B
  lent_at acc number = record acc { byte = λ memory place. lent_byte number place (acc.byte memory place) }

-- the word that an address field stands for is the operand; no memory is accessed for it
module _ {W F M B : Type 0} (ops : Operations W F B) (acc : Accesses M B) where
  abbrev pub lent : Option ℕ → Accesses M B
  lent None = acc
  lent (Some number) = lent_at ops acc number

abbrev pub without_operand : Option ℕ → Touches → Touches
without_operand None touches = touches
without_operand (Some number) touches = record touches { first = None }
