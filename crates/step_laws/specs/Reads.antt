-- What an instruction reads and writes, by Intel's manual (volume 2): registers, flags and bytes of data.
use Rattle.std.specs.Prelude.{ℕ, ◌+◌, ◌*◌, ◌-◌, ◌%◌, ◌^◌, ◌++◌, ◌==◌, Bool, true, false, nat_lt, List, [], ◌∷◌, Option}
use Rattle.std.specs.Prelude.{Some, None, if◌then◌else◌}
use Rattle.amd64_words.specs.declared.register.Register.{Register}
use Rattle.amd64_words.specs.declared.register.Register.TheVariants.{Rsp, Rbp}
use Rattle.amd64_subset.specs.Register.{number_of}
use Rattle.amd64_subset.specs.declared.instr.Arithmetic.{Arithmetic}
use Rattle.amd64_subset.specs.declared.instr.Arithmetic.TheVariants.{Compare, Sub, Xor}
use Rattle.amd64_subset.specs.declared.instr.Condition.{Condition}
use Rattle.amd64_subset.specs.declared.instr.Condition.TheVariants.{Overflow, NotOverflow, Below, NotBelow, Equal}
use Rattle.amd64_subset.specs.declared.instr.Condition.TheVariants.{NotEqual, BelowOrEqual, Above, Sign, NotSign, Less}
use Rattle.amd64_subset.specs.declared.instr.Condition.TheVariants.{NotLess, LessOrEqual, Greater}
use Rattle.amd64_subset.specs.declared.instr.Decoded.{Decoded}
use Rattle.amd64_subset.specs.declared.instr.Operation.{Operation}
use Rattle.amd64_subset.specs.declared.instr.Operation.TheVariants.{Move, StoreByte, ExtendByte, ExtendLong}
use Rattle.amd64_subset.specs.declared.instr.Operation.TheVariants.{LoadAddress, Compute, Test, Multiply, Shift, Push}
use Rattle.amd64_subset.specs.declared.instr.Operation.TheVariants.{Pop, Leave, Call, Jump, JumpIf, Return}
use Rattle.amd64_subset.specs.declared.instr.Target.TheVariants.{Relative, Indirect}
use Rattle.amd64_subset.specs.declared.instr.Width.{Width}
use Rattle.amd64_subset.specs.declared.operand.Base.{Base}
use Rattle.amd64_subset.specs.declared.operand.Base.TheVariants.{Absolute, NextInstruction, Register as OfRegister}
use Rattle.amd64_subset.specs.declared.operand.Index.{Index}
use Rattle.amd64_subset.specs.declared.operand.Memory.{Memory}
use Rattle.amd64_subset.specs.declared.operand.Operand.{Operand}
use Rattle.amd64_subset.specs.declared.operand.Operand.TheVariants.{InMemory, Register as InRegister}
use Rattle.amd64_subset.specs.declared.operand.Operands.TheVariants.{IntoRegister, IntoMemory, Immediate}
use Rattle.guest_arithmetic.specs.declared.flags.Flags.{Flags}
use Rattle.guest_arithmetic.specs.Arithmetic.{bits_of}
use Rattle.guest_operands.specs.declared.state.State.{State}
use Rattle.guest_operands.specs.Operand.{factor_of, size_of}
use Rattle.guest_operands.specs.State.{register_of}
use Rattle.guest_machine.specs.Touch.{places_from}

-- ** registers

abbrev pub in_base : Base → List Register
in_base Absolute = []
in_base NextInstruction = []
in_base (OfRegister register) = register ∷ []

abbrev pub in_index : Option Index → List Register
in_index None = []
in_index (Some index) = index.register ∷ []

-- the registers that an operand's address is made of
abbrev pub in_address : Memory → List Register
in_address memory = in_base memory.base ++ in_index memory.index

-- an operand that is read is a register, or has an address
abbrev pub in_operand : Operand → List Register
in_operand (InRegister register) = register ∷ []
in_operand (InMemory memory) = in_address memory

-- an operand that is only written
abbrev pub in_result : Operand → List Register
in_result (InRegister register) = []
in_result (InMemory memory) = in_address memory

abbrev pub is_itself : Register → Operand → Bool
is_itself to (InRegister from) = number_of to == number_of from
is_itself to (InMemory memory) = false

-- xor and sub of a register with itself are 0 whatever it held
abbrev pub clears : Arithmetic → Register → Operand → Bool
clears Xor to from = is_itself to from
clears Sub to from = is_itself to from
clears arithmetic to from = false

-- the registers that an instruction reads; a nop reads none
unfoldable pub registers_read : Operation → List Register
registers_read (Move width (IntoRegister to from)) = in_operand from
registers_read (Move width (IntoMemory to from)) = from ∷ in_address to
registers_read (Move width (Immediate to)) = in_result to
registers_read (StoreByte to from) = from ∷ in_address to
registers_read (ExtendByte width to from) = in_operand from
registers_read (ExtendLong to from) = in_operand from
registers_read (LoadAddress width to from) = in_address from
registers_read (Compute arithmetic width (IntoRegister to from)) =
    if clears arithmetic to from then [] else to ∷ in_operand from
registers_read (Compute arithmetic width (IntoMemory to from)) = from ∷ in_address to
registers_read (Compute arithmetic width (Immediate to)) = in_operand to
registers_read (Test width left right) = right ∷ in_operand left
registers_read (Multiply width to from) = to ∷ in_operand from
registers_read (Shift shift width to count) = in_operand to
registers_read (Push from) = Rsp ∷ from ∷ []
registers_read (Pop to) = Rsp ∷ []
registers_read Leave = Rbp ∷ []
registers_read (Call (Relative distance)) = Rsp ∷ []
registers_read (Call (Indirect operand)) = Rsp ∷ in_operand operand
registers_read (Jump (Indirect operand)) = in_operand operand
registers_read Return = Rsp ∷ []
registers_read operation = []

-- ** flags

-- the flags of a condition (appendix B, table B-10)
abbrev pub in_condition : {F : Type 0} → Condition → Flags F → List F
in_condition Overflow flags = flags.overflow ∷ []
in_condition NotOverflow flags = flags.overflow ∷ []
in_condition Below flags = flags.carry ∷ []
in_condition NotBelow flags = flags.carry ∷ []
in_condition Equal flags = flags.zero ∷ []
in_condition NotEqual flags = flags.zero ∷ []
in_condition BelowOrEqual flags = flags.carry ∷ flags.zero ∷ []
in_condition Above flags = flags.carry ∷ flags.zero ∷ []
in_condition Sign flags = flags.sign ∷ []
in_condition NotSign flags = flags.sign ∷ []
in_condition Less flags = flags.sign ∷ flags.overflow ∷ []
in_condition NotLess flags = flags.sign ∷ flags.overflow ∷ []
in_condition LessOrEqual flags = flags.zero ∷ flags.sign ∷ flags.overflow ∷ []
in_condition Greater flags = flags.zero ∷ flags.sign ∷ flags.overflow ∷ []

-- only a conditional jump reads flags
unfoldable pub flags_read : {F : Type 0} → Operation → Flags F → List F
flags_read (JumpIf condition distance) flags = in_condition condition flags
flags_read operation flags = []

-- the flags that an instruction leaves undefined: imul ZF and SF, a shift by more than one OF
unfoldable pub left_undefined : Operation → Flags Bool
left_undefined (Multiply width to from) = record { zero = true; sign = true; carry = false; overflow = false }
left_undefined (Shift shift width to count) =
    record { zero = false; sign = false; carry = false; overflow = nat_lt 1 (count % bits_of width) }
left_undefined operation = record { zero = false; sign = false; carry = false; overflow = false }

-- ** bytes of data

module _ (d : Decoded) (state : State ℕ Bool) where
  abbrev pub base_at : Base → ℕ
  base_at Absolute = 0
  base_at NextInstruction = state.place + d.len
  base_at (OfRegister register) = register_of state.registers register

  abbrev pub index_at : Option Index → ℕ
  index_at None = 0
  index_at (Some index) = register_of state.registers index.register * factor_of index.scale

  -- the address of an operand (volume 1, section 3.7.5)
  abbrev pub address_in : Memory → ℕ
  address_in memory = (base_at memory.base + index_at memory.index + d.instr.displacement
      + (if memory.from_thread_pointer then state.thread_pointer else 0)) % 2 ^ 64

  -- the bytes of an operand
  abbrev pub bytes_in : ℕ → Operand → List ℕ
  bytes_in size (InRegister register) = []
  bytes_in size (InMemory memory) = places_from (address_in memory) size

  -- the eight bytes that a register points to, and those below %rsp
  abbrev pub bytes_at : Register → List ℕ
  bytes_at register = places_from (register_of state.registers register) 8

  abbrev pub bytes_below : List ℕ
  bytes_below = places_from ((state.registers.rsp + (2 ^ 64 - 8)) % 2 ^ 64) 8

  -- the bytes that an instruction reads
  unfoldable pub bytes_read : Operation → List ℕ
  bytes_read (Move width (IntoRegister to from)) = bytes_in (size_of width) from
  bytes_read (ExtendByte width to from) = bytes_in 1 from
  bytes_read (ExtendLong to from) = bytes_in 4 from
  bytes_read (Compute arithmetic width (IntoRegister to from)) = bytes_in (size_of width) from
  bytes_read (Compute arithmetic width (IntoMemory to from)) = bytes_in (size_of width) (InMemory to)
  bytes_read (Compute arithmetic width (Immediate to)) = bytes_in (size_of width) to
  bytes_read (Test width left right) = bytes_in (size_of width) left
  bytes_read (Multiply width to from) = bytes_in (size_of width) from
  bytes_read (Shift shift width to count) = bytes_in (size_of width) to
  bytes_read (Pop to) = bytes_at Rsp
  bytes_read Leave = bytes_at Rbp
  bytes_read (Call (Indirect operand)) = bytes_in 8 operand
  bytes_read (Jump (Indirect operand)) = bytes_in 8 operand
  bytes_read Return = bytes_at Rsp
  bytes_read operation = []

  -- cmp writes nothing
  abbrev pub computed : Arithmetic → Width → Operand → List ℕ
  computed Compare width to = []
  computed arithmetic width to = bytes_in (size_of width) to

  -- the bytes that it writes, after it has read
  unfoldable pub bytes_written : Operation → List ℕ
  bytes_written (Move width (IntoMemory to from)) = bytes_in (size_of width) (InMemory to)
  bytes_written (Move width (Immediate to)) = bytes_in (size_of width) to
  bytes_written (StoreByte to from) = bytes_in 1 (InMemory to)
  bytes_written (Compute arithmetic width (IntoMemory to from)) = computed arithmetic width (InMemory to)
  bytes_written (Compute arithmetic width (Immediate to)) = computed arithmetic width to
  bytes_written (Shift shift width to count) = bytes_in (size_of width) to
  bytes_written (Push from) = bytes_below
  bytes_written (Call target) = bytes_below
  bytes_written operation = []
