-- What one instruction does to registers, flags and memory, over numbers, as Intel's manual tells it (volume 2: MOV,
-- MOVZX, MOVSXD, LEA, .. RET; addresses by volume 1, section 3.7.5). It watches `act` (guest_machine) and what that is
-- made of (guest_operands: `address_of`, `taken`, `carried`, `put`).
use Rattle.std.specs.Prelude.{◌≡◌, ℕ, ◌+◌, ◌*◌, ◌<◌, ℤ, pos, ◌-ℤ◌, Bool, true, false, Option, Some, None, Ok}
use Rattle.amd64_words.specs.declared.register.Register.{Register}
use Rattle.amd64_words.specs.declared.register.Register.TheVariants.{Rsp, Rbp}
use Rattle.amd64_subset.specs.declared.instr.Arithmetic.{Arithmetic}
use Rattle.amd64_subset.specs.declared.instr.Arithmetic.TheVariants.{And, Compare}
use Rattle.amd64_subset.specs.declared.instr.Condition.{Condition}
use Rattle.amd64_subset.specs.declared.instr.Decoded.{Decoded}
use Rattle.amd64_subset.specs.declared.instr.Operation.{Operation}
use Rattle.amd64_subset.specs.declared.instr.Operation.TheVariants.{Move, StoreByte, ExtendByte, ExtendLong}
use Rattle.amd64_subset.specs.declared.instr.Operation.TheVariants.{LoadAddress, Compute, Test, Multiply}
use Rattle.amd64_subset.specs.declared.instr.Operation.TheVariants.{Shift as ShiftBy, Push, Pop, Leave, Call, Jump}
use Rattle.amd64_subset.specs.declared.instr.Operation.TheVariants.{JumpIf, Return, Nop, Undefined}
use Rattle.amd64_subset.specs.declared.instr.Shift.{Shift}
use Rattle.amd64_subset.specs.declared.instr.Target.{Target}
use Rattle.amd64_subset.specs.declared.instr.Target.TheVariants.{Relative, Indirect}
use Rattle.amd64_subset.specs.declared.instr.Width.{Width}
use Rattle.amd64_subset.specs.declared.instr.Width.TheVariants.{Long, Quad}
use Rattle.amd64_subset.specs.declared.operand.Base.{Base}
use Rattle.amd64_subset.specs.declared.operand.Base.TheVariants.{Absolute, NextInstruction, Register as OfRegister}
use Rattle.amd64_subset.specs.declared.operand.Index.{Index}
use Rattle.amd64_subset.specs.declared.operand.Memory.{Memory}
use Rattle.amd64_subset.specs.declared.operand.Operand.{Operand}
use Rattle.amd64_subset.specs.declared.operand.Operand.TheVariants.{InMemory, Register as InRegister}
use Rattle.amd64_subset.specs.declared.operand.Operands.TheVariants.{IntoRegister, IntoMemory, Immediate}
use Rattle.amd64_subset.specs.declared.operand.Scale.{Scale}
use Rattle.amd64_subset.specs.declared.operand.Scale.TheVariants.{One, Two, Four, Eight}
use Rattle.guest_arithmetic.specs.declared.effect.Effect.{Effect}
use Rattle.guest_arithmetic.specs.declared.flags.Flags.{Flags}
use Rattle.guest_arithmetic.specs.Plain.{plain_operations}
use Rattle.guest_operands.specs.declared.state.Registers.{Registers}
use Rattle.guest_operands.specs.declared.state.State.{State}
use Rattle.guest_operands.specs.Access.{load_of, store_of}
use Rattle.guest_operands.specs.Ranges.{AddressSpace}
use Rattle.guest_operands.specs.RangeLaws.{range_accesses}
use Rattle.guest_operands.specs.State.{register_of, with_register}
use Rattle.instruction_laws.specs.Conditions.{Become, Holds}
use Rattle.instruction_laws.specs.Results.{Computes, IsProduct, Shifts}
use Rattle.instruction_laws.specs.Words.{words, counts, IsSigned, IsCut}

abbrev pub Numbers : Type 0
Numbers = AddressSpace ℕ

-- how many bytes a word has
abbrev pub bytes : Width → ℕ
bytes Long = 4
bytes Quad = 8

abbrev pub times : Scale → ℕ
times One = 1
times Two = 2
times Four = 4
times Eight = 8

-- the lowest byte of a word
pub record IsLowByte (byte word : ℕ) : Type 0 where
  pub below : byte < 256
  pub above : ℕ
  pub same : byte + above * 256 ≡ word

-- a shift's count, without the bits above the lowest five or six
pub record IsMasked (width : Width) (masked count : ℕ) : Type 0 where
  pub below : masked < counts width
  pub above : ℕ
  pub same : masked + above * counts width ≡ count

-- cmp writes no result
abbrev pub writes : Arithmetic → Bool
writes Compare = false
writes kind = true

module _ (d : Decoded) (before : State ℕ Bool) (memory : Numbers) where
  -- ** operands

  abbrev pub has : Register → ℕ
  has register = register_of before.registers register

  abbrev pub base : Base → ℕ
  base Absolute = 0
  base NextInstruction = before.place + d.len
  base (OfRegister register) = has register

  abbrev pub index : Option Index → ℕ
  index None = 0
  index (Some it) = has it.register * times it.scale

  abbrev pub segment : Bool → ℕ
  segment true = before.thread_pointer
  segment false = 0

  abbrev pub IsAddress : Memory → ℕ → Type 0
  IsAddress operand place = IsCut Quad place
      (pos (base operand.base + index operand.index + d.instr.displacement + segment operand.from_thread_pointer))

  -- a number that an operand in memory has, in this many bytes
  pub record IsLoaded (width : Width) (size : ℕ) (operand : Memory) (number : ℕ) : Type 0 where
    pub place : ℕ
    pub address : IsAddress operand place
    pub loaded : load_of plain_operations (range_accesses plain_operations) memory place size ≡ Ok number
    pub below : number < words width

  -- the memory after a number was written there
  pub record IsStored (size : ℕ) (operand : Memory) (number : ℕ) (after : Numbers) : Type 0 where
    pub place : ℕ
    pub address : IsAddress operand place
    pub stored : store_of plain_operations (range_accesses plain_operations) memory place size number ≡ Ok after

  abbrev pub Has : Width → Operand → ℕ → Type 0
  Has width (InRegister register) number = IsCut width number (pos (has register))
  Has width (InMemory operand) number = IsLoaded width (bytes width) operand number

  -- ** what is left

  -- these registers and flags, at this place
  pub record IsLeftAt (place : ℤ) (registers : Registers ℕ) (flags : Flags Bool) (after : State ℕ Bool) : Type 0 where
    pub registers_are : after.registers ≡ registers
    pub flags_are : after.flags ≡ flags
    pub place_is : IsCut Quad after.place place
    pub thread : after.thread_pointer ≡ before.thread_pointer

  -- the next instruction goes on
  abbrev pub next : ℤ
  next = pos (before.place + d.len)

  abbrev pub IsLeft : Registers ℕ → Flags Bool → State ℕ Bool → Type 0
  IsLeft registers flags after = IsLeftAt next registers flags after

  -- a register or an operand in memory has a number, and these are the flags; all else is as it was
  abbrev pub Puts : Width → Operand → ℕ → Flags Bool → State ℕ Bool → Numbers → Type 0
  Puts width (InRegister to) number flags after memory' =
      IsLeft (with_register before.registers to number) flags after × (memory' ≡ memory)
  Puts width (InMemory to) number flags after memory' =
      IsLeft before.registers flags after × IsStored (bytes width) to number memory'

  -- ** mov, movzx, movslq, lea

  pub record Moves (width : Width) (to from : Operand) (after : State ℕ Bool) (memory' : Numbers) : Type 0 where
    pub number : ℕ
    pub from_it : Has width from number
    pub to_it : Puts width to number before.flags after memory'

  pub record MovesImmediate (width : Width) (to : Operand) (after : State ℕ Bool) (memory' : Numbers) : Type 0 where
    pub number : ℕ
    pub from_it : IsCut width number (pos d.instr.immediate)
    pub to_it : Puts width to number before.flags after memory'

  pub record MovesByte (to : Memory) (from : Register) (after : State ℕ Bool) (memory' : Numbers) : Type 0 where
    pub byte : ℕ
    pub from_it : IsLowByte byte (has from)
    pub to_it : IsLeft before.registers before.flags after × IsStored 1 to byte memory'

  -- a byte, with zeros above it
  abbrev pub HasByte : Operand → ℕ → Type 0
  HasByte (InRegister register) byte = IsLowByte byte (has register)
  HasByte (InMemory operand) byte = IsLoaded Long 1 operand byte

  pub record ExtendsByte (to : Register) (from : Operand) (after : State ℕ Bool) (memory' : Numbers) : Type 0 where
    pub byte : ℕ
    pub from_it : HasByte from byte
    pub to_it : Puts Quad (InRegister to) byte before.flags after memory'

  -- the same signed integer, in 64 bits
  pub record ExtendsLong (to : Register) (from : Operand) (after : State ℕ Bool) (memory' : Numbers) : Type 0 where
    pub number : ℕ
    pub from_it : Has Long from number
    pub value : ℤ
    pub short : IsSigned Long number value
    pub result : ℕ
    pub long : IsSigned Quad result value
    pub to_it : Puts Quad (InRegister to) result before.flags after memory'

  pub record LoadsAddress (width : Width) (to : Register) (from : Memory) (after : State ℕ Bool) (memory' : Numbers)
      : Type 0 where
    pub place : ℕ
    pub address : IsAddress from place
    pub number : ℕ
    pub cut : IsCut width number (pos place)
    pub to_it : Puts width (InRegister to) number before.flags after memory'

  -- ** add, or, and, sub, xor, cmp, test, imul, shl, shr, sar

  -- cmp and test leave the flags alone
  abbrev pub Answers : Bool → Width → Operand → Effect → State ℕ Bool → Numbers → Type 0
  Answers true width to effect after memory' = Puts width to effect.number after.flags after memory'
  Answers false width to effect after memory' = IsLeft before.registers after.flags after × (memory' ≡ memory)

  -- of two operands: where they are, and whether the result is written to the first
  pub record ComputesOf (kind : Arithmetic) (writes : Bool) (width : Width) (to : Operand) (second : ℕ → Type 0)
      (after : State ℕ Bool) (memory' : Numbers) : Type 0 where
    pub a : ℕ
    pub b : ℕ
    pub x : ℤ
    pub y : ℤ
    pub first_is : Has width to a
    pub second_is : second b
    pub first_signed : IsSigned width a x
    pub second_signed : IsSigned width b y
    pub effect : Effect
    pub computes : Computes kind width a b x y effect
    pub flags : Become effect.changes before.flags after.flags
    pub answers : Answers writes width to effect after memory'

  pub record Multiplies (width : Width) (to : Register) (from : Operand) (after : State ℕ Bool) (memory' : Numbers)
      : Type 0 where
    pub a : ℕ
    pub b : ℕ
    pub x : ℤ
    pub y : ℤ
    pub first_is : Has width (InRegister to) a
    pub second_is : Has width from b
    pub first_signed : IsSigned width a x
    pub second_signed : IsSigned width b y
    pub effect : Effect
    pub multiplies : IsProduct width x y effect
    pub flags : Become effect.changes before.flags after.flags
    pub to_it : Puts width (InRegister to) effect.number after.flags after memory'

  pub record ShiftsBy (shift : Shift) (width : Width) (to : Operand) (count : ℕ) (after : State ℕ Bool)
      (memory' : Numbers)
      : Type 0 where
    pub a : ℕ
    pub x : ℤ
    pub is : Has width to a
    pub signed : IsSigned width a x
    pub masked : ℕ
    pub mask : IsMasked width masked count
    pub effect : Effect
    pub shifts : Shifts shift width a x masked effect
    pub flags : Become effect.changes before.flags after.flags
    pub to_it : Puts width to effect.number after.flags after memory'

  -- ** push, pop, leave, call, ret, jmp, jcc

  -- eight bytes below the stack
  pub record Pushes (word : ℕ) (place : ℤ) (after : State ℕ Bool) (memory' : Numbers) : Type 0 where
    pub stack : ℕ
    pub lower : IsCut Quad stack (pos (has Rsp) -ℤ pos 8)
    pub stored : store_of plain_operations (range_accesses plain_operations) memory stack 8 word ≡ Ok memory'
    pub state : IsLeftAt place (with_register before.registers Rsp stack) before.flags after

  -- eight bytes at an address, and the address after them
  pub record IsPopped (from : Register) (word stack : ℕ) : Type 0 where
    pub loaded : load_of plain_operations (range_accesses plain_operations) memory (has from) 8 ≡ Ok word
    pub below : word < words Quad
    pub higher : IsCut Quad stack (pos (has from + 8))

  pub record Pops (to : Register) (after : State ℕ Bool) (memory' : Numbers) : Type 0 where
    pub word : ℕ
    pub stack : ℕ
    pub popped : IsPopped Rsp word stack
    pub state : IsLeft (with_register (with_register before.registers Rsp stack) to word) before.flags after
    pub same : memory' ≡ memory

  pub record Leaves (after : State ℕ Bool) (memory' : Numbers) : Type 0 where
    pub word : ℕ
    pub stack : ℕ
    pub popped : IsPopped Rbp word stack
    pub state : IsLeft (with_register (with_register before.registers Rsp stack) Rbp word) before.flags after
    pub same : memory' ≡ memory

  pub record Returns (after : State ℕ Bool) (memory' : Numbers) : Type 0 where
    pub word : ℕ
    pub stack : ℕ
    pub popped : IsPopped Rsp word stack
    pub state : IsLeftAt (pos word) (with_register before.registers Rsp stack) before.flags after
    pub same : memory' ≡ memory

  -- where a call or a jump goes
  abbrev pub GoesTo : Target → ℤ → Type 0
  GoesTo (Relative distance) place = place ≡ pos (before.place + d.len + distance)
  GoesTo (Indirect operand) place = (number : ℕ) × (Has Quad operand number) × (place ≡ pos number)

  pub record Calls (target : Target) (after : State ℕ Bool) (memory' : Numbers) : Type 0 where
    pub place : ℤ
    pub goes : GoesTo target place
    pub back : ℕ
    pub returns : IsCut Quad back next
    pub pushes : Pushes back place after memory'

  pub record Jumps (target : Target) (after : State ℕ Bool) (memory' : Numbers) : Type 0 where
    pub place : ℤ
    pub goes : GoesTo target place
    pub state : IsLeftAt place before.registers before.flags after
    pub same : memory' ≡ memory

  -- jcc
  pub record JumpsIf (condition : Condition) (distance : ℕ) (after : State ℕ Bool) (memory' : Numbers) : Type 0 where
    pub taken : Holds condition before.flags
        → IsLeftAt (pos (before.place + d.len + distance)) before.registers before.flags after
    pub else_next : (Holds condition before.flags → ⊥) → IsLeft before.registers before.flags after
    pub same : memory' ≡ memory

  -- ** one instruction

  abbrev pub Does : Operation → State ℕ Bool → Numbers → Type 0
  Does (Move width (IntoRegister to from)) = Moves width (InRegister to) from
  Does (Move width (IntoMemory to from)) = Moves width (InMemory to) (InRegister from)
  Does (Move width (Immediate to)) = MovesImmediate width to
  Does (StoreByte to from) = MovesByte to from
  Does (ExtendByte width to from) = ExtendsByte to from
  Does (ExtendLong to from) = ExtendsLong to from
  Does (LoadAddress width to from) = LoadsAddress width to from
  Does (Compute kind width (IntoRegister to from)) = ComputesOf kind (writes kind) width (InRegister to)
      (Has width from)
  Does (Compute kind width (IntoMemory to from)) =
      ComputesOf kind (writes kind) width (InMemory to) (Has width (InRegister from))
  Does (Compute kind width (Immediate to)) =
      ComputesOf kind (writes kind) width to (λ number. IsCut width number (pos d.instr.immediate))
  Does (Test width left right) = ComputesOf And false width left (Has width (InRegister right))
  Does (Multiply width to from) = Multiplies width to from
  Does (ShiftBy shift width to count) = ShiftsBy shift width to count
  Does (Push from) = Pushes (has from) next
  Does (Pop to) = Pops to
  Does Leave = Leaves
  Does (Call target) = Calls target
  Does (Jump target) = Jumps target
  Does (JumpIf condition distance) = JumpsIf condition distance
  Does Return = Returns
  Does (Nop operand) = λ after memory'. IsLeft before.registers before.flags after × (memory' ≡ memory)
  Does Undefined = λ after memory'. ⊥
