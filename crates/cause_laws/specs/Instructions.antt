-- What each instruction computes with, and its operand in memory (Intel's manual, volume 2): a table of all
-- instructions, without values.
use Rattle.std.specs.Prelude.{◌==◌, Bool, true, false, List, [], ◌∷◌, Option, Some, None, if◌then◌else◌}
use Rattle.amd64_words.specs.declared.register.Register.{Register}
use Rattle.amd64_words.specs.declared.register.Register.TheVariants.{Rsp, Rbp}
use Rattle.amd64_subset.specs.Register.{number_of}
use Rattle.amd64_subset.specs.declared.instr.Arithmetic.{Arithmetic}
use Rattle.amd64_subset.specs.declared.instr.Arithmetic.TheVariants.{Sub, Xor, Compare}
use Rattle.amd64_subset.specs.declared.instr.Operation.{Operation}
use Rattle.amd64_subset.specs.declared.instr.Operation.TheVariants.{Move, StoreByte, ExtendByte, ExtendLong}
use Rattle.amd64_subset.specs.declared.instr.Operation.TheVariants.{LoadAddress, Compute, Test, Multiply, Shift, Push}
use Rattle.amd64_subset.specs.declared.instr.Operation.TheVariants.{Pop, Leave, Call, Jump, JumpIf, Return, Nop}
use Rattle.amd64_subset.specs.declared.instr.Operation.TheVariants.{Undefined}
use Rattle.amd64_subset.specs.declared.instr.Target.{Target}
use Rattle.amd64_subset.specs.declared.instr.Target.TheVariants.{Relative, Indirect}
use Rattle.amd64_subset.specs.declared.instr.Width.TheVariants.{Quad}
use Rattle.amd64_subset.specs.declared.operand.Memory.{Memory}
use Rattle.amd64_subset.specs.declared.operand.Operand.{Operand}
use Rattle.amd64_subset.specs.declared.operand.Operand.TheVariants.{InMemory, Register as InRegister}
use Rattle.amd64_subset.specs.declared.operand.Operands.{Operands}
use Rattle.amd64_subset.specs.declared.operand.Operands.TheVariants.{IntoRegister, IntoMemory, Immediate}

-- ** an operand

abbrev pub registers_in : Operand → List Register
registers_in (InRegister register) = register ∷ []
registers_in (InMemory memory) = []

abbrev pub memory_of : Operand → Option Memory
memory_of (InRegister register) = None
memory_of (InMemory memory) = Some memory

abbrev pub memory_among : Operands → Option Memory
memory_among (IntoRegister to from) = memory_of from
memory_among (IntoMemory to from) = Some to
memory_among (Immediate to) = memory_of to

abbrev pub memory_for : Target → Option Memory
memory_for (Relative distance) = None
memory_for (Indirect operand) = memory_of operand

abbrev pub memory_if : Option Operand → Option Memory
memory_if None = None
memory_if (Some operand) = memory_of operand

-- the operand in memory, of which an instruction has at most one; those of lea and nop are not accessed
unfoldable pub operand_of : Operation → Option Memory
operand_of (Move width operands) = memory_among operands
operand_of (StoreByte to from) = Some to
operand_of (ExtendByte width to from) = memory_of from
operand_of (ExtendLong to from) = memory_of from
operand_of (LoadAddress width to from) = Some from
operand_of (Compute arithmetic width operands) = memory_among operands
operand_of (Test width left right) = memory_of left
operand_of (Multiply width to from) = memory_of from
operand_of (Shift shift width to count) = memory_of to
operand_of (Push from) = None
operand_of (Pop to) = None
operand_of Leave = None
operand_of (Call target) = memory_for target
operand_of (Jump target) = memory_for target
operand_of (JumpIf condition distance) = None
operand_of Return = None
operand_of (Nop operand) = memory_if operand
operand_of Undefined = None

-- nop does not even compute its operand's address
abbrev pub is_nop : Operation → Bool
is_nop (Nop operand) = true
is_nop operation = false

-- ** an operand that is read with 64 bits and not written

abbrev pub read_by_compute : Arithmetic → Operands → Option Memory
read_by_compute arithmetic (IntoRegister to from) = memory_of from
read_by_compute Compare (IntoMemory to from) = Some to
read_by_compute Compare (Immediate to) = memory_of to
read_by_compute arithmetic operands = None

abbrev pub read_by_move : Operands → Option Memory
read_by_move (IntoRegister to from) = memory_of from
read_by_move (IntoMemory to from) = None
read_by_move (Immediate to) = None

unfoldable pub read_operand : Operation → Option Memory
read_operand (Move Quad operands) = read_by_move operands
read_operand (Compute arithmetic Quad operands) = read_by_compute arithmetic operands
read_operand (Test Quad left right) = memory_of left
read_operand (Multiply Quad to from) = memory_of from
read_operand (Call target) = memory_for target
read_operand (Jump target) = memory_for target
read_operand operation = None

-- ** the registers whose numbers an instruction computes with or goes by, besides those of an address

-- xor and sub of a register with itself give 0, whatever it held; all others compute with both
abbrev pub is_zeroing : Arithmetic → Register → Operand → Bool
is_zeroing Xor to (InRegister from) = number_of to == number_of from
is_zeroing Sub to (InRegister from) = number_of to == number_of from
is_zeroing arithmetic to from = false

abbrev pub computed : Arithmetic → Operands → List Register
computed arithmetic (IntoRegister to from) =
    if is_zeroing arithmetic to from then [] else to ∷ registers_in from
computed arithmetic (IntoMemory to from) = from ∷ []
computed arithmetic (Immediate to) = registers_in to

abbrev pub called : Target → List Register
called (Relative distance) = Rsp ∷ []
called (Indirect operand) = Rsp ∷ registers_in operand

abbrev pub gone_to : Target → List Register
gone_to (Relative distance) = []
gone_to (Indirect operand) = registers_in operand

unfoldable pub registers_used : Operation → List Register
registers_used (Move width operands) = []
registers_used (StoreByte to from) = []
registers_used (ExtendByte width to from) = []
registers_used (ExtendLong to from) = []
registers_used (LoadAddress width to from) = []
registers_used (Compute arithmetic width operands) = computed arithmetic operands
registers_used (Test width left right) = right ∷ registers_in left
registers_used (Multiply width to from) = to ∷ registers_in from
registers_used (Shift shift width to count) = registers_in to
registers_used (Push from) = Rsp ∷ []
registers_used (Pop to) = Rsp ∷ []
registers_used Leave = Rbp ∷ []
registers_used (Call target) = called target
registers_used (Jump target) = gone_to target
registers_used (JumpIf condition distance) = []
registers_used Return = Rsp ∷ []
registers_used (Nop operand) = []
registers_used Undefined = []

-- ** a word from memory

-- whether the instruction computes with the word that it loads, or goes where it says; all others only move it
unfoldable pub uses_loaded : Operation → Bool
uses_loaded (Compute arithmetic width operands) = true
uses_loaded (Test width left right) = true
uses_loaded (Multiply width to from) = true
uses_loaded (Shift shift width to count) = true
uses_loaded (Call target) = true
uses_loaded (Jump target) = true
uses_loaded Return = true
uses_loaded operation = false
