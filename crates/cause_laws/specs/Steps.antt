-- One step of a thread's meaning where no sequence begins, and what the instruction there does: its accesses, the words
-- and the flags that it computes with.
use Rattle.std.specs.Prelude.{ℕ, ◌-◌, ◌^◌, zero, suc, Bool, true, false, List, [], ◌∷◌, ◌++◌, map, Option, Some, None}
use Rattle.std.specs.Prelude.{option_map, Result, Ok, Err, if◌then◌else◌, is_err}
use Rattle.amd64_subset.specs.declared.instr.Arithmetic.{Arithmetic}
use Rattle.amd64_subset.specs.declared.instr.Arithmetic.TheVariants.{Compare}
use Rattle.amd64_subset.specs.declared.instr.Decoded.{Decoded}
use Rattle.amd64_subset.specs.declared.instr.Operation.{Operation}
use Rattle.amd64_subset.specs.declared.instr.Operation.TheVariants.{Move, StoreByte, ExtendByte, ExtendLong}
use Rattle.amd64_subset.specs.declared.instr.Operation.TheVariants.{LoadAddress, Compute, Test, Multiply, Shift, Push}
use Rattle.amd64_subset.specs.declared.instr.Operation.TheVariants.{Pop, Leave, Call, Jump, JumpIf, Return, Nop}
use Rattle.amd64_subset.specs.declared.instr.Operation.TheVariants.{Undefined}
use Rattle.amd64_subset.specs.declared.instr.Target.{Target}
use Rattle.amd64_subset.specs.declared.instr.Target.TheVariants.{Relative, Indirect}
use Rattle.amd64_subset.specs.declared.instr.Width.{Width}
use Rattle.amd64_subset.specs.declared.instr.Width.TheVariants.{Long, Quad}
use Rattle.amd64_subset.specs.declared.operand.Memory.{Memory}
use Rattle.amd64_subset.specs.declared.operand.Operand.{Operand}
use Rattle.amd64_subset.specs.declared.operand.Operand.TheVariants.{InMemory, Register as InRegister}
use Rattle.amd64_subset.specs.declared.operand.Operands.{Operands}
use Rattle.amd64_subset.specs.declared.operand.Operands.TheVariants.{IntoRegister, IntoMemory, Immediate}
use Rattle.guest_operands.specs.declared.state.State.{State}
use Rattle.guest_operands.specs.declared.stop.Stop.{Stop}
use Rattle.guest_operands.specs.Access.{Accesses, all_write, bytes_at, load_of, next_place}
use Rattle.guest_operands.specs.Use.{plus}
use Rattle.guest_machine.specs.Run.{Next, Ends, Stepping}
use Rattle.job_meaning.specs.declared.values.Byte.{Byte}
use Rattle.job_meaning.specs.declared.values.Flag.{Flag}
use Rattle.job_meaning.specs.declared.values.Word.{Word}
use Rattle.whole_meaning.specs.declared.marks.Mark.{Mark}
use Rattle.whole_meaning.specs.Threads.{ops}
use Rattle.step_laws.specs.Reads.{flags_read}
use Rattle.cause_laws.specs.Instructions.{is_nop, operand_of, registers_used, uses_loaded}
use Rattle.cause_laws.specs.Operands.{address_of, address_words, first_mark, number_in, offset_of, operand_address}
use Rattle.cause_laws.specs.Operands.{value_of}

-- ** the step

-- what a run does next: it is over, or there is a step left, or there is none
abbrev pub next_unless : {S : Type 0} → Option Stop → Stepping S → Bool → S → Next S
next_unless (Some stop) x left s = Ends stop
next_unless None x true s = x.step s
next_unless None x false s = Ends (x.spent s)

abbrev pub next_with : {S : Type 0} → Stepping S → Bool → S → Next S
next_with x left s = next_unless (x.over s) x left s

-- ** accesses

-- at an address, of so many bytes
pub data Access : Type 0 where
  Load : ℕ → ℕ → Access
  Store : ℕ → ℕ → Access

-- an access without an address is left out
abbrev pub load_at : ℕ → Option ℕ → List Access
load_at size None = []
load_at size (Some address) = Load address size ∷ []

abbrev pub store_at : ℕ → Option ℕ → List Access
store_at size None = []
store_at size (Some address) = Store address size ∷ []

abbrev pub bytes_of : Width → ℕ
bytes_of Long = 4
bytes_of Quad = 8

-- it: the instruction at the thread's place
module _ (mark : ℕ → Mark) (state : State Word Flag) (it : Decoded) where
  -- an address field supplies its operand, and no memory is accessed for it
  abbrev pub unless_supplied : Option ℕ → Option ℕ → Option ℕ
  unless_supplied None address = address
  unless_supplied (Some number) address = None

  abbrev pub place_of : Operand → Option ℕ
  place_of (InRegister register) = None
  place_of (InMemory memory) =
      unless_supplied (address_of (first_mark mark state it it.disp)) (operand_address mark state it memory)

  abbrev pub loads : ℕ → Operand → List Access
  loads size operand = load_at size (place_of operand)

  abbrev pub stores : ℕ → Operand → List Access
  stores size operand = store_at size (place_of operand)

  -- the eight bytes that %rsp points to, and those below it
  abbrev pub pops : List Access
  pops = load_at 8 (number_in state.registers.rsp)

  abbrev pub pushes : List Access
  pushes = store_at 8 (option_map (λ stack. plus stack (2 ^ 64 - 8)) (number_in state.registers.rsp))

  -- what is read and then written, even if a shift by 0 leaves it as it was; cmp writes nothing
  abbrev pub changes : ℕ → Operand → List Access
  changes size operand = loads size operand ++ stores size operand

  abbrev pub compares : Arithmetic → ℕ → Operand → List Access
  compares Compare size operand = loads size operand
  compares arithmetic size operand = changes size operand

  abbrev pub moves : ℕ → Operands → List Access
  moves size (IntoRegister to from) = loads size from
  moves size (IntoMemory to from) = stores size (InMemory to)
  moves size (Immediate to) = stores size to

  abbrev pub computes : Arithmetic → ℕ → Operands → List Access
  computes arithmetic size (IntoRegister to from) = loads size from
  computes arithmetic size (IntoMemory to from) = compares arithmetic size (InMemory to)
  computes arithmetic size (Immediate to) = compares arithmetic size to

  -- the target of a call is loaded before the return address is pushed
  abbrev pub calls : Target → List Access
  calls (Relative distance) = pushes
  calls (Indirect operand) = loads 8 operand ++ pushes

  abbrev pub jumps : Target → List Access
  jumps (Relative distance) = []
  jumps (Indirect operand) = loads 8 operand

  -- the accesses of each instruction, in their order
  unfoldable pub accesses_of : Operation → List Access
  accesses_of (Move width operands) = moves (bytes_of width) operands
  accesses_of (StoreByte to from) = stores 1 (InMemory to)
  accesses_of (ExtendByte width to from) = loads 1 from
  accesses_of (ExtendLong to from) = loads 4 from
  accesses_of (LoadAddress width to from) = []
  accesses_of (Compute arithmetic width operands) = computes arithmetic (bytes_of width) operands
  accesses_of (Test width left right) = loads (bytes_of width) left
  accesses_of (Multiply width to from) = loads (bytes_of width) from
  accesses_of (Shift shift width to count) = changes (bytes_of width) to
  accesses_of (Push from) = pushes
  accesses_of (Pop to) = pops
  accesses_of Leave = load_at 8 (number_in state.registers.rbp)
  accesses_of (Call target) = calls target
  accesses_of (Jump target) = jumps target
  accesses_of (JumpIf condition distance) = []
  accesses_of Return = pops
  accesses_of (Nop operand) = []
  accesses_of Undefined = []

  -- ** what it computes with

  abbrev pub register_words : Option ℕ → List Word
  register_words None = map (value_of mark state it) (registers_used it.instr.operation)
  register_words (Some number) = []

  abbrev pub operand_words : Bool → Option Memory → List Word
  operand_words nop None = []
  operand_words true (Some memory) = []
  operand_words false (Some memory) = address_words mark state it memory

-- ** accesses in a memory

-- so many addresses from one on
abbrev pub places_from : ℕ → ℕ → List ℕ
places_from address zero = []
places_from address (suc more) = address ∷ places_from (next_place address) more

abbrev pub word_in : {A : Type 0} → Result Word A → List Word
word_in (Ok word) = word ∷ []
word_in (Err why) = []

module _ {M : Type 0} (acc : Accesses M Byte) (memory : M) where
  -- the word that the first access loads, if each of its bytes may be read
  abbrev pub first_loaded : List Access → List Word
  first_loaded [] = []
  first_loaded (Load address size ∷ more) = word_in (load_of ops acc memory address size)
  first_loaded (Store address size ∷ more) = []

  -- all bytes of each access in their order; after a refused one there is no other
  abbrev pub touched_by : List Access → List ℕ
  touched_by [] = []
  touched_by (Load address size ∷ more) =
      places_from address size ++ (if is_err (bytes_at acc memory address size) then [] else touched_by more)
  touched_by (Store address size ∷ more) =
      places_from address size ++ (if is_err (all_write acc memory address size) then [] else touched_by more)

-- ** what an instruction computes with, and what it touches

module _ {M : Type 0} (acc : Accesses M Byte) (mark : ℕ → Mark) (state : State Word Flag) (memory : M) where
  -- the word from memory, if it computes with that
  abbrev pub loaded_words : Decoded → List Word
  loaded_words it = if uses_loaded it.instr.operation
      then first_loaded acc memory (accesses_of mark state it it.instr.operation)
      else []

  -- the words that it computes with: of registers, unless their one is the base that an offset field is added to; of
  -- its operand's address; and from memory
  abbrev pub words_of : Option Decoded → List Word
  words_of None = []
  words_of (Some it) =
      register_words mark state it (offset_of (first_mark mark state it it.imm))
      ++ (operand_words mark state it (is_nop it.instr.operation) (operand_of it.instr.operation) ++ loaded_words it)

  abbrev pub used_flags : Option Decoded → List Flag
  used_flags None = []
  used_flags (Some it) = flags_read it.instr.operation state.flags

  -- the data bytes that it touches
  abbrev pub places_of : Option Decoded → List ℕ
  places_of None = []
  places_of (Some it) = touched_by acc memory (accesses_of mark state it it.instr.operation)
