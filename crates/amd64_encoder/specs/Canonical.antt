-- The spelling that is written: one with no redundant prefix, the shortest, and of those the one in
-- the first line of the opcode map. And which values are instructions that have a spelling at all.
use Rattle.std.specs.Prelude.{◌≡◌, ◌≢◌, ℕ, ◌+◌, ◌-◌, ◌*◌, ◌^◌, ◌/◌, ◌%◌, ◌<◌, ◌≤◌, ◌⊎◌, ◌&&◌, Bool, true, false, List}
use Rattle.std.specs.Prelude.{◌++◌, length, slice_index, Option, Some, None, IfSome, IsSomeAnd, not, ◌==◌}
use Rattle.std.specs.Prelude.{if◌then◌else◌}
use Rattle.std.specs.List.{list_all}
use Rattle.amd64_words.specs.declared.register.Register.TheVariants.{Rsp}
use Rattle.amd64_subset.specs.declared.operand.Base.{Base}
use Rattle.amd64_subset.specs.declared.operand.Base.TheVariants as base
use Rattle.amd64_subset.specs.declared.operand.Index.{Index}
use Rattle.amd64_subset.specs.declared.operand.Memory.{Memory}
use Rattle.amd64_subset.specs.declared.operand.Operand.{Operand}
use Rattle.amd64_subset.specs.declared.operand.Operand.TheVariants as operand
use Rattle.amd64_subset.specs.declared.operand.Operands.{Operands}
use Rattle.amd64_subset.specs.declared.operand.Operands.TheVariants.{IntoRegister, IntoMemory, Immediate}
use Rattle.amd64_subset.specs.declared.instr.Width.{Width}
use Rattle.amd64_subset.specs.declared.instr.Width.TheVariants.{Quad}
use Rattle.amd64_subset.specs.declared.instr.Target.TheVariants.{Relative, Indirect}
use Rattle.amd64_subset.specs.declared.instr.Operation.{Operation}
use Rattle.amd64_subset.specs.declared.instr.Operation.TheVariants as operation
use Rattle.amd64_subset.specs.declared.instr.Instr.{Instr}
use Rattle.amd64_subset.specs.declared.instr.Decoded.{Decoded}
use Rattle.amd64_subset.specs.declared.prefix.Rex.{Rex}
use Rattle.amd64_words.specs.declared.size.Size.TheVariants as size
use Rattle.amd64_subset.specs.declared.row.Row.{Row}
use Rattle.amd64_subset.specs.declared.row.Row.TheVariants as row
use Rattle.amd64_subset.specs.declared.row.Group.TheVariants as group
use Rattle.amd64_subset.specs.declared.row.Numbered.TheVariants as numbered
use Rattle.amd64_subset.specs.declared.row.Action.TheVariants as action
use Rattle.amd64_subset.specs.declared.meaning.Body.{Body}
use Rattle.amd64_subset.specs.Prefix.{rex_of, no_bits}
use Rattle.amd64_subset.specs.Row.{action_of}
use Rattle.amd64_subset.specs.Selectors.{has_sib, allowed}
use Rattle.amd64_subset.specs.Decoding.{decoded}
use Rattle.amd64_subset.specs.Spelling.{prefixes_of, HasParts, Spells}
use Rattle.amd64_encoder.specs.Form.{arithmetic_number}

-- ---- values that have a spelling

-- a number of 32 bits, sign-extended to 64
abbrev pub IsSignedLong : ℕ → Type 0
IsSignedLong number = (number < 2 ^ 31) ⊎ ((2 ^ 64 - 2 ^ 31 ≤ number) × (number < 2 ^ 64))

abbrev pub IsIndex : Index → Type 0
IsIndex index = index.register ≢ Rsp

-- an index is never %rsp, and %rip takes no index
abbrev pub IsAddress : Base → Option Index → Type 0
IsAddress base.NextInstruction index = index ≡ None
IsAddress base index = IfSome index IsIndex

-- a memory operand with this displacement
abbrev pub IsMemory : Memory → ℕ → Type 0
IsMemory memory displacement = IsAddress memory.base memory.index × IsSignedLong displacement

-- an operand with this displacement, 0 beside a register
abbrev pub IsOperand : Operand → ℕ → Type 0
IsOperand (operand.Register register) displacement = displacement ≡ 0
IsOperand (operand.InMemory memory) displacement = IsMemory memory displacement

-- FS does not stand before an operand that is only named
abbrev pub IsNamed : Operand → Type 0
IsNamed (operand.Register register) = Unit {0}
IsNamed (operand.InMemory memory) = memory.from_thread_pointer ≡ false

-- two operands, with this displacement
abbrev pub AreOperands : Operands → ℕ → Type 0
AreOperands (IntoRegister to from) displacement = IsOperand from displacement
AreOperands (IntoMemory to from) displacement = IsMemory to displacement
AreOperands (Immediate to) displacement = IsOperand to displacement

-- a number that is moved into a register of this width
abbrev pub IsMoved : Width → Operand → ℕ → Type 0
IsMoved Quad (operand.Register register) number = number < 2 ^ 64
IsMoved width operand number = IsSignedLong number

-- no displacement and no immediate: both are 0
abbrev pub HasNone : ℕ → ℕ → Type 0
HasNone displacement immediate = (displacement ≡ 0) × (immediate ≡ 0)

-- the operation with this displacement and this immediate
abbrev pub IsOperation : Operation → ℕ → ℕ → Type 0
IsOperation (operation.Move width (Immediate to)) displacement immediate =
    IsOperand to displacement × IsMoved width to immediate
IsOperation (operation.Move width operands) displacement immediate = AreOperands operands displacement × (immediate ≡ 0)
IsOperation (operation.StoreByte to from) displacement immediate = IsMemory to displacement × (immediate ≡ 0)
IsOperation (operation.ExtendByte width to from) displacement immediate = IsOperand from displacement × (immediate ≡ 0)
IsOperation (operation.ExtendLong to from) displacement immediate = IsOperand from displacement × (immediate ≡ 0)
IsOperation (operation.LoadAddress width to from) displacement immediate =
    IsMemory from displacement × (immediate ≡ 0) × (from.from_thread_pointer ≡ false)
IsOperation (operation.Compute arithmetic width (Immediate to)) displacement immediate =
    IsOperand to displacement × IsSignedLong immediate
IsOperation (operation.Compute arithmetic width operands) displacement immediate =
    AreOperands operands displacement × (immediate ≡ 0)
IsOperation (operation.Test width left right) displacement immediate = IsOperand left displacement × (immediate ≡ 0)
IsOperation (operation.Multiply width to from) displacement immediate = IsOperand from displacement × (immediate ≡ 0)
IsOperation (operation.Shift shift width to count) displacement immediate =
    IsOperand to displacement × (immediate ≡ 0) × (count < 2 ^ 8)
IsOperation (operation.Call (Relative distance)) displacement immediate =
    HasNone displacement immediate × IsSignedLong distance
IsOperation (operation.Call (Indirect to)) displacement immediate = IsOperand to displacement × (immediate ≡ 0)
IsOperation (operation.Jump (Relative distance)) displacement immediate =
    HasNone displacement immediate × IsSignedLong distance
IsOperation (operation.Jump (Indirect to)) displacement immediate = IsOperand to displacement × (immediate ≡ 0)
IsOperation (operation.JumpIf condition distance) displacement immediate =
    HasNone displacement immediate × IsSignedLong distance
IsOperation (operation.Nop (Some of)) displacement immediate = IsOperand of displacement × (immediate ≡ 0) × IsNamed of
IsOperation other displacement immediate = HasNone displacement immediate

-- the value is an instruction: some bytes spell it
unfoldable pub IsSpellable : Instr → Type 0
IsSpellable instr = IsOperation instr.operation instr.displacement instr.immediate

-- ---- no redundant prefix

-- the row reads REX.W
abbrev pub reads_wide : Row → Bool
reads_wide (row.Number (numbered.Move register) size) = true
reads_wide (row.Number (numbered.Compute arithmetic) size) = true
reads_wide (row.Register action.StoreByte) = false
reads_wide (row.Register action) = true
reads_wide (row.Group group.Target size) = false
reads_wide (row.Group group.Nop size) = false
reads_wide (row.Group group size) = true
reads_wide row = false

-- ModRM, and a SIB byte after it, name a base register: not %rip, and not no base
abbrev pub names_base : ℕ → ℕ → Bool
names_base modrm sib = not ((modrm / 64 == 0) && ((if has_sib modrm then sib % 8 else modrm % 8) == 5))

-- the bits of REX that a row reads, if these bytes follow the opcode
unfoldable pub bits_read : Row → List ℕ → Rex
bits_read (row.Register action) rest = record {
  wide = reads_wide (row.Register action);
  register = true;
  index = has_sib (slice_index rest 0);
  base = names_base (slice_index rest 0) (slice_index rest 1);
}
bits_read (row.Group group size) rest = record {
  wide = reads_wide (row.Group group size);
  register = false;
  index = has_sib (slice_index rest 0);
  base = names_base (slice_index rest 0) (slice_index rest 1);
}
bits_read (row.Number (numbered.Move register) size) rest =
    record { wide = true; register = false; index = false; base = true }
bits_read (row.Alone operation) rest = record { wide = false; register = false; index = false; base = true }
bits_read row rest = record { wide = reads_wide row; register = false; index = false; base = false }

-- each bit of the first stands in the second
abbrev pub AreAmong : Rex → Rex → Type 0
AreAmong some all =
    (some.wide ≡ true → all.wide ≡ true) × (some.register ≡ true → all.register ≡ true)
    × (some.index ≡ true → all.index ≡ true) × (some.base ≡ true → all.base ≡ true)

-- without REX the row can't have these operands: a register's low byte would be another register's second byte
abbrev pub AsksForRex : List ℕ → Row → List ℕ → Type 0
AsksForRex marks row rest =
    IfSome (action_of row ((slice_index rest 0 / 8) % 8))
    (λ action. allowed action (prefixes_of marks None) (slice_index rest 0) ≡ false)

-- REX has no bit that its row does not read, and all its bits are clear only if the row needs a REX
abbrev pub IsNeeded : List ℕ → Row → List ℕ → ℕ → Type 0
IsNeeded marks row rest byte =
    AreAmong (rex_of byte) (bits_read row rest) × (rex_of byte ≡ no_bits → AsksForRex marks row rest)

-- The prefixes are FS alone, if the operand needs it, and REX where it is needed. (66 and 2e change no instruction.)
pub record HasNoRedundant (bytes : List ℕ) (body : Body) (parts : HasParts bytes body) : Type 0 where
  pub marks : list_all (λ byte. byte == 0x64) parts.marks ≡ true
  pub rex : IfSome parts.rex (IsNeeded parts.marks parts.row parts.rest)

-- ---- the first line

-- An opcode's line in the table. Rows that do not share a line are in the order of amd64_subset's specs/Row: the
-- one-byte opcodes before those after 0f.
unfoldable pub line_of : Row → ℕ
line_of (row.Alone (operation.Push register)) = 0
line_of (row.Alone (operation.Pop register)) = 1
line_of (row.Number (numbered.Move register) size) = 2
line_of (row.Number (numbered.JumpIf condition) size.One) = 3
line_of (row.Register action.StoreByte) = 4
line_of (row.Register action.Store) = 5
line_of (row.Register action.Load) = 6
line_of (row.Group group.Move size) = 7
line_of (row.Register action.ExtendLong) = 8
line_of (row.Register action.LoadAddress) = 9
line_of (row.Register (action.ComputeInto arithmetic)) = 10 + 2 * arithmetic_number arithmetic
line_of (row.Register (action.ComputeFrom arithmetic)) = 11 + 2 * arithmetic_number arithmetic
line_of (row.Group group.Arithmetic size.Four) = 26
line_of (row.Group group.Arithmetic size) = 27
line_of (row.Number (numbered.Compute arithmetic) size) = 28 + arithmetic_number arithmetic
line_of (row.Register action.TestWith) = 36
line_of (row.Group group.Shift size) = 37
line_of (row.Group group.ShiftOnce size) = 38
line_of (row.Alone operation.Leave) = 39
line_of (row.Number numbered.Call size) = 40
line_of (row.Group group.Target size) = 41
line_of (row.Number numbered.Jump size.Four) = 42
line_of (row.Number numbered.Jump size) = 43
line_of (row.Alone operation.Return) = 44
line_of row.Nop = 45
line_of (row.Number (numbered.JumpIf condition) size) = 46
line_of (row.Register action.ExtendByte) = 47
line_of (row.Register action.MultiplyBy) = 48
line_of (row.Group group.Nop size) = 49
line_of other = 50

-- ---- the spelling that is written

-- The bytes spell this instruction with no redundant prefix. No spelling is shorter, and no equally short one stands
-- in an earlier line of the table.
pub record IsCanonical (instr : Instr) (bytes : List ℕ) : Type 0 where
  pub body : Body
  pub parts : HasParts bytes body
  pub instr-is : body.instr ≡ instr
  pub short : length bytes ≤ 15
  pub no_redundant : HasNoRedundant bytes body parts
  pub shortest : (other : List ℕ) (d : Decoded) → Spells other d → d.instr ≡ instr → length bytes ≤ length other
  pub first : (other : List ℕ) (d : Decoded) (spells : Spells other d) → d.instr ≡ instr → length other ≡ length bytes
      → line_of parts.row ≤ line_of spells.parts.row

-- Whatever follows these bytes, decoding gives the instruction and this length.
abbrev pub ReadsAs : Instr → ℕ → List ℕ → Type 0
ReadsAs instr len bytes = (tail : List ℕ) → IsSomeAnd (decoded (bytes ++ tail)) (λ d. (d.instr ≡ instr) × (d.len ≡ len))
