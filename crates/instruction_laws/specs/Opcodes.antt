-- The opcodes as the manual's maps have them, by their bytes (Intel's manual, volume 2, appendix A, tables A-2 and A-3;
-- which register a low digit names, with REX.B or without: table 3-1). They watch `row_of` and `escaped_row_of`
-- (amd64_subset). `instruction_tests` has the bytes of an assembler beside them.
use Rattle.std.specs.Prelude.{◌≡◌, ◌++◌, ℕ, ◌<◌, ◌==◌, Bool, true, false, List, [], ◌∷◌, map, Option, Some, None}
use Rattle.std.specs.Prelude.{if◌then◌else◌}
use Rattle.amd64_subset.specs.declared.instr.Arithmetic.TheVariants.{Add, Or, And, Sub, Xor, Compare}
use Rattle.amd64_subset.specs.declared.instr.Condition.TheVariants.{Overflow, NotOverflow, Below, NotBelow, Equal}
use Rattle.amd64_subset.specs.declared.instr.Condition.TheVariants.{NotEqual, BelowOrEqual, Above, Sign, NotSign}
use Rattle.amd64_subset.specs.declared.instr.Condition.TheVariants.{Less, NotLess, LessOrEqual, Greater}
use Rattle.amd64_subset.specs.declared.instr.Operation.TheVariants.{Push, Pop, Leave, Return, Undefined}
use Rattle.amd64_subset.specs.declared.prefix.Rex.{Rex}
use Rattle.amd64_words.specs.declared.size.Size.TheVariants.{Zero, One, Four, Eight}
use Rattle.amd64_subset.specs.declared.instr.Shift.TheVariants.{Left, Right, RightSigned}
use Rattle.amd64_subset.specs.declared.row.Row.{Row}
use Rattle.amd64_subset.specs.declared.row.Action.{Action}
use Rattle.amd64_subset.specs.declared.row.Group.{Group}
use Rattle.amd64_subset.specs.declared.row.Row.TheVariants as row
use Rattle.amd64_subset.specs.declared.row.Numbered.TheVariants as numbered
use Rattle.amd64_subset.specs.declared.row.Group.TheVariants as group
use Rattle.amd64_subset.specs.declared.row.Action.TheVariants.{StoreByte, Store, Load, MoveImmediate, ExtendByte}
use Rattle.amd64_subset.specs.declared.row.Action.TheVariants.{ExtendLong, LoadAddress, ComputeInto, ComputeFrom}
use Rattle.amd64_subset.specs.declared.row.Action.TheVariants.{ComputeImmediate, TestWith, MultiplyBy, ShiftBy}
use Rattle.amd64_subset.specs.declared.row.Action.TheVariants.{ShiftOnce, CallTarget, JumpTarget, Padding}
use Rattle.amd64_words.specs.declared.register.Register.TheVariants.{Rax, Rcx, Rdx, Rbx, Rsp, Rbp, Rsi, Rdi, R8, R9}
use Rattle.amd64_words.specs.declared.register.Register.TheVariants.{R10, R11, R12, R13, R14, R15}
use Rattle.amd64_subset.specs.Row.{row_of, escaped_row_of, group_action}

abbrev pub found : ℕ → List (ℕ × Row) → Option Row
found opcode [] = None
found opcode (it ∷ rest) = if it.0 == opcode then Some it.1 else found opcode rest

-- one byte
abbrev pub one_byte : List (ℕ × Row)
one_byte =
    (0x01, row.Register (ComputeInto Add))
    ∷ (0x03, row.Register (ComputeFrom Add))
    ∷ (0x05, row.Number (numbered.Compute Add) Four)
    ∷ (0x09, row.Register (ComputeInto Or))
    ∷ (0x0b, row.Register (ComputeFrom Or))
    ∷ (0x0d, row.Number (numbered.Compute Or) Four)
    ∷ (0x21, row.Register (ComputeInto And))
    ∷ (0x23, row.Register (ComputeFrom And))
    ∷ (0x25, row.Number (numbered.Compute And) Four)
    ∷ (0x29, row.Register (ComputeInto Sub))
    ∷ (0x2b, row.Register (ComputeFrom Sub))
    ∷ (0x2d, row.Number (numbered.Compute Sub) Four)
    ∷ (0x31, row.Register (ComputeInto Xor))
    ∷ (0x33, row.Register (ComputeFrom Xor))
    ∷ (0x35, row.Number (numbered.Compute Xor) Four)
    ∷ (0x39, row.Register (ComputeInto Compare))
    ∷ (0x3b, row.Register (ComputeFrom Compare))
    ∷ (0x3d, row.Number (numbered.Compute Compare) Four)
    ∷ (0x70, row.Number (numbered.JumpIf Overflow) One)
    ∷ (0x71, row.Number (numbered.JumpIf NotOverflow) One)
    ∷ (0x72, row.Number (numbered.JumpIf Below) One)
    ∷ (0x73, row.Number (numbered.JumpIf NotBelow) One)
    ∷ (0x74, row.Number (numbered.JumpIf Equal) One)
    ∷ (0x75, row.Number (numbered.JumpIf NotEqual) One)
    ∷ (0x76, row.Number (numbered.JumpIf BelowOrEqual) One)
    ∷ (0x77, row.Number (numbered.JumpIf Above) One)
    ∷ (0x78, row.Number (numbered.JumpIf Sign) One)
    ∷ (0x79, row.Number (numbered.JumpIf NotSign) One)
    ∷ (0x7c, row.Number (numbered.JumpIf Less) One)
    ∷ (0x7d, row.Number (numbered.JumpIf NotLess) One)
    ∷ (0x7e, row.Number (numbered.JumpIf LessOrEqual) One)
    ∷ (0x7f, row.Number (numbered.JumpIf Greater) One)
    ∷ (0x81, row.Group group.Arithmetic Four)
    ∷ (0x83, row.Group group.Arithmetic One)
    ∷ (0x85, row.Register TestWith)
    ∷ (0x88, row.Register StoreByte)
    ∷ (0x89, row.Register Store)
    ∷ (0x8b, row.Register Load)
    ∷ (0x8d, row.Register LoadAddress)
    ∷ (0x90, row.Nop)
    ∷ (0xc1, row.Group group.Shift One)
    ∷ (0xc3, row.Alone Return)
    ∷ (0xc7, row.Group group.Move Four)
    ∷ (0xc9, row.Alone Leave)
    ∷ (0xd1, row.Group group.ShiftOnce Zero)
    ∷ (0xe8, row.Number numbered.Call Four)
    ∷ (0xe9, row.Number numbered.Jump Four)
    ∷ (0xeb, row.Number numbered.Jump One)
    ∷ (0xff, row.Group group.Target Zero)
    ∷ []

-- 50 to 5f, which name a register, without REX.B and with it
abbrev pub stack : Bool → List (ℕ × Row)
stack false =
    (0x50, row.Alone (Push Rax))
    ∷ (0x51, row.Alone (Push Rcx))
    ∷ (0x52, row.Alone (Push Rdx))
    ∷ (0x53, row.Alone (Push Rbx))
    ∷ (0x54, row.Alone (Push Rsp))
    ∷ (0x55, row.Alone (Push Rbp))
    ∷ (0x56, row.Alone (Push Rsi))
    ∷ (0x57, row.Alone (Push Rdi))
    ∷ (0x58, row.Alone (Pop Rax))
    ∷ (0x59, row.Alone (Pop Rcx))
    ∷ (0x5a, row.Alone (Pop Rdx))
    ∷ (0x5b, row.Alone (Pop Rbx))
    ∷ (0x5c, row.Alone (Pop Rsp))
    ∷ (0x5d, row.Alone (Pop Rbp))
    ∷ (0x5e, row.Alone (Pop Rsi))
    ∷ (0x5f, row.Alone (Pop Rdi))
    ∷ []
stack true =
    (0x50, row.Alone (Push R8))
    ∷ (0x51, row.Alone (Push R9))
    ∷ (0x52, row.Alone (Push R10))
    ∷ (0x53, row.Alone (Push R11))
    ∷ (0x54, row.Alone (Push R12))
    ∷ (0x55, row.Alone (Push R13))
    ∷ (0x56, row.Alone (Push R14))
    ∷ (0x57, row.Alone (Push R15))
    ∷ (0x58, row.Alone (Pop R8))
    ∷ (0x59, row.Alone (Pop R9))
    ∷ (0x5a, row.Alone (Pop R10))
    ∷ (0x5b, row.Alone (Pop R11))
    ∷ (0x5c, row.Alone (Pop R12))
    ∷ (0x5d, row.Alone (Pop R13))
    ∷ (0x5e, row.Alone (Pop R14))
    ∷ (0x5f, row.Alone (Pop R15))
    ∷ []

-- b8 to bf: an immediate of four bytes, or eight with REX.W
abbrev pub immediates : Bool → Bool → List (ℕ × Row)
immediates false false =
    (0xb8, row.Number (numbered.Move Rax) Four)
    ∷ (0xb9, row.Number (numbered.Move Rcx) Four)
    ∷ (0xba, row.Number (numbered.Move Rdx) Four)
    ∷ (0xbb, row.Number (numbered.Move Rbx) Four)
    ∷ (0xbc, row.Number (numbered.Move Rsp) Four)
    ∷ (0xbd, row.Number (numbered.Move Rbp) Four)
    ∷ (0xbe, row.Number (numbered.Move Rsi) Four)
    ∷ (0xbf, row.Number (numbered.Move Rdi) Four)
    ∷ []
immediates false true =
    (0xb8, row.Number (numbered.Move R8) Four)
    ∷ (0xb9, row.Number (numbered.Move R9) Four)
    ∷ (0xba, row.Number (numbered.Move R10) Four)
    ∷ (0xbb, row.Number (numbered.Move R11) Four)
    ∷ (0xbc, row.Number (numbered.Move R12) Four)
    ∷ (0xbd, row.Number (numbered.Move R13) Four)
    ∷ (0xbe, row.Number (numbered.Move R14) Four)
    ∷ (0xbf, row.Number (numbered.Move R15) Four)
    ∷ []
immediates true false =
    (0xb8, row.Number (numbered.Move Rax) Eight)
    ∷ (0xb9, row.Number (numbered.Move Rcx) Eight)
    ∷ (0xba, row.Number (numbered.Move Rdx) Eight)
    ∷ (0xbb, row.Number (numbered.Move Rbx) Eight)
    ∷ (0xbc, row.Number (numbered.Move Rsp) Eight)
    ∷ (0xbd, row.Number (numbered.Move Rbp) Eight)
    ∷ (0xbe, row.Number (numbered.Move Rsi) Eight)
    ∷ (0xbf, row.Number (numbered.Move Rdi) Eight)
    ∷ []
immediates true true =
    (0xb8, row.Number (numbered.Move R8) Eight)
    ∷ (0xb9, row.Number (numbered.Move R9) Eight)
    ∷ (0xba, row.Number (numbered.Move R10) Eight)
    ∷ (0xbb, row.Number (numbered.Move R11) Eight)
    ∷ (0xbc, row.Number (numbered.Move R12) Eight)
    ∷ (0xbd, row.Number (numbered.Move R13) Eight)
    ∷ (0xbe, row.Number (numbered.Move R14) Eight)
    ∷ (0xbf, row.Number (numbered.Move R15) Eight)
    ∷ []

-- 63 wants REX.W
abbrev pub signed : Bool → List (ℕ × Row)
signed false = []
signed true = (0x63, row.Register ExtendLong) ∷ []

-- two bytes, of which the first is 0f
abbrev pub two_bytes : List (ℕ × Row)
two_bytes =
    (0x0b, row.Alone Undefined)
    ∷ (0x1f, row.Group group.Nop Zero)
    ∷ (0x80, row.Number (numbered.JumpIf Overflow) Four)
    ∷ (0x81, row.Number (numbered.JumpIf NotOverflow) Four)
    ∷ (0x82, row.Number (numbered.JumpIf Below) Four)
    ∷ (0x83, row.Number (numbered.JumpIf NotBelow) Four)
    ∷ (0x84, row.Number (numbered.JumpIf Equal) Four)
    ∷ (0x85, row.Number (numbered.JumpIf NotEqual) Four)
    ∷ (0x86, row.Number (numbered.JumpIf BelowOrEqual) Four)
    ∷ (0x87, row.Number (numbered.JumpIf Above) Four)
    ∷ (0x88, row.Number (numbered.JumpIf Sign) Four)
    ∷ (0x89, row.Number (numbered.JumpIf NotSign) Four)
    ∷ (0x8c, row.Number (numbered.JumpIf Less) Four)
    ∷ (0x8d, row.Number (numbered.JumpIf NotLess) Four)
    ∷ (0x8e, row.Number (numbered.JumpIf LessOrEqual) Four)
    ∷ (0x8f, row.Number (numbered.JumpIf Greater) Four)
    ∷ (0xaf, row.Register MultiplyBy)
    ∷ (0xb6, row.Register ExtendByte)
    ∷ []

abbrev pub OneByteIs : Bool → Bool → Rex → ℕ → Type 0
OneByteIs wide base rex opcode =
    row_of rex opcode ≡ found opcode (signed wide ++ (stack base ++ (immediates wide base ++ one_byte)))

-- what the digit in ModRM's reg field makes of an opcode that it completes, from /0 to /7 (table A-6)
abbrev pub digits : Group → List (Option Action)
digits group.Move = Some MoveImmediate ∷ None ∷ None ∷ None ∷ None ∷ None ∷ None ∷ None ∷ []
digits group.Arithmetic =
    Some (ComputeImmediate Add) ∷ Some (ComputeImmediate Or) ∷ None ∷ None ∷ Some (ComputeImmediate And)
    ∷ Some (ComputeImmediate Sub) ∷ Some (ComputeImmediate Xor) ∷ Some (ComputeImmediate Compare) ∷ []
digits group.Shift =
    None ∷ None ∷ None ∷ None ∷ Some (ShiftBy Left) ∷ Some (ShiftBy Right) ∷ None ∷ Some (ShiftBy RightSigned) ∷ []
digits group.ShiftOnce =
    None ∷ None ∷ None ∷ None ∷ Some (ShiftOnce Left) ∷ Some (ShiftOnce Right) ∷ None
    ∷ Some (ShiftOnce RightSigned) ∷ []
digits group.Target = None ∷ None ∷ Some CallTarget ∷ None ∷ Some JumpTarget ∷ None ∷ None ∷ None ∷ []
digits group.Nop = Some Padding ∷ None ∷ None ∷ None ∷ None ∷ None ∷ None ∷ None ∷ []

abbrev pub DigitsAreTheManuals : Type 0
DigitsAreTheManuals = (it : Group) → map (group_action it) (0 ∷ 1 ∷ 2 ∷ 3 ∷ 4 ∷ 5 ∷ 6 ∷ 7 ∷ []) ≡ digits it

-- no byte is an opcode of the subset besides
abbrev pub OpcodesAreTheManuals : Type 0
OpcodesAreTheManuals = (opcode : ℕ) → opcode < 256
    → ((rex : Rex) → OneByteIs rex.wide rex.base rex opcode) × (escaped_row_of opcode ≡ found opcode two_bytes)
