-- The opcode map (Intel's manual, volume 2, appendix A): what each opcode asks for and does. Each row is a line.
use Rattle.std.specs.Prelude.{ℕ, ◌/◌, ◌%◌, Bool, true, false, Option, Some, None, is_none, not, ◌&&◌, ◌||◌, ◌==◌}
use Rattle.std.specs.Prelude.{if◌then◌else◌}
use Rattle.std.specs.Option.{option_map}
use Rattle.amd64_subset.specs.declared.instr.Arithmetic.{Arithmetic}
use Rattle.amd64_subset.specs.declared.instr.Arithmetic.TheVariants.{Add, Or, And, Sub, Xor, Compare}
use Rattle.amd64_subset.specs.declared.instr.Shift.{Shift}
use Rattle.amd64_subset.specs.declared.instr.Shift.TheVariants.{Left, Right, RightSigned}
use Rattle.amd64_subset.specs.declared.instr.Condition.{Condition}
use Rattle.amd64_subset.specs.declared.instr.Condition.TheVariants.{Overflow, NotOverflow, Below, NotBelow, Equal}
use Rattle.amd64_subset.specs.declared.instr.Condition.TheVariants.{NotEqual, BelowOrEqual, Above, Sign, NotSign}
use Rattle.amd64_subset.specs.declared.instr.Condition.TheVariants.{Less, NotLess, LessOrEqual, Greater}
use Rattle.amd64_subset.specs.declared.instr.Operation.TheVariants.{Push, Pop, Leave, Return, Undefined}
use Rattle.amd64_subset.specs.declared.prefix.Rex.{Rex}
use Rattle.amd64_subset.specs.declared.prefix.Prefixes.{Prefixes}
use Rattle.amd64_words.specs.declared.size.Size.TheVariants.{Zero, One, Four, Eight}
use Rattle.amd64_subset.specs.declared.row.Row.{Row}
use Rattle.amd64_subset.specs.declared.row.Row.TheVariants as row
use Rattle.amd64_subset.specs.declared.row.Numbered.TheVariants as numbered
use Rattle.amd64_subset.specs.declared.row.Group.{Group}
use Rattle.amd64_subset.specs.declared.row.Group.TheVariants as group
use Rattle.amd64_subset.specs.declared.row.Action.{Action}
use Rattle.amd64_subset.specs.declared.row.Action.TheVariants.{StoreByte, Store, Load, MoveImmediate, ExtendByte}
use Rattle.amd64_subset.specs.declared.row.Action.TheVariants.{ExtendLong, LoadAddress, ComputeInto, ComputeFrom}
use Rattle.amd64_subset.specs.declared.row.Action.TheVariants.{ComputeImmediate, TestWith, MultiplyBy, ShiftBy}
use Rattle.amd64_subset.specs.declared.row.Action.TheVariants.{ShiftOnce, CallTarget, JumpTarget, Padding}
use Rattle.amd64_subset.specs.Register.{extended}
use Rattle.amd64_subset.specs.Prefix.{takes_only_nops, has_none}

-- the conditions, except the two parity conditions
unfoldable pub condition_of : ℕ → Option Condition
condition_of number =
    if number == 0 then Some Overflow
    else if number == 1 then Some NotOverflow
    else if number == 2 then Some Below
    else if number == 3 then Some NotBelow
    else if number == 4 then Some Equal
    else if number == 5 then Some NotEqual
    else if number == 6 then Some BelowOrEqual
    else if number == 7 then Some Above
    else if number == 8 then Some Sign
    else if number == 9 then Some NotSign
    else if number == 12 then Some Less
    else if number == 13 then Some NotLess
    else if number == 14 then Some LessOrEqual
    else if number == 15 then Some Greater
    else None

-- the one-byte opcodes with no register or condition in their low bits
unfoldable pub fixed_row_of : Bool → ℕ → Option Row
fixed_row_of wide opcode =
    if opcode == 0x88 then Some (row.Register StoreByte)  -- mov %r8, m
    else if opcode == 0x89 then Some (row.Register Store)  -- mov %r, rm
    else if opcode == 0x8b then Some (row.Register Load)  -- mov rm, %r
    else if opcode == 0xc7 then Some (row.Group group.Move Four)  -- mov $i, rm
    else if opcode == 0x63 then (if wide then Some (row.Register ExtendLong) else None)  -- movslq rm, %r
    else if opcode == 0x8d then Some (row.Register LoadAddress)  -- lea m, %r
    else if opcode == 0x01 then Some (row.Register (ComputeInto Add))  -- add %r, rm
    else if opcode == 0x03 then Some (row.Register (ComputeFrom Add))  -- add rm, %r
    else if opcode == 0x09 then Some (row.Register (ComputeInto Or))  -- or %r, rm
    else if opcode == 0x0b then Some (row.Register (ComputeFrom Or))  -- or rm, %r
    else if opcode == 0x21 then Some (row.Register (ComputeInto And))  -- and %r, rm
    else if opcode == 0x23 then Some (row.Register (ComputeFrom And))  -- and rm, %r
    else if opcode == 0x29 then Some (row.Register (ComputeInto Sub))  -- sub %r, rm
    else if opcode == 0x2b then Some (row.Register (ComputeFrom Sub))  -- sub rm, %r
    else if opcode == 0x31 then Some (row.Register (ComputeInto Xor))  -- xor %r, rm
    else if opcode == 0x33 then Some (row.Register (ComputeFrom Xor))  -- xor rm, %r
    else if opcode == 0x39 then Some (row.Register (ComputeInto Compare))  -- cmp %r, rm
    else if opcode == 0x3b then Some (row.Register (ComputeFrom Compare))  -- cmp rm, %r
    else if opcode == 0x81 then Some (row.Group group.Arithmetic Four)  -- add .. cmp $i, rm
    else if opcode == 0x83 then Some (row.Group group.Arithmetic One)  -- add .. cmp $i, rm
    else if opcode == 0x05 then Some (row.Number (numbered.Compute Add) Four)  -- add $i, %rax
    else if opcode == 0x0d then Some (row.Number (numbered.Compute Or) Four)  -- or $i, %rax
    else if opcode == 0x25 then Some (row.Number (numbered.Compute And) Four)  -- and $i, %rax
    else if opcode == 0x2d then Some (row.Number (numbered.Compute Sub) Four)  -- sub $i, %rax
    else if opcode == 0x35 then Some (row.Number (numbered.Compute Xor) Four)  -- xor $i, %rax
    else if opcode == 0x3d then Some (row.Number (numbered.Compute Compare) Four)  -- cmp $i, %rax
    else if opcode == 0x85 then Some (row.Register TestWith)  -- test %r, rm
    else if opcode == 0xc1 then Some (row.Group group.Shift One)  -- shl, shr, sar $i, rm
    else if opcode == 0xd1 then Some (row.Group group.ShiftOnce Zero)  -- shl, shr, sar rm
    else if opcode == 0xc9 then Some (row.Alone Leave)  -- leave
    else if opcode == 0xe8 then Some (row.Number numbered.Call Four)  -- call
    else if opcode == 0xff then Some (row.Group group.Target Zero)  -- call, jmp *rm
    else if opcode == 0xe9 then Some (row.Number numbered.Jump Four)  -- jmp
    else if opcode == 0xeb then Some (row.Number numbered.Jump One)  -- jmp
    else if opcode == 0xc3 then Some (row.Alone Return)  -- ret
    else if opcode == 0x90 then Some row.Nop  -- nop
    else None

-- the one-byte opcodes; those with a register or a condition in their low bits come first
unfoldable pub row_of : Rex → ℕ → Option Row
row_of rex opcode =
    if opcode / 16 == 0x4 then None  -- REX
    else if opcode / 8 == 0xa then Some (row.Alone (Push (extended (opcode % 8) rex.base)))  -- 50+r  push %r
    else if opcode / 8 == 0xb then Some (row.Alone (Pop (extended (opcode % 8) rex.base)))  -- 58+r  pop %r
    else if opcode / 8 == 0x17  -- b8+r  mov $i, %r
    then Some (row.Number (numbered.Move (extended (opcode % 8) rex.base)) (if rex.wide then Eight else Four))
    else if opcode / 16 == 0x7  -- 70+c  jcc
    then option_map (λ condition. row.Number (numbered.JumpIf condition) One) (condition_of (opcode % 16))
    else fixed_row_of rex.wide opcode

-- the second bytes of the opcodes that begin with 0f
unfoldable pub escaped_row_of : ℕ → Option Row
escaped_row_of opcode =
    if opcode / 16 == 0x8  -- 0f 80+c  jcc
    then option_map (λ condition. row.Number (numbered.JumpIf condition) Four) (condition_of (opcode % 16))
    else if opcode == 0xb6 then Some (row.Register ExtendByte)  -- movzbl rm, %r
    else if opcode == 0xaf then Some (row.Register MultiplyBy)  -- imul rm, %r
    else if opcode == 0x1f then Some (row.Group group.Nop Zero)  -- nop rm
    else if opcode == 0x0b then Some (row.Alone Undefined)  -- ud2
    else None

unfoldable pub arithmetic_of : ℕ → Option Arithmetic
arithmetic_of digit =
    if digit == 0 then Some Add
    else if digit == 1 then Some Or
    else if digit == 4 then Some And
    else if digit == 5 then Some Sub
    else if digit == 6 then Some Xor
    else if digit == 7 then Some Compare
    else None

unfoldable pub shift_of : ℕ → Option Shift
shift_of digit =
    if digit == 4 then Some Left
    else if digit == 5 then Some Right
    else if digit == 7 then Some RightSigned
    else None

-- what an opcode that ModRM's reg field completes does with this digit there
unfoldable pub group_action : Group → ℕ → Option Action
group_action group.Move digit = if digit == 0 then Some MoveImmediate else None
group_action group.Arithmetic digit = option_map ComputeImmediate (arithmetic_of digit)
group_action group.Shift digit = option_map ShiftBy (shift_of digit)
group_action group.ShiftOnce digit = option_map ShiftOnce (shift_of digit)
group_action group.Target digit = if digit == 2 then Some CallTarget else if digit == 4 then Some JumpTarget else None
group_action group.Nop digit = if digit == 0 then Some Padding else None

-- what an instruction with a ModRM byte does
abbrev pub action_of : Row → ℕ → Option Action
action_of (row.Register action) digit = Some action
action_of (row.Group group size) digit = group_action group digit
action_of _ digit = None

-- the instruction accesses its memory operand, and does not only name it
abbrev pub accesses : Row → Bool
accesses (row.Register LoadAddress) = false
accesses (row.Register action) = true
accesses (row.Group group.Nop size) = false
accesses (row.Group group size) = true
accesses _ = false

-- a nop that prefixes may pad
abbrev pub pads : Row → Bool
pads row.Nop = true
pads (row.Group group.Nop size) = true
pads _ = false

-- The opcode may follow these prefixes. FS stands only before an access of a memory operand. 66 and 2e stand only
-- before a nop, or 66 beside REX.W. nop has no REX, and endbr64 no prefix.
unfoldable pub takes : Row → Prefixes → Bool
takes row.EndBranch prefixes = has_none prefixes
takes row.Nop prefixes = not prefixes.thread_pointer && is_none prefixes.rex
takes other prefixes = (not prefixes.thread_pointer || accesses other) && (not (takes_only_nops prefixes) || pads other)
