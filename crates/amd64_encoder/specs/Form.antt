-- The form in which an instruction is written: its row of the opcode map, and the values of that row's fields. An
-- immediate or a distance that fits a short field takes the short one.
use Rattle.std.specs.Prelude.{ℕ, ◌+◌, ◌*◌, ◌%◌, Bool, true, false, nat_lt, nat_le, Some, None, ◌||◌, ◌==◌}
use Rattle.std.specs.Prelude.{if◌then◌else◌}
use Rattle.amd64_words.specs.declared.register.Register.{Register}
use Rattle.amd64_words.specs.declared.register.Register.TheVariants.{Rax}
use Rattle.amd64_subset.specs.declared.operand.Operand.{Operand}
use Rattle.amd64_subset.specs.declared.operand.Operand.TheVariants as operand
use Rattle.amd64_subset.specs.declared.operand.Operands.{Operands}
use Rattle.amd64_subset.specs.declared.operand.Operands.TheVariants.{IntoRegister, IntoMemory, Immediate}
use Rattle.amd64_subset.specs.declared.instr.Width.{Width}
use Rattle.amd64_subset.specs.declared.instr.Width.TheVariants.{Long, Quad}
use Rattle.amd64_subset.specs.declared.instr.Arithmetic.{Arithmetic}
use Rattle.amd64_subset.specs.declared.instr.Arithmetic.TheVariants.{Add, Or, And, Sub, Xor, Compare}
use Rattle.amd64_subset.specs.declared.instr.Shift.{Shift}
use Rattle.amd64_subset.specs.declared.instr.Shift.TheVariants.{Left, Right, RightSigned}
use Rattle.amd64_subset.specs.declared.instr.Condition.{Condition}
use Rattle.amd64_subset.specs.declared.instr.Condition.TheVariants as condition
use Rattle.amd64_subset.specs.declared.instr.Target.TheVariants.{Relative, Indirect}
use Rattle.amd64_subset.specs.declared.instr.Operation.{Operation}
use Rattle.amd64_subset.specs.declared.instr.Operation.TheVariants as operation
use Rattle.amd64_words.specs.declared.size.Size.{Size}
use Rattle.amd64_words.specs.declared.size.Size.TheVariants as size
use Rattle.amd64_encoder.specs.declared.form.Fields.TheVariants as fields
use Rattle.amd64_encoder.specs.declared.form.Form.{Form}
use Rattle.amd64_subset.specs.Register.{number_of}

-- the number is a sign-extended number of 8 bits, or of 32 bits
abbrev pub fits_byte : ℕ → Bool
fits_byte number = nat_lt number 0x80 || nat_le 0xffff_ffff_ffff_ff80 number

abbrev pub fits_long : ℕ → Bool
fits_long number = nat_lt number 0x8000_0000 || nat_le 0xffff_ffff_8000_0000 number

abbrev pub is_quad : Width → Bool
is_quad Long = false
is_quad Quad = true

-- an arithmetic operation, a shift and a condition by their numbers in an opcode
abbrev pub arithmetic_number : Arithmetic → ℕ
arithmetic_number Add = 0
arithmetic_number Or = 1
arithmetic_number And = 4
arithmetic_number Sub = 5
arithmetic_number Xor = 6
arithmetic_number Compare = 7

abbrev pub shift_number : Shift → ℕ
shift_number Left = 4
shift_number Right = 5
shift_number RightSigned = 7

abbrev pub condition_number : Condition → ℕ
condition_number condition.Overflow = 0
condition_number condition.NotOverflow = 1
condition_number condition.Below = 2
condition_number condition.NotBelow = 3
condition_number condition.Equal = 4
condition_number condition.NotEqual = 5
condition_number condition.BelowOrEqual = 6
condition_number condition.Above = 7
condition_number condition.Sign = 8
condition_number condition.NotSign = 9
condition_number condition.Less = 12
condition_number condition.NotLess = 13
condition_number condition.LessOrEqual = 14
condition_number condition.Greater = 15

-- an opcode followed by a number alone
abbrev pub with_number : ℕ → Size → ℕ → Form
with_number opcode size number = record {
  escaped = false;
  opcode = opcode;
  wide = false;
  low_byte = false;
  fields = fields.Bare;
  size = size;
  number = number;
}

abbrev pub low_bits : Register → ℕ
low_bits register = number_of register % 8

-- an opcode with a register in its low bits
abbrev pub with_low : ℕ → Register → Form
with_low opcode register =
    record (with_number (opcode + low_bits register) size.Zero 0) { fields = fields.Low register }

-- an opcode with ModRM: a register or more of the opcode, and an operand
abbrev pub with_operand : ℕ → Bool → ℕ → Operand → Form
with_operand opcode wide field operand =
    record (with_number opcode size.Zero 0) { wide = wide; fields = fields.Selected field operand }

-- a move between registers or memory
abbrev pub two_operands : ℕ → Width → Operands → Form
two_operands opcode width (IntoRegister to (operand.Register from)) =
    with_operand (opcode + 1) (is_quad width) (number_of from) (operand.Register to)  -- %r, %r
two_operands opcode width (IntoRegister to (operand.InMemory from)) =
    with_operand (opcode + 3) (is_quad width) (number_of to) (operand.InMemory from)  -- m, %r
two_operands opcode width (IntoMemory to from) =
    with_operand (opcode + 1) (is_quad width) (number_of from) (operand.InMemory to)  -- %r, m
two_operands opcode width (Immediate to) = with_operand (opcode + 1) (is_quad width) 0 to

-- a move of a number
abbrev pub move_number : Width → Operand → ℕ → Form
move_number width (operand.InMemory to) number =
    record (with_operand 0xc7 (is_quad width) 0 (operand.InMemory to))
    { size = size.Four; number = number }  -- mov $i, m
move_number Long (operand.Register to) number =
    record (with_low 0xb8 to) { size = size.Four; number = number }  -- mov $i, %r
move_number Quad (operand.Register to) number =
    if fits_long number
    then record (with_operand 0xc7 true 0 (operand.Register to)) { size = size.Four; number = number }  -- mov $i, %r
    else record (with_low 0xb8 to) { wide = true; size = size.Eight; number = number }  -- movabs $i, %r

-- arithmetic with a number
abbrev pub compute_long : Arithmetic → Width → Operand → ℕ → Form
compute_long arithmetic width (operand.Register Rax) number =
    record (with_number (8 * arithmetic_number arithmetic + 5) size.Four number)
    { wide = is_quad width }  -- add .. cmp $i, %rax
compute_long arithmetic width other number =
    record (with_operand 0x81 (is_quad width) (arithmetic_number arithmetic) other)
    { size = size.Four; number = number }  -- add .. cmp $i, rm

abbrev pub compute_number : Arithmetic → Width → Operand → ℕ → Form
compute_number arithmetic width to number =
    if fits_byte number
    then record (with_operand 0x83 (is_quad width) (arithmetic_number arithmetic) to)
    { size = size.One; number = number }  -- add .. cmp $i, rm
    else compute_long arithmetic width to number

-- a shift; by 1 it has an opcode of its own
abbrev pub shifted : Shift → Width → Operand → ℕ → Form
shifted shift width to count =
    if count == 1 then with_operand 0xd1 (is_quad width) (shift_number shift) to  -- shl, shr, sar rm
    else record (with_operand 0xc1 (is_quad width) (shift_number shift) to)
    { size = size.One; number = count }  -- shl, shr, sar $i, rm

-- REX is written even if none of its bits is set: without it, numbers 4 to 7 would name %ah to %bh
abbrev pub needs_rex : Operand → Bool
needs_rex (operand.Register register) = nat_le 4 (number_of register)
needs_rex (operand.InMemory memory) = false

abbrev pub jump : ℕ → Form
jump distance =
    if fits_byte distance then with_number 0xeb size.One distance else with_number 0xe9 size.Four distance  -- jmp

abbrev pub jump_if : Condition → ℕ → Form
jump_if condition distance =
    if fits_byte distance then with_number (0x70 + condition_number condition) size.One distance  -- jcc
    else record (with_number (0x80 + condition_number condition) size.Four distance) { escaped = true }  -- jcc

-- the form of each instruction, a line each
abbrev pub other_form_of : Operation → Form
other_form_of (operation.Test width left right) =
    with_operand 0x85 (is_quad width) (number_of right) left  -- test %r, rm
other_form_of (operation.Multiply width to from) =
    record (with_operand 0xaf (is_quad width) (number_of to) from) { escaped = true }  -- imul rm, %r
other_form_of (operation.Shift shift width to count) = shifted shift width to count  -- shl, shr, sar
other_form_of (operation.Push from) = with_low 0x50 from  -- push %r
other_form_of (operation.Pop to) = with_low 0x58 to  -- pop %r
other_form_of operation.Leave = with_number 0xc9 size.Zero 0  -- leave
other_form_of (operation.Call (Relative distance)) = with_number 0xe8 size.Four distance  -- call
other_form_of (operation.Call (Indirect to)) = with_operand 0xff false 2 to  -- call *rm
other_form_of (operation.Jump (Relative distance)) = jump distance  -- jmp
other_form_of (operation.Jump (Indirect to)) = with_operand 0xff false 4 to  -- jmp *rm
other_form_of (operation.JumpIf condition distance) = jump_if condition distance  -- jcc
other_form_of operation.Return = with_number 0xc3 size.Zero 0  -- ret
other_form_of (operation.Nop None) = with_number 0x90 size.Zero 0  -- nop
other_form_of (operation.Nop (Some of)) = record (with_operand 0x1f false 0 of) { escaped = true }  -- nop rm
other_form_of other = record (with_number 0x0b size.Zero 0) { escaped = true }  -- ud2

unfoldable pub form_of : Operation → ℕ → Form
form_of (operation.Move width (Immediate to)) number = move_number width to number  -- mov $i, rm
form_of (operation.Move width operands) number = two_operands 0x88 width operands  -- mov
form_of (operation.StoreByte to from) number =
    record (with_operand 0x88 false (number_of from) (operand.InMemory to))
    { low_byte = nat_le 4 (number_of from) }  -- mov %r8, m
form_of (operation.ExtendByte width to from) number =
    record (with_operand 0xb6 (is_quad width) (number_of to) from)
    { escaped = true; low_byte = needs_rex from }  -- movzx rm, %r
form_of (operation.ExtendLong to from) number = with_operand 0x63 true (number_of to) from  -- movslq rm, %r
form_of (operation.LoadAddress width to from) number =
    with_operand 0x8d (is_quad width) (number_of to) (operand.InMemory from)  -- lea m, %r
form_of (operation.Compute arithmetic width (Immediate to)) number =
    compute_number arithmetic width to number  -- add .. cmp $i, rm
form_of (operation.Compute arithmetic width operands) number =
    two_operands (8 * arithmetic_number arithmetic) width operands  -- add .. cmp
form_of other number = other_form_of other
