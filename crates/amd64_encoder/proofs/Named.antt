-- Which rows the opcodes of the forms name.
use Rattle.std.proofs.Common.{◌≡◌, ◌+◌, ◌*◌, ◌%◌, ◌<◌, Bool, true, false, [], ◌∷◌, Some, refl, arith}
use Rattle.amd64_words.specs.declared.register.Register.{Register}
use Rattle.amd64_words.specs.declared.register.Register.TheVariants.{Rax, Rcx, Rdx, Rbx, Rsp, Rbp, Rsi, Rdi, R8, R9}
use Rattle.amd64_words.specs.declared.register.Register.TheVariants.{R10, R11, R12, R13, R14, R15}
use Rattle.amd64_subset.specs.declared.instr.Arithmetic.{Arithmetic}
use Rattle.amd64_subset.specs.declared.instr.Arithmetic.TheVariants.{Add, Or, And, Sub, Xor, Compare}
use Rattle.amd64_subset.specs.declared.instr.Shift.{Shift}
use Rattle.amd64_subset.specs.declared.instr.Shift.TheVariants.{Left, Right, RightSigned}
use Rattle.amd64_subset.specs.declared.instr.Condition.{Condition}
use Rattle.amd64_subset.specs.declared.instr.Condition.TheVariants as condition
use Rattle.amd64_subset.specs.declared.instr.Operation.TheVariants as operation
use Rattle.amd64_subset.specs.declared.prefix.Rex.{Rex}
use Rattle.amd64_words.specs.declared.size.Size.TheVariants as size
use Rattle.amd64_subset.specs.declared.row.Row.TheVariants as row
use Rattle.amd64_subset.specs.declared.row.Numbered.TheVariants as numbered
use Rattle.amd64_subset.specs.declared.row.Action.TheVariants as action
use Rattle.amd64_subset.specs.Register.{register_of, number_of}
use Rattle.amd64_subset.specs.Row.{condition_of, row_of, fixed_row_of, escaped_row_of, arithmetic_of, shift_of}
use Rattle.amd64_subset.specs.Spelling.{named}
use Rattle.amd64_encoder.specs.Form.{arithmetic_number, shift_number, condition_number, low_bits}
use Rattle.amd64_encoder.specs.Writing.{is_high}
use Rattle.amd64_encoder.proofs.Digits.{bits}

pub push_row : (w r x : Bool) (register : Register)
    → named (bits w r x (is_high register)) ((0x50 + low_bits register) ∷ [])
    ≡ Some (row.Alone (operation.Push register))
unfolding named row_of fixed_row_of escaped_row_of register_of number_of
push_row w r x Rax = refl
push_row w r x Rcx = refl
push_row w r x Rdx = refl
push_row w r x Rbx = refl
push_row w r x Rsp = refl
push_row w r x Rbp = refl
push_row w r x Rsi = refl
push_row w r x Rdi = refl
push_row w r x R8 = refl
push_row w r x R9 = refl
push_row w r x R10 = refl
push_row w r x R11 = refl
push_row w r x R12 = refl
push_row w r x R13 = refl
push_row w r x R14 = refl
push_row w r x R15 = refl

pub pop_row : (w r x : Bool) (register : Register)
    → named (bits w r x (is_high register)) ((0x58 + low_bits register) ∷ [])
    ≡ Some (row.Alone (operation.Pop register))
unfolding named row_of fixed_row_of escaped_row_of register_of number_of
pop_row w r x Rax = refl
pop_row w r x Rcx = refl
pop_row w r x Rdx = refl
pop_row w r x Rbx = refl
pop_row w r x Rsp = refl
pop_row w r x Rbp = refl
pop_row w r x Rsi = refl
pop_row w r x Rdi = refl
pop_row w r x R8 = refl
pop_row w r x R9 = refl
pop_row w r x R10 = refl
pop_row w r x R11 = refl
pop_row w r x R12 = refl
pop_row w r x R13 = refl
pop_row w r x R14 = refl
pop_row w r x R15 = refl

pub move_long_row : (r x : Bool) (register : Register)
    → named (bits false r x (is_high register)) ((0xb8 + low_bits register) ∷ [])
    ≡ Some (row.Number (numbered.Move register) size.Four)
unfolding named row_of fixed_row_of escaped_row_of register_of number_of
move_long_row r x Rax = refl
move_long_row r x Rcx = refl
move_long_row r x Rdx = refl
move_long_row r x Rbx = refl
move_long_row r x Rsp = refl
move_long_row r x Rbp = refl
move_long_row r x Rsi = refl
move_long_row r x Rdi = refl
move_long_row r x R8 = refl
move_long_row r x R9 = refl
move_long_row r x R10 = refl
move_long_row r x R11 = refl
move_long_row r x R12 = refl
move_long_row r x R13 = refl
move_long_row r x R14 = refl
move_long_row r x R15 = refl

pub move_quad_row : (r x : Bool) (register : Register)
    → named (bits true r x (is_high register)) ((0xb8 + low_bits register) ∷ [])
    ≡ Some (row.Number (numbered.Move register) size.Eight)
unfolding named row_of fixed_row_of escaped_row_of register_of number_of
move_quad_row r x Rax = refl
move_quad_row r x Rcx = refl
move_quad_row r x Rdx = refl
move_quad_row r x Rbx = refl
move_quad_row r x Rsp = refl
move_quad_row r x Rbp = refl
move_quad_row r x Rsi = refl
move_quad_row r x Rdi = refl
move_quad_row r x R8 = refl
move_quad_row r x R9 = refl
move_quad_row r x R10 = refl
move_quad_row r x R11 = refl
move_quad_row r x R12 = refl
move_quad_row r x R13 = refl
move_quad_row r x R14 = refl
move_quad_row r x R15 = refl

pub into_row : (rex : Rex) (arithmetic : Arithmetic)
    → named rex ((8 * arithmetic_number arithmetic + 1) ∷ []) ≡ Some (row.Register (action.ComputeInto arithmetic))
unfolding named row_of fixed_row_of escaped_row_of
into_row rex Add = refl
into_row rex Or = refl
into_row rex And = refl
into_row rex Sub = refl
into_row rex Xor = refl
into_row rex Compare = refl

pub from_row : (rex : Rex) (arithmetic : Arithmetic)
    → named rex ((8 * arithmetic_number arithmetic + 3) ∷ []) ≡ Some (row.Register (action.ComputeFrom arithmetic))
unfolding named row_of fixed_row_of escaped_row_of
from_row rex Add = refl
from_row rex Or = refl
from_row rex And = refl
from_row rex Sub = refl
from_row rex Xor = refl
from_row rex Compare = refl

pub rax_row : (rex : Rex) (arithmetic : Arithmetic)
    → named rex ((8 * arithmetic_number arithmetic + 5) ∷ [])
    ≡ Some (row.Number (numbered.Compute arithmetic) size.Four)
unfolding named row_of fixed_row_of escaped_row_of
rax_row rex Add = refl
rax_row rex Or = refl
rax_row rex And = refl
rax_row rex Sub = refl
rax_row rex Xor = refl
rax_row rex Compare = refl

pub short_jump_row : (rex : Rex) (condition : Condition)
    → named rex ((0x70 + condition_number condition) ∷ []) ≡ Some (row.Number (numbered.JumpIf condition) size.One)
unfolding named row_of fixed_row_of escaped_row_of condition_of
short_jump_row rex condition.Overflow = refl
short_jump_row rex condition.NotOverflow = refl
short_jump_row rex condition.Below = refl
short_jump_row rex condition.NotBelow = refl
short_jump_row rex condition.Equal = refl
short_jump_row rex condition.NotEqual = refl
short_jump_row rex condition.BelowOrEqual = refl
short_jump_row rex condition.Above = refl
short_jump_row rex condition.Sign = refl
short_jump_row rex condition.NotSign = refl
short_jump_row rex condition.Less = refl
short_jump_row rex condition.NotLess = refl
short_jump_row rex condition.LessOrEqual = refl
short_jump_row rex condition.Greater = refl

pub long_jump_row : (rex : Rex) (condition : Condition)
    → named rex (0x0f ∷ (0x80 + condition_number condition) ∷ [])
    ≡ Some (row.Number (numbered.JumpIf condition) size.Four)
unfolding named row_of fixed_row_of escaped_row_of condition_of
long_jump_row rex condition.Overflow = refl
long_jump_row rex condition.NotOverflow = refl
long_jump_row rex condition.Below = refl
long_jump_row rex condition.NotBelow = refl
long_jump_row rex condition.Equal = refl
long_jump_row rex condition.NotEqual = refl
long_jump_row rex condition.BelowOrEqual = refl
long_jump_row rex condition.Above = refl
long_jump_row rex condition.Sign = refl
long_jump_row rex condition.NotSign = refl
long_jump_row rex condition.Less = refl
long_jump_row rex condition.NotLess = refl
long_jump_row rex condition.LessOrEqual = refl
long_jump_row rex condition.Greater = refl

pub arithmetic_digit : (arithmetic : Arithmetic) → arithmetic_of (arithmetic_number arithmetic % 8) ≡ Some arithmetic
unfolding arithmetic_of
arithmetic_digit Add = refl
arithmetic_digit Or = refl
arithmetic_digit And = refl
arithmetic_digit Sub = refl
arithmetic_digit Xor = refl
arithmetic_digit Compare = refl

pub arithmetic-lt : (arithmetic : Arithmetic) → arithmetic_number arithmetic < 8
arithmetic-lt Add = omega arith
arithmetic-lt Or = omega arith
arithmetic-lt And = omega arith
arithmetic-lt Sub = omega arith
arithmetic-lt Xor = omega arith
arithmetic-lt Compare = omega arith

pub shift_digit : (shift : Shift) → shift_of (shift_number shift % 8) ≡ Some shift
unfolding shift_of
shift_digit Left = refl
shift_digit Right = refl
shift_digit RightSigned = refl

pub shift-lt : (shift : Shift) → shift_number shift < 8
shift-lt Left = omega arith
shift-lt Right = omega arith
shift-lt RightSigned = omega arith
