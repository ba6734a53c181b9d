-- What the parts of an instruction's bytes mean together.
use Rattle.std.specs.Prelude.{ℕ, ◌+◌, ◌%◌, Bool, true, false, Option, Some, None, if◌then◌else◌}
use Rattle.amd64_words.specs.declared.register.Register.{Register}
use Rattle.amd64_words.specs.declared.register.Register.TheVariants.{Rax}
use Rattle.amd64_subset.specs.declared.operand.Memory.{Memory}
use Rattle.amd64_subset.specs.declared.operand.Operand.{Operand}
use Rattle.amd64_subset.specs.declared.operand.Operand.TheVariants as operand
use Rattle.amd64_subset.specs.declared.operand.Operands.{Operands}
use Rattle.amd64_subset.specs.declared.operand.Operands.TheVariants.{IntoRegister, IntoMemory, Immediate}
use Rattle.amd64_subset.specs.declared.instr.Width.{Width}
use Rattle.amd64_subset.specs.declared.instr.Width.TheVariants.{Long, Quad}
use Rattle.amd64_subset.specs.declared.instr.Target.TheVariants.{Relative, Indirect}
use Rattle.amd64_subset.specs.declared.instr.Operation.{Operation}
use Rattle.amd64_subset.specs.declared.instr.Operation.TheVariants as operation
use Rattle.amd64_subset.specs.declared.prefix.Prefixes.{Prefixes}
use Rattle.amd64_words.specs.declared.size.Size.{Size}
use Rattle.amd64_words.specs.declared.size.Size.TheVariants as size
use Rattle.amd64_subset.specs.declared.numbers.Numbers.{Numbers}
use Rattle.amd64_subset.specs.declared.row.Numbered.{Numbered}
use Rattle.amd64_subset.specs.declared.row.Numbered.TheVariants as numbered
use Rattle.amd64_subset.specs.declared.row.Action.{Action}
use Rattle.amd64_subset.specs.declared.row.Action.TheVariants.{StoreByte, Store, Load, MoveImmediate, ExtendByte}
use Rattle.amd64_subset.specs.declared.row.Action.TheVariants.{ExtendLong, LoadAddress, ComputeInto, ComputeFrom}
use Rattle.amd64_subset.specs.declared.row.Action.TheVariants.{ComputeImmediate, TestWith, MultiplyBy, ShiftBy}
use Rattle.amd64_subset.specs.declared.row.Action.TheVariants.{ShiftOnce, CallTarget, JumpTarget, Padding}
use Rattle.amd64_subset.specs.declared.selectors.Selectors.{Selectors}
use Rattle.amd64_subset.specs.declared.meaning.Body.{Body}
use Rattle.amd64_subset.specs.Number.{count_of}
use Rattle.amd64_subset.specs.Prefix.{bits_of}
use Rattle.amd64_subset.specs.Selectors.{displacement_size, register_in, memory_in, operand_in}

-- 64 bits with REX.W, else 32
abbrev pub width_of : Prefixes → Width
width_of prefixes = if (bits_of prefixes).wide then Quad else Long

-- how far before the end a four-byte field begins that this many bytes follow
abbrev pub from_end : Size → ℕ → Option ℕ
from_end size.Four behind = Some (behind + 4)
from_end size behind = None

-- an instruction that is an opcode alone
abbrev pub alone_body : Operation → Body
alone_body operation =
    record { instr = record { operation = operation; displacement = 0; immediate = 0 }; disp = None; imm = None }

-- the number is an immediate, not a distance
abbrev pub is_immediate : Numbered → Bool
is_immediate (numbered.Move register) = true
is_immediate (numbered.Compute arithmetic) = true
is_immediate action = false

abbrev pub numbered_operation : Numbered → Width → ℕ → Operation
numbered_operation numbered.Call width number = operation.Call (Relative number)
numbered_operation numbered.Jump width number = operation.Jump (Relative number)
numbered_operation (numbered.JumpIf condition) width number = operation.JumpIf condition number
numbered_operation (numbered.Move register) width number = operation.Move width (Immediate (operand.Register register))
numbered_operation (numbered.Compute arithmetic) width number =
    operation.Compute arithmetic width (Immediate (operand.Register Rax))

-- an instruction whose opcode is followed by a number alone
unfoldable pub numbered_body : Numbered → Width → Size → ℕ → Body
numbered_body action width size number =
    if is_immediate action
    then record {
      instr = record { operation = numbered_operation action width number; displacement = 0; immediate = number };
      disp = None;
      imm = from_end size 0;
    }
    else alone_body (numbered_operation action width number)

-- the action has an immediate
abbrev pub takes_immediate : Action → Bool
takes_immediate MoveImmediate = true
takes_immediate (ComputeImmediate arithmetic) = true
takes_immediate action = false

-- the operation writes the operand, or compares it, with the register
abbrev pub into_operand : Operand → Register → Operands
into_operand (operand.Register to) register = IntoRegister to (operand.Register register)
into_operand (operand.InMemory to) register = IntoMemory to register

-- What each action does, a line each. As in the manual's tables, r is the register in ModRM's reg field, rm the
-- operand, and m that operand where it lies in memory.
abbrev pub does : Action → Width → Register → Operand → Memory → ℕ → Operation
does StoreByte width r rm m count = operation.StoreByte m r  -- mov %r8, m
does Store width r rm m count = operation.Move width (into_operand rm r)  -- mov %r, rm
does Load width r rm m count = operation.Move width (IntoRegister r rm)  -- mov rm, %r
does MoveImmediate width r rm m count = operation.Move width (Immediate rm)  -- mov $i, rm
does ExtendByte width r rm m count = operation.ExtendByte width r rm  -- movzx rm, %r
does ExtendLong width r rm m count = operation.ExtendLong r rm  -- movslq rm, %r
does LoadAddress width r rm m count = operation.LoadAddress width r m  -- lea m, %r
does (ComputeInto kind) width r rm m count = operation.Compute kind width (into_operand rm r)  -- add .. cmp %r, rm
does (ComputeFrom kind) width r rm m count = operation.Compute kind width (IntoRegister r rm)  -- add .. cmp rm, %r
does (ComputeImmediate kind) width r rm m count = operation.Compute kind width (Immediate rm)  -- add .. cmp $i, rm
does TestWith width r rm m count = operation.Test width rm r  -- test %r, rm
does MultiplyBy width r rm m count = operation.Multiply width r rm  -- imul rm, %r
does (ShiftBy kind) width r rm m count = operation.Shift kind width rm count  -- shl .. sar $i, rm
does (ShiftOnce kind) width r rm m count = operation.Shift kind width rm 1  -- shl .. sar rm
does CallTarget width r rm m count = operation.Call (Indirect rm)  -- call *rm
does JumpTarget width r rm m count = operation.Jump (Indirect rm)  -- jmp *rm
does Padding width r rm m count = operation.Nop (Some rm)  -- nop rm

-- the same with the bytes' own operands, and with this count if it is a shift
unfoldable pub operation_of : Action → Prefixes → Selectors → ℕ → Operation
operation_of action prefixes selectors count =
    does action (width_of prefixes) (register_in prefixes selectors) (operand_in prefixes selectors)
    (memory_in prefixes selectors) count

-- an instruction with a ModRM byte, and an immediate of this size
unfoldable pub operand_body : Action → Prefixes → Selectors → Size → Numbers → Body
operand_body action prefixes selectors size numbers = record {
  instr = record {
    operation = operation_of action prefixes selectors (numbers.immediate % 256);
    displacement = numbers.displacement;
    immediate = if takes_immediate action then numbers.immediate else 0;
  };
  disp = from_end (displacement_size selectors) (count_of size);
  imm = if takes_immediate action then from_end size 0 else None;
}
