-- The data bytes that an instruction touches.
use Rattle.std.specs.Prelude.{ℕ, ◌-◌, ◌^◌, zero, suc, Bool, List, [], ◌∷◌, ◌++◌, Result, Ok, Err, Option, Some, None}
use Rattle.std.specs.Prelude.{if◌then◌else◌, is_err}
use Rattle.amd64_subset.specs.declared.instr.Width.{Width}
use Rattle.amd64_subset.specs.declared.instr.Arithmetic.{Arithmetic}
use Rattle.amd64_subset.specs.declared.instr.Arithmetic.TheVariants.{Compare}
use Rattle.amd64_subset.specs.declared.instr.Decoded.{Decoded}
use Rattle.amd64_subset.specs.Decoding.{decoded}
use Rattle.amd64_subset.specs.declared.instr.Operation.{Operation}
use Rattle.amd64_subset.specs.declared.instr.Operation.TheVariants.{Move, StoreByte, ExtendByte, ExtendLong}
use Rattle.amd64_subset.specs.declared.instr.Operation.TheVariants.{LoadAddress, Compute, Test, Multiply, Shift, Push}
use Rattle.amd64_subset.specs.declared.instr.Operation.TheVariants.{Pop, Leave, Call, Jump, JumpIf, Return, Nop}
use Rattle.amd64_subset.specs.declared.instr.Operation.TheVariants.{Undefined}
use Rattle.amd64_subset.specs.declared.instr.Target.TheVariants.{Relative, Indirect}
use Rattle.amd64_subset.specs.declared.operand.Operand.{Operand}
use Rattle.amd64_subset.specs.declared.operand.Operand.TheVariants.{InMemory, Register as InRegister}
use Rattle.amd64_subset.specs.declared.operand.Operands.TheVariants.{IntoRegister, IntoMemory, Immediate}
use Rattle.guest_arithmetic.specs.declared.cause.Cause.{Cause}
use Rattle.guest_arithmetic.specs.Cause.{used}
use Rattle.guest_arithmetic.specs.Values.{Operations}
use Rattle.guest_operands.specs.declared.frame.Frame.{Frame}
use Rattle.guest_operands.specs.declared.space.Size.{Size}
use Rattle.guest_operands.specs.declared.space.Size.TheVariants.{Byte, Long, Quad}
use Rattle.guest_operands.specs.declared.state.State.{State}
use Rattle.guest_machine.specs.declared.touch.Direction.{Direction}
use Rattle.guest_machine.specs.declared.touch.Direction.TheVariants.{Load, Store}
use Rattle.guest_machine.specs.declared.touch.Touch.{Touch}
use Rattle.guest_machine.specs.declared.touch.Touches.{Touches}
use Rattle.guest_operands.specs.Access.{Accesses, next_place, bytes_at, all_write, bytes_in, fetch_of}
use Rattle.guest_operands.specs.Operand.{address_of, size_for}
use Rattle.guest_operands.specs.Frame.{frame_of}
use Rattle.guest_operands.specs.Use.{plus}

-- an access at an address; left out if that is not a number
abbrev pub touch_at : Direction → Size → Result ℕ Cause → Option Touch
touch_at direction size (Ok address) = Some (record { direction = direction; size = size; address = address })
touch_at direction size (Err cause) = None

abbrev pub paired : Option Touch → Option Touch → Touches
paired first second = record { first = first; second = second }

module _ {W F B : Type 0} (ops : Operations W F B) (state : State W F) where
  -- the eight bytes below those that %rsp points to
  abbrev pub push_touch : Option Touch
  push_touch = touch_at Store Quad (used (λ stack. plus stack (2 ^ 64 - 8)) (ops.number_of state.registers.rsp))

module _ {W F B : Type 0} (ops : Operations W F B) (frame : Frame) (state : State W F) where
  -- the access to an operand, if it lies in memory
  abbrev pub operand_touch : Direction → Size → Operand → Option Touch
  operand_touch direction size (InRegister register) = None
  operand_touch direction size (InMemory memory) = touch_at direction size (address_of ops frame state memory)

  -- the accesses to an operand that is read and then written
  abbrev pub changed_touches : Width → Operand → Touches
  changed_touches width to = paired (operand_touch Load (size_for width) to) (operand_touch Store (size_for width) to)

  -- cmp writes nothing
  abbrev pub computed_touches : Arithmetic → Width → Operand → Touches
  computed_touches Compare width to = paired (operand_touch Load (size_for width) to) None
  computed_touches arithmetic width to = changed_touches width to

  -- an instruction's accesses in their order: stores come after loads, and a push last
  unfoldable pub touches_of : Operation → Touches
  touches_of (Move width (IntoRegister to from)) = paired (operand_touch Load (size_for width) from) None
  touches_of (Move width (IntoMemory to from)) = paired (operand_touch Store (size_for width) (InMemory to)) None
  touches_of (Move width (Immediate to)) = paired (operand_touch Store (size_for width) to) None
  touches_of (StoreByte to from) = paired (operand_touch Store Byte (InMemory to)) None
  touches_of (ExtendByte width to from) = paired (operand_touch Load Byte from) None
  touches_of (ExtendLong to from) = paired (operand_touch Load Long from) None
  touches_of (LoadAddress width to from) = paired None None
  touches_of (Compute arithmetic width (IntoRegister to from)) = paired (operand_touch Load (size_for width) from) None
  touches_of (Compute arithmetic width (IntoMemory to from)) = computed_touches arithmetic width (InMemory to)
  touches_of (Compute arithmetic width (Immediate to)) = computed_touches arithmetic width to
  touches_of (Test width left right) = paired (operand_touch Load (size_for width) left) None
  touches_of (Multiply width to from) = paired (operand_touch Load (size_for width) from) None
  touches_of (Shift shift width to count) = changed_touches width to
  touches_of (Push from) = paired (push_touch ops state) None
  touches_of (Pop to) = paired (touch_at Load Quad (ops.number_of state.registers.rsp)) None
  touches_of Leave = paired (touch_at Load Quad (ops.number_of state.registers.rbp)) None
  touches_of (Call (Relative distance)) = paired (push_touch ops state) None
  touches_of (Call (Indirect operand)) = paired (operand_touch Load Quad operand) (push_touch ops state)
  touches_of (Jump (Relative distance)) = paired None None
  touches_of (Jump (Indirect operand)) = paired (operand_touch Load Quad operand) None
  touches_of (JumpIf condition distance) = paired None None
  touches_of Return = paired (touch_at Load Quad (ops.number_of state.registers.rsp)) None
  touches_of (Nop operand) = paired None None
  touches_of Undefined = paired None None

-- the accesses of the decoded instruction, if there is one
abbrev pub touches_if : {W F B : Type 0} → Operations W F B → (ℕ → Bool) → Option Decoded → State W F → Touches
touches_if ops is_field None state = paired None None
touches_if ops is_field (Some it) state = touches_of ops (frame_of is_field state.place it) state it.instr.operation

unfoldable pub next_touches : {W F B M : Type 0} → Operations W F B → Accesses M B → (ℕ → Bool) → State W F → M
    → Touches
next_touches ops acc is_field state memory = touches_if ops is_field (decoded (fetch_of acc memory state.place)) state

-- this many addresses from one on
abbrev pub places_from : ℕ → ℕ → List ℕ
places_from address zero = []
places_from address (suc size) = address ∷ places_from (next_place address) size

module _ {M B : Type 0} (acc : Accesses M B) (memory : M) where
  -- whether an access of this many bytes is refused
  abbrev pub refuses : Direction → ℕ → ℕ → Bool
  refuses Load address size = is_err (bytes_at acc memory address size)
  refuses Store address size = is_err (all_write acc memory address size)

  -- an access's bytes, and those after it unless it is refused
  abbrev pub touched_then : Option Touch → List ℕ → List ℕ
  touched_then None more = more
  touched_then (Some touch) more =
      places_from touch.address (bytes_in touch.size)
      ++ (if refuses touch.direction touch.address (bytes_in touch.size) then [] else more)

  -- all bytes of each access in their order; the first refused access is the last one, with all of its bytes
  unfoldable pub touched : Touches → List ℕ
  touched it = touched_then it.first (touched_then it.second [])
