-- One instruction, and one step of the machine (Intel's manual, volume 2). A stop is found before anything changes.
use Rattle.std.specs.Prelude.{ℕ, ◌-◌, ◌%◌, ◌^◌, Bool, false, Result, Ok, Err, Option, Some, None, if◌then◌else◌}
use Rattle.amd64_words.specs.declared.register.Register.{Register}
use Rattle.amd64_subset.specs.Register.{are_same}
use Rattle.amd64_subset.specs.Number.{signed_long_of}
use Rattle.amd64_subset.specs.declared.instr.Width.{Width}
use Rattle.amd64_subset.specs.declared.instr.Width.TheVariants.{Long, Quad}
use Rattle.amd64_subset.specs.declared.instr.Arithmetic.{Arithmetic}
use Rattle.amd64_subset.specs.declared.instr.Arithmetic.TheVariants.{Add, And, Sub, Xor, Compare}
use Rattle.amd64_subset.specs.declared.instr.Shift.{Shift}
use Rattle.amd64_subset.specs.declared.instr.Condition.{Condition}
use Rattle.amd64_subset.specs.declared.instr.Target.{Target}
use Rattle.amd64_subset.specs.declared.instr.Target.TheVariants.{Relative, Indirect}
use Rattle.amd64_subset.specs.declared.operand.Memory.{Memory}
use Rattle.amd64_subset.specs.declared.operand.Operand.{Operand}
use Rattle.amd64_subset.specs.declared.operand.Operand.TheVariants.{InMemory, Register as InRegister}
use Rattle.amd64_subset.specs.declared.operand.Operands.{Operands}
use Rattle.amd64_subset.specs.declared.operand.Operands.TheVariants.{IntoRegister, IntoMemory, Immediate}
use Rattle.amd64_subset.specs.declared.instr.Operation.{Operation}
use Rattle.amd64_subset.specs.declared.instr.Operation.TheVariants.{Move, StoreByte, ExtendByte, ExtendLong}
use Rattle.amd64_subset.specs.declared.instr.Operation.TheVariants.{LoadAddress, Compute, Test, Multiply}
use Rattle.amd64_subset.specs.declared.instr.Operation.TheVariants.{Shift as ShiftBy, Push, Pop, Leave, Call, Jump}
use Rattle.amd64_subset.specs.declared.instr.Operation.TheVariants.{JumpIf, Return, Nop, Undefined}
use Rattle.amd64_subset.specs.declared.instr.Decoded.{Decoded}
use Rattle.amd64_subset.specs.Decoding.{decoded}
use Rattle.guest_arithmetic.specs.declared.cause.Cause.{Cause}
use Rattle.guest_arithmetic.specs.declared.effect.Change.TheVariants.{Unsettled}
use Rattle.guest_arithmetic.specs.declared.effect.Changes.{Changes}
use Rattle.guest_arithmetic.specs.declared.effect.Effect.{Effect}
use Rattle.guest_operands.specs.declared.frame.Frame.{Frame}
use Rattle.guest_operands.specs.declared.slot.Slot.{Slot}
use Rattle.guest_operands.specs.declared.slot.Slot.TheVariants.{Register as OfSlot}
use Rattle.guest_operands.specs.declared.state.State.{State}
use Rattle.guest_operands.specs.declared.stop.Stop.{Stop}
use Rattle.guest_operands.specs.declared.stop.Stop.TheVariants.{Code}
use Rattle.guest_operands.specs.Access.{Accesses, load_of, store_of, fetch_of}
use Rattle.guest_arithmetic.specs.Arithmetic.{low, bits_of, compute_effect, product_effect, shift_effect, each_flag}
use Rattle.guest_arithmetic.specs.Flags.{with_changes, condition_of}
use Rattle.guest_arithmetic.specs.Cause.{used}
use Rattle.guest_operands.specs.Frame.{frame_of}
use Rattle.guest_operands.specs.Operand.{size_of, charged, unmoved, carried_as, address_of, kept, kept_byte, number_at}
use Rattle.guest_operands.specs.Operand.{carried, taken, put}
use Rattle.guest_operands.specs.State.{register_of, with_word, with_stack, at_place}
use Rattle.guest_operands.specs.Use.{◌>>=◌, plus, clean, there, After, left}
use Rattle.guest_arithmetic.specs.Values.{Operations}

-- sub or xor of a register with itself, which is 0 whatever it held
unfoldable pub is_cleared : Arithmetic → Register → Operand → Bool
is_cleared Sub to (InRegister from) = are_same to from
is_cleared Xor to (InRegister from) = are_same to from
is_cleared other to from = false

module _ {W F B : Type 0} (ops : Operations W F B) where
  -- an immediate at a width
  unfoldable pub immediate_of : Width → Option ℕ → ℕ → Result ℕ Cause
  immediate_of width field immediate = used (low width) (unmoved ops field immediate)

  -- the flags after an instruction, and the next address
  abbrev pub settled : Changes → Frame → State W F → State W F
  settled changes frame state = record state { flags = with_changes ops changes state.flags; place = frame.next }

  -- what a nop uses: nothing, but an offset field in its operand must be one that lea could have
  abbrev pub nop_use : Frame → State W F → Option ℕ → Option Operand → Result ℕ Cause
  nop_use frame state (Some at) (Some (InMemory operand)) = address_of ops frame state operand
  nop_use frame state field operand = Ok 0

module _ {W F B M : Type 0} (ops : Operations W F B) (acc : Accesses M B) where
  -- a result is written, then flags and the next address
  unfoldable pub finished : Width → Slot → Effect → Frame → State W F → M → Result (After W F M) Stop
  finished width slot effect frame state memory = do
    after ← put ops acc width slot (ops.word effect.number) state memory
    Ok (left (settled ops effect.changes frame after.state) after.memory)

  -- cmp writes no result
  unfoldable pub concluded : Arithmetic → Width → Slot → Effect → Frame → State W F → M → Result (After W F M) Stop
  concluded Compare width slot effect frame state memory = Ok (left (settled ops effect.changes frame state) memory)
  concluded arithmetic width slot effect frame state memory = finished width slot effect frame state memory

  -- mov r, r/m
  unfoldable pub move_in : Width → Frame → State W F → M → Register → Operand → Result (After W F M) Stop
  move_in width frame state memory to from = do
    word ← carried ops acc width frame state memory from
    Ok (left (at_place (with_word state to word) frame.next) memory)

  -- a word is written to a memory operand
  unfoldable pub stored : ℕ → Frame → State W F → M → Memory → W → Result (After W F M) Stop
  stored size frame state memory to word = do
    place ← clean state.place (address_of ops frame state to)
    after ← there state.place (store_of ops acc memory place size word)
    Ok (left (at_place state frame.next) after)

  -- mov r8 to memory
  unfoldable pub store_byte : Frame → State W F → M → Memory → Register → Result (After W F M) Stop
  store_byte frame state memory to from =
      stored 1 frame state memory to (kept_byte ops (register_of state.registers from))

  -- mov r/m, imm
  unfoldable pub move_number : Width → Frame → State W F → M → Operand → Result (After W F M) Stop
  move_number width frame state memory (InRegister to) = do
    number ← clean state.place (immediate_of ops width frame.immediate_field frame.immediate)
    Ok (left (at_place (with_word state to (ops.word number)) frame.next) memory)
  move_number width frame state memory (InMemory to) = do
    number ← clean state.place (immediate_of ops width frame.immediate_field frame.immediate)
    stored (size_of width) frame state memory to (ops.word number)

  unfoldable pub move_of : Width → Frame → State W F → M → Operands → Result (After W F M) Stop
  move_of width frame state memory (IntoRegister to from) = move_in width frame state memory to from
  move_of width frame state memory (IntoMemory to from) =
      stored (size_of width) frame state memory to (kept ops width (register_of state.registers from))
  move_of width frame state memory (Immediate to) = move_number width frame state memory to

  -- movzx r, r/m8
  unfoldable pub extend_byte : Frame → State W F → M → Register → Operand → Result (After W F M) Stop
  extend_byte frame state memory to (InRegister from) =
      Ok (left (at_place (with_word state to (kept_byte ops (register_of state.registers from))) frame.next) memory)
  extend_byte frame state memory to (InMemory from) = do
    place ← clean state.place (address_of ops frame state from)
    word ← there state.place (load_of ops acc memory place 1)
    Ok (left (at_place (with_word state to word) frame.next) memory)

  -- movslq r, r/m: the lower half, sign-extended to 64 bits
  unfoldable pub extend_long : Frame → State W F → M → Register → Operand → Result (After W F M) Stop
  extend_long frame state memory to from = do
    word ← carried ops acc Long frame state memory from
    Ok (left (at_place (with_word state to (carried_as ops (λ n. signed_long_of (low Long n)) (ops.number_of word)))
        frame.next) memory)

  -- lea r, m
  unfoldable pub load_address : Width → Frame → State W F → M → Register → Memory → Result (After W F M) Stop
  load_address width frame state memory to from = do
    place ← clean state.place (address_of ops frame state from)
    Ok (left (at_place (with_word state to (ops.word (low width place))) frame.next) memory)

  -- add, or, and, sub, xor, cmp into a register
  unfoldable pub compute_in : Arithmetic → Width → Frame → State W F → M → Register → Operand
      → Result (After W F M) Stop
  compute_in arithmetic width frame state memory to from =
      if is_cleared arithmetic to from
      then finished width (OfSlot to) (compute_effect arithmetic width 0 0) frame state memory
      else (do
        it ← taken ops acc width frame state memory from (number_at ops width (register_of state.registers to))
        concluded arithmetic width (OfSlot to) (compute_effect arithmetic width it.other it.number) frame state memory)

  -- an offset field is added to a base; each flag is left undefined
  unfoldable pub add_field : Frame → State W F → M → Register → ℕ → Result (After W F M) Stop
  add_field frame state memory to at = do
    number ← clean state.place (charged (Some at) (ops.moved (register_of state.registers to) frame.immediate at))
    finished Quad (OfSlot to) (record { number = number; changes = each_flag Unsettled }) frame state memory

  -- add, or, and, sub, xor, cmp with an immediate
  unfoldable pub compute_plain : Arithmetic → Width → Option ℕ → Frame → State W F → M → Operand
      → Result (After W F M) Stop
  compute_plain arithmetic width field frame state memory to = do
    it ← taken ops acc width frame state memory to (immediate_of ops width field frame.immediate)
    concluded arithmetic width it.slot (compute_effect arithmetic width it.number it.other) frame state memory

  -- an immediate that is an offset field may be added to a base in a register
  unfoldable pub compute_number : Arithmetic → Width → Option ℕ → Frame → State W F → M → Operand
      → Result (After W F M) Stop
  compute_number Add Quad (Some at) frame state memory (InRegister to) = add_field frame state memory to at
  compute_number arithmetic width field frame state memory to =
      compute_plain arithmetic width field frame state memory to

  unfoldable pub compute_of : Arithmetic → Width → Frame → State W F → M → Operands → Result (After W F M) Stop
  compute_of arithmetic width frame state memory (IntoRegister to from) =
      compute_in arithmetic width frame state memory to from
  compute_of arithmetic width frame state memory (IntoMemory to from) = do
    it ← taken ops acc width frame state memory (InMemory to) (number_at ops width (register_of state.registers from))
    concluded arithmetic width it.slot (compute_effect arithmetic width it.number it.other) frame state memory
  compute_of arithmetic width frame state memory (Immediate to) =
      compute_number arithmetic width frame.immediate_field frame state memory to

  -- test r/m, r
  unfoldable pub test_of : Width → Frame → State W F → M → Operand → Register → Result (After W F M) Stop
  test_of width frame state memory left_operand right = do
    it ← taken ops acc width frame state memory left_operand (number_at ops width (register_of state.registers right))
    Ok (left (settled ops (compute_effect And width it.number it.other).changes frame state) memory)

  -- imul r, r/m
  unfoldable pub multiply_of : Width → Frame → State W F → M → Register → Operand → Result (After W F M) Stop
  multiply_of width frame state memory to from = do
    it ← taken ops acc width frame state memory from (number_at ops width (register_of state.registers to))
    finished width (OfSlot to) (product_effect width it.other it.number) frame state memory

  -- shl, shr, sar r/m, count
  unfoldable pub shift_of : Shift → Width → Frame → State W F → M → Operand → ℕ → Result (After W F M) Stop
  shift_of shift width frame state memory to count = do
    it ← taken ops acc width frame state memory to (Ok 0)
    finished width it.slot (shift_effect shift width it.number (count % bits_of width)) frame state memory

  -- a word is pushed onto the stack that %rsp points to
  unfoldable pub pushed : ℕ → W → State W F → M → Result (After W F M) Stop
  pushed stack word state memory = do
    after ← there state.place (store_of ops acc memory (plus stack (2 ^ 64 - 8)) 8 word)
    Ok (left (with_stack state (ops.word (plus stack (2 ^ 64 - 8)))) after)

  -- push r
  unfoldable pub push_of : Frame → State W F → M → Register → Result (After W F M) Stop
  push_of frame state memory from = do
    stack ← clean state.place (ops.number_of state.registers.rsp)
    after ← pushed stack (register_of state.registers from) state memory
    Ok (left (at_place after.state frame.next) after.memory)

  -- pop r
  unfoldable pub pop_of : Frame → State W F → M → Register → Result (After W F M) Stop
  pop_of frame state memory to = do
    stack ← clean state.place (ops.number_of state.registers.rsp)
    word ← there state.place (load_of ops acc memory stack 8)
    Ok (left (at_place (with_word (with_stack state (ops.word (plus stack 8))) to word) frame.next) memory)

  -- leave
  unfoldable pub leave_of : Frame → State W F → M → Result (After W F M) Stop
  leave_of frame state memory = do
    base ← clean state.place (ops.number_of state.registers.rbp)
    word ← there state.place (load_of ops acc memory base 8)
    Ok (left (record state {
      registers = record state.registers { rsp = ops.word (plus base 8); rbp = word };
      place = frame.next;
    }) memory)

  -- ret
  unfoldable pub return_of : State W F → M → Result (After W F M) Stop
  return_of state memory = do
    stack ← clean state.place (ops.number_of state.registers.rsp)
    word ← there state.place (load_of ops acc memory stack 8)
    place ← clean state.place (ops.number_of word)
    Ok (left (at_place (with_stack state (ops.word (plus stack 8))) place) memory)

  -- call: the target is loaded before the return address is pushed
  unfoldable pub call_of : Frame → State W F → M → Target → Result (After W F M) Stop
  call_of frame state memory (Relative distance) = do
    stack ← clean state.place (ops.number_of state.registers.rsp)
    after ← pushed stack (ops.word frame.next) state memory
    Ok (left (at_place after.state (plus frame.next distance)) after.memory)
  call_of frame state memory (Indirect operand) = do
    it ← taken ops acc Quad frame state memory operand (ops.number_of state.registers.rsp)
    after ← pushed it.other (ops.word frame.next) state memory
    Ok (left (at_place after.state it.number) after.memory)

  -- jmp
  unfoldable pub jump_of : Frame → State W F → M → Target → Result (After W F M) Stop
  jump_of frame state memory (Relative distance) = Ok (left (at_place state (plus frame.next distance)) memory)
  jump_of frame state memory (Indirect operand) = do
    it ← taken ops acc Quad frame state memory operand (Ok 0)
    Ok (left (at_place state it.number) memory)

  -- jcc
  unfoldable pub jump_if : Frame → State W F → M → Condition → ℕ → Result (After W F M) Stop
  jump_if frame state memory condition distance = do
    holds ← clean state.place (condition_of ops condition state.flags)
    Ok (left (at_place state (if holds then plus frame.next distance else frame.next)) memory)

  -- nop and endbr64
  unfoldable pub nop_of : Frame → State W F → M → Option Operand → Result (After W F M) Stop
  nop_of frame state memory operand = do
    unused ← clean state.place (nop_use ops frame state frame.displacement_field operand)
    Ok (left (at_place state frame.next) memory)

  -- one instruction
  unfoldable pub act : Frame → Operation → State W F → M → Result (After W F M) Stop
  act frame (Move width operands) state memory = move_of width frame state memory operands
  act frame (StoreByte to from) state memory = store_byte frame state memory to from
  act frame (ExtendByte width to from) state memory = extend_byte frame state memory to from
  act frame (ExtendLong to from) state memory = extend_long frame state memory to from
  act frame (LoadAddress width to from) state memory = load_address width frame state memory to from
  act frame (Compute arithmetic width operands) state memory = compute_of arithmetic width frame state memory operands
  act frame (Test width left_operand right) state memory = test_of width frame state memory left_operand right
  act frame (Multiply width to from) state memory = multiply_of width frame state memory to from
  act frame (ShiftBy shift width to count) state memory = shift_of shift width frame state memory to count
  act frame (Push from) state memory = push_of frame state memory from
  act frame (Pop to) state memory = pop_of frame state memory to
  act frame Leave state memory = leave_of frame state memory
  act frame (Call target) state memory = call_of frame state memory target
  act frame (Jump target) state memory = jump_of frame state memory target
  act frame (JumpIf condition distance) state memory = jump_if frame state memory condition distance
  act frame Return state memory = return_of state memory
  act frame (Nop operand) state memory = nop_of frame state memory operand
  -- ud2
  act frame Undefined state memory = Err (Code state.place)

module _ {W F B M : Type 0} (ops : Operations W F B) (acc : Accesses M B) (is_field : ℕ → Bool) where
  abbrev pub act_if : Option Decoded → State W F → M → Result (After W F M) Stop
  act_if None state memory = Err (Code state.place)
  act_if (Some it) state memory = act ops acc (frame_of is_field state.place it) it.instr.operation state memory

  -- one step: the instruction is decoded from the bytes that may be fetched
  unfoldable pub step_of : State W F → M → Result (After W F M) Stop
  step_of state memory = act_if (decoded (fetch_of acc memory state.place)) state memory
