-- The other operations do what the manual says, and all of them together.
use Rattle.std.proofs.Common.{◌≡◌, ℕ, ◌+◌, ◌-◌, ◌%◌, ◌^◌, ◌<◌, ℤ, pos, Bool, true, false, Option, Some, None, Ok, refl}
use Rattle.std.proofs.Common.{ap, sym, subst, ap₂, ⊎_elim, arith, ◌∙◌}
use Rattle.std.specs.Bool.{Decides}
use Rattle.std.specs.Prelude.{◌-ℤ◌, ◌<ℤ◌, if◌then◌else◌}
use Rattle.std.proofs.lemmas.Bool.{false≢true, eqb-true}
use Rattle.std.proofs.lemmas.Int.{ints}
use Rattle.amd64_words.specs.declared.register.Register.{Register}
use Rattle.amd64_words.specs.declared.register.Register.TheVariants.{Rax, Rcx, Rdx, Rbx, Rsp, Rbp, Rsi, Rdi, R8, R9}
use Rattle.amd64_words.specs.declared.register.Register.TheVariants.{R10, R11, R12, R13, R14, R15}
use Rattle.amd64_words.specs.Register.{are_same, number_of, register_of as register_numbered}
use Rattle.amd64_words.specs.RegisterLaws.{told_by_number}
use Rattle.amd64_subset.specs.declared.instr.Arithmetic.{Arithmetic}
use Rattle.amd64_subset.specs.declared.instr.Arithmetic.TheVariants.{Add, Or, And, Sub, Xor, Compare}
use Rattle.amd64_subset.specs.declared.instr.Condition.{Condition}
use Rattle.amd64_subset.specs.declared.instr.Decoded.{Decoded}
use Rattle.amd64_subset.specs.declared.instr.Operation.{Operation}
use Rattle.amd64_subset.specs.declared.instr.Operation.TheVariants.{Move, StoreByte, ExtendByte, ExtendLong}
use Rattle.amd64_subset.specs.declared.instr.Operation.TheVariants.{LoadAddress, Compute, Test, Multiply}
use Rattle.amd64_subset.specs.declared.instr.Operation.TheVariants.{Shift as ShiftBy, Push, Pop, Leave, Call, Jump}
use Rattle.amd64_subset.specs.declared.instr.Operation.TheVariants.{JumpIf, Return, Nop, Undefined}
use Rattle.amd64_subset.specs.declared.instr.Target.{Target}
use Rattle.amd64_subset.specs.declared.instr.Target.TheVariants.{Relative, Indirect}
use Rattle.amd64_subset.specs.declared.instr.Width.{Width}
use Rattle.amd64_subset.specs.declared.instr.Width.TheVariants.{Long, Quad}
use Rattle.amd64_subset.specs.declared.operand.Operand.{Operand}
use Rattle.amd64_subset.specs.declared.operand.Operand.TheVariants.{InMemory, Register as InRegister}
use Rattle.amd64_subset.specs.declared.operand.Operands.TheVariants.{IntoRegister, IntoMemory, Immediate}
use Rattle.guest_arithmetic.specs.declared.effect.Effect.{Effect}
use Rattle.guest_arithmetic.specs.Arithmetic.{compute_effect}
use Rattle.guest_arithmetic.specs.Plain.{plain_operations}
use Rattle.guest_operands.specs.declared.slot.Slot.TheVariants.{Register as OfSlot}
use Rattle.guest_operands.specs.declared.slot.Taken.{Taken}
use Rattle.guest_operands.specs.declared.state.State.{State}
use Rattle.guest_operands.specs.Access.{store_of}
use Rattle.guest_operands.specs.Operand.{number_at, taken}
use Rattle.guest_operands.specs.State.{register_of, with_register, with_word, at_place}
use Rattle.guest_operands.specs.Use.{◌>>=◌, plus, clean, there, left}
use Rattle.guest_machine.specs.Step.{act, compute_in, compute_of, concluded, finished, is_cleared, pushed, push_of}
use Rattle.guest_machine.specs.Step.{pop_of, leave_of, return_of, call_of, jump_of, jump_if, nop_of}
use Rattle.instruction_laws.specs.Conditions.{Holds}
use Rattle.instruction_laws.specs.Results.{IsDifference, IsBitwise, One}
use Rattle.instruction_laws.specs.Words.{words, IsSigned, IsCut, IsOutside, IsSet, Shows}
use Rattle.instruction_laws.specs.Steps.{Numbers, Has, IsLeftAt, IsLeft, writes, ComputesOf, Pushes, Pops, Leaves}
use Rattle.instruction_laws.specs.Steps.{Returns, Calls, Jumps, JumpsIf, Does}
use Rattle.instruction_laws.proofs.Comparing.{test_of, tested, holds}
use Rattle.instruction_laws.proofs.Computing.{computes}
use Rattle.guest_operands.specs.Frame.{field_at, frame_of}
use Rattle.guest_operands.specs.State.{with_stack}
use Rattle.instruction_laws.proofs.Operating.{At, moves, moves_out, moves_byte, extends_byte, extends_long}
use Rattle.instruction_laws.proofs.Operating.{loads_address, moves_immediate, computes_out, computes_immediate, tests}
use Rattle.instruction_laws.proofs.Operating.{multiplies_to, shifts_to, concluded_is, effect_is}
use Rattle.instruction_laws.proofs.Stepping.{Outcome, done, acc, frame, frame_at, low_is, whole, take, left_as, goes}
use Rattle.instruction_laws.proofs.Stepping.{register_number, finish}
use Rattle.instruction_laws.proofs.Words.{low_half, only_cut, only_signed}

-- ** a register that is cleared

numbered : (register : Register) → register_numbered (number_of register) ≡ register
unfolding number_of register_numbered
numbered Rax = refl
numbered Rcx = refl
numbered Rdx = refl
numbered Rbx = refl
numbered Rsp = refl
numbered Rbp = refl
numbered Rsi = refl
numbered Rdi = refl
numbered R8 = refl
numbered R9 = refl
numbered R10 = refl
numbered R11 = refl
numbered R12 = refl
numbered R13 = refl
numbered R14 = refl
numbered R15 = refl

same_register : (p q : Register) → are_same p q ≡ true → p ≡ q
same_register p q is = sym (numbered p)
    ∙ ap register_numbered (eqb-true (number_of p) (number_of q) (sym (told_by_number p q) ∙ is)) ∙ numbered q

zero_signed : (width : Width) → IsSigned width 0 (pos 0)
zero_signed Long = low_half Long 0 (omega arith)
zero_signed Quad = low_half Quad 0 (omega arith)

cleared_sub : (width : Width) (a : ℕ) (x y : ℤ) (effect : Effect) → IsSigned width a x → IsSigned width a y
    → IsDifference width a a x y effect → compute_effect Sub width 0 0 ≡ effect
cleared_sub width a x y effect p q it =
    let same = only_signed width a x y p q in
    let none : pos a -ℤ pos a ≡ pos 0 -ℤ pos 0 = omega (arith, ints) in
    let none_signed : x -ℤ y ≡ pos 0 -ℤ pos 0 = omega (arith, ints, same) in
    (computes Sub width 0 0 (pos 0) (pos 0) (zero_signed width) (zero_signed width) effect).1 (record {
      number = subst (IsCut width effect.number) none it.number;
      tells = it.tells;
      carry = subst (λ (z : ℤ). Shows effect.changes.carry (z <ℤ pos 0)) none it.carry;
      overflow = subst (λ (z : ℤ). Shows effect.changes.overflow (IsOutside width z)) none_signed it.overflow;
    })

never_one : (A : Type 0) → One A A → ⊥
never_one A one = ⊎_elim (λ here. here.1 here.0) (λ here. here.0 here.1) one

cleared_xor : (width : Width) (a : ℕ) (effect : Effect) → IsBitwise One width a a effect → compute_effect Xor width 0
    0 ≡ effect
cleared_xor width a effect it =
    (computes Xor width 0 0 (pos 0) (pos 0) (zero_signed width) (zero_signed width) effect).1 (record {
      bits = λ k. (λ is. absurd (never_one (IsSet k a) ((it.bits k).0 is)), λ one. absurd (never_one (IsSet k 0) one));
      tells = it.tells;
      carry = it.carry;
      overflow = it.overflow;
    })

branch : (t : Bool) (x y r : Outcome) → (t ≡ true → x ≡ r) → y ≡ r → (if t then x else y) ≡ r
branch true x y r p q = p refl
branch false x y r p q = q

module _ (d : Decoded) (before : State ℕ Bool) (memory : Numbers)
    (have_words : (register : Register) → register_of before.registers register < 2 ^ 64) where
  abbrev IsComputed : Arithmetic → Width → Register → Operand → State ℕ Bool → Numbers → Type 0
  IsComputed kind width to from = ComputesOf d before memory kind (writes kind) width (InRegister to)
      (Has d before memory width from)

  -- without the special case
  abbrev pub computing : Arithmetic → Width → Register → Operand → Outcome
  computing kind width to from = taken plain_operations acc width (frame d before memory) before memory from
      (number_at plain_operations width (register_of before.registers to))
      >>= λ t. concluded plain_operations acc kind width (OfSlot to) (compute_effect kind width t.other t.number)
      (frame d before memory) before memory

  computing_is : (kind : Arithmetic) (width : Width) (to : Register) (from : Operand) (after : State ℕ Bool)
      (memory' : Numbers)
      → IsComputed kind width to from after memory' → computing kind width to from ≡ done after memory'
  computing_is kind width to from after memory' it =
      let second = take d before memory width from it.b it.a it.second_is in
      let then_concluded = λ (t : Taken). concluded plain_operations acc kind width (OfSlot to)
      (compute_effect kind width t.other t.number) (frame d before memory) before memory in
      ap (λ other. taken plain_operations acc width (frame d before memory) before memory from other >>= then_concluded)
      (register_number d before memory width to it.a it.first_is)
      ∙ ap (λ r. r >>= then_concluded) second.is
      ∙ ap (λ e. concluded plain_operations acc kind width (OfSlot to) e (frame d before memory) before memory)
      (effect_is d before memory have_words kind (writes kind) width (InRegister to) _ after memory' it)
      ∙ concluded_is d before memory have_words kind width (InRegister to) _ (OfSlot to) after memory' it refl

  -- both operands are one register
  same_number : (width : Width) (to from : Register) (a b : ℕ) → are_same to from ≡ true
      → Has d before memory width (InRegister to) a → Has d before memory width (InRegister from) b → b ≡ a
  same_number width to from a b same p q = only_cut width (pos (register_of before.registers to)) b a
      (subst (λ (r : Register). IsCut width b (pos (register_of before.registers r)))
      (sym (same_register to from same)) q) p

  clears_sub : (width : Width) (to from : Register) (after : State ℕ Bool) (memory' : Numbers)
      → are_same to from ≡ true → IsComputed Sub width to (InRegister from) after memory'
      → finished plain_operations acc width (OfSlot to) (compute_effect Sub width 0 0) (frame d before memory) before
      memory ≡ done after memory'
  clears_sub width to from after memory' same it =
      let equal = same_number width to from it.a it.b same it.first_is it.second_is in
      ap (λ e. finished plain_operations acc width (OfSlot to) e (frame d before memory) before memory)
      (cleared_sub width it.a it.x it.y it.effect it.first_signed
      (subst (λ (n : ℕ). IsSigned width n it.y) equal it.second_signed)
      (subst (λ (n : ℕ). IsDifference width it.a n it.x it.y it.effect) equal it.computes))
      ∙ finish d before memory width (InRegister to) (OfSlot to) it.effect after memory' refl it.computes.number.below
      it.flags it.answers

  clears_xor : (width : Width) (to from : Register) (after : State ℕ Bool) (memory' : Numbers)
      → are_same to from ≡ true → IsComputed Xor width to (InRegister from) after memory'
      → finished plain_operations acc width (OfSlot to) (compute_effect Xor width 0 0) (frame d before memory) before
      memory ≡ done after memory'
  clears_xor width to from after memory' same it =
      let equal = same_number width to from it.a it.b same it.first_is it.second_is in
      ap (λ e. finished plain_operations acc width (OfSlot to) e (frame d before memory) before memory)
      (cleared_xor width it.a it.effect (subst (λ (n : ℕ). IsBitwise One width it.a n it.effect) equal it.computes))
      ∙ finish d before memory width (InRegister to) (OfSlot to) it.effect after memory' refl
      it.computes.tells.signed.below it.flags it.answers

  computes_in : (kind : Arithmetic) (width : Width) (to : Register) (from : Operand) (after : State ℕ Bool)
      (memory' : Numbers)
      → IsComputed kind width to from after memory'
      → At d before memory have_words (Compute kind width (IntoRegister to from)) after memory'
  unfolding act compute_of compute_in is_cleared
  computes_in Add width to from after memory' it = computing_is Add width to from after memory' it
  computes_in Or width to from after memory' it = computing_is Or width to from after memory' it
  computes_in And width to from after memory' it = computing_is And width to from after memory' it
  computes_in Compare width to from after memory' it = computing_is Compare width to from after memory' it
  computes_in Sub width to (InMemory from) after memory' it = computing_is Sub width to (InMemory from) after memory' it
  computes_in Xor width to (InMemory from) after memory' it = computing_is Xor width to (InMemory from) after memory' it
  computes_in Sub width to (InRegister from) after memory' it = branch (are_same to from) _ _ _
      (λ same. clears_sub width to from after memory' same it)
      (computing_is Sub width to (InRegister from) after memory' it)
  computes_in Xor width to (InRegister from) after memory' it = branch (are_same to from) _ _ _
      (λ same. clears_xor width to from after memory' same it)
      (computing_is Xor width to (InRegister from) after memory' it)

  -- ** the stack

  pub lower_is : (rsp stack : ℕ) → rsp < 2 ^ 64 → IsCut Quad stack (pos rsp -ℤ pos 8) → plus rsp (2 ^ 64 - 8) ≡ stack
  lower_is rsp stack below is = omega (arith, ints, below, is.below, is.same)

  higher_is : (from stack : ℕ) → IsCut Quad stack (pos (from + 8)) → plus from 8 % 2 ^ 64 ≡ stack
  higher_is from stack is = omega (arith, low_is Quad stack (from + 8) is, is.below)

  pushed_is : (word : ℕ) (place : ℤ) (after : State ℕ Bool) (memory' : Numbers)
      (it : Pushes d before memory word place after memory')
      → pushed plain_operations acc before.registers.rsp word before memory ≡ done (with_stack before it.stack) memory'
  unfolding pushed plain_operations register_of
  pushed_is word place after memory' it =
      ap (λ (stack : ℕ). there before.place (store_of plain_operations acc memory stack 8 word) >>= λ m. done
      (with_stack before (stack % 2 ^ 64)) m)
      (lower_is before.registers.rsp it.stack (have_words Rsp) it.lower)
      ∙ ap (λ r. there before.place r >>= λ m. done (with_stack before (it.stack % 2 ^ 64)) m) it.stored
      ∙ ap (λ (stack : ℕ). done (with_stack before stack) memory') (whole Quad it.stack it.lower.below)

  -- at a place, with another stack
  at_stack : (place stack : ℕ) (after : State ℕ Bool) (memory' : Numbers)
      → IsLeftAt d before memory (pos place) (with_register before.registers Rsp stack) before.flags after
      → done (at_place (with_stack before stack) (place % 2 ^ 64)) memory' ≡ done after memory'
  unfolding with_register
  at_stack place stack after memory' is = ap (λ state. done state memory')
      (left_as d before memory place (with_register before.registers Rsp stack) before.flags after is)

  abbrev then_at : ℕ → Outcome → Outcome
  then_at place pushed = pushed >>= λ it. done (at_place it.state place) it.memory

  pushes : (from : Register) (after : State ℕ Bool) (memory' : Numbers)
      → Pushes d before memory (register_of before.registers from) (pos (before.place + d.len)) after memory'
      → At d before memory have_words (Push from) after memory'
  unfolding act push_of plain_operations
  pushes from after memory' it =
      ap (then_at (plus before.place d.len)) (pushed_is _ _ after memory' it)
      ∙ at_stack (before.place + d.len) it.stack after memory' it.state

  pops : (to : Register) (after : State ℕ Bool) (memory' : Numbers) → Pops d before memory to after memory'
      → At d before memory have_words (Pop to) after memory'
  unfolding act pop_of plain_operations register_of with_register
  pops to after memory' it =
      ap (λ r. there before.place r >>= λ word. done
      (at_place (with_word (with_stack before (plus before.registers.rsp 8 % 2 ^ 64)) to word)
      (plus before.place d.len)) memory) it.popped.loaded
      ∙ ap (λ (stack : ℕ). done (at_place (with_word (with_stack before stack) to it.word) (plus before.place d.len))
      memory)
      (higher_is before.registers.rsp it.stack it.popped.higher)
      ∙ goes d before memory (with_register (with_register before.registers Rsp it.stack) to it.word) before.flags
      after memory' it.state it.same

  leaves : (after : State ℕ Bool) (memory' : Numbers) → Leaves d before memory after memory'
      → At d before memory have_words Leave after memory'
  unfolding act leave_of plain_operations register_of with_register
  leaves after memory' it =
      ap (λ r. there before.place r >>= λ word. done
      (at_place (with_word (with_stack before (plus before.registers.rbp 8 % 2 ^ 64)) Rbp word)
      (plus before.place d.len)) memory) it.popped.loaded
      ∙ ap (λ (stack : ℕ). done (at_place (with_word (with_stack before stack) Rbp it.word) (plus before.place d.len))
      memory)
      (higher_is before.registers.rbp it.stack it.popped.higher)
      ∙ goes d before memory (with_register (with_register before.registers Rsp it.stack) Rbp it.word) before.flags
      after memory' it.state it.same

  returns : (after : State ℕ Bool) (memory' : Numbers) → Returns d before memory after memory'
      → At d before memory have_words Return after memory'
  unfolding act return_of plain_operations register_of
  returns after memory' it =
      ap (λ r. there before.place r >>= λ word. done
      (at_place (with_stack before (plus before.registers.rsp 8 % 2 ^ 64)) word) memory) it.popped.loaded
      ∙ ap₂ (λ (stack place : ℕ). done (at_place (with_stack before stack) place) memory)
      (higher_is before.registers.rsp it.stack it.popped.higher) (sym (whole Quad it.word it.popped.below))
      ∙ ap (λ m. done (at_place (with_stack before it.stack) (it.word % 2 ^ 64)) m) (sym it.same)
      ∙ at_stack it.word it.stack after memory' it.state

  -- ** calls and jumps

  target_below : (operand : Operand) (n : ℕ) → Has d before memory Quad operand n → n < words Quad
  target_below (InRegister register) n is = is.below
  target_below (InMemory operand) n is = is.below

  pub far : (place len distance : ℕ) → (place + len + distance) % 2 ^ 64 ≡ plus (plus place len) distance
  far place len distance = omega arith

  -- the return address that is pushed
  pub back_is : (back : ℕ) → IsCut Quad back (pos (before.place + d.len)) → plus before.place d.len % 2 ^ 64 ≡ back
  back_is back is = omega (arith, low_is Quad back (before.place + d.len) is, is.below)

  calls : (target : Target) (after : State ℕ Bool) (memory' : Numbers) → Calls d before memory target after memory'
      → At d before memory have_words (Call target) after memory'
  unfolding act call_of plain_operations
  calls (Relative distance) after memory' it =
      ap (λ (word : ℕ). then_at (plus (plus before.place d.len) distance)
      (pushed plain_operations acc before.registers.rsp word before memory)) (back_is it.back it.returns)
      ∙ ap (then_at (plus (plus before.place d.len) distance)) (pushed_is _ _ after memory' it.pushes)
      ∙ ap (λ (place : ℕ). done (at_place (with_stack before it.pushes.stack) place) memory')
      (sym (far before.place d.len distance))
      ∙ at_stack (before.place + d.len + distance) it.pushes.stack after memory'
      (subst (λ (z : ℤ). IsLeftAt d before memory z (with_register before.registers Rsp it.pushes.stack) before.flags
      after) it.goes it.pushes.state)
  calls (Indirect operand) after memory' it =
      let number = it.goes.0 in
      let first = take d before memory Quad operand number before.registers.rsp it.goes.1 in
      let pushing = λ (t : Taken) (word : ℕ). then_at t.number
      (pushed plain_operations acc t.other word before memory) in
      ap (λ r. r >>= λ t. pushing t (plus before.place d.len % 2 ^ 64)) first.is
      ∙ ap (λ (word : ℕ). then_at number (pushed plain_operations acc before.registers.rsp word before memory))
      (back_is it.back it.returns)
      ∙ ap (then_at number) (pushed_is _ _ after memory' it.pushes)
      ∙ ap (λ (place : ℕ). done (at_place (with_stack before it.pushes.stack) place) memory')
      (sym (whole Quad number (target_below operand number it.goes.1)))
      ∙ at_stack number it.pushes.stack after memory'
      (subst (λ (z : ℤ). IsLeftAt d before memory z (with_register before.registers Rsp it.pushes.stack) before.flags
      after) it.goes.2 it.pushes.state)

  at_target : (place : ℕ) (after : State ℕ Bool) (memory' : Numbers)
      → IsLeftAt d before memory (pos place) before.registers before.flags after → memory' ≡ memory
      → done (at_place before (place % 2 ^ 64)) memory ≡ done after memory'
  at_target place after memory' is same = λ i. done
      (left_as d before memory place before.registers before.flags after is i) (sym same i)

  jumps : (target : Target) (after : State ℕ Bool) (memory' : Numbers) → Jumps d before memory target after memory'
      → At d before memory have_words (Jump target) after memory'
  unfolding act jump_of
  jumps (Relative distance) after memory' it =
      ap (λ (place : ℕ). done (at_place before place) memory) (sym (far before.place d.len distance))
      ∙ at_target (before.place + d.len + distance) after memory'
      (subst (λ (z : ℤ). IsLeftAt d before memory z before.registers before.flags after) it.goes it.state) it.same
  jumps (Indirect operand) after memory' it =
      let number = it.goes.0 in
      let first = take d before memory Quad operand number 0 it.goes.1 in
      ap (λ r. r >>= λ (t : Taken). done (at_place before t.number) memory) first.is
      ∙ ap (λ (place : ℕ). done (at_place before place) memory)
      (sym (whole Quad number (target_below operand number it.goes.1)))
      ∙ at_target number after memory'
      (subst (λ (z : ℤ). IsLeftAt d before memory z before.registers before.flags after) it.goes.2 it.state) it.same

  jumps_by : (condition : Condition) (distance : ℕ) (after : State ℕ Bool) (memory' : Numbers)
      → JumpsIf d before memory condition distance after memory' → (t : Bool) → Decides t (Holds condition before.flags)
      → done (at_place before (if t then plus (plus before.place d.len) distance else plus before.place d.len)) memory
      ≡ done after memory'
  jumps_by condition distance after memory' it true decides =
      ap (λ (place : ℕ). done (at_place before place) memory) (sym (far before.place d.len distance))
      ∙ at_target (before.place + d.len + distance) after memory' (it.taken (decides.0 refl)) it.same
  jumps_by condition distance after memory' it false decides =
      at_target (before.place + d.len) after memory' (it.else_next (λ is. false≢true (decides.1 is))) it.same

  jumps_if : (condition : Condition) (distance : ℕ) (after : State ℕ Bool) (memory' : Numbers)
      → JumpsIf d before memory condition distance after memory'
      → At d before memory have_words (JumpIf condition distance) after memory'
  unfolding act jump_if
  jumps_if condition distance after memory' it =
      ap (λ r. clean before.place r >>= λ t. done
      (at_place before (if t then plus (plus before.place d.len) distance else plus before.place d.len)) memory)
      (tested condition before.flags)
      ∙ jumps_by condition distance after memory' it (test_of condition before.flags) (holds condition before.flags)

  does_nothing : (operand : Option Operand) (after : State ℕ Bool) (memory' : Numbers)
      → IsLeft d before memory before.registers before.flags after × (memory' ≡ memory)
      → At d before memory have_words (Nop operand) after memory'
  unfolding act nop_of
  does_nothing operand after memory' it = goes d before memory before.registers before.flags after memory' it.0 it.1

  -- ** all of them

  pub does : (operation : Operation) (after : State ℕ Bool) (memory' : Numbers) → Does d before memory operation after
      memory'
      → At d before memory have_words operation after memory'
  does (Move width (IntoRegister to from)) = moves d before memory have_words width to from
  does (Move width (IntoMemory to from)) = moves_out d before memory have_words width to from
  does (Move width (Immediate to)) = moves_immediate d before memory have_words width to
  does (StoreByte to from) = moves_byte d before memory have_words to from
  does (ExtendByte width to from) = extends_byte d before memory have_words width to from
  does (ExtendLong to from) = extends_long d before memory have_words to from
  does (LoadAddress width to from) = loads_address d before memory have_words width to from
  does (Compute kind width (IntoRegister to from)) = computes_in kind width to from
  does (Compute kind width (IntoMemory to from)) = computes_out d before memory have_words kind width to from
  does (Compute kind width (Immediate to)) = computes_immediate d before memory have_words kind width to
  does (Test width left_operand right) = tests d before memory have_words width left_operand right
  does (Multiply width to from) = multiplies_to d before memory have_words width to from
  does (ShiftBy shift width to count) = shifts_to d before memory have_words shift width to count
  does (Push from) = pushes from
  does (Pop to) = pops to
  does Leave = leaves
  does (Call target) = calls target
  does (Jump target) = jumps target
  does (JumpIf condition distance) = jumps_if condition distance
  does Return = returns
  does (Nop operand) = does_nothing operand
  does Undefined = λ after memory' never. absurd never

no_field : (here : ℕ) (within : Option ℕ) → field_at (λ place. false) here within ≡ None
no_field here None = refl
no_field here (Some within) = refl

pub frame_is : (d : Decoded) (place : ℕ) → frame_of (λ place. false) place d ≡ frame_at d place
unfolding frame_of
frame_is d place = λ i. record {
  next = plus place d.len;
  displacement = d.instr.displacement;
  immediate = d.instr.immediate;
  displacement_field = no_field place d.disp i;
  immediate_field = no_field place d.imm i;
}

pub steps : (d : Decoded) (before after : State ℕ Bool) (memory memory' : Numbers)
    → ((register : Register) → register_of before.registers register < 2 ^ 64)
    → Does d before memory d.instr.operation after memory'
    → act plain_operations acc (frame_of (λ place. false) before.place d) d.instr.operation before memory ≡ Ok
    (left after memory')
steps d before after memory memory' have_words it =
    ap (λ f. act plain_operations acc f d.instr.operation before memory) (frame_is d before.place)
    ∙ does d before memory have_words d.instr.operation after memory' it
