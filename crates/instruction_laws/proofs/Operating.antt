-- Each operation does what the manual says.
use Rattle.std.proofs.Common.{◌≡◌, ℕ, zero, suc, ◌+◌, ◌-◌, ◌%◌, ◌^◌, ◌<◌, ℤ, pos, Bool, false, None, Ok, refl, ap, sym}
use Rattle.std.proofs.Common.{subst, ap₂, ⊎_elim, arith, ◌∙◌}
use Rattle.std.specs.Prelude.{if◌then◌else◌}
use Rattle.std.proofs.lemmas.Bool.{cases_lt, lt-ltb, le-ltb}
use Rattle.std.proofs.lemmas.Int.{ints}
use Rattle.amd64_words.specs.declared.register.Register.{Register}
use Rattle.amd64_subset.specs.declared.instr.Arithmetic.{Arithmetic}
use Rattle.amd64_subset.specs.declared.instr.Arithmetic.TheVariants.{Add, Or, And, Sub, Xor, Compare}
use Rattle.amd64_subset.specs.declared.instr.Decoded.{Decoded}
use Rattle.amd64_subset.specs.declared.instr.Operation.{Operation}
use Rattle.amd64_subset.specs.declared.instr.Operation.TheVariants.{Move, StoreByte, ExtendByte, ExtendLong}
use Rattle.amd64_subset.specs.declared.instr.Operation.TheVariants.{LoadAddress, Compute, Test, Multiply}
use Rattle.amd64_subset.specs.declared.instr.Operation.TheVariants.{Shift as ShiftBy}
use Rattle.amd64_subset.specs.declared.instr.Shift.{Shift}
use Rattle.amd64_subset.specs.declared.instr.Shift.TheVariants.{Left, Right, RightSigned}
use Rattle.amd64_subset.specs.declared.instr.Width.{Width}
use Rattle.amd64_subset.specs.declared.instr.Width.TheVariants.{Long, Quad}
use Rattle.amd64_subset.specs.declared.operand.Memory.{Memory}
use Rattle.amd64_subset.specs.declared.operand.Operand.{Operand}
use Rattle.amd64_subset.specs.declared.operand.Operand.TheVariants.{InMemory, Register as InRegister}
use Rattle.amd64_subset.specs.declared.operand.Operands.TheVariants.{IntoRegister, IntoMemory, Immediate}
use Rattle.guest_arithmetic.specs.declared.effect.Effect.{Effect}
use Rattle.guest_arithmetic.specs.Arithmetic.{low, bits_of, compute_effect, product_effect, shift_effect}
use Rattle.guest_arithmetic.specs.Plain.{plain_operations}
use Rattle.guest_operands.specs.declared.slot.Slot.{Slot}
use Rattle.guest_operands.specs.declared.slot.Slot.TheVariants.{Register as OfSlot}
use Rattle.guest_operands.specs.declared.slot.Taken.{Taken}
use Rattle.guest_operands.specs.declared.state.State.{State}
use Rattle.guest_operands.specs.Access.{load_of, store_of}
use Rattle.guest_operands.specs.Operand.{size_of, kept, kept_byte, carried, taken}
use Rattle.guest_operands.specs.State.{register_of, with_register, with_word, at_place}
use Rattle.guest_operands.specs.Use.{◌>>=◌, plus, clean, there}
use Rattle.guest_machine.specs.Step.{act, stored, store_byte, move_in, move_number, move_of, extend_byte, extend_long}
use Rattle.guest_machine.specs.Step.{load_address, compute_plain, compute_number, compute_of, concluded, finished}
use Rattle.guest_machine.specs.Step.{immediate_of, test_of, multiply_of, shift_of, settled}
use Rattle.instruction_laws.specs.Results.{Computes, Shifts}
use Rattle.instruction_laws.specs.Words.{words, IsSigned, IsCut}
use Rattle.instruction_laws.specs.Steps.{Numbers, bytes, IsStored, Has, IsLowByte, IsMasked, IsLeft, Moves}
use Rattle.instruction_laws.specs.Steps.{MovesImmediate, MovesByte, ExtendsByte, ExtendsLong, LoadsAddress, writes}
use Rattle.instruction_laws.specs.Steps.{ComputesOf, Multiplies, ShiftsBy}
use Rattle.instruction_laws.proofs.Computing.{computes}
use Rattle.instruction_laws.proofs.Multiplying.{multiplies}
use Rattle.instruction_laws.proofs.Shifting.{shifts}
use Rattle.instruction_laws.proofs.Stepping.{Outcome, done, acc, frame, low_is, whole, sizes, address_is, IsSlot, take}
use Rattle.instruction_laws.proofs.Stepping.{left_as, goes, register_number, finish, settle}
use Rattle.amd64_subset.specs.Number.{signed_long_of}

module _ (d : Decoded) (before : State ℕ Bool) (memory : Numbers)
    (have_words : (register : Register) → register_of before.registers register < 2 ^ 64) where
  abbrev pub At : Operation → State ℕ Bool → Numbers → Type 0
  At operation after memory' = act plain_operations acc (frame d before memory) operation before memory ≡ done after
      memory'

  -- ** words that are moved

  pub kept_is : (width : Width) (register : Register) (n : ℕ) → Has d before memory width (InRegister register) n
      → kept plain_operations width (register_of before.registers register) ≡ n
  unfolding kept plain_operations
  kept_is Long register n is = omega (arith, low_is Long n _ is)
  kept_is Quad register n is = omega (arith, low_is Quad n _ is, have_words register)

  pub carried_is : (width : Width) (from : Operand) (n : ℕ) → Has d before memory width from n
      → carried plain_operations acc width (frame d before memory) before memory from ≡ Ok n
  unfolding carried
  carried_is width (InRegister register) n is = ap Ok (kept_is width register n is)
  carried_is width (InMemory operand) n is =
      ap (λ r. clean before.place r >>= λ place. there before.place
      (load_of plain_operations acc memory place (size_of width)))
      (address_is d before memory operand is.place is.address)
      ∙ ap (λ size. there before.place (load_of plain_operations acc memory is.place size)) (sizes width)
      ∙ ap (there before.place) is.loaded

  -- a word in a register
  abbrev pub in_register : Register → ℕ → Outcome
  in_register to word = done (at_place (with_word before to word) (plus before.place d.len)) memory

  put_register : (to : Register) (n : ℕ) (after : State ℕ Bool) (memory' : Numbers)
      → IsLeft d before memory (with_register before.registers to n) before.flags after × (memory' ≡ memory)
      → in_register to n ≡ done after memory'
  put_register to n after memory' puts = goes d before memory (with_register before.registers to n) before.flags after
      memory' puts.0 puts.1

  stored_is : (size : ℕ) (to : Memory) (n : ℕ) (after : State ℕ Bool) (memory' : Numbers)
      → IsLeft d before memory before.registers before.flags after × IsStored d before memory size to n memory'
      → stored plain_operations acc size (frame d before memory) before memory to n ≡ done after memory'
  unfolding stored
  stored_is size to n after memory' puts =
      ap (λ r. clean before.place r >>= λ place. there before.place (store_of plain_operations acc memory place size n)
      >>= λ m. done (at_place before (plus before.place d.len)) m)
      (address_is d before memory to puts.1.place puts.1.address)
      ∙ ap (λ r. there before.place r >>= λ m. done (at_place before (plus before.place d.len)) m) puts.1.stored
      ∙ (λ i. done (left_as d before memory (before.place + d.len) before.registers before.flags after puts.0 i)
      memory')

  pub moves : (width : Width) (to : Register) (from : Operand) (after : State ℕ Bool) (memory' : Numbers)
      → Moves d before memory width (InRegister to) from after memory'
      → At (Move width (IntoRegister to from)) after memory'
  unfolding act move_of move_in
  moves width to from after memory' it =
      ap (λ r. r >>= in_register to) (carried_is width from it.number it.from_it)
      ∙ put_register to it.number after memory' it.to_it

  pub moves_out : (width : Width) (to : Memory) (from : Register) (after : State ℕ Bool) (memory' : Numbers)
      → Moves d before memory width (InMemory to) (InRegister from) after memory'
      → At (Move width (IntoMemory to from)) after memory'
  unfolding act move_of
  moves_out width to from after memory' it =
      ap₂ (λ size word. stored plain_operations acc size (frame d before memory) before memory to word) (sizes width)
      (kept_is width from it.number it.from_it)
      ∙ stored_is (bytes width) to it.number after memory' it.to_it

  pub moves_byte : (to : Memory) (from : Register) (after : State ℕ Bool) (memory' : Numbers)
      → MovesByte d before memory to from after memory' → At (StoreByte to from) after memory'
  unfolding act store_byte kept_byte plain_operations
  moves_byte to from after memory' it =
      let low : register_of before.registers from % 256 % 2 ^ 64 ≡ it.byte = omega
      (arith, it.from_it.below, it.from_it.same) in
      ap (λ word. stored plain_operations acc 1 (frame d before memory) before memory to word) low
      ∙ stored_is 1 to it.byte after memory' it.to_it

  -- ** movzx, movslq, lea, mov of an immediate

  pub byte_is : (word byte : ℕ) → IsLowByte byte word → word % 256 % 2 ^ 64 ≡ byte
  byte_is word byte is = omega (arith, is.below, is.same)

  pub extends_byte : (width : Width) (to : Register) (from : Operand) (after : State ℕ Bool) (memory' : Numbers)
      → ExtendsByte d before memory to from after memory' → At (ExtendByte width to from) after memory'
  unfolding act extend_byte kept_byte plain_operations
  extends_byte width to (InRegister from) after memory' it =
      ap (in_register to) (byte_is _ it.byte it.from_it) ∙ put_register to it.byte after memory' it.to_it
  extends_byte width to (InMemory from) after memory' it =
      ap (λ r. clean before.place r >>= λ place. there before.place (load_of plain_operations acc memory place 1) >>=
      in_register to)
      (address_is d before memory from it.from_it.place it.from_it.address)
      ∙ ap (λ r. there before.place r >>= in_register to) it.from_it.loaded
      ∙ put_register to it.byte after memory' it.to_it

  extended : (n result : ℕ) (value : ℤ) → IsSigned Long n value → IsSigned Quad result value
      → signed_long_of (low Long n) % 2 ^ 64 ≡ result
  extended n result value short long = ⊎_elim
      (λ small. ap (λ (t : Bool). (if t then low Long n else low Long n + (2 ^ 64 - 2 ^ 32)) % 2 ^ 64)
      (lt-ltb (low Long n) (2 ^ 31) small)
      ∙ omega (arith, ints, small, short.same, short.below, short.least, short.greatest, long.same, long.below))
      (λ large. ap (λ (t : Bool). (if t then low Long n else low Long n + (2 ^ 64 - 2 ^ 32)) % 2 ^ 64)
      (le-ltb (low Long n) (2 ^ 31) large)
      ∙ omega (arith, ints, large, short.same, short.below, short.least, short.greatest, long.same, long.below))
      (cases_lt (low Long n) (2 ^ 31))

  pub extends_long : (to : Register) (from : Operand) (after : State ℕ Bool) (memory' : Numbers)
      → ExtendsLong d before memory to from after memory' → At (ExtendLong to from) after memory'
  unfolding act extend_long plain_operations
  extends_long to from after memory' it =
      ap (λ r. r >>= λ word. in_register to (signed_long_of (low Long word) % 2 ^ 64))
      (carried_is Long from it.number it.from_it)
      ∙ ap (in_register to) (extended it.number it.result it.value it.short it.long)
      ∙ put_register to it.result after memory' it.to_it

  pub loads_address : (width : Width) (to : Register) (from : Memory) (after : State ℕ Bool) (memory' : Numbers)
      → LoadsAddress d before memory width to from after memory' → At (LoadAddress width to from) after memory'
  unfolding act load_address plain_operations
  loads_address width to from after memory' it =
      ap (λ r. clean before.place r >>= λ place. in_register to (low width place % 2 ^ 64))
      (address_is d before memory from it.place it.address)
      ∙ ap (λ n. in_register to (n % 2 ^ 64)) (low_is width it.number it.place it.cut)
      ∙ ap (in_register to) (whole width it.number it.cut.below)
      ∙ put_register to it.number after memory' it.to_it

  pub immediate_is : (width : Width) (n : ℕ) → IsCut width n (pos d.instr.immediate)
      → immediate_of plain_operations width None d.instr.immediate ≡ Ok n
  unfolding immediate_of
  immediate_is width n is = ap Ok (low_is width n d.instr.immediate is)

  pub moves_immediate : (width : Width) (to : Operand) (after : State ℕ Bool) (memory' : Numbers)
      → MovesImmediate d before memory width to after memory' → At (Move width (Immediate to)) after memory'
  unfolding act move_of move_number plain_operations
  moves_immediate width (InRegister to) after memory' it =
      ap (λ r. clean before.place r >>= λ n. in_register to (n % 2 ^ 64)) (immediate_is width it.number it.from_it)
      ∙ ap (in_register to) (whole width it.number it.from_it.below)
      ∙ put_register to it.number after memory' it.to_it
  moves_immediate width (InMemory to) after memory' it =
      ap (λ r. clean before.place r >>= λ n. stored plain_operations acc (size_of width) (frame d before memory)
      before memory to (n % 2 ^ 64))
      (immediate_is width it.number it.from_it)
      ∙ ap₂ (λ size n. stored plain_operations acc size (frame d before memory) before memory to n) (sizes width)
      (whole width it.number it.from_it.below)
      ∙ stored_is (bytes width) to it.number after memory' it.to_it

  -- ** add, or, and, sub, xor, cmp, test

  pub below_of : (kind : Arithmetic) (width : Width) (a b : ℕ) (x y : ℤ) (effect : Effect) → Computes kind width a b x
      y effect
      → effect.number < words width
  below_of Add width a b x y effect it = it.number.below
  below_of Or width a b x y effect it = it.tells.signed.below
  below_of And width a b x y effect it = it.tells.signed.below
  below_of Sub width a b x y effect it = it.number.below
  below_of Xor width a b x y effect it = it.tells.signed.below
  below_of Compare width a b x y effect it = it.number.below

  -- the effect is the definition's
  pub effect_is : (kind : Arithmetic) (writes : Bool) (width : Width) (to : Operand) (second : ℕ → Type 0)
      (after : State ℕ Bool)
      (memory' : Numbers) (it : ComputesOf d before memory kind writes width to second after memory')
      → compute_effect kind width it.a it.b ≡ it.effect
  effect_is kind writes width to second after memory' it =
      (computes kind width it.a it.b it.x it.y it.first_signed it.second_signed it.effect).1 it.computes

  pub concluded_is : (kind : Arithmetic) (width : Width) (to : Operand) (second : ℕ → Type 0) (slot : Slot)
      (after : State ℕ Bool)
      (memory' : Numbers) (it : ComputesOf d before memory kind (writes kind) width to second after memory')
      → IsSlot d before memory to slot
      → concluded plain_operations acc kind width slot it.effect (frame d before memory) before memory ≡ done after
      memory'
  unfolding concluded
  concluded_is Add width to second slot after memory' it is =
      finish d before memory width to slot it.effect after memory' is
      (below_of Add width it.a it.b it.x it.y it.effect it.computes) it.flags it.answers
  concluded_is Or width to second slot after memory' it is =
      finish d before memory width to slot it.effect after memory' is
      (below_of Or width it.a it.b it.x it.y it.effect it.computes) it.flags it.answers
  concluded_is And width to second slot after memory' it is =
      finish d before memory width to slot it.effect after memory' is
      (below_of And width it.a it.b it.x it.y it.effect it.computes) it.flags it.answers
  concluded_is Sub width to second slot after memory' it is =
      finish d before memory width to slot it.effect after memory' is
      (below_of Sub width it.a it.b it.x it.y it.effect it.computes) it.flags it.answers
  concluded_is Xor width to second slot after memory' it is =
      finish d before memory width to slot it.effect after memory' is
      (below_of Xor width it.a it.b it.x it.y it.effect it.computes) it.flags it.answers
  concluded_is Compare width to second slot after memory' it is =
      settle d before memory it.effect after memory' it.flags it.answers.0 it.answers.1

  -- two numbers that were taken, and a conclusion
  abbrev pub concluding : Arithmetic → Width → Taken → Outcome
  concluding kind width it = concluded plain_operations acc kind width it.slot
      (compute_effect kind width it.number it.other) (frame d before memory) before memory

  pub computes_out : (kind : Arithmetic) (width : Width) (to : Memory) (from : Register) (after : State ℕ Bool)
      (memory' : Numbers)
      → ComputesOf d before memory kind (writes kind) width (InMemory to)
      (Has d before memory width (InRegister from)) after memory'
      → At (Compute kind width (IntoMemory to from)) after memory'
  unfolding act compute_of
  computes_out kind width to from after memory' it =
      let first = take d before memory width (InMemory to) it.a it.b it.first_is in
      ap (λ other. taken plain_operations acc width (frame d before memory) before memory (InMemory to) other >>=
      concluding kind width)
      (register_number d before memory width from it.b it.second_is)
      ∙ ap (λ r. r >>= concluding kind width) first.is
      ∙ ap (λ e. concluded plain_operations acc kind width first.slot e (frame d before memory) before memory)
      (effect_is kind (writes kind) width (InMemory to) _ after memory' it)
      ∙ concluded_is kind width (InMemory to) _ first.slot after memory' it first.is_slot

  computes_plain : (kind : Arithmetic) (width : Width) (to : Operand) (after : State ℕ Bool) (memory' : Numbers)
      → ComputesOf d before memory kind (writes kind) width to (λ number. IsCut width number (pos d.instr.immediate))
      after memory'
      → compute_plain plain_operations acc kind width None (frame d before memory) before memory to ≡ done after memory'
  unfolding compute_plain
  computes_plain kind width to after memory' it =
      let first = take d before memory width to it.a it.b it.first_is in
      ap (λ other. taken plain_operations acc width (frame d before memory) before memory to other >>= concluding kind
      width)
      (immediate_is width it.b it.second_is)
      ∙ ap (λ r. r >>= concluding kind width) first.is
      ∙ ap (λ e. concluded plain_operations acc kind width first.slot e (frame d before memory) before memory)
      (effect_is kind (writes kind) width to _ after memory' it)
      ∙ concluded_is kind width to _ first.slot after memory' it first.is_slot

  pub no_field : (kind : Arithmetic) (width : Width) (to : Operand)
      → compute_number plain_operations acc kind width None (frame d before memory) before memory to
      ≡ compute_plain plain_operations acc kind width None (frame d before memory) before memory to
  unfolding compute_number
  no_field Add Long to = refl
  no_field Add Quad to = refl
  no_field Or width to = refl
  no_field And width to = refl
  no_field Sub width to = refl
  no_field Xor width to = refl
  no_field Compare width to = refl

  pub computes_immediate : (kind : Arithmetic) (width : Width) (to : Operand) (after : State ℕ Bool) (memory' : Numbers)
      → ComputesOf d before memory kind (writes kind) width to (λ number. IsCut width number (pos d.instr.immediate))
      after memory'
      → At (Compute kind width (Immediate to)) after memory'
  unfolding act compute_of
  computes_immediate kind width to after memory' it = no_field kind width to ∙ computes_plain kind width to after
      memory' it

  pub tests : (width : Width) (left_operand : Operand) (right : Register) (after : State ℕ Bool) (memory' : Numbers)
      → ComputesOf d before memory And false width left_operand (Has d before memory width (InRegister right)) after
      memory'
      → At (Test width left_operand right) after memory'
  unfolding act test_of
  tests width left_operand right after memory' it =
      let first = take d before memory width left_operand it.a it.b it.first_is in
      let then_settled = λ (it : Taken). done (settled plain_operations
      (compute_effect And width it.number it.other).changes (frame d before memory) before) memory in
      ap (λ other. taken plain_operations acc width (frame d before memory) before memory left_operand other >>=
      then_settled)
      (register_number d before memory width right it.b it.second_is)
      ∙ ap (λ r. r >>= then_settled) first.is
      ∙ ap (λ (e : Effect). done (settled plain_operations e.changes (frame d before memory) before) memory)
      (effect_is And false width left_operand _ after memory' it)
      ∙ settle d before memory it.effect after memory' it.flags it.answers.0 it.answers.1

  -- ** imul, shl, shr, sar

  pub multiplies_to : (width : Width) (to : Register) (from : Operand) (after : State ℕ Bool) (memory' : Numbers)
      → Multiplies d before memory width to from after memory' → At (Multiply width to from) after memory'
  unfolding act multiply_of
  multiplies_to width to from after memory' it =
      let second = take d before memory width from it.b it.a it.second_is in
      let then_finished = λ (t : Taken). finished plain_operations acc width (OfSlot to)
      (product_effect width t.other t.number) (frame d before memory) before memory in
      ap (λ other. taken plain_operations acc width (frame d before memory) before memory from other >>= then_finished)
      (register_number d before memory width to it.a it.first_is)
      ∙ ap (λ r. r >>= then_finished) second.is
      ∙ ap (λ (e : Effect). finished plain_operations acc width (OfSlot to) e (frame d before memory) before memory)
      ((multiplies width it.a it.b it.x it.y it.first_signed it.second_signed it.effect).1 it.multiplies)
      ∙ finish d before memory width (InRegister to) (OfSlot to) it.effect after memory' refl
      it.multiplies.number.below it.flags it.to_it

  masked_is : (width : Width) (masked count : ℕ) → IsMasked width masked count → count % bits_of width ≡ masked
  masked_is Long masked count is = omega (arith, is.below, is.same)
  masked_is Quad masked count is = omega (arith, is.below, is.same)

  pub shifted_below : (shift : Shift) (width : Width) (a : ℕ) (x : ℤ) (masked : ℕ) (effect : Effect)
      → IsSigned width a x
      → Shifts shift width a x masked effect → effect.number < words width
  shifted_below shift width a x zero effect is it = subst (λ (n : ℕ). n < words width) (sym it.number) is.below
  shifted_below Left width a x (suc less) effect is it = it.number.below
  shifted_below Right width a x (suc less) effect is it = it.tells.signed.below
  shifted_below RightSigned width a x (suc less) effect is it = it.tells.signed.below

  pub shifts_to : (shift : Shift) (width : Width) (to : Operand) (count : ℕ) (after : State ℕ Bool) (memory' : Numbers)
      → ShiftsBy d before memory shift width to count after memory' → At (ShiftBy shift width to count) after memory'
  unfolding act shift_of
  shifts_to shift width to count after memory' it =
      let first = take d before memory width to it.a 0 it.is in
      let then_finished = λ (t : Taken). finished plain_operations acc width t.slot
      (shift_effect shift width t.number (count % bits_of width)) (frame d before memory) before memory in
      ap (λ r. r >>= then_finished) first.is
      ∙ ap (λ n. finished plain_operations acc width first.slot (shift_effect shift width it.a n)
      (frame d before memory) before memory) (masked_is width it.masked count it.mask)
      ∙ ap (λ (e : Effect). finished plain_operations acc width first.slot e (frame d before memory) before memory)
      ((shifts shift width it.a it.x it.masked it.signed it.mask.below it.effect).1 it.shifts)
      ∙ finish d before memory width to first.slot it.effect after memory' first.is_slot
      (shifted_below shift width it.a it.x it.masked it.effect it.signed it.shifts) it.flags it.to_it
