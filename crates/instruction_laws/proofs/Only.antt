-- Wherever the machine goes on, the manual says what is done: each operation's answer is built.
use Rattle.std.proofs.Common.{◌≡◌, ℕ, ◌+◌, ◌-◌, ◌/◌, ◌%◌, ◌^◌, ◌<◌, pos, Bool, true, false, None, Result, Ok, refl, ap}
use Rattle.std.proofs.Common.{sym, subst, arith, ◌∙◌}
use Rattle.std.specs.Bool.{Decides}
use Rattle.std.specs.Prelude.{◌-ℤ◌}
use Rattle.std.proofs.lemmas.Bool.{false≢true}
use Rattle.std.proofs.lemmas.Int.{ints}
use Rattle.amd64_words.specs.declared.register.Register.{Register}
use Rattle.amd64_words.specs.declared.register.Register.TheVariants.{Rsp, Rbp}
use Rattle.amd64_subset.specs.declared.instr.Arithmetic.{Arithmetic}
use Rattle.amd64_subset.specs.declared.instr.Arithmetic.TheVariants.{Add, Or, And, Sub, Xor, Compare}
use Rattle.amd64_subset.specs.declared.instr.Condition.{Condition}
use Rattle.amd64_subset.specs.declared.instr.Decoded.{Decoded}
use Rattle.amd64_subset.specs.declared.instr.Operation.{Operation}
use Rattle.amd64_subset.specs.declared.instr.Operation.TheVariants.{Move, StoreByte, ExtendByte, ExtendLong}
use Rattle.amd64_subset.specs.declared.instr.Operation.TheVariants.{LoadAddress, Compute, Test, Multiply}
use Rattle.amd64_subset.specs.declared.instr.Operation.TheVariants.{Shift as ShiftBy, Push, Pop, Leave, Call, Jump}
use Rattle.amd64_subset.specs.declared.instr.Operation.TheVariants.{JumpIf, Return, Nop, Undefined}
use Rattle.amd64_subset.specs.declared.instr.Shift.{Shift}
use Rattle.amd64_subset.specs.declared.instr.Target.{Target}
use Rattle.amd64_subset.specs.declared.instr.Target.TheVariants.{Relative, Indirect}
use Rattle.amd64_subset.specs.declared.instr.Width.{Width}
use Rattle.amd64_subset.specs.declared.instr.Width.TheVariants.{Long, Quad}
use Rattle.amd64_subset.specs.declared.operand.Memory.{Memory}
use Rattle.amd64_subset.specs.declared.operand.Operand.{Operand}
use Rattle.amd64_subset.specs.declared.operand.Operand.TheVariants.{InMemory, Register as InRegister}
use Rattle.amd64_subset.specs.declared.operand.Operands.TheVariants.{IntoRegister, IntoMemory, Immediate}
use Rattle.guest_arithmetic.specs.declared.cause.Cause.{Cause}
use Rattle.guest_arithmetic.specs.declared.effect.Effect.{Effect}
use Rattle.guest_arithmetic.specs.declared.flags.Flags.{Flags}
use Rattle.guest_arithmetic.specs.Arithmetic.{bits_of, compute_effect, product_effect, shift_effect}
use Rattle.guest_arithmetic.specs.Flags.{with_changes}
use Rattle.guest_arithmetic.specs.Plain.{plain_operations}
use Rattle.guest_operands.specs.declared.slot.Slot.{Slot}
use Rattle.guest_operands.specs.declared.slot.Taken.{Taken}
use Rattle.guest_operands.specs.declared.state.State.{State}
use Rattle.guest_operands.specs.Access.{load_of, store_of}
use Rattle.guest_operands.specs.Operand.{address_of, carried, kept_byte, number_at, size_of, taken}
use Rattle.guest_operands.specs.Frame.{frame_of}
use Rattle.guest_operands.specs.State.{register_of, with_register, with_word, at_place}
use Rattle.guest_operands.specs.Use.{◌>>=◌, plus, clean, there, After, left}
use Rattle.guest_machine.specs.Step.{act, stored, store_byte, move_in, move_number, move_of, extend_byte, extend_long}
use Rattle.guest_machine.specs.Step.{compute_in, compute_plain, compute_of, concluded, finished, is_cleared, test_of}
use Rattle.guest_machine.specs.Step.{multiply_of, shift_of, pushed, push_of, pop_of, leave_of, return_of, call_of}
use Rattle.guest_machine.specs.Step.{jump_of}
use Rattle.instruction_laws.specs.Conditions.{Holds}
use Rattle.instruction_laws.specs.Laws.{HasBytes}
use Rattle.instruction_laws.specs.Words.{words, IsCut}
use Rattle.instruction_laws.specs.Steps.{Numbers, next, Has, IsLowByte, IsMasked, Puts, writes, ComputesOf, Pushes}
use Rattle.instruction_laws.specs.Steps.{IsPopped, JumpsIf, Does}
use Rattle.instruction_laws.proofs.Accessing.{ok_first, then_is, there_ok, extended, loads_byte, loads_word}
use Rattle.instruction_laws.proofs.Building.{Ends, Found, Loads, Stores, addressed, at_address, carried_loads}
use Rattle.instruction_laws.proofs.Building.{finish_stores, has_below, left_at, operand_found, place_of, put_found}
use Rattle.instruction_laws.proofs.Building.{state_at, stored_ok, taken_loads}
use Rattle.instruction_laws.proofs.Comparing.{change, test_of as test_by, holds}
use Rattle.instruction_laws.proofs.Computing.{computes}
use Rattle.instruction_laws.proofs.Going.{computing, back_is, does, frame_is}
use Rattle.instruction_laws.proofs.Multiplying.{cut_of, multiplies, pos_cut}
use Rattle.instruction_laws.proofs.Operating.{At, below_of, byte_is, concluding, immediate_is, kept_is, no_field}
use Rattle.instruction_laws.proofs.Operating.{shifted_below}
use Rattle.instruction_laws.proofs.Shifting.{shifts}
use Rattle.instruction_laws.proofs.Stepping.{done, acc, frame, whole, sizes, IsSlot, take, register_number}
use Rattle.instruction_laws.proofs.Words.{signed_of}

module _ (d : Decoded) (before : State ℕ Bool) (memory : Numbers)
    (have_words : (register : Register) → register_of before.registers register < 2 ^ 64)
    (small : HasBytes memory) where
  -- ** words that are moved

  move_in_found : (width : Width) (to : Register) (from : Operand)
      → Ends d before memory (Move width (IntoRegister to from))
  unfolding act move_of move_in
  move_in_found width to from y at =
      let first = ok_first (carried plain_operations acc width (frame d before memory) before memory from)
      (λ word. done (at_place (with_word before to word) (plus before.place d.len)) memory) y at in
      let it = operand_found d before memory small width from (carried_loads d before memory width from first.0
      first.1) in
      let result = put_found d before memory width (InRegister to) it.0 before.flags tt in
      (result.after, result.memory', record { number = it.0; from_it = it.1; to_it = result.puts })

  move_out_found : (width : Width) (to : Memory) (from : Register)
      → Ends d before memory (Move width (IntoMemory to from))
  unfolding act move_of
  move_out_found width to from y at =
      let it = operand_found d before memory small width (InRegister from) tt in
      let first = stored_ok d before memory (size_of width) to _ y at in
      let stores : Stores d before memory width (InMemory to) it.0 = (
        first.0,
        sym (λ i. store_of plain_operations acc memory (place_of d before memory to) (sizes width i)
            (kept_is d before memory have_words width from it.0 it.1 i)) ∙ first.1,
      ) in
      let result = put_found d before memory width (InMemory to) it.0 before.flags stores in
      (result.after, result.memory', record { number = it.0; from_it = it.1; to_it = result.puts })

  immediate_found : (width : Width) → (n : ℕ) × IsCut width n (pos d.instr.immediate)
  immediate_found width = (_, pos_cut width d.instr.immediate d.instr.immediate 0 0 refl)

  move_immediate_found : (width : Width) (to : Operand) → Ends d before memory (Move width (Immediate to))
  unfolding act move_of move_number plain_operations
  move_immediate_found width (InRegister to) y at =
      let it = immediate_found width in
      let result = put_found d before memory width (InRegister to) it.0 before.flags tt in
      (result.after, result.memory', record { number = it.0; from_it = it.1; to_it = result.puts })
  move_immediate_found width (InMemory to) y at =
      let it = immediate_found width in
      let now = sym (ap (λ r. clean before.place r >>= λ n. stored plain_operations acc (size_of width)
      (frame d before memory) before memory to (n % 2 ^ 64)) (immediate_is d before memory have_words width it.0 it.1))
      ∙ at in
      let first = stored_ok d before memory (size_of width) to (it.0 % 2 ^ 64) y now in
      let stores : Stores d before memory width (InMemory to) it.0 = (
        first.0,
        sym (λ i. store_of plain_operations acc memory (place_of d before memory to) (sizes width i)
            (whole width it.0 it.1.below i)) ∙ first.1,
      ) in
      let result = put_found d before memory width (InMemory to) it.0 before.flags stores in
      (result.after, result.memory', record { number = it.0; from_it = it.1; to_it = result.puts })

  -- ** bytes, sign extension, addresses

  low_byte : (word : ℕ) → (byte : ℕ) × IsLowByte byte word
  low_byte word = (word % 256, record { below = omega arith; above = word / 256; same = omega arith })

  store_byte_found : (to : Memory) (from : Register) → Ends d before memory (StoreByte to from)
  unfolding act store_byte kept_byte plain_operations
  store_byte_found to from y at =
      let it = low_byte (register_of before.registers from) in
      let first = stored_ok d before memory 1 to _ y at in
      let same = byte_is d before memory have_words (register_of before.registers from) it.0 it.1 in (
        state_at d before memory (before.place + d.len) before.registers before.flags,
        first.0,
        record {
          byte = it.0;
          from_it = it.1;
          to_it = (
            left_at d before memory (before.place + d.len) before.registers before.flags,
            record {
              place = place_of d before memory to;
              address = at_address d before memory to;
              stored = sym (ap (λ (word : ℕ). store_of plain_operations acc memory (place_of d before memory to) 1
                  word) same) ∙ first.1;
            },
          );
        },
      )

  extend_byte_found : (width : Width) (to : Register) (from : Operand) → Ends d before memory (ExtendByte width to from)
  unfolding act extend_byte
  extend_byte_found width to (InRegister from) y at =
      let it = low_byte (register_of before.registers from) in
      let result = put_found d before memory Quad (InRegister to) it.0 before.flags tt in
      (result.after, result.memory', record { byte = it.0; from_it = it.1; to_it = result.puts })
  extend_byte_found width to (InMemory from) y at =
      let now = then_is (clean before.place (address_of plain_operations (frame d before memory) before from))
      (λ place. there before.place (load_of plain_operations acc memory place 1) >>= λ word. done
      (at_place (with_word before to word) (plus before.place d.len)) memory) (place_of d before memory from) y
      (ap (clean before.place) (addressed d before memory from)) at in
      let first = ok_first (there before.place (load_of plain_operations acc memory (place_of d before memory from) 1))
      (λ word. done (at_place (with_word before to word) (plus before.place d.len)) memory) y now in
      let loaded = there_ok before.place (load_of plain_operations acc memory (place_of d before memory from) 1)
      first.0 first.1 in
      let result = put_found d before memory Quad (InRegister to) first.0 before.flags tt in (
        result.after,
        result.memory',
        record {
          byte = first.0;
          from_it = record {
            place = place_of d before memory from;
            address = at_address d before memory from;
            loaded = loaded;
            below = loads_byte memory small (place_of d before memory from) first.0 loaded;
          };
          to_it = result.puts;
        },
      )

  extend_long_found : (to : Register) (from : Operand) → Ends d before memory (ExtendLong to from)
  unfolding act extend_long
  extend_long_found to from y at =
      let first = ok_first (carried plain_operations acc Long (frame d before memory) before memory from) _ y at in
      let it = operand_found d before memory small Long from (carried_loads d before memory Long from first.0
      first.1) in
      let long = extended it.0 (has_below d before memory Long from it.0 it.1) in
      let result = put_found d before memory Quad (InRegister to) long.result before.flags tt in (
        result.after,
        result.memory',
        record {
          number = it.0;
          from_it = it.1;
          value = long.value;
          short = long.short;
          result = long.result;
          long = long.long;
          to_it = result.puts;
        },
      )

  load_address_found : (width : Width) (to : Register) (from : Memory)
      → Ends d before memory (LoadAddress width to from)
  load_address_found width to from y at =
      let cut = pos_cut width (place_of d before memory from) (place_of d before memory from) 0 0 refl in
      let result = put_found d before memory width (InRegister to) _ before.flags tt in (
        result.after,
        result.memory',
        record {
          place = place_of d before memory from;
          address = at_address d before memory from;
          number = _;
          cut = cut;
          to_it = result.puts;
        },
      )

  -- ** add, or, and, sub, xor, cmp, test

  abbrev flags_after : Effect → Flags Bool
  flags_after effect = with_changes plain_operations effect.changes before.flags

  computing_found : (kind : Arithmetic) (width : Width) (to : Operand) (second : ℕ → Type 0) (a b : ℕ)
      → Has d before memory width to a → second b → b < words width → (w : Bool)
      → (w ≡ true → Stores d before memory width to (compute_effect kind width a b).number)
      → Found d before memory (ComputesOf d before memory kind w width to second)
  computing_found kind width to second a b has is below true stores =
      let first = signed_of width a (has_below d before memory width to a has) in
      let other = signed_of width b below in
      let effect = compute_effect kind width a b in
      let result = put_found d before memory width to effect.number (flags_after effect) (stores refl) in (
        result.after,
        result.memory',
        record {
          a = a;
          b = b;
          x = first.0;
          y = other.0;
          first_is = has;
          second_is = is;
          first_signed = first.1;
          second_signed = other.1;
          effect = effect;
          computes = (computes kind width a b first.0 other.0 first.1 other.1 effect).0 refl;
          flags = (change effect.changes before.flags result.after.flags).0 result.flags_are;
          answers = subst (λ (flags : Flags Bool). Puts d before memory width to effect.number flags result.after
              result.memory') result.flags_are result.puts;
        },
      )
  computing_found kind width to second a b has is below false stores =
      let first = signed_of width a (has_below d before memory width to a has) in
      let other = signed_of width b below in
      let effect = compute_effect kind width a b in (
        state_at d before memory (before.place + d.len) before.registers (flags_after effect),
        memory,
        record {
          a = a;
          b = b;
          x = first.0;
          y = other.0;
          first_is = has;
          second_is = is;
          first_signed = first.1;
          second_signed = other.1;
          effect = effect;
          computes = (computes kind width a b first.0 other.0 first.1 other.1 effect).0 refl;
          flags = (change effect.changes before.flags (flags_after effect)).0 refl;
          answers = (left_at d before memory (before.place + d.len) before.registers (flags_after effect), refl);
        },
      )

  effect_below : (kind : Arithmetic) (width : Width) (a b : ℕ) → a < words width → b < words width
      → (compute_effect kind width a b).number < words width
  effect_below kind width a b low high =
      let first = signed_of width a low in
      let other = signed_of width b high in
      below_of d before memory have_words kind width a b first.0 other.0 (compute_effect kind width a b)
      ((computes kind width a b first.0 other.0 first.1 other.1 (compute_effect kind width a b)).0 refl)

  concluded_stores : (kind : Arithmetic) (width : Width) (to : Operand) (slot : Slot) (effect : Effect)
      (y : After ℕ Bool Numbers)
      → writes kind ≡ true → IsSlot d before memory to slot → effect.number < words width
      → concluded plain_operations acc kind width slot effect (frame d before memory) before memory ≡ Ok y
      → Stores d before memory width to effect.number
  unfolding concluded
  concluded_stores Add width to slot effect y w is below at =
      finish_stores d before memory width to slot effect y is below at
  concluded_stores Or width to slot effect y w is below at =
      finish_stores d before memory width to slot effect y is below at
  concluded_stores And width to slot effect y w is below at =
      finish_stores d before memory width to slot effect y is below at
  concluded_stores Sub width to slot effect y w is below at =
      finish_stores d before memory width to slot effect y is below at
  concluded_stores Xor width to slot effect y w is below at =
      finish_stores d before memory width to slot effect y is below at
  concluded_stores Compare width to slot effect y w is below at = absurd cc

  conclude_found : (kind : Arithmetic) (width : Width) (to : Operand) (second : ℕ → Type 0) (b : ℕ)
      (other : Result ℕ Cause) (y : After ℕ Bool Numbers)
      → other ≡ Ok b → second b → b < words width
      → (taken plain_operations acc width (frame d before memory) before memory to other
      >>= concluding d before memory have_words kind width) ≡ Ok y
      → Found d before memory (ComputesOf d before memory kind (writes kind) width to second)
  conclude_found kind width to second b other y known is below at =
      let t = ok_first (taken plain_operations acc width (frame d before memory) before memory to other)
      (concluding d before memory have_words kind width) y at in
      let first = operand_found d before memory small width to (taken_loads d before memory width to other t.0 t.1) in
      let slot = take d before memory width to first.0 b first.1 in
      let all = ap (λ other. taken plain_operations acc width (frame d before memory) before memory to other) known
      ∙ slot.is in
      let final = then_is (taken plain_operations acc width (frame d before memory) before memory to other)
      (concluding d before memory have_words kind width)
      (record { slot = slot.slot; number = first.0; other = b }) y all at in
      computing_found kind width to second first.0 b first.1 is below (writes kind)
      (λ w. concluded_stores kind width to slot.slot (compute_effect kind width first.0 b) y w slot.is_slot
      (effect_below kind width first.0 b (has_below d before memory width to first.0 first.1) below) final)

  compute_out_found : (kind : Arithmetic) (width : Width) (to : Memory) (from : Register)
      → Ends d before memory (Compute kind width (IntoMemory to from))
  unfolding act compute_of
  compute_out_found kind width to from y at =
      let it = operand_found d before memory small width (InRegister from) tt in
      conclude_found kind width (InMemory to) (Has d before memory width (InRegister from)) it.0
      (number_at plain_operations width (register_of before.registers from)) y
      (register_number d before memory width from it.0 it.1) it.1 (has_below d before memory width (InRegister from)
      it.0 it.1) at

  compute_plain_found : (kind : Arithmetic) (width : Width) (to : Operand) (y : After ℕ Bool Numbers)
      → compute_plain plain_operations acc kind width None (frame d before memory) before memory to ≡ Ok y
      → Found d before memory (ComputesOf d before memory kind (writes kind) width to
      (λ number. IsCut width number (pos d.instr.immediate)))
  unfolding compute_plain
  compute_plain_found kind width to y at =
      let it = immediate_found width in
      conclude_found kind width to (λ number. IsCut width number (pos d.instr.immediate)) it.0 _ y
      (immediate_is d before memory have_words width it.0 it.1) it.1 it.1.below at

  compute_immediate_found : (kind : Arithmetic) (width : Width) (to : Operand)
      → Ends d before memory (Compute kind width (Immediate to))
  unfolding act compute_of
  compute_immediate_found kind width to y at =
      compute_plain_found kind width to y (sym (no_field d before memory have_words kind width to) ∙ at)

  computing_loads : (kind : Arithmetic) (width : Width) (to : Register) (from : Operand) (y : After ℕ Bool Numbers)
      → computing d before memory have_words kind width to from ≡ Ok y → Loads d before memory width from
  computing_loads kind width to from y at =
      let t = ok_first (taken plain_operations acc width (frame d before memory) before memory from
      (number_at plain_operations width (register_of before.registers to))) _ y at in
      taken_loads d before memory width from _ t.0 t.1

  memory_loads : (kind : Arithmetic) (width : Width) (to : Register) (from : Memory) (y : After ℕ Bool Numbers)
      → act plain_operations acc (frame d before memory) (Compute kind width (IntoRegister to (InMemory from))) before
      memory ≡ Ok y
      → Loads d before memory width (InMemory from)
  unfolding act compute_of compute_in is_cleared
  memory_loads Add width to from y at = computing_loads Add width to (InMemory from) y at
  memory_loads Or width to from y at = computing_loads Or width to (InMemory from) y at
  memory_loads And width to from y at = computing_loads And width to (InMemory from) y at
  memory_loads Sub width to from y at = computing_loads Sub width to (InMemory from) y at
  memory_loads Xor width to from y at = computing_loads Xor width to (InMemory from) y at
  memory_loads Compare width to from y at = computing_loads Compare width to (InMemory from) y at

  compute_loads : (kind : Arithmetic) (width : Width) (to : Register) (from : Operand) (y : After ℕ Bool Numbers)
      → act plain_operations acc (frame d before memory) (Compute kind width (IntoRegister to from)) before memory ≡
      Ok y
      → Loads d before memory width from
  compute_loads kind width to (InRegister from) y at = tt
  compute_loads kind width to (InMemory from) y at = memory_loads kind width to from y at

  compute_in_found : (kind : Arithmetic) (width : Width) (to : Register) (from : Operand)
      → Ends d before memory (Compute kind width (IntoRegister to from))
  compute_in_found kind width to from y at =
      let first = operand_found d before memory small width (InRegister to) tt in
      let second = operand_found d before memory small width from (compute_loads kind width to from y at) in
      computing_found kind width (InRegister to) (Has d before memory width from) first.0 second.0 first.1 second.1
      (has_below d before memory width from second.0 second.1) (writes kind) (λ w. tt)

  test_found : (width : Width) (left_operand : Operand) (right : Register)
      → Ends d before memory (Test width left_operand right)
  unfolding act test_of
  test_found width left_operand right y at =
      let t = ok_first (taken plain_operations acc width (frame d before memory) before memory left_operand
      (number_at plain_operations width (register_of before.registers right))) _ y at in
      let first = operand_found d before memory small width left_operand (taken_loads d before memory width
      left_operand _ t.0 t.1) in
      let second = operand_found d before memory small width (InRegister right) tt in
      computing_found And width left_operand (Has d before memory width (InRegister right)) first.0 second.0 first.1
      second.1 (has_below d before memory width (InRegister right) second.0 second.1) false (λ w. absurd cc)

  -- ** imul, shl, shr, sar

  multiply_found : (width : Width) (to : Register) (from : Operand) → Ends d before memory (Multiply width to from)
  unfolding act multiply_of
  multiply_found width to from y at =
      let t = ok_first (taken plain_operations acc width (frame d before memory) before memory from
      (number_at plain_operations width (register_of before.registers to))) _ y at in
      let first = operand_found d before memory small width (InRegister to) tt in
      let second = operand_found d before memory small width from (taken_loads d before memory width from _ t.0 t.1) in
      let x = signed_of width first.0 (has_below d before memory width (InRegister to) first.0 first.1) in
      let z = signed_of width second.0 (has_below d before memory width from second.0 second.1) in
      let effect = product_effect width first.0 second.0 in
      let result = put_found d before memory width (InRegister to) effect.number (flags_after effect) tt in (
        result.after,
        result.memory',
        record {
          a = first.0;
          b = second.0;
          x = x.0;
          y = z.0;
          first_is = first.1;
          second_is = second.1;
          first_signed = x.1;
          second_signed = z.1;
          effect = effect;
          multiplies = (multiplies width first.0 second.0 x.0 z.0 x.1 z.1 effect).0 refl;
          flags = (change effect.changes before.flags result.after.flags).0 result.flags_are;
          to_it = subst (λ (flags : Flags Bool). Puts d before memory width (InRegister to) effect.number flags
              result.after result.memory') result.flags_are result.puts;
        },
      )

  masked : (width : Width) (count : ℕ) → IsMasked width (count % bits_of width) count
  masked Long count = record { below = omega arith; above = count / 32; same = omega arith }
  masked Quad count = record { below = omega arith; above = count / 64; same = omega arith }

  shift_found : (shift : Shift) (width : Width) (to : Operand) (count : ℕ)
      → Ends d before memory (ShiftBy shift width to count)
  unfolding act shift_of
  shift_found shift width to count y at =
      let then_finished = λ (t : Taken). finished plain_operations acc width t.slot
      (shift_effect shift width t.number (count % bits_of width)) (frame d before memory) before memory in
      let t = ok_first (taken plain_operations acc width (frame d before memory) before memory to (Ok 0))
      then_finished y
      at in
      let first = operand_found d before memory small width to (taken_loads d before memory width to (Ok 0) t.0 t.1) in
      let slot = take d before memory width to first.0 0 first.1 in
      let x = signed_of width first.0 (has_below d before memory width to first.0 first.1) in
      let mask = masked width count in
      let effect = shift_effect shift width first.0 (count % bits_of width) in
      let final = then_is (taken plain_operations acc width (frame d before memory) before memory to (Ok 0))
      then_finished
      (record { slot = slot.slot; number = first.0; other = 0 }) y slot.is at in
      let is = (shifts shift width first.0 x.0 (count % bits_of width) x.1 mask.below effect).0 refl in
      let below = shifted_below d before memory have_words shift width first.0 x.0 (count % bits_of width) effect x.1 is
      in
      let result = put_found d before memory width to effect.number (flags_after effect)
      (finish_stores d before memory width to slot.slot effect y slot.is_slot below final) in (
        result.after,
        result.memory',
        record {
          a = first.0;
          x = x.0;
          is = first.1;
          signed = x.1;
          masked = count % bits_of width;
          mask = mask;
          effect = effect;
          shifts = is;
          flags = (change effect.changes before.flags result.after.flags).0 result.flags_are;
          to_it = subst (λ (flags : Flags Bool). Puts d before memory width to effect.number flags result.after
              result.memory') result.flags_are result.puts;
        },
      )

  -- ** the stack

  abbrev stack_below : ℕ
  stack_below = plus before.registers.rsp (2 ^ 64 - 8)

  pushed_ok : (word : ℕ) (y : After ℕ Bool Numbers)
      → pushed plain_operations acc before.registers.rsp word before memory ≡ Ok y
      → (m : Numbers) × (store_of plain_operations acc memory stack_below 8 word ≡ Ok m)
  unfolding pushed
  pushed_ok word y at =
      let first = ok_first (there before.place (store_of plain_operations acc memory stack_below 8 word)) _ y at in
      (first.0, there_ok before.place (store_of plain_operations acc memory stack_below 8 word) first.0 first.1)

  push_found : (word place : ℕ) (m : Numbers) → store_of plain_operations acc memory stack_below 8 word ≡ Ok m
      → Found d before memory (Pushes d before memory word (pos place))
  unfolding register_of
  push_found word place m stored = (
    state_at d before memory place (with_register before.registers Rsp stack_below) before.flags,
    m,
    record {
      stack = stack_below;
      lower = cut_of Quad (before.registers.rsp + 18446744073709551608) (pos before.registers.rsp -ℤ pos 8) 1 0
          (omega (arith, ints));
      stored = stored;
      state = left_at d before memory place (with_register before.registers Rsp stack_below) before.flags;
    },
  )

  pushes_found : (from : Register) → Ends d before memory (Push from)
  unfolding act push_of plain_operations
  pushes_found from y at =
      let word = register_of before.registers from in
      let first = ok_first (pushed plain_operations acc before.registers.rsp word before memory) _ y at in
      let stored = pushed_ok word first.0 first.1 in
      push_found word (before.place + d.len) stored.0 stored.1

  popped : (from : Register) (word : ℕ)
      → load_of plain_operations acc memory (register_of before.registers from) 8 ≡ Ok word
      → IsPopped d before memory from word (plus (register_of before.registers from) 8)
  popped from word loaded = record {
    loaded = loaded;
    below = loads_word memory small 8 (register_of before.registers from) word loaded;
    higher = pos_cut Quad (register_of before.registers from + 8) (register_of before.registers from + 8) 0 0 refl;
  }

  pop_found : (to : Register) → Ends d before memory (Pop to)
  unfolding act pop_of plain_operations register_of
  pop_found to y at =
      let first = ok_first (there before.place (load_of plain_operations acc memory before.registers.rsp 8)) _ y at in
      let word = first.0 in
      let loaded = there_ok before.place (load_of plain_operations acc memory before.registers.rsp 8) word first.1 in
      let stack = plus before.registers.rsp 8 in
      let registers = with_register (with_register before.registers Rsp stack) to word in (
        state_at d before memory (before.place + d.len) registers before.flags,
        memory,
        record {
          word = word;
          stack = stack;
          popped = popped Rsp word loaded;
          state = left_at d before memory (before.place + d.len) registers before.flags;
          same = refl;
        },
      )

  leave_found : Ends d before memory Leave
  unfolding act leave_of plain_operations register_of
  leave_found y at =
      let first = ok_first (there before.place (load_of plain_operations acc memory before.registers.rbp 8)) _ y at in
      let word = first.0 in
      let loaded = there_ok before.place (load_of plain_operations acc memory before.registers.rbp 8) word first.1 in
      let stack = plus before.registers.rbp 8 in
      let registers = with_register (with_register before.registers Rsp stack) Rbp word in (
        state_at d before memory (before.place + d.len) registers before.flags,
        memory,
        record {
          word = word;
          stack = stack;
          popped = popped Rbp word loaded;
          state = left_at d before memory (before.place + d.len) registers before.flags;
          same = refl;
        },
      )

  return_found : Ends d before memory Return
  unfolding act return_of plain_operations register_of
  return_found y at =
      let first = ok_first (there before.place (load_of plain_operations acc memory before.registers.rsp 8)) _ y at in
      let word = first.0 in
      let loaded = there_ok before.place (load_of plain_operations acc memory before.registers.rsp 8) word first.1 in
      let stack = plus before.registers.rsp 8 in
      let registers = with_register before.registers Rsp stack in (
        state_at d before memory word registers before.flags,
        memory,
        record {
          word = word;
          stack = stack;
          popped = popped Rsp word loaded;
          state = left_at d before memory word registers before.flags;
          same = refl;
        },
      )

  -- ** calls and jumps

  abbrev back : ℕ
  back = plus before.place d.len

  back_cut : IsCut Quad back (next d before memory)
  back_cut = pos_cut Quad (before.place + d.len) (before.place + d.len) 0 0 refl

  returns_to : (m : Numbers)
      → store_of plain_operations acc memory stack_below 8 (plus before.place d.len % 2 ^ 64) ≡ Ok m
      → store_of plain_operations acc memory stack_below 8 back ≡ Ok m
  returns_to m stored =
      sym (ap (λ (word : ℕ). store_of plain_operations acc memory stack_below 8 word)
      (back_is d before memory have_words back back_cut)) ∙ stored

  call_found : (target : Target) → Ends d before memory (Call target)
  unfolding act call_of plain_operations
  call_found (Relative distance) y at =
      let first = ok_first (pushed plain_operations acc before.registers.rsp (plus before.place d.len % 2 ^ 64) before
      memory) _ y at in
      let stored = pushed_ok (plus before.place d.len % 2 ^ 64) first.0 first.1 in
      let it = push_found back (before.place + d.len + distance) stored.0 (returns_to stored.0 stored.1) in (
        it.0,
        it.1,
        record {
          place = pos (before.place + d.len + distance);
          goes = refl;
          back = back;
          returns = back_cut;
          pushes = it.2;
        },
      )
  call_found (Indirect operand) y at =
      let t = ok_first (taken plain_operations acc Quad (frame d before memory) before memory operand
      (Ok before.registers.rsp)) _ y at in
      let target = operand_found d before memory small Quad operand (taken_loads d before memory Quad operand (Ok
      before.registers.rsp) t.0 t.1) in
      let slot = take d before memory Quad operand target.0 before.registers.rsp target.1 in
      let now = then_is (taken plain_operations acc Quad (frame d before memory) before memory operand
      (Ok before.registers.rsp))
      (λ (t : Taken). pushed plain_operations acc t.other (plus before.place d.len % 2 ^ 64) before memory
      >>= λ it. done (at_place it.state t.number) it.memory)
      (record { slot = slot.slot; number = target.0; other = before.registers.rsp }) y slot.is at in
      let first = ok_first (pushed plain_operations acc before.registers.rsp (plus before.place d.len % 2 ^ 64) before
      memory) _ y now in
      let stored = pushed_ok (plus before.place d.len % 2 ^ 64) first.0 first.1 in
      let it = push_found back target.0 stored.0 (returns_to stored.0 stored.1) in (
        it.0,
        it.1,
        record {
          place = pos target.0;
          goes = (target.0, target.1, refl);
          back = back;
          returns = back_cut;
          pushes = it.2;
        },
      )

  jump_found : (target : Target) → Ends d before memory (Jump target)
  unfolding act jump_of
  jump_found (Relative distance) y at = (
    state_at d before memory (before.place + d.len + distance) before.registers before.flags,
    memory,
    record {
      place = pos (before.place + d.len + distance);
      goes = refl;
      state = left_at d before memory (before.place + d.len + distance) before.registers before.flags;
      same = refl;
    },
  )
  jump_found (Indirect operand) y at =
      let t = ok_first (taken plain_operations acc Quad (frame d before memory) before memory operand (Ok 0)) _ y at in
      let target = operand_found d before memory small Quad operand (taken_loads d before memory Quad operand (Ok 0)
      t.0 t.1) in (
        state_at d before memory target.0 before.registers before.flags,
        memory,
        record {
          place = pos target.0;
          goes = (target.0, target.1, refl);
          state = left_at d before memory target.0 before.registers before.flags;
          same = refl;
        },
      )

  jump_by_found : (condition : Condition) (distance : ℕ) (t : Bool) → Decides t (Holds condition before.flags)
      → Found d before memory (JumpsIf d before memory condition distance)
  jump_by_found condition distance true decides = (
    state_at d before memory (before.place + d.len + distance) before.registers before.flags,
    memory,
    record {
      taken = λ is. left_at d before memory (before.place + d.len + distance) before.registers before.flags;
      else_next = λ none. absurd (none (decides.0 refl));
      same = refl;
    },
  )
  jump_by_found condition distance false decides = (
    state_at d before memory (before.place + d.len) before.registers before.flags,
    memory,
    record {
      taken = λ is. absurd (false≢true (decides.1 is));
      else_next = λ none. left_at d before memory (before.place + d.len) before.registers before.flags;
      same = refl;
    },
  )

  -- ** all of them

  never : (y : After ℕ Bool Numbers) → act plain_operations acc (frame d before memory) Undefined before memory ≡ Ok y
      → ⊥
  unfolding act
  never y at = cc

  found : (operation : Operation) → Ends d before memory operation
  found (Move width (IntoRegister to from)) = move_in_found width to from
  found (Move width (IntoMemory to from)) = move_out_found width to from
  found (Move width (Immediate to)) = move_immediate_found width to
  found (StoreByte to from) = store_byte_found to from
  found (ExtendByte width to from) = extend_byte_found width to from
  found (ExtendLong to from) = extend_long_found to from
  found (LoadAddress width to from) = load_address_found width to from
  found (Compute kind width (IntoRegister to from)) = compute_in_found kind width to from
  found (Compute kind width (IntoMemory to from)) = compute_out_found kind width to from
  found (Compute kind width (Immediate to)) = compute_immediate_found kind width to
  found (Test width left_operand right) = test_found width left_operand right
  found (Multiply width to from) = multiply_found width to from
  found (ShiftBy shift width to count) = shift_found shift width to count
  found (Push from) = pushes_found from
  found (Pop to) = pop_found to
  found Leave = leave_found
  found (Call target) = call_found target
  found (Jump target) = jump_found target
  found (JumpIf condition distance) = λ y at. jump_by_found condition distance (test_by condition before.flags)
      (holds condition before.flags)
  found Return = return_found
  found (Nop operand) = λ y at. (
    state_at d before memory (before.place + d.len) before.registers before.flags,
    memory,
    (left_at d before memory (before.place + d.len) before.registers before.flags, refl),
  )
  found Undefined = λ y at. absurd (never y at)

  -- what is found is what was left
  only : (operation : Operation) (after : State ℕ Bool) (memory' : Numbers)
      → At d before memory have_words operation after memory' → Does d before memory operation after memory'
  only operation after memory' at =
      let it = found operation (left after memory') at in
      let same : done it.0 it.1 ≡ done after memory' =
      sym (does d before memory have_words operation it.0 it.1 it.2) ∙ at in
      let one : left it.0 it.1 ≡ left after memory' = cc in
      subst (λ (y : After ℕ Bool Numbers). Does d before memory operation y.state y.memory) one it.2

pub steps_only : (d : Decoded) (before after : State ℕ Bool) (memory memory' : Numbers)
    → ((register : Register) → register_of before.registers register < 2 ^ 64) → HasBytes memory
    → act plain_operations acc (frame_of (λ place. false) before.place d) d.instr.operation before memory ≡ Ok
    (left after memory')
    → Does d before memory d.instr.operation after memory'
steps_only d before after memory memory' have_words small at =
    only d before memory have_words small d.instr.operation after memory'
    (sym (ap (λ f. act plain_operations acc f d.instr.operation before memory) (frame_is d before.place)) ∙ at)
