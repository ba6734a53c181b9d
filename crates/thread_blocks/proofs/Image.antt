-- Where one memory is the image of another, a machine does over the image what it does over the memory.
use Rattle.std.proofs.Common.{◌≡◌, ℕ, zero, suc, ◌-◌, ◌%◌, ◌^◌, Bool, true, false, List, [], ◌∷◌, Option, Some, None}
use Rattle.std.proofs.Common.{Result, Ok, Err, refl, ap}
use Rattle.std.specs.Prelude.{if◌then◌else◌}
use Rattle.amd64_words.specs.declared.register.Register.{Register}
use Rattle.amd64_subset.specs.declared.instr.Width.{Width}
use Rattle.amd64_subset.specs.declared.instr.Width.TheVariants.{Long, Quad}
use Rattle.amd64_subset.specs.declared.instr.Arithmetic.{Arithmetic}
use Rattle.amd64_subset.specs.declared.instr.Arithmetic.TheVariants.{Add, Or, And, Sub, Xor, Compare}
use Rattle.amd64_subset.specs.declared.instr.Shift.{Shift}
use Rattle.amd64_subset.specs.declared.instr.Condition.{Condition}
use Rattle.amd64_subset.specs.declared.instr.Decoded.{Decoded}
use Rattle.amd64_subset.specs.declared.instr.Target.{Target}
use Rattle.amd64_subset.specs.declared.instr.Target.TheVariants.{Relative, Indirect}
use Rattle.amd64_subset.specs.declared.instr.Operation.{Operation}
use Rattle.amd64_subset.specs.declared.instr.Operation.TheVariants.{Move, StoreByte, ExtendByte, ExtendLong}
use Rattle.amd64_subset.specs.declared.instr.Operation.TheVariants.{LoadAddress, Compute, Test, Multiply}
use Rattle.amd64_subset.specs.declared.instr.Operation.TheVariants.{Shift as ShiftBy, Push, Pop, Leave, Call, Jump}
use Rattle.amd64_subset.specs.declared.instr.Operation.TheVariants.{JumpIf, Return, Nop, Undefined}
use Rattle.amd64_subset.specs.declared.operand.Memory.{Memory}
use Rattle.amd64_subset.specs.declared.operand.Operand.{Operand}
use Rattle.amd64_subset.specs.declared.operand.Operand.TheVariants.{InMemory, Register as InRegister}
use Rattle.amd64_subset.specs.declared.operand.Operands.{Operands}
use Rattle.amd64_subset.specs.declared.operand.Operands.TheVariants.{IntoRegister, IntoMemory, Immediate}
use Rattle.amd64_subset.specs.Decoding.{decoded}
use Rattle.guest_arithmetic.specs.declared.cause.Cause.{Cause}
use Rattle.guest_arithmetic.specs.declared.effect.Effect.{Effect}
use Rattle.guest_operands.specs.declared.frame.Frame.{Frame}
use Rattle.guest_operands.specs.declared.slot.Slot.{Slot}
use Rattle.guest_operands.specs.declared.slot.Slot.TheVariants.{Place, Register as OfSlot}
use Rattle.guest_operands.specs.declared.state.State.{State}
use Rattle.guest_operands.specs.declared.stop.Stop.{Stop}
use Rattle.guest_machine.specs.Access.{Refusal, Refused, Shut, Accesses, next_place, reached, bytes_from, bytes_at}
use Rattle.guest_machine.specs.Access.{all_write, put_all, code_at, fetch_of, load_of, store_of}
use Rattle.guest_arithmetic.specs.Arithmetic.{bits_of, compute_effect, product_effect, shift_effect, each_flag}
use Rattle.guest_arithmetic.specs.Flags.{condition_of}
use Rattle.guest_machine.specs.Operand.{size_of, address_of, number_at, carried, taken_at, taken, put}
use Rattle.guest_machine.specs.Run.{Next, Goes, Ends, Looks, Outcome, Ended, Stepping, over_or, go_on, run, next_of}
use Rattle.guest_machine.specs.Run.{is_look, machine}
use Rattle.guest_machine.specs.State.{register_of}
use Rattle.guest_machine.specs.Frame.{frame_of}
use Rattle.guest_machine.specs.Step.{immediate_of, is_cleared, nop_use, finished, concluded, move_in, stored}
use Rattle.guest_machine.specs.Step.{store_byte, move_number, move_of, extend_byte, extend_long, load_address}
use Rattle.guest_machine.specs.Step.{compute_in, add_field, compute_plain, compute_number, compute_of, test_of}
use Rattle.guest_machine.specs.Step.{multiply_of, shift_of, pushed, push_of, pop_of, leave_of, return_of, call_of}
use Rattle.guest_machine.specs.Step.{jump_of, jump_if, nop_of, act, act_if, step_of}
use Rattle.guest_machine.specs.Use.{◌>>=◌, plus, clean, there, After}
use Rattle.guest_arithmetic.specs.Values.{Operations}
use Rattle.thread_blocks.specs.Spaces.{next_image, outcome_image, IsRunImage}
use Rattle.thread_blocks.specs.SpaceLaws.{IsImage, after_of, mapped}
use Rattle.guest_arithmetic.specs.declared.effect.Change.TheVariants.{Unsettled}

-- the same thing after the same
then-same : {A C : Type 0} (r : Result A Stop) (f g : A → Result C Stop) → ((a : A) → g a ≡ f a) → (r >>= g) ≡ (r >>= f)
then-same (Ok a) f g h = h a
then-same (Err stop) f g h = refl

module _ {W F M M' : Type 0} (image : M → M') where
  then-plain : {A : Type 0} (r r' : Result A Stop) (f : A → Result (After W F M) Stop)
      (g : A → Result (After W F M') Stop) → r' ≡ r → ((a : A) → g a ≡ mapped image (f a))
      → (r' >>= g) ≡ mapped image (r >>= f)
  then-plain (Ok a) r' f g e h = rw e (h a)
  then-plain (Err stop) r' f g e h = rw e refl

  then-after : (r : Result (After W F M) Stop) (r' : Result (After W F M') Stop)
      (f : After W F M → Result (After W F M) Stop) (g : After W F M' → Result (After W F M') Stop)
      → r' ≡ mapped image r → ((a : After W F M) → g (after_of image a) ≡ mapped image (f a))
      → (r' >>= g) ≡ mapped image (r >>= f)
  then-after (Ok a) r' f g e h = rw e (h a)
  then-after (Err stop) r' f g e h = rw e refl

  then-store : (here : ℕ) (r : Result M Refusal) (r' : Result M' Refusal) (f : M → Result (After W F M) Stop)
      (g : M' → Result (After W F M') Stop)
      → r' ≡ reached image r → ((m : M) → g (image m) ≡ mapped image (f m))
      → (there here r' >>= g) ≡ mapped image (there here r >>= f)
  then-store here (Ok m) r' f g e h = rw e (h m)
  then-store here (Err Refused) r' f g e h = rw e refl
  then-store here (Err Shut) r' f g e h = rw e refl

  either : (b : Bool) (x y : Result (After W F M) Stop) (x' y' : Result (After W F M') Stop) → x' ≡ mapped image x
      → y' ≡ mapped image y
      → (if b then x' else y') ≡ mapped image (if b then x else y)
  either true x y x' y' e f = e
  either false x y x' y' e f = f

module _ {W F B M M' : Type 0} (ops : Operations W F B) (acc : Accesses M B) (acc' : Accesses M' B) (image : M → M')
    (is_image : IsImage acc acc' image) where
  -- ** accesses

  bytes-image : (size : ℕ) (m : M) (place : ℕ) → bytes_at acc' (image m) place size ≡ bytes_at acc m place size
  bytes-image zero m place = refl
  bytes-image (suc size) m place = rw (is_image.byte m place, bytes-image size m (next_place place)) refl

  writes-image : (size : ℕ) (m : M) (place : ℕ) → all_write acc' (image m) place size ≡ all_write acc m place size
  writes-image zero m place = refl
  writes-image (suc size) m place = rw (is_image.writes m place, writes-image size m (next_place place)) refl

  puts-image : (bytes : List B) (m : M) (place : ℕ)
      → put_all acc' (image m) place bytes ≡ image (put_all acc m place bytes)
  puts-image [] m place = refl
  puts-image (byte ∷ bytes) m place =
      rw (is_image.put m place byte) (puts-image bytes (acc.put m place byte) (next_place place))

  code-image : (size : ℕ) (m : M) (place : ℕ) → code_at acc' (image m) place size ≡ code_at acc m place size
  code-image zero m place = refl
  code-image (suc size) m place = rw (is_image.code m place, code-image size m (next_place place)) refl

  fetch-image : (m : M) (place : ℕ) → fetch_of acc' (image m) place ≡ fetch_of acc m place
  unfolding fetch_of
  fetch-image m place = code-image 15 m place

  load-image : (m : M) (place size : ℕ) → load_of ops acc' (image m) place size ≡ load_of ops acc m place size
  unfolding load_of
  load-image m place size = ap (reached ops.joined) (bytes-image size m place)

  stored-image : (bytes : List B) (m : M) (place : ℕ) (r : Result (Unit {0}) Refusal)
      → reached (λ (done : Unit {0}). put_all acc' (image m) place bytes) r
      ≡ reached image (reached (λ (done : Unit {0}). put_all acc m place bytes) r)
  stored-image bytes m place (Ok done) = ap Ok (puts-image bytes m place)
  stored-image bytes m place (Err why) = refl

  store-image : (m : M) (place size : ℕ) (word : W)
      → store_of ops acc' (image m) place size word ≡ reached image (store_of ops acc m place size word)
  unfolding store_of
  store-image m place size word =
      rw (writes-image size m place) (stored-image (bytes_from ops word 0 size) m place (all_write acc m place size))

  there-image : (here : ℕ) (m : M) (place size : ℕ)
      → there here (load_of ops acc' (image m) place size) ≡ there here (load_of ops acc m place size)
  there-image here m place size = ap (there here) (load-image m place size)

  -- ** operands

  carried-image : (width : Width) (f : Frame) (s : State W F) (m : M) (operand : Operand)
      → carried ops acc' width f s (image m) operand ≡ carried ops acc width f s m operand
  unfolding carried
  carried-image width f s m (InRegister name) = refl
  carried-image width f s m (InMemory operand) =
      then-same (clean s.place (address_of ops f s operand)) _ _ (λ place. there-image s.place m place (size_of width))

  taken_at-image : (width : Width) (here : ℕ) (m : M) (address other : Result ℕ Cause)
      → taken_at ops acc' width here (image m) address other ≡ taken_at ops acc width here m address other
  unfolding taken_at
  taken_at-image width here m (Ok place) other = rw (load-image m place (size_of width)) refl
  taken_at-image width here m (Err cause) other = refl

  taken-image : (width : Width) (f : Frame) (s : State W F) (m : M) (operand : Operand) (other : Result ℕ Cause)
      → taken ops acc' width f s (image m) operand other ≡ taken ops acc width f s m operand other
  unfolding taken
  taken-image width f s m (InRegister name) other = refl
  taken-image width f s m (InMemory operand) other = taken_at-image width s.place m (address_of ops f s operand) other

  put-image : (width : Width) (slot : Slot) (word : W) (s : State W F) (m : M)
      → put ops acc' width slot word s (image m) ≡ mapped image (put ops acc width slot word s m)
  unfolding put
  put-image width (OfSlot name) word s m = refl
  put-image width (Place place) word s m =
      then-store image s.place _ _ _ _ (store-image m place (size_of width) word) (λ after. refl)

  -- ** instructions

  finished-image : (width : Width) (slot : Slot) (effect : Effect) (f : Frame) (s : State W F) (m : M)
      → finished ops acc' width slot effect f s (image m) ≡ mapped image (finished ops acc width slot effect f s m)
  unfolding finished
  finished-image width slot effect f s m =
      then-after image _ _ _ _ (put-image width slot (ops.word effect.number) s m) (λ after. refl)

  concluded-image : (arithmetic : Arithmetic) (width : Width) (slot : Slot) (effect : Effect) (f : Frame)
      (s : State W F) (m : M)
      → concluded ops acc' arithmetic width slot effect f s (image m)
      ≡ mapped image (concluded ops acc arithmetic width slot effect f s m)
  unfolding concluded
  concluded-image Compare width slot effect f s m = refl
  concluded-image Add width slot effect f s m = finished-image width slot effect f s m
  concluded-image Or width slot effect f s m = finished-image width slot effect f s m
  concluded-image And width slot effect f s m = finished-image width slot effect f s m
  concluded-image Sub width slot effect f s m = finished-image width slot effect f s m
  concluded-image Xor width slot effect f s m = finished-image width slot effect f s m

  move_in-image : (width : Width) (f : Frame) (s : State W F) (m : M) (to : Register) (from : Operand)
      → move_in ops acc' width f s (image m) to from ≡ mapped image (move_in ops acc width f s m to from)
  unfolding move_in
  move_in-image width f s m to from = then-plain image _ _ _ _ (carried-image width f s m from) (λ word. refl)

  store_to-image : (size : ℕ) (f : Frame) (s : State W F) (m : M) (to : Memory) (word : W)
      → stored ops acc' size f s (image m) to word ≡ mapped image (stored ops acc size f s m to word)
  unfolding stored
  store_to-image size f s m to word =
      then-plain image _ _ _ _ refl
      (λ place. then-store image s.place _ _ _ _ (store-image m place size word) (λ after. refl))

  store_byte-image : (f : Frame) (s : State W F) (m : M) (to : Memory) (from : Register)
      → store_byte ops acc' f s (image m) to from ≡ mapped image (store_byte ops acc f s m to from)
  unfolding store_byte
  store_byte-image f s m to from = store_to-image 1 f s m to _

  move_number-image : (width : Width) (f : Frame) (s : State W F) (m : M) (to : Operand)
      → move_number ops acc' width f s (image m) to ≡ mapped image (move_number ops acc width f s m to)
  unfolding move_number
  move_number-image width f s m (InRegister to) =
      then-plain image (clean s.place (immediate_of ops width f.immediate_field f.immediate)) _ _ _ refl
      (λ number. refl)
  move_number-image width f s m (InMemory to) =
      then-plain image _ _ _ _ refl (λ number. store_to-image (size_of width) f s m to (ops.word number))

  move_of-image : (width : Width) (f : Frame) (s : State W F) (m : M) (operands : Operands)
      → move_of ops acc' width f s (image m) operands ≡ mapped image (move_of ops acc width f s m operands)
  unfolding move_of
  move_of-image width f s m (IntoRegister to from) = move_in-image width f s m to from
  move_of-image width f s m (IntoMemory to from) = store_to-image (size_of width) f s m to _
  move_of-image width f s m (Immediate to) = move_number-image width f s m to

  extend_byte-image : (f : Frame) (s : State W F) (m : M) (to : Register) (from : Operand)
      → extend_byte ops acc' f s (image m) to from ≡ mapped image (extend_byte ops acc f s m to from)
  unfolding extend_byte
  extend_byte-image f s m to (InRegister from) = refl
  extend_byte-image f s m to (InMemory from) =
      then-plain image _ _ _ _ refl (λ place. then-plain image _ _ _ _ (there-image s.place m place 1) (λ word. refl))

  extend_long-image : (f : Frame) (s : State W F) (m : M) (to : Register) (from : Operand)
      → extend_long ops acc' f s (image m) to from ≡ mapped image (extend_long ops acc f s m to from)
  unfolding extend_long
  extend_long-image f s m to from = then-plain image _ _ _ _ (carried-image Long f s m from) (λ word. refl)

  load_address-image : (width : Width) (f : Frame) (s : State W F) (m : M) (to : Register) (from : Memory)
      → load_address ops acc' width f s (image m) to from ≡ mapped image (load_address ops acc width f s m to from)
  unfolding load_address
  load_address-image width f s m to from =
      then-plain image (clean s.place (address_of ops f s from)) _ _ _ refl (λ place. refl)

  compute_in-image : (arithmetic : Arithmetic) (width : Width) (f : Frame) (s : State W F) (m : M) (to : Register)
      (from : Operand)
      → compute_in ops acc' arithmetic width f s (image m) to from
      ≡ mapped image (compute_in ops acc arithmetic width f s m to from)
  unfolding compute_in
  compute_in-image arithmetic width f s m to from =
      either image (is_cleared arithmetic to from) _ _ _ _
      (finished-image width (OfSlot to) (compute_effect arithmetic width 0 0) f s m)
      (then-plain image _ _ _ _ (taken-image width f s m from (number_at ops width (register_of s.registers to)))
      (λ it. concluded-image arithmetic width (OfSlot to) (compute_effect arithmetic width it.other it.number) f s m))

  compute_memory-image : (arithmetic : Arithmetic) (width : Width) (f : Frame) (s : State W F) (m : M) (to : Memory)
      (from : Register)
      → compute_of ops acc' arithmetic width f s (image m) (IntoMemory to from)
      ≡ mapped image (compute_of ops acc arithmetic width f s m (IntoMemory to from))
  unfolding compute_of
  compute_memory-image arithmetic width f s m to from =
      then-plain image _ _ _ _
      (taken-image width f s m (InMemory to) (number_at ops width (register_of s.registers from)))
      (λ it. concluded-image arithmetic width it.slot (compute_effect arithmetic width it.number it.other) f s m)

  add_field-image : (f : Frame) (s : State W F) (m : M) (to : Register) (at : ℕ)
      → add_field ops acc' f s (image m) to at ≡ mapped image (add_field ops acc f s m to at)
  unfolding add_field
  add_field-image f s m to at =
      then-plain image _ _ _ _ refl
      (λ number. finished-image Quad (OfSlot to) (record { number = number; changes = each_flag Unsettled }) f s m)

  compute_plain-image : (arithmetic : Arithmetic) (width : Width) (field : Option ℕ) (f : Frame) (s : State W F) (m : M)
      (to : Operand)
      → compute_plain ops acc' arithmetic width field f s (image m) to
      ≡ mapped image (compute_plain ops acc arithmetic width field f s m to)
  unfolding compute_plain
  compute_plain-image arithmetic width field f s m to =
      then-plain image _ _ _ _ (taken-image width f s m to (immediate_of ops width field f.immediate))
      (λ it. concluded-image arithmetic width it.slot (compute_effect arithmetic width it.number it.other) f s m)

  compute_number-image : (arithmetic : Arithmetic) (width : Width) (field : Option ℕ) (f : Frame) (s : State W F)
      (m : M) (to : Operand)
      → compute_number ops acc' arithmetic width field f s (image m) to
      ≡ mapped image (compute_number ops acc arithmetic width field f s m to)
  unfolding compute_number
  compute_number-image Add Quad (Some at) f s m (InRegister to) = add_field-image f s m to at
  compute_number-image Add Quad (Some at) f s m (InMemory to) =
      compute_plain-image Add Quad (Some at) f s m (InMemory to)
  compute_number-image Add Quad None f s m (InRegister to) = compute_plain-image Add Quad None f s m (InRegister to)
  compute_number-image Add Quad None f s m (InMemory to) = compute_plain-image Add Quad None f s m (InMemory to)
  compute_number-image Add Long field f s m to = compute_plain-image Add Long field f s m to
  compute_number-image Or width field f s m to = compute_plain-image Or width field f s m to
  compute_number-image And width field f s m to = compute_plain-image And width field f s m to
  compute_number-image Sub width field f s m to = compute_plain-image Sub width field f s m to
  compute_number-image Xor width field f s m to = compute_plain-image Xor width field f s m to
  compute_number-image Compare width field f s m to = compute_plain-image Compare width field f s m to

  compute_of-image : (arithmetic : Arithmetic) (width : Width) (f : Frame) (s : State W F) (m : M) (operands : Operands)
      → compute_of ops acc' arithmetic width f s (image m) operands
      ≡ mapped image (compute_of ops acc arithmetic width f s m operands)
  unfolding compute_of
  compute_of-image arithmetic width f s m (IntoRegister to from) = compute_in-image arithmetic width f s m to from
  compute_of-image arithmetic width f s m (IntoMemory to from) = compute_memory-image arithmetic width f s m to from
  compute_of-image arithmetic width f s m (Immediate to) =
      compute_number-image arithmetic width f.immediate_field f s m to

  test_of-image : (width : Width) (f : Frame) (s : State W F) (m : M) (from : Operand) (right : Register)
      → test_of ops acc' width f s (image m) from right ≡ mapped image (test_of ops acc width f s m from right)
  unfolding test_of
  test_of-image width f s m from right =
      then-plain image _ _ _ _ (taken-image width f s m from (number_at ops width (register_of s.registers right)))
      (λ it. refl)

  multiply_of-image : (width : Width) (f : Frame) (s : State W F) (m : M) (to : Register) (from : Operand)
      → multiply_of ops acc' width f s (image m) to from ≡ mapped image (multiply_of ops acc width f s m to from)
  unfolding multiply_of
  multiply_of-image width f s m to from =
      then-plain image _ _ _ _ (taken-image width f s m from (number_at ops width (register_of s.registers to)))
      (λ it. finished-image width (OfSlot to) (product_effect width it.other it.number) f s m)

  shift_of-image : (shift : Shift) (width : Width) (f : Frame) (s : State W F) (m : M) (to : Operand) (count : ℕ)
      → shift_of ops acc' shift width f s (image m) to count
      ≡ mapped image (shift_of ops acc shift width f s m to count)
  unfolding shift_of
  shift_of-image shift width f s m to count =
      then-plain image _ _ _ _ (taken-image width f s m to (Ok 0))
      (λ it. finished-image width it.slot (shift_effect shift width it.number (count % bits_of width)) f s m)

  pushed-image : (stack : ℕ) (word : W) (s : State W F) (m : M)
      → pushed ops acc' stack word s (image m) ≡ mapped image (pushed ops acc stack word s m)
  unfolding pushed
  pushed-image stack word s m =
      then-store image s.place _ _ _ _ (store-image m (plus stack (2 ^ 64 - 8)) 8 word) (λ after. refl)

  push_of-image : (f : Frame) (s : State W F) (m : M) (from : Register)
      → push_of ops acc' f s (image m) from ≡ mapped image (push_of ops acc f s m from)
  unfolding push_of
  push_of-image f s m from =
      then-plain image _ _ _ _ refl
      (λ stack. then-after image _ _ _ _ (pushed-image stack (register_of s.registers from) s m) (λ after. refl))

  pop_of-image : (f : Frame) (s : State W F) (m : M) (to : Register)
      → pop_of ops acc' f s (image m) to ≡ mapped image (pop_of ops acc f s m to)
  unfolding pop_of
  pop_of-image f s m to =
      then-plain image _ _ _ _ refl (λ stack. then-plain image _ _ _ _ (there-image s.place m stack 8) (λ word. refl))

  leave_of-image : (f : Frame) (s : State W F) (m : M)
      → leave_of ops acc' f s (image m) ≡ mapped image (leave_of ops acc f s m)
  unfolding leave_of
  leave_of-image f s m = then-plain image _ _ _ _ refl
      (λ base. then-plain image _ _ _ _ (there-image s.place m base 8) (λ word. refl))

  pub return_of-image : (s : State W F) (m : M) → return_of ops acc' s (image m) ≡ mapped image (return_of ops acc s m)
  unfolding return_of
  return_of-image s m =
      then-plain image _ _ _ _ refl
      (λ stack. then-plain image _ _ _ _ (there-image s.place m stack 8)
      (λ word. then-plain image (clean s.place (ops.number_of word)) _ _ _ refl (λ place. refl)))

  call_of-image : (f : Frame) (s : State W F) (m : M) (target : Target)
      → call_of ops acc' f s (image m) target ≡ mapped image (call_of ops acc f s m target)
  unfolding call_of
  call_of-image f s m (Relative distance) =
      then-plain image _ _ _ _ refl
      (λ stack. then-after image _ _ _ _ (pushed-image stack (ops.word f.next) s m) (λ after. refl))
  call_of-image f s m (Indirect operand) =
      then-plain image _ _ _ _ (taken-image Quad f s m operand (ops.number_of s.registers.rsp))
      (λ it. then-after image _ _ _ _ (pushed-image it.other (ops.word f.next) s m) (λ after. refl))

  jump_of-image : (f : Frame) (s : State W F) (m : M) (target : Target)
      → jump_of ops acc' f s (image m) target ≡ mapped image (jump_of ops acc f s m target)
  unfolding jump_of
  jump_of-image f s m (Relative distance) = refl
  jump_of-image f s m (Indirect operand) = then-plain image _ _ _ _ (taken-image Quad f s m operand (Ok 0)) (λ it. refl)

  jump_if-image : (f : Frame) (s : State W F) (m : M) (condition : Condition) (distance : ℕ)
      → jump_if ops acc' f s (image m) condition distance ≡ mapped image (jump_if ops acc f s m condition distance)
  unfolding jump_if
  jump_if-image f s m condition distance =
      then-plain image (clean s.place (condition_of ops condition s.flags)) _ _ _ refl (λ holds. refl)

  nop_of-image : (f : Frame) (s : State W F) (m : M) (operand : Option Operand)
      → nop_of ops acc' f s (image m) operand ≡ mapped image (nop_of ops acc f s m operand)
  unfolding nop_of
  nop_of-image f s m operand =
      then-plain image (clean s.place (nop_use ops f s f.displacement_field operand)) _ _ _ refl (λ unused. refl)

  -- the law of one instruction
  pub act_image : (f : Frame) (operation : Operation) (s : State W F) (m : M)
      → act ops acc' f operation s (image m) ≡ mapped image (act ops acc f operation s m)
  unfolding act
  act_image f (Move width operands) s m = move_of-image width f s m operands
  act_image f (StoreByte to from) s m = store_byte-image f s m to from
  act_image f (ExtendByte width to from) s m = extend_byte-image f s m to from
  act_image f (ExtendLong to from) s m = extend_long-image f s m to from
  act_image f (LoadAddress width to from) s m = load_address-image width f s m to from
  act_image f (Compute arithmetic width operands) s m = compute_of-image arithmetic width f s m operands
  act_image f (Test width from right) s m = test_of-image width f s m from right
  act_image f (Multiply width to from) s m = multiply_of-image width f s m to from
  act_image f (ShiftBy shift width to count) s m = shift_of-image shift width f s m to count
  act_image f (Push from) s m = push_of-image f s m from
  act_image f (Pop to) s m = pop_of-image f s m to
  act_image f Leave s m = leave_of-image f s m
  act_image f (Call target) s m = call_of-image f s m target
  act_image f (Jump target) s m = jump_of-image f s m target
  act_image f (JumpIf condition distance) s m = jump_if-image f s m condition distance
  act_image f Return s m = return_of-image s m
  act_image f (Nop operand) s m = nop_of-image f s m operand
  act_image f Undefined s m = refl

  -- ** steps and runs

  decoded-image : (is_field : ℕ → Bool) (it : Option Decoded) (s : State W F) (m : M)
      → act_if ops acc' is_field it s (image m) ≡ mapped image (act_if ops acc is_field it s m)
  decoded-image is_field None s m = refl
  decoded-image is_field (Some it) s m = act_image (frame_of is_field s.place it) it.instr.operation s m

  -- the law of one step
  pub step_image : (is_field : ℕ → Bool) (s : State W F) (m : M)
      → step_of ops acc' is_field s (image m) ≡ mapped image (step_of ops acc is_field s m)
  unfolding step_of
  step_image is_field s m = rw (fetch-image m s.place) (decoded-image is_field (decoded (fetch_of acc m s.place)) s m)

  next-image : (r : Result (After W F M) Stop) (r' : Result (After W F M') Stop) → r' ≡ mapped image r
      → next_of r' ≡ next_image (after_of image) (next_of r)
  next-image (Ok after) r' e = rw e refl
  next-image (Err stop) r' e = rw e refl

  -- the law of the machine: where no field of the image is none of the memory
  module _ (is_field : M → ℕ → Bool) (is_field' : M' → ℕ → Bool)
      (same_fields : (m : M) → is_field' (image m) ≡ is_field m) where
    stepped-image : (looks : Bool) (a : After W F M)
        → (if looks then Looks (after_of image a)
        else next_of (step_of ops acc' (is_field' (image a.memory)) a.state (image a.memory)))
        ≡ next_image (after_of image)
        (if looks then Looks a else next_of (step_of ops acc (is_field a.memory) a.state a.memory))
    stepped-image true a = refl
    stepped-image false a = rw (same_fields a.memory) (next-image _ _ (step_image (is_field a.memory) a.state a.memory))

    pub machine_image : IsRunImage (after_of image) (machine ops acc is_field) (machine ops acc' is_field')
    unfolding machine
    machine_image = record {
      over = λ a. refl;
      step = λ a. stepped-image (is_look a.state.place) a;
      spent = λ a. refl;
    }

-- ** runs

module _ {S S' : Type 0} (image : S → S') (x : Stepping S) (y : Stepping S') (is_image : IsRunImage image x y) where
  go_on-image : (n m : ℕ) (s : S) (next : Next S) → ((t : S) → run y n (image t) ≡ outcome_image image (run x n t))
      → go_on m (image s) (run y n) (next_image image next) ≡ outcome_image image (go_on m s (run x n) next)
  go_on-image n m s (Goes t) rest = rest t
  go_on-image n m s (Ends stop) rest = refl
  go_on-image n m s (Looks t) rest = refl

  over-image : (n : ℕ) (s : S) (over : Option Stop) (rest : Outcome S) (rest' : Outcome S')
      → rest' ≡ outcome_image image rest
      → over_or n (image s) over rest' ≡ outcome_image image (over_or n s over rest)
  over-image n s None rest rest' e = e
  over-image n s (Some stop) rest rest' e = refl

  -- the law of runs
  pub run_image : (n : ℕ) (s : S) → run y n (image s) ≡ outcome_image image (run x n s)
  run_image zero s = rw (is_image.over s)
      (over-image zero s (x.over s) _ _ (ap (λ stop. Ended stop zero (image s)) (is_image.spent s)))
  run_image (suc n) s = rw (is_image.over s, is_image.step s)
      (over-image (suc n) s (x.over s) _ _ (go_on-image n (suc n) s (x.step s) (λ t. run_image n t)))
