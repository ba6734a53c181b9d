-- An instruction that reads its operand's 64 bits and does not write them does the same with an equal word elsewhere.
use Rattle.std.proofs.Common.{◌≡◌, ℕ, ◌-◌, ◌^◌, Option, Some, Result, Ok, Err, refl}
use Rattle.amd64_words.specs.declared.register.Register.{Register}
use Rattle.amd64_subset.specs.declared.instr.Arithmetic.{Arithmetic}
use Rattle.amd64_subset.specs.declared.instr.Arithmetic.TheVariants.{Add, Or, And, Sub, Xor, Compare}
use Rattle.amd64_subset.specs.declared.instr.Operation.{Operation}
use Rattle.amd64_subset.specs.declared.instr.Operation.TheVariants.{Move, StoreByte, ExtendByte, ExtendLong}
use Rattle.amd64_subset.specs.declared.instr.Operation.TheVariants.{LoadAddress, Compute, Test, Multiply}
use Rattle.amd64_subset.specs.declared.instr.Operation.TheVariants.{Shift as ShiftBy, Push, Pop, Leave, Call, Jump}
use Rattle.amd64_subset.specs.declared.instr.Operation.TheVariants.{JumpIf, Return, Nop, Undefined}
use Rattle.amd64_subset.specs.declared.instr.Target.TheVariants.{Relative, Indirect}
use Rattle.amd64_subset.specs.declared.instr.Width.TheVariants.{Long as LongWidth, Quad as QuadWidth}
use Rattle.amd64_subset.specs.declared.operand.Memory.{Memory}
use Rattle.amd64_subset.specs.declared.operand.Operand.TheVariants.{InMemory}
use Rattle.amd64_subset.specs.declared.operand.Operands.TheVariants.{IntoRegister, IntoMemory, Immediate}
use Rattle.guest_arithmetic.specs.declared.cause.Cause.{Cause}
use Rattle.guest_arithmetic.specs.declared.effect.Effect.{Effect}
use Rattle.guest_arithmetic.specs.Arithmetic.{compute_effect, product_effect}
use Rattle.guest_arithmetic.specs.Cause.{both}
use Rattle.guest_arithmetic.specs.Values.{Operations}
use Rattle.guest_operands.specs.declared.frame.Frame.{Frame}
use Rattle.guest_operands.specs.declared.slot.Slot.{Slot}
use Rattle.guest_operands.specs.declared.slot.Slot.TheVariants.{Place, Register as OfSlot}
use Rattle.guest_operands.specs.declared.slot.Taken.{Taken}
use Rattle.guest_operands.specs.declared.state.State.{State}
use Rattle.guest_operands.specs.declared.stop.Stop.{Stop}
use Rattle.guest_operands.specs.Access.{Accesses, Refusal, load_of, store_of}
use Rattle.guest_operands.specs.Operand.{address_of, carried, number_at, put, taken, taken_at, weighed}
use Rattle.guest_operands.specs.Use.{◌>>=◌, clean, plus}
use Rattle.guest_machine.specs.Step.{immediate_of, finished, concluded, move_in, move_of}
use Rattle.guest_machine.specs.Step.{compute_in, compute_plain, compute_number, compute_of, test_of, multiply_of}
use Rattle.guest_machine.specs.Step.{pushed, call_of, jump_of, act}
use Rattle.cause_laws.specs.Instructions.{read_operand}
use Rattle.cause_laws.specs.Laws.{absolute, with_absolute}
use Rattle.cause_laws.proofs.Moved.{is_memory, not-cleared}

module _ {W F B M : Type 0} (ops : Operations W F B) (acc acc' : Accesses M B) (f g : Frame) (s : State W F) (m : M)
    (memory : Memory) (a a' : ℕ) (at : address_of ops f s memory ≡ Ok a) (at' : address_of ops g s absolute ≡ Ok a')
    (loads : load_of ops acc m a 8 ≡ load_of ops acc' m a' 8)
    (stores : (place : ℕ) (word : W) → store_of ops acc m place 8 word ≡ store_of ops acc' m place 8 word)
    (next : f.next ≡ g.next) (immediate : f.immediate ≡ g.immediate) (field : f.immediate_field
    ≡ g.immediate_field) where
  finished-same : (to : Register) (effect : Effect)
      → finished ops acc QuadWidth (OfSlot to) effect f s m ≡ finished ops acc' QuadWidth (OfSlot to) effect g s m
  unfolding finished put
  finished-same to effect = rw next refl

  concluded-same : (arithmetic : Arithmetic) (to : Register) (effect : Effect)
      → concluded ops acc arithmetic QuadWidth (OfSlot to) effect f s m
      ≡ concluded ops acc' arithmetic QuadWidth (OfSlot to) effect g s m
  unfolding concluded
  concluded-same Compare to effect = rw next refl
  concluded-same Add to effect = finished-same to effect
  concluded-same Or to effect = finished-same to effect
  concluded-same And to effect = finished-same to effect
  concluded-same Sub to effect = finished-same to effect
  concluded-same Xor to effect = finished-same to effect

  -- a comparison has no slot to write to
  compared : (slot slot' : Slot) (effect : Effect)
      → concluded ops acc Compare QuadWidth slot effect f s m ≡ concluded ops acc' Compare QuadWidth slot' effect g s m
  unfolding concluded
  compared slot slot' effect = rw next refl

  carried-same : carried ops acc QuadWidth f s m (InMemory memory)
      ≡ carried ops acc' QuadWidth g s m (InMemory absolute)
  unfolding carried
  carried-same = rw (at, at', loads) refl

  taken-then : {C : Type 0} (other : Result ℕ Cause) (k k' : Taken → Result C Stop)
      → ((slot slot' : Slot) (number other : ℕ)
      → k (record { slot = slot; number = number; other = other })
      ≡ k' (record { slot = slot'; number = number; other = other }))
      → (taken ops acc QuadWidth f s m (InMemory memory) other >>= k)
      ≡ (taken ops acc' QuadWidth g s m (InMemory absolute) other >>= k')
  unfolding taken taken_at
  taken-then other k k' h = rw (at, at', loads) (by_load (load_of ops acc' m a' 8))
    where
      by_parts : (r : Result (ℕ × ℕ) Stop)
          → ((r >>= (λ parts. Ok (record { slot = Place a; number = parts.0; other = parts.1 }))) >>= k)
          ≡ ((r >>= (λ parts. Ok (record { slot = Place a'; number = parts.0; other = parts.1 }))) >>= k')
      by_parts (Ok parts) = h (Place a) (Place a') parts.0 parts.1
      by_parts (Err stop) = refl

      by_load : (r : Result W Refusal)
          → ((weighed ops acc QuadWidth s.place r other >>=
          (λ parts. Ok (record { slot = Place a; number = parts.0; other = parts.1 }))) >>= k)
          ≡ ((weighed ops acc' QuadWidth s.place r other >>=
          (λ parts. Ok (record { slot = Place a'; number = parts.0; other = parts.1 }))) >>= k')
      by_load (Ok word) = by_parts (clean s.place (both (number_at ops QuadWidth word) other))
      by_load (Err why) = refl

  abbrev Moves : Operation → Type 0
  Moves op = act ops acc f op s m ≡ act ops acc' g (with_absolute op) s m

  move-same : (to : Register) → Moves (Move QuadWidth (IntoRegister to (InMemory memory)))
  unfolding act move_of move_in
  move-same to = rw (carried-same, next) refl

  computed-in : (arithmetic : Arithmetic) (to : Register)
      → Moves (Compute arithmetic QuadWidth (IntoRegister to (InMemory memory)))
  unfolding act compute_of compute_in
  computed-in arithmetic to =
      rw (not-cleared arithmetic to memory, not-cleared arithmetic to absolute)
      (taken-then _ _ _ (λ slot slot' number other. concluded-same arithmetic to
      (compute_effect arithmetic QuadWidth other number)))

  compared-out : (from : Register) → Moves (Compute Compare QuadWidth (IntoMemory memory from))
  unfolding act compute_of
  compared-out from = taken-then _ _ _
      (λ slot slot' number other. compared slot slot' (compute_effect Compare QuadWidth number other))

  numbers : (o o' : Option ℕ) (n n' : ℕ) → o ≡ o' → n ≡ n'
      → immediate_of ops QuadWidth o n ≡ immediate_of ops QuadWidth o' n'
  numbers o o' n n' e h = rw (e, h) refl

  number-same : immediate_of ops QuadWidth f.immediate_field f.immediate
      ≡ immediate_of ops QuadWidth g.immediate_field g.immediate
  number-same = numbers f.immediate_field g.immediate_field f.immediate g.immediate field immediate

  compared-number : Moves (Compute Compare QuadWidth (Immediate (InMemory memory)))
  unfolding act compute_of compute_number compute_plain
  compared-number = rw (number-same)
      (taken-then _ _ _ (λ slot slot' number other. compared slot slot'
      (compute_effect Compare QuadWidth number other)))

  tested : (right : Register) → Moves (Test QuadWidth (InMemory memory) right)
  unfolding act test_of
  tested right = taken-then _ _ _ (λ slot slot' number other. rw next refl)

  multiplied : (to : Register) → Moves (Multiply QuadWidth to (InMemory memory))
  unfolding act multiply_of
  multiplied to = taken-then _ _ _ (λ slot slot' number other. finished-same to (product_effect QuadWidth other number))

  pushed-same : (stack : ℕ) (word : W) → pushed ops acc stack word s m ≡ pushed ops acc' stack word s m
  unfolding pushed
  pushed-same stack word = rw (stores (plus stack (2 ^ 64 - 8)) word) refl

  called : Moves (Call (Indirect (InMemory memory)))
  unfolding act call_of
  called = taken-then _ _ _ (λ slot slot' number other. rw (next, pushed-same other (ops.word g.next)) refl)

  jumped : Moves (Jump (Indirect (InMemory memory)))
  unfolding act jump_of
  jumped = taken-then _ _ _ (λ slot slot' number other. refl)

  pub act-supplied : (op : Operation) → read_operand op ≡ Some memory → Moves op
  unfolding read_operand
  act-supplied (Move QuadWidth (IntoRegister to from)) e = rw (is_memory from memory e) (move-same to)
  act-supplied (Move QuadWidth (IntoMemory to from)) e = absurd cc
  act-supplied (Move QuadWidth (Immediate to)) e = absurd cc
  act-supplied (Move LongWidth operands) e = absurd cc
  act-supplied (StoreByte to from) e = absurd cc
  act-supplied (ExtendByte width to from) e = absurd cc
  act-supplied (ExtendLong to from) e = absurd cc
  act-supplied (LoadAddress width to from) e = absurd cc
  act-supplied (Compute arithmetic LongWidth operands) e = absurd cc
  act-supplied (Compute arithmetic QuadWidth (IntoRegister to from)) e =
      rw (is_memory from memory e) (computed-in arithmetic to)
  act-supplied (Compute Compare QuadWidth (IntoMemory to from)) e = let is : to
      ≡ memory = cc in rw is (compared-out from)
  act-supplied (Compute Add QuadWidth (IntoMemory to from)) e = absurd cc
  act-supplied (Compute Or QuadWidth (IntoMemory to from)) e = absurd cc
  act-supplied (Compute And QuadWidth (IntoMemory to from)) e = absurd cc
  act-supplied (Compute Sub QuadWidth (IntoMemory to from)) e = absurd cc
  act-supplied (Compute Xor QuadWidth (IntoMemory to from)) e = absurd cc
  act-supplied (Compute Compare QuadWidth (Immediate to)) e = rw (is_memory to memory e) compared-number
  act-supplied (Compute Add QuadWidth (Immediate to)) e = absurd cc
  act-supplied (Compute Or QuadWidth (Immediate to)) e = absurd cc
  act-supplied (Compute And QuadWidth (Immediate to)) e = absurd cc
  act-supplied (Compute Sub QuadWidth (Immediate to)) e = absurd cc
  act-supplied (Compute Xor QuadWidth (Immediate to)) e = absurd cc
  act-supplied (Test QuadWidth left right) e = rw (is_memory left memory e) (tested right)
  act-supplied (Test LongWidth left right) e = absurd cc
  act-supplied (Multiply QuadWidth to from) e = rw (is_memory from memory e) (multiplied to)
  act-supplied (Multiply LongWidth to from) e = absurd cc
  act-supplied (ShiftBy shift width to count) e = absurd cc
  act-supplied (Push from) e = absurd cc
  act-supplied (Pop to) e = absurd cc
  act-supplied Leave e = absurd cc
  act-supplied (Call (Relative distance)) e = absurd cc
  act-supplied (Call (Indirect operand)) e = rw (is_memory operand memory e) called
  act-supplied (Jump (Relative distance)) e = absurd cc
  act-supplied (Jump (Indirect operand)) e = rw (is_memory operand memory e) jumped
  act-supplied (JumpIf condition distance) e = absurd cc
  act-supplied Return e = absurd cc
  act-supplied (Nop operand) e = absurd cc
  act-supplied Undefined e = absurd cc
