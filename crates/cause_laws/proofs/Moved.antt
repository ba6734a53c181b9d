-- An instruction does the same with its operand at the address that its displacement is.
use Rattle.std.proofs.Common.{◌≡◌, ℕ, false, Option, Some, None, Result, Ok, Err, refl, sym, ◌∙◌}
use Rattle.amd64_words.specs.declared.register.Register.{Register}
use Rattle.amd64_subset.specs.declared.instr.Arithmetic.{Arithmetic}
use Rattle.amd64_subset.specs.declared.instr.Arithmetic.TheVariants.{Add, Or, And, Sub, Xor, Compare}
use Rattle.amd64_subset.specs.declared.instr.Operation.{Operation}
use Rattle.amd64_subset.specs.declared.instr.Operation.TheVariants.{Move, StoreByte, ExtendByte, ExtendLong}
use Rattle.amd64_subset.specs.declared.instr.Operation.TheVariants.{LoadAddress, Compute, Test, Multiply}
use Rattle.amd64_subset.specs.declared.instr.Operation.TheVariants.{Shift as ShiftBy, Push, Pop, Leave, Call, Jump}
use Rattle.amd64_subset.specs.declared.instr.Operation.TheVariants.{JumpIf, Return, Nop, Undefined}
use Rattle.amd64_subset.specs.declared.instr.Target.TheVariants.{Relative, Indirect}
use Rattle.amd64_subset.specs.declared.instr.Width.{Width}
use Rattle.amd64_subset.specs.declared.instr.Width.TheVariants.{Long as LongWidth, Quad as QuadWidth}
use Rattle.amd64_subset.specs.declared.operand.Memory.{Memory}
use Rattle.amd64_subset.specs.declared.operand.Operand.{Operand}
use Rattle.amd64_subset.specs.declared.operand.Operand.TheVariants.{InMemory, Register as InRegister}
use Rattle.amd64_subset.specs.declared.operand.Operands.TheVariants.{IntoRegister, IntoMemory, Immediate}
use Rattle.guest_arithmetic.specs.declared.cause.Cause.{Cause}
use Rattle.guest_arithmetic.specs.declared.effect.Effect.{Effect}
use Rattle.guest_arithmetic.specs.Arithmetic.{compute_effect}
use Rattle.guest_arithmetic.specs.Values.{Operations}
use Rattle.guest_operands.specs.declared.frame.Frame.{Frame}
use Rattle.guest_operands.specs.declared.slot.Slot.{Slot}
use Rattle.guest_operands.specs.declared.state.State.{State}
use Rattle.guest_operands.specs.Access.{Accesses}
use Rattle.guest_operands.specs.Operand.{address_of, carried, kept, kept_byte, number_at, size_of, taken}
use Rattle.guest_operands.specs.State.{register_of}
use Rattle.guest_operands.specs.Use.{◌>>=◌}
use Rattle.guest_operands.specs.declared.stop.Stop.{Stop}
use Rattle.guest_operands.specs.declared.slot.Slot.TheVariants.{Register as OfSlot}
use Rattle.amd64_subset.specs.declared.instr.Shift.{Shift}
use Rattle.guest_machine.specs.Step.{immediate_of, finished, concluded, move_in, stored, store_byte, move_number}
use Rattle.guest_machine.specs.Step.{move_of, extend_byte, extend_long, load_address, is_cleared}
use Rattle.guest_machine.specs.Step.{compute_in, compute_plain, compute_number, compute_of, test_of, multiply_of}
use Rattle.guest_machine.specs.Step.{shift_of, call_of, jump_of, nop_of, nop_use, act}
use Rattle.cause_laws.specs.Instructions.{memory_if, memory_of, operand_of}
use Rattle.cause_laws.specs.Laws.{absolute, with_absolute}

pub is_memory : (operand : Operand) (memory : Memory) → memory_of operand ≡ Some memory → operand ≡ InMemory memory
is_memory (InRegister name) memory e = absurd cc
is_memory (InMemory other) memory e = cc

-- what follows alike follows alike
pub bind-all : {A C : Type 0} (x : Result A Stop) (k k' : A → Result C Stop) → ((a : A) → k a ≡ k' a)
    → (x >>= k) ≡ (x >>= k')
bind-all (Ok a) k k' h = h a
bind-all (Err stop) k k' h = refl

pub not-cleared : (arithmetic : Arithmetic) (to : Register) (x : Memory) → is_cleared arithmetic to (InMemory x) ≡ false
unfolding is_cleared
not-cleared Add to x = refl
not-cleared Or to x = refl
not-cleared And to x = refl
not-cleared Sub to x = refl
not-cleared Xor to x = refl
not-cleared Compare to x = refl

-- f, g: two frames with equal numbers besides the displacement, none of which is a field
module _ {W F B M : Type 0} (ops : Operations W F B) (acc : Accesses M B) (f g : Frame) (s : State W F) (m : M)
    (memory : Memory)
    (a : ℕ) (at : address_of ops f s memory ≡ Ok a) (at' : address_of ops g s absolute ≡ Ok a) (next : f.next ≡ g.next)
    (immediate : f.immediate ≡ g.immediate) (field : f.immediate_field ≡ g.immediate_field) where
  finished-same : (width : Width) (slot : Slot) (effect : Effect)
      → finished ops acc width slot effect f s m ≡ finished ops acc width slot effect g s m
  unfolding finished
  finished-same width slot effect = rw next refl

  concluded-same : (arithmetic : Arithmetic) (width : Width) (slot : Slot) (effect : Effect)
      → concluded ops acc arithmetic width slot effect f s m ≡ concluded ops acc arithmetic width slot effect g s m
  unfolding concluded
  concluded-same Compare width slot effect = rw next refl
  concluded-same Add width slot effect = finished-same width slot effect
  concluded-same Or width slot effect = finished-same width slot effect
  concluded-same And width slot effect = finished-same width slot effect
  concluded-same Sub width slot effect = finished-same width slot effect
  concluded-same Xor width slot effect = finished-same width slot effect

  carried-same : (width : Width)
      → carried ops acc width f s m (InMemory memory) ≡ carried ops acc width g s m (InMemory absolute)
  unfolding carried
  carried-same width = rw (at, at') refl

  taken-same : (width : Width) (other : Result ℕ Cause)
      → taken ops acc width f s m (InMemory memory) other ≡ taken ops acc width g s m (InMemory absolute) other
  unfolding taken
  taken-same width other = rw (at, at') refl

  stored-same : (size : ℕ) (word : W) → stored ops acc size f s m memory word ≡ stored ops acc size g s m absolute word
  unfolding stored
  stored-same size word = rw (at, at', next) refl

  abbrev Moves : Operation → Type 0
  Moves op = act ops acc f op s m ≡ act ops acc g (with_absolute op) s m

  move-same : (width : Width) (to : Register) → Moves (Move width (IntoRegister to (InMemory memory)))
  unfolding act move_of move_in
  move-same width to = rw (carried-same width, next) refl

  numbers : (width : Width) (o o' : Option ℕ) (n n' : ℕ) → o ≡ o' → n ≡ n'
      → immediate_of ops width o n ≡ immediate_of ops width o' n'
  numbers width o o' n n' e h = rw (e, h) refl

  number-same : (width : Width)
      → immediate_of ops width f.immediate_field f.immediate ≡ immediate_of ops width g.immediate_field g.immediate
  number-same width = numbers width f.immediate_field g.immediate_field f.immediate g.immediate field immediate

  move-number : (width : Width) → Moves (Move width (Immediate (InMemory memory)))
  unfolding act move_of move_number
  move-number width = rw (number-same width) (bind-all _ _ _ (λ number. stored-same (size_of width) (ops.word number)))

  byte-stored : (from : Register) → Moves (StoreByte memory from)
  unfolding act store_byte
  byte-stored from = stored-same 1 (kept_byte ops (register_of s.registers from))

  byte-extended : (width : Width) (to : Register) → Moves (ExtendByte width to (InMemory memory))
  unfolding act extend_byte
  byte-extended width to = rw (at, at', next) refl

  long-extended : (to : Register) → Moves (ExtendLong to (InMemory memory))
  unfolding act extend_long
  long-extended to = rw (carried-same LongWidth, next) refl

  loaded-address : (width : Width) (to : Register) → Moves (LoadAddress width to memory)
  unfolding act load_address
  loaded-address width to = rw (at, at', next) refl

  computed-in : (arithmetic : Arithmetic) (width : Width) (to : Register)
      → Moves (Compute arithmetic width (IntoRegister to (InMemory memory)))
  unfolding act compute_of compute_in
  computed-in arithmetic width to =
      rw (
        not-cleared arithmetic to memory,
        not-cleared arithmetic to absolute,
        taken-same width (number_at ops width (register_of s.registers to)),
      )
      (bind-all _ _ _ (λ it. concluded-same arithmetic width (OfSlot to)
      (compute_effect arithmetic width it.other it.number)))

  computed-out : (arithmetic : Arithmetic) (width : Width) (from : Register)
      → Moves (Compute arithmetic width (IntoMemory memory from))
  unfolding act compute_of
  computed-out arithmetic width from =
      rw (taken-same width (number_at ops width (register_of s.registers from)))
      (bind-all _ _ _ (λ it. concluded-same arithmetic width it.slot
      (compute_effect arithmetic width it.number it.other)))

  plain-number : (h : Frame) (arithmetic : Arithmetic) (width : Width) (o : Option ℕ) (x : Memory)
      → compute_number ops acc arithmetic width o h s m (InMemory x)
      ≡ compute_plain ops acc arithmetic width o h s m (InMemory x)
  unfolding compute_number
  plain-number h Add LongWidth o x = refl
  plain-number h Add QuadWidth None x = refl
  plain-number h Add QuadWidth (Some k) x = refl
  plain-number h Or width o x = refl
  plain-number h And width o x = refl
  plain-number h Sub width o x = refl
  plain-number h Xor width o x = refl
  plain-number h Compare width o x = refl

  plain-same : (arithmetic : Arithmetic) (width : Width)
      → compute_plain ops acc arithmetic width f.immediate_field f s m (InMemory memory)
      ≡ compute_plain ops acc arithmetic width g.immediate_field g s m (InMemory absolute)
  unfolding compute_plain
  plain-same arithmetic width =
      rw (number-same width, taken-same width (immediate_of ops width g.immediate_field g.immediate))
      (bind-all _ _ _ (λ it. concluded-same arithmetic width it.slot
      (compute_effect arithmetic width it.number it.other)))

  computed-number : (arithmetic : Arithmetic) (width : Width)
      → Moves (Compute arithmetic width (Immediate (InMemory memory)))
  unfolding act compute_of
  computed-number arithmetic width =
      plain-number f arithmetic width f.immediate_field memory
      ∙ (plain-same arithmetic width ∙ sym (plain-number g arithmetic width g.immediate_field absolute))

  tested : (width : Width) (right : Register) → Moves (Test width (InMemory memory) right)
  unfolding act test_of
  tested width right = rw (taken-same width (number_at ops width (register_of s.registers right)), next) refl

  multiplied : (width : Width) (to : Register) → Moves (Multiply width to (InMemory memory))
  unfolding act multiply_of
  multiplied width to = rw (taken-same width (number_at ops width (register_of s.registers to)))
      (bind-all _ _ _ (λ it. finished-same width (OfSlot to) _))

  shifted : (shift : Shift) (width : Width) (count : ℕ) → Moves (ShiftBy shift width (InMemory memory) count)
  unfolding act shift_of
  shifted shift width count = rw (taken-same width (Ok 0)) (bind-all _ _ _ (λ it. finished-same width it.slot _))

  called : Moves (Call (Indirect (InMemory memory)))
  unfolding act call_of
  called = rw (taken-same QuadWidth (ops.number_of s.registers.rsp), next) refl

  jumped : Moves (Jump (Indirect (InMemory memory)))
  unfolding act jump_of
  jumped = rw (taken-same QuadWidth (Ok 0)) refl

  nop-used : (o : Option ℕ) (operand : Option Operand) → memory_if operand ≡ Some memory
      → (n : ℕ) × (nop_use ops f s o operand ≡ Ok n)
  nop-used o None e = absurd cc
  nop-used o (Some (InRegister r)) e = absurd cc
  nop-used None (Some (InMemory x)) e = (0, refl)
  nop-used (Some k) (Some (InMemory x)) e = let is : x ≡ memory = cc in (a, rw is at)

  nop-unused : (o : Option ℕ) (operand : Option Operand) → o ≡ None → nop_use ops g s o operand ≡ Ok 0
  nop-unused None operand e = refl
  nop-unused (Some k) operand e = absurd cc

  nothing : (o : Option Operand) → memory_if o ≡ Some memory → g.displacement_field ≡ None → Moves (Nop o)
  unfolding act nop_of
  nothing o e none = let used = nop-used f.displacement_field o e in
      let mine : nop_use ops f s f.displacement_field o ≡ Ok used.0 = used.1 in
      rw (mine, nop-unused g.displacement_field o none, next) refl

  pub act-moved : (op : Operation) → g.displacement_field ≡ None → operand_of op ≡ Some memory → Moves op
  unfolding act move_of operand_of
  act-moved (Move width (IntoRegister to from)) none e = rw (is_memory from memory e) (move-same width to)
  act-moved (Move width (IntoMemory to from)) none e = let is : to ≡ memory = cc in
      rw is (stored-same (size_of width) (kept ops width (register_of s.registers from)))
  act-moved (Move width (Immediate to)) none e = rw (is_memory to memory e) (move-number width)
  act-moved (StoreByte to from) none e = let is : to ≡ memory = cc in rw is (byte-stored from)
  act-moved (ExtendByte width to from) none e = rw (is_memory from memory e) (byte-extended width to)
  act-moved (ExtendLong to from) none e = rw (is_memory from memory e) (long-extended to)
  act-moved (LoadAddress width to from) none e = let is : from ≡ memory = cc in rw is (loaded-address width to)
  act-moved (Compute arithmetic width (IntoRegister to from)) none e =
      rw (is_memory from memory e) (computed-in arithmetic width to)
  act-moved (Compute arithmetic width (IntoMemory to from)) none e = let is : to
      ≡ memory = cc in rw is (computed-out arithmetic width from)
  act-moved (Compute arithmetic width (Immediate to)) none e =
      rw (is_memory to memory e) (computed-number arithmetic width)
  act-moved (Test width left right) none e = rw (is_memory left memory e) (tested width right)
  act-moved (Multiply width to from) none e = rw (is_memory from memory e) (multiplied width to)
  act-moved (ShiftBy shift width to count) none e = rw (is_memory to memory e) (shifted shift width count)
  act-moved (Push from) none e = absurd cc
  act-moved (Pop to) none e = absurd cc
  act-moved Leave none e = absurd cc
  act-moved (Call (Relative distance)) none e = absurd cc
  act-moved (Call (Indirect operand)) none e = rw (is_memory operand memory e) called
  act-moved (Jump (Relative distance)) none e = absurd cc
  act-moved (Jump (Indirect operand)) none e = rw (is_memory operand memory e) jumped
  act-moved (JumpIf condition distance) none e = absurd cc
  act-moved Return none e = absurd cc
  act-moved (Nop operand) none e = nothing operand e none
  act-moved Undefined none e = absurd cc
