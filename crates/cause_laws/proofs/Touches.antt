-- The bytes that a step is said to touch are those of the table of accesses.
use Rattle.std.proofs.Common.{◌≡◌, ℕ, zero, suc, ◌-◌, ◌^◌, List, [], ◌∷◌, ◌++◌, Option, Some, None, Result, Ok, Err}
use Rattle.std.proofs.Common.{refl, ap, ◌∙◌}
use Rattle.std.specs.Prelude.{option_map}
use Rattle.amd64_subset.specs.declared.instr.Arithmetic.TheVariants.{Add, Or, And, Sub, Xor, Compare}
use Rattle.amd64_subset.specs.declared.instr.Decoded.{Decoded}
use Rattle.amd64_subset.specs.declared.instr.Operation.{Operation}
use Rattle.amd64_subset.specs.declared.instr.Operation.TheVariants.{Move, StoreByte, ExtendByte, ExtendLong}
use Rattle.amd64_subset.specs.declared.instr.Operation.TheVariants.{LoadAddress, Compute, Test, Multiply, Shift, Push}
use Rattle.amd64_subset.specs.declared.instr.Operation.TheVariants.{Pop, Leave, Call, Jump}
use Rattle.amd64_subset.specs.declared.instr.Operation.TheVariants.{JumpIf, Return, Nop, Undefined}
use Rattle.amd64_subset.specs.declared.instr.Target.TheVariants.{Relative, Indirect}
use Rattle.amd64_subset.specs.declared.instr.Width.{Width}
use Rattle.amd64_subset.specs.declared.instr.Width.TheVariants.{Long as LongWidth, Quad as QuadWidth}
use Rattle.amd64_subset.specs.declared.operand.Memory.{Memory}
use Rattle.amd64_subset.specs.declared.operand.Operand.{Operand}
use Rattle.amd64_subset.specs.declared.operand.Operand.TheVariants.{InMemory, Register as InRegister}
use Rattle.amd64_subset.specs.declared.operand.Operands.TheVariants.{IntoRegister, IntoMemory, Immediate}
use Rattle.guest_arithmetic.specs.declared.cause.Cause.{Cause}
use Rattle.guest_arithmetic.specs.Cause.{used}
use Rattle.guest_operands.specs.declared.frame.Frame.{Frame}
use Rattle.guest_operands.specs.declared.space.Size.{Size}
use Rattle.guest_operands.specs.declared.space.Size.TheVariants.{Byte as ByteSize, Long, Quad}
use Rattle.guest_operands.specs.declared.state.State.{State}
use Rattle.guest_operands.specs.Access.{Accesses, bytes_in, next_place}
use Rattle.guest_operands.specs.Operand.{address_of, size_for}
use Rattle.guest_operands.specs.Use.{plus}
use Rattle.guest_machine.specs.declared.touch.Direction.TheVariants as direction
use Rattle.guest_machine.specs.Touch as touch
use Rattle.guest_machine.specs.Touch.{operand_touch, paired, push_touch, touch_at, touched, touched_then, touches_of}
use Rattle.job_meaning.specs.declared.values.Byte.{Byte}
use Rattle.job_meaning.specs.declared.values.Flag.{Flag}
use Rattle.job_meaning.specs.declared.values.Token.TheVariants.{Base as BaseOf, Descriptor}
use Rattle.job_meaning.specs.declared.values.Word.{Word}
use Rattle.job_meaning.specs.declared.values.Word.TheVariants.{Number, Undefined as UndefinedWord, Marked}
use Rattle.job_meaning.specs.Marked.{marked_operations, used_number}
use Rattle.whole_meaning.specs.declared.marks.Mark.{Mark}
use Rattle.whole_meaning.specs.declared.marks.Mark.TheVariants.{Usual, Offset, Address, Inside}
use Rattle.whole_meaning.specs.Fields.{address_at, field_address, marked_frame, without_operand}
use Rattle.whole_meaning.specs.Reading.{own_touches}
use Rattle.whole_meaning.specs.Threads.{ops}
use Rattle.cause_laws.specs.Instructions.{read_operand}
use Rattle.cause_laws.specs.Operands as operands
use Rattle.cause_laws.specs.Operands.{first_mark, number_in, operand_address}
use Rattle.cause_laws.specs.Steps as steps
use Rattle.cause_laws.specs.Steps.{Access, Load, Store, accesses_of, bytes_of, load_at, places_from, store_at}
use Rattle.cause_laws.specs.Steps.{touched_by}
use Rattle.cause_laws.proofs.Addresses.{SaysBy, address-says}

-- a number that is there on both sides or on none
abbrev pub Same : Result ℕ Cause → Option ℕ → Type 0
Same (Ok a) o = o ≡ Some a
Same (Err why) o = o ≡ None

pub same-by : (field : Option ℕ) (r : Result ℕ Cause) (o : Option ℕ) (ws : List Word) → SaysBy field r o ws → Same r o
same-by None (Ok a) o ws h = h.0
same-by None (Err why) o ws h = h.0
same-by (Some n) (Ok a) o ws h = h
same-by (Some n) (Err why) o ws h = h.0

pub same-word : (w : Word) → Same (used_number w) (number_in w)
same-word (Number n) = refl
same-word UndefinedWord = refl
same-word (Marked (BaseOf block)) = refl
same-word (Marked (Descriptor instance symbol)) = refl

bytes-is : (width : Width) → bytes_in (size_for width) ≡ bytes_of width
bytes-is LongWidth = refl
bytes-is QuadWidth = refl

places-is : (size address : ℕ) → touch.places_from address size ≡ places_from address size
places-is zero address = refl
places-is (suc size) address = ap (λ (l : List ℕ). address ∷ l) (places-is size (next_place address))

module _ {M : Type 0} (acc : Accesses M Byte) (state : State Word Flag) (m : M) where
  abbrev mine : List Access → List ℕ
  mine = touched_by acc m

  one-load : (size : Size) (r : Result ℕ Cause) (o : Option ℕ) → Same r o → (more : List ℕ) (rest : List Access)
      → more ≡ mine rest
      → touched_then acc m (touch_at direction.Load size r) more ≡ mine (load_at (bytes_in size) o ++ rest)
  one-load size (Ok a) o e more rest h = rw (e, places-is (bytes_in size) a, h) refl
  one-load size (Err why) o e more rest h = rw (e, h) refl

  one-store : (size : Size) (r : Result ℕ Cause) (o : Option ℕ) → Same r o → (more : List ℕ) (rest : List Access)
      → more ≡ mine rest
      → touched_then acc m (touch_at direction.Store size r) more ≡ mine (store_at (bytes_in size) o ++ rest)
  one-store size (Ok a) o e more rest h = rw (e, places-is (bytes_in size) a, h) refl
  one-store size (Err why) o e more rest h = rw (e, h) refl

  load-nil : (size : ℕ) (o : Option ℕ) → load_at size o ++ [] ≡ load_at size o
  load-nil size None = refl
  load-nil size (Some a) = refl

  store-nil : (size : ℕ) (o : Option ℕ) → store_at size o ++ [] ≡ store_at size o
  store-nil size None = refl
  store-nil size (Some a) = refl

  last-load : (size : Size) (r : Result ℕ Cause) (o : Option ℕ) → Same r o
      → touched_then acc m (touch_at direction.Load size r) [] ≡ mine (load_at (bytes_in size) o)
  last-load size r o e = one-load size r o e [] [] refl ∙ ap mine (load-nil (bytes_in size) o)

  last-store : (size : Size) (r : Result ℕ Cause) (o : Option ℕ) → Same r o
      → touched_then acc m (touch_at direction.Store size r) [] ≡ mine (store_at (bytes_in size) o)
  last-store size r o e = one-store size r o e [] [] refl ∙ ap mine (store-nil (bytes_in size) o)

  -- ** the stack

  used-same : (w : Word) → Same (used (λ stack. plus stack (2 ^ 64 - 8)) (used_number w))
      (option_map (λ stack. plus stack (2 ^ 64 - 8)) (number_in w))
  used-same (Number n) = refl
  used-same UndefinedWord = refl
  used-same (Marked (BaseOf block)) = refl
  used-same (Marked (Descriptor instance symbol)) = refl

  module _ (mark : ℕ → Mark) (it : Decoded) where
    push-is : touched_then acc m (push_touch ops state) [] ≡ mine (steps.pushes mark state it)
    unfolding marked_operations
    push-is = last-store Quad _ _ (used-same state.registers.rsp)

    pop-is : touched acc m (paired (touch_at direction.Load Quad (ops.number_of state.registers.rsp)) None)
        ≡ mine (steps.pops mark state it)
    unfolding touched marked_operations
    pop-is = last-load Quad _ _ (same-word state.registers.rsp)

    leave-is : touched acc m (paired (touch_at direction.Load Quad (ops.number_of state.registers.rbp)) None)
        ≡ mine (load_at 8 (number_in state.registers.rbp))
    unfolding touched marked_operations
    leave-is = last-load Quad _ _ (same-word state.registers.rbp)

    -- ** operands

    abbrev frame : Frame
    frame = marked_frame mark state.place it

    module _ (bare : operands.address_of (first_mark mark state it it.disp) ≡ None) where
      same-address : (memory : Memory)
          → Same (address_of ops frame state memory) (steps.place_of mark state it (InMemory memory))
      same-address memory =
          rw bare (same-by (operands.offset_field mark state it) _ _ _ (address-says mark state it memory))

      then-load : (size : Size) (o : Operand) (more : List ℕ) (rest : List Access) → more ≡ mine rest
          → touched_then acc m (operand_touch ops frame state direction.Load size o) more
          ≡ mine (steps.loads mark state it (bytes_in size) o ++ rest)
      then-load size (InRegister r) more rest h = h
      then-load size (InMemory memory) more rest h = one-load size _ _ (same-address memory) more rest h

      loads-is : (size : Size) (o : Operand)
          → touched_then acc m (operand_touch ops frame state direction.Load size o) []
          ≡ mine (steps.loads mark state it (bytes_in size) o)
      loads-is size (InRegister r) = refl
      loads-is size (InMemory memory) = last-load size _ _ (same-address memory)

      stores-is : (size : Size) (o : Operand)
          → touched_then acc m (operand_touch ops frame state direction.Store size o) []
          ≡ mine (steps.stores mark state it (bytes_in size) o)
      stores-is size (InRegister r) = refl
      stores-is size (InMemory memory) = last-store size _ _ (same-address memory)

      wide-loads : (width : Width) (o : Operand)
          → touched_then acc m (operand_touch ops frame state direction.Load (size_for width) o) []
          ≡ mine (steps.loads mark state it (bytes_of width) o)
      wide-loads width o = loads-is (size_for width) o
          ∙ ap (λ (n : ℕ). mine (steps.loads mark state it n o)) (bytes-is width)

      wide-stores : (width : Width) (o : Operand)
          → touched_then acc m (operand_touch ops frame state direction.Store (size_for width) o) []
          ≡ mine (steps.stores mark state it (bytes_of width) o)
      wide-stores width o = stores-is (size_for width) o
          ∙ ap (λ (n : ℕ). mine (steps.stores mark state it n o)) (bytes-is width)

      changes-is : (width : Width) (o : Operand)
          → touched_then acc m (operand_touch ops frame state direction.Load (size_for width) o)
          (touched_then acc m (operand_touch ops frame state direction.Store (size_for width) o) [])
          ≡ mine (steps.changes mark state it (bytes_of width) o)
      changes-is width o = then-load (size_for width) o _ _ (wide-stores width o)
          ∙ ap (λ (n : ℕ). mine (steps.loads mark state it n o ++ steps.stores mark state it (bytes_of width) o))
          (bytes-is width)

      pub touches-are : (op : Operation)
          → touched acc m (touches_of ops frame state op) ≡ mine (accesses_of mark state it op)
      unfolding touched touches_of accesses_of
      touches-are (Move width (IntoRegister to from)) = wide-loads width from
      touches-are (Move width (IntoMemory to from)) = wide-stores width (InMemory to)
      touches-are (Move width (Immediate to)) = wide-stores width to
      touches-are (StoreByte to from) = stores-is ByteSize (InMemory to)
      touches-are (ExtendByte width to from) = loads-is ByteSize from
      touches-are (ExtendLong to from) = loads-is Long from
      touches-are (LoadAddress width to from) = refl
      touches-are (Compute arithmetic width (IntoRegister to from)) = wide-loads width from
      touches-are (Compute Compare width (IntoMemory to from)) = wide-loads width (InMemory to)
      touches-are (Compute Add width (IntoMemory to from)) = changes-is width (InMemory to)
      touches-are (Compute Or width (IntoMemory to from)) = changes-is width (InMemory to)
      touches-are (Compute And width (IntoMemory to from)) = changes-is width (InMemory to)
      touches-are (Compute Sub width (IntoMemory to from)) = changes-is width (InMemory to)
      touches-are (Compute Xor width (IntoMemory to from)) = changes-is width (InMemory to)
      touches-are (Compute Compare width (Immediate to)) = wide-loads width to
      touches-are (Compute Add width (Immediate to)) = changes-is width to
      touches-are (Compute Or width (Immediate to)) = changes-is width to
      touches-are (Compute And width (Immediate to)) = changes-is width to
      touches-are (Compute Sub width (Immediate to)) = changes-is width to
      touches-are (Compute Xor width (Immediate to)) = changes-is width to
      touches-are (Test width left right) = wide-loads width left
      touches-are (Multiply width to from) = wide-loads width from
      touches-are (Shift shift width to count) = changes-is width to
      touches-are (Push from) = push-is
      touches-are (Pop to) = pop-is
      touches-are Leave = leave-is
      touches-are (Call (Relative distance)) = push-is
      touches-are (Call (Indirect operand)) = then-load Quad operand _ _ push-is
      touches-are (Jump (Relative distance)) = refl
      touches-are (Jump (Indirect operand)) = loads-is Quad operand
      touches-are (JumpIf condition distance) = refl
      touches-are Return = pop-is
      touches-are (Nop operand) = refl
      touches-are Undefined = refl

    -- an address field supplies the operand
    module _ (number : ℕ) (supplied : operands.address_of (first_mark mark state it it.disp) ≡ Some number) where
      no-load : (size : ℕ) (o : Operand) → steps.loads mark state it size o ≡ []
      no-load size (InRegister r) = refl
      no-load size (InMemory memory) = rw supplied refl

      no-read : (operand : Operand) → [] ≡ mine (steps.loads mark state it 8 operand)
      no-read operand = rw (no-load 8 operand) refl

      then-push : (operand : Operand) → mine (steps.pushes mark state it)
          ≡ mine (steps.loads mark state it 8 operand ++ steps.pushes mark state it)
      then-push operand = rw (no-load 8 operand) refl

      abbrev Left : Operation → Type 0
      Left op = touched acc m (without_operand (Some number) (touches_of ops frame state op))
          ≡ mine (accesses_of mark state it op)

      pub left-are : (op : Operation) (memory : Memory) → read_operand op ≡ Some memory → Left op
      unfolding touched touches_of accesses_of read_operand
      left-are (Move QuadWidth (IntoRegister to from)) memory e = no-read from
      left-are (Move QuadWidth (IntoMemory to from)) memory e = absurd cc
      left-are (Move QuadWidth (Immediate to)) memory e = absurd cc
      left-are (Move LongWidth operands) memory e = absurd cc
      left-are (StoreByte to from) memory e = absurd cc
      left-are (ExtendByte width to from) memory e = absurd cc
      left-are (ExtendLong to from) memory e = absurd cc
      left-are (LoadAddress width to from) memory e = absurd cc
      left-are (Compute arithmetic LongWidth operands) memory e = absurd cc
      left-are (Compute arithmetic QuadWidth (IntoRegister to from)) memory e = no-read from
      left-are (Compute Compare QuadWidth (IntoMemory to from)) memory e = no-read (InMemory to)
      left-are (Compute Add QuadWidth (IntoMemory to from)) memory e = absurd cc
      left-are (Compute Or QuadWidth (IntoMemory to from)) memory e = absurd cc
      left-are (Compute And QuadWidth (IntoMemory to from)) memory e = absurd cc
      left-are (Compute Sub QuadWidth (IntoMemory to from)) memory e = absurd cc
      left-are (Compute Xor QuadWidth (IntoMemory to from)) memory e = absurd cc
      left-are (Compute Compare QuadWidth (Immediate to)) memory e = no-read to
      left-are (Compute Add QuadWidth (Immediate to)) memory e = absurd cc
      left-are (Compute Or QuadWidth (Immediate to)) memory e = absurd cc
      left-are (Compute And QuadWidth (Immediate to)) memory e = absurd cc
      left-are (Compute Sub QuadWidth (Immediate to)) memory e = absurd cc
      left-are (Compute Xor QuadWidth (Immediate to)) memory e = absurd cc
      left-are (Test QuadWidth left right) memory e = no-read left
      left-are (Test LongWidth left right) memory e = absurd cc
      left-are (Multiply QuadWidth to from) memory e = no-read from
      left-are (Multiply LongWidth to from) memory e = absurd cc
      left-are (Shift shift width to count) memory e = absurd cc
      left-are (Push from) memory e = absurd cc
      left-are (Pop to) memory e = absurd cc
      left-are Leave memory e = absurd cc
      left-are (Call (Relative distance)) memory e = absurd cc
      left-are (Call (Indirect operand)) memory e = push-is ∙ then-push operand
      left-are (Jump (Relative distance)) memory e = absurd cc
      left-are (Jump (Indirect operand)) memory e = no-read operand
      left-are (JumpIf condition distance) memory e = absurd cc
      left-are Return memory e = absurd cc
      left-are (Nop operand) memory e = absurd cc
      left-are Undefined memory e = absurd cc

    -- ** the law: where an address field stands, its operand is one that is read

    pub address-same : (o : Option ℕ) → address_at mark state.place o ≡ operands.address_of (first_mark mark state it o)
    address-same None = refl
    address-same (Some k) = by_mark (mark (plus state.place k))
      where
        by_mark : (μ : Mark) → field_address μ ≡ operands.address_of μ
        by_mark Usual = refl
        by_mark (Offset number byte) = refl
        by_mark (Address number addend byte) = refl
        by_mark Inside = refl

    pub own-are : ((number : ℕ) → operands.address_of (first_mark mark state it it.disp) ≡ Some number
        → (memory : Memory) × (read_operand it.instr.operation ≡ Some memory))
        → touched acc m (own_touches ops mark state (Some it)) ≡ mine (accesses_of mark state it it.instr.operation)
    own-are reads = by_field (operands.address_of (first_mark mark state it it.disp)) refl
      where
        by_field : (o : Option ℕ) → operands.address_of (first_mark mark state it it.disp) ≡ o
            → touched acc m (own_touches ops mark state (Some it)) ≡ mine (accesses_of mark state it it.instr.operation)
        by_field None bare = rw (address-same it.disp, bare) (touches-are bare it.instr.operation)
        by_field (Some number) supplied = let h = reads number supplied in
            rw (address-same it.disp, supplied) (left-are number supplied it.instr.operation h.0 h.1)
