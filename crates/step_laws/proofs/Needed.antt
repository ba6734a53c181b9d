-- An instruction that has no cause is refused as soon as one byte that it touches can be neither read nor written.
use Rattle.std.proofs.Common.{◌≡◌, ◌⊎◌, inl, inr, ℕ, ◌-◌, ◌^◌, Bool, true, false, Option, Some, None, Result, Ok, Err}
use Rattle.std.proofs.Common.{refl, ap, subst}
use Rattle.std.specs.Prelude.{if◌then◌else◌}
use Rattle.std.specs.List.{Contains}
use Rattle.amd64_words.specs.declared.register.Register.{Register}
use Rattle.amd64_subset.specs.declared.instr.Arithmetic.{Arithmetic}
use Rattle.amd64_subset.specs.declared.instr.Arithmetic.TheVariants.{Add, Or, And, Sub, Xor, Compare}
use Rattle.amd64_subset.specs.declared.instr.Operation.{Operation}
use Rattle.amd64_subset.specs.declared.instr.Operation.TheVariants.{Move, StoreByte, ExtendByte, ExtendLong}
use Rattle.amd64_subset.specs.declared.instr.Operation.TheVariants.{LoadAddress, Compute, Test, Multiply, Shift, Push}
use Rattle.amd64_subset.specs.declared.instr.Operation.TheVariants.{Pop, Leave, Call, Jump, JumpIf, Return}
use Rattle.amd64_subset.specs.declared.instr.Operation.TheVariants.{Nop, Undefined}
use Rattle.amd64_subset.specs.declared.instr.Target.TheVariants.{Relative, Indirect}
use Rattle.amd64_subset.specs.declared.instr.Width.{Width}
use Rattle.amd64_subset.specs.declared.instr.Width.TheVariants.{Long as LongWidth, Quad as QuadWidth}
use Rattle.amd64_subset.specs.declared.operand.Memory.{Memory}
use Rattle.amd64_subset.specs.declared.operand.Operand.{Operand}
use Rattle.amd64_subset.specs.declared.operand.Operand.TheVariants.{InMemory, Register as InRegister}
use Rattle.amd64_subset.specs.declared.operand.Operands.{Operands}
use Rattle.amd64_subset.specs.declared.operand.Operands.TheVariants.{IntoRegister, IntoMemory, Immediate}
use Rattle.guest_arithmetic.specs.declared.cause.Cause.{Cause}
use Rattle.guest_arithmetic.specs.Cause.{both, used}
use Rattle.guest_arithmetic.specs.Values.{Operations}
use Rattle.guest_operands.specs.declared.frame.Frame.{Frame}
use Rattle.guest_operands.specs.declared.slot.Slot.{Slot}
use Rattle.guest_operands.specs.declared.slot.Slot.TheVariants.{Place, Register as OfSlot}
use Rattle.guest_operands.specs.declared.slot.Taken.{Taken}
use Rattle.guest_operands.specs.declared.space.Size.{Size}
use Rattle.guest_operands.specs.declared.space.Size.TheVariants.{Byte, Quad}
use Rattle.guest_operands.specs.declared.state.State.{State}
use Rattle.guest_operands.specs.declared.stop.Stop.{Stop}
use Rattle.guest_operands.specs.declared.stop.Stop.TheVariants.{Address}
use Rattle.guest_operands.specs.Access.{Accesses, Refusal, Refused, Shut, bytes_from, bytes_in, load_of, put_all}
use Rattle.guest_operands.specs.Access.{reached, store_of}
use Rattle.guest_operands.specs.Operand.{address_of, carried, number_at, size_for, size_of, taken, taken_at, weighed}
use Rattle.guest_operands.specs.State.{at_place, register_of}
use Rattle.guest_operands.specs.Use.{◌>>=◌, After, clean, left, plus, refused_with, there}
use Rattle.guest_machine.specs.Clean.{IsClean}
use Rattle.guest_machine.specs.Step.{act, call_of, compute_in, compute_number, compute_of, compute_plain, extend_byte}
use Rattle.guest_machine.specs.Step.{extend_long, immediate_of, is_cleared, jump_of, leave_of, move_in}
use Rattle.guest_machine.specs.Step.{move_number, move_of, multiply_of, pop_of, push_of, pushed, return_of, shift_of}
use Rattle.guest_machine.specs.Step.{store_byte, stored, test_of}
use Rattle.guest_machine.specs.declared.touch.Direction.TheVariants.{Load, Store}
use Rattle.guest_machine.specs.Touch.{computed_touches, operand_touch, push_touch, touch_at, touched, touches_of}
use Rattle.step_laws.proofs.Places.{AllowsLess, IsAmong, IsIn, IsLess, bytes-less, bytes-refused, reached-less}
use Rattle.step_laws.proofs.Places.{touched-in, writes-refused}

-- a result that is no unclean stop
abbrev pub Stays : {A : Type 0} → Result A Stop → Type 0
Stays (Ok x) = Unit {0}
Stays (Err stop) = IsClean stop

pub stays-first : {A C : Type 0} (r : Result A Stop) (k : A → Result C Stop) → Stays (r >>= k) → Stays r
stays-first (Ok x) k h = tt
stays-first (Err stop) k h = h

both-other : {A C : Type 0} (here : ℕ) (r : Result A Cause) (other : Result C Cause) → Stays (clean here (both r other))
    → (x : C) × (other ≡ Ok x)
both-other here (Ok a) (Ok x) h = (x, refl)
both-other here (Ok a) (Err cause) h = absurd h
both-other here (Err cause) (Ok x) h = absurd h
both-other here (Err cause) (Err other) h = absurd h

pub not-cleared : (arithmetic : Arithmetic) (to : Register) (from : Memory)
    → is_cleared arithmetic to (InMemory from) ≡ false
unfolding is_cleared
not-cleared Add to from = refl
not-cleared Or to from = refl
not-cleared And to from = refl
not-cleared Sub to from = refl
not-cleared Xor to from = refl
not-cleared Compare to from = refl

-- two numbers of an instruction, or its stop
abbrev IsPair : ℕ → Result ℕ Cause → Result (ℕ × ℕ) Stop → Type 0
IsPair here other (Ok parts) = other ≡ Ok parts.1
IsPair here other (Err stop) = stop ≡ Address here

-- an operand that was taken with another number
abbrev IsTaken : ℕ → Result ℕ Cause → Result Taken Stop → Type 0
IsTaken here other (Ok it) = other ≡ Ok it.other
IsTaken here other (Err stop) = stop ≡ Address here

-- an operand is taken as it was, or it is refused
abbrev IsKept : ℕ → Result Taken Stop → Result Taken Stop → Type 0
IsKept here r r' = (r' ≡ r) ⊎ (r' ≡ Err (Address here))

then-is : (slot : Slot) (here : ℕ) (other : Result ℕ Cause) (r : Result (ℕ × ℕ) Stop) → IsPair here other r
    → IsTaken here other (r >>= λ parts. Ok (record { slot = slot; number = parts.0; other = parts.1 }))
then-is slot here other (Ok parts) h = h
then-is slot here other (Err stop) h = h

both-is : (here : ℕ) (r other : Result ℕ Cause) → Stays (clean here (both r other))
    → IsPair here other (clean here (both r other))
both-is here (Ok a) (Ok x) h = refl
both-is here (Ok a) (Err cause) h = absurd h
both-is here (Err cause) (Ok x) h = absurd h
both-is here (Err cause) (Err other) h = absurd h

refused-is : (here : ℕ) (other : Result ℕ Cause) → IsClean (refused_with here Refused other)
    → refused_with here Refused other ≡ Address here
refused-is here (Ok x) h = refl
refused-is here (Err cause) h = absurd h

-- what follows an operand stops where the operand does
stops : {C : Type 0} (here : ℕ) (other : Result ℕ Cause) (r : Result Taken Stop) → IsTaken here other r
    → (k : Taken → Result C Stop)
    → ((it : Taken) → other ≡ Ok it.other → k it ≡ Err (Address here)) → (r >>= k) ≡ Err (Address here)
stops here other (Ok it) h k rest = rest it h
stops here other (Err stop) h k rest = ap Err h

weighed-used : {W F B M : Type 0} (ops : Operations W F B) (acc : Accesses M B) (width : Width) (here : ℕ)
    (r : Result W Refusal) (other : Result ℕ Cause)
    → Stays (weighed ops acc width here r other) → (x : ℕ) × (other ≡ Ok x)
weighed-used ops acc width here (Ok word) other h = both-other here (number_at ops width word) other h
weighed-used ops acc width here (Err Refused) (Ok x) h = (x, refl)
weighed-used ops acc width here (Err Refused) (Err cause) h = absurd h
weighed-used ops acc width here (Err Shut) other h = absurd h

-- acc': a memory that allows no more than acc; a: a byte of data
module _ {W F B M : Type 0} (ops : Operations W F B) (acc acc' : Accesses M B) (m : M) (less : AllowsLess acc acc' m)
    (a : ℕ) where
  load-less : (place size : ℕ) → IsLess (load_of ops acc m place size) (load_of ops acc' m place size)
  unfolding load_of
  load-less place size = reached-less ops.joined _ _ (bytes-less acc acc' m less size place)

  pub load-refused : acc'.byte m a ≡ Err Refused → (place size : ℕ) → IsAmong a place size
      → load_of ops acc' m place size ≡ Err Refused
  unfolding load_of
  load-refused unread place size h = ap (reached ops.joined) (bytes-refused acc acc' m less a unread size place h)

  pub store-refused : acc'.writes m a ≡ Err Refused → (place size : ℕ) (word : W) → IsAmong a place size
      → store_of ops acc' m place size word ≡ Err Refused
  unfolding store_of
  store-refused unwritten place size word h =
      ap (reached (λ done. put_all acc' m place (bytes_from ops word 0 size)))
      (writes-refused acc acc' m less a unwritten size place h)

  weighed-is : (width : Width) (here : ℕ) (r : Result W Refusal) (other : Result ℕ Cause)
      → Stays (weighed ops acc width here r other) → IsPair here other (weighed ops acc width here r other)
  weighed-is width here (Ok word) other h = both-is here (number_at ops width word) other h
  weighed-is width here (Err Refused) other h = refused-is here other h
  weighed-is width here (Err Shut) other h = absurd h

  module _ (f : Frame) (s : State W F) where
    taken_at-is : (width : Width) (r other : Result ℕ Cause) → Stays (taken_at ops acc width s.place m r other)
        → IsTaken s.place other (taken_at ops acc width s.place m r other)
    unfolding taken_at
    taken_at-is width (Err cause) other h = absurd h
    taken_at-is width (Ok place) other h =
        then-is (Place place) s.place other (weighed ops acc width s.place
        (load_of ops acc m place (size_of width)) other)
        (weighed-is width s.place (load_of ops acc m place (size_of width)) other
        (stays-first (weighed ops acc width s.place (load_of ops acc m place (size_of width)) other) _ h))

    taken-is : (width : Width) (operand : Operand) (other : Result ℕ Cause)
        → Stays (taken ops acc width f s m operand other)
        → IsTaken s.place other (taken ops acc width f s m operand other)
    unfolding taken
    taken-is width (InRegister name) other h =
        let r = number_at ops width (register_of s.registers name) in
        then-is (OfSlot name) s.place other (clean s.place (both r other))
        (both-is s.place r other (stays-first (clean s.place (both r other)) _ h))
    taken-is width (InMemory operand) other h = taken_at-is width (address_of ops f s operand) other h

    -- a load of an operand that is refused
    taken_at-refused : (width : Width) (place : ℕ) (other : Result ℕ Cause)
        → Stays (taken_at ops acc width s.place m (Ok place) other)
        → load_of ops acc' m place (size_of width) ≡ Err Refused
        → taken_at ops acc' width s.place m (Ok place) other ≡ Err (Address s.place)
    unfolding taken_at
    taken_at-refused width place other h e =
        let used = weighed-used ops acc width s.place (load_of ops acc m place (size_of width)) other
        (stays-first (weighed ops acc width s.place (load_of ops acc m place (size_of width)) other) _ h) in
        rw (e, used.1) refl

    -- an operand is taken as it was, or it is refused
    taken-less : (width : Width) (operand : Operand) (other : Result ℕ Cause)
        → Stays (taken ops acc width f s m operand other)
        → IsKept s.place (taken ops acc width f s m operand other) (taken ops acc' width f s m operand other)
    unfolding taken taken_at
    taken-less width (InRegister name) other h = inl refl
    taken-less width (InMemory operand) other h = at (address_of ops f s operand) h
      where
        at : (r : Result ℕ Cause) → Stays (taken_at ops acc width s.place m r other)
            → IsKept s.place (taken_at ops acc width s.place m r other) (taken_at ops acc' width s.place m r other)
        at (Err cause) h = absurd h
        at (Ok place) h =
            elim (load-less place (size_of width)) as (λ c. IsKept s.place
            (taken_at ops acc width s.place m (Ok place) other) (taken_at ops acc' width s.place m (Ok place) other))
            [ inl e ↦ inl (rw e refl) | inr e ↦ inr (taken_at-refused width place other h e) ]

    -- ** the byte is pushed over

    module _ (unwritten : acc'.writes m a ≡ Err Refused) where
      pushed-refused : (stack : ℕ) (word : W) → IsAmong a (plus stack (2 ^ 64 - 8)) 8
          → pushed ops acc' stack word s m ≡ Err (Address s.place)
      unfolding pushed
      pushed-refused stack word h = rw (store-refused unwritten (plus stack (2 ^ 64 - 8)) 8 word h) refl

      -- the eight bytes below %rsp
      below : (r : Result ℕ Cause) → IsIn a (touch_at Store Quad (used (λ stack. plus stack (2 ^ 64 - 8)) r))
          → (stack : ℕ) → r ≡ Ok stack → IsAmong a (plus stack (2 ^ 64 - 8)) 8
      below (Ok n) h stack e = let same : n ≡ stack = cc in subst (λ (n : ℕ). IsAmong a (plus n (2 ^ 64 - 8)) 8) same h
      below (Err cause) h stack e = absurd h

      push-refused : (word : W) (r : Result ℕ Cause) (k : After W F M → Result (After W F M) Stop)
          → IsIn a (touch_at Store Quad (used (λ stack. plus stack (2 ^ 64 - 8)) r))
          → (clean s.place r >>= λ stack. pushed ops acc' stack word s m >>= k) ≡ Err (Address s.place)
      push-refused word (Ok stack) k h = rw (pushed-refused stack word h) refl
      push-refused word (Err cause) k h = absurd h

      pub call-refused : (operand : Operand) → Stays (call_of ops acc f s m (Indirect operand))
          → IsIn a (push_touch ops s) → call_of ops acc' f s m (Indirect operand) ≡ Err (Address s.place)
      unfolding call_of
      call-refused operand h i =
          let stack = ops.number_of s.registers.rsp in
          let made : Stays (taken ops acc QuadWidth f s m operand stack) =
          stays-first (taken ops acc QuadWidth f s m operand stack) _ h in
          elim (taken-less QuadWidth operand stack made) as
          (λ c. (taken ops acc' QuadWidth f s m operand stack >>= λ it. pushed ops acc' it.other
          (ops.word f.next) s m >>= λ after. Ok (left (at_place after.state it.number) after.memory))
          ≡ Err (Address s.place)) [
            | inl e ↦ rw e (stops s.place stack (taken ops acc QuadWidth f s m operand stack)
                (taken-is QuadWidth operand stack made) _
                (λ it other. rw (pushed-refused it.other (ops.word f.next) (below stack i it.other other)) refl))
            | inr e ↦ rw e refl
          ]

    -- ** the byte is loaded or stored

    module _ (unread : acc'.byte m a ≡ Err Refused) (unwritten : acc'.writes m a ≡ Err Refused) where
      loads-refused : {D : Type 0} (r : Result ℕ Cause) (size : Size) (k : ℕ → W → Result D Stop)
          → IsIn a (touch_at Load size r)
          → (clean s.place r >>= λ place. there s.place (load_of ops acc' m place (bytes_in size)) >>= k place)
          ≡ Err (Address s.place)
      loads-refused (Ok place) size k h = rw (load-refused unread place (bytes_in size) h) refl
      loads-refused (Err cause) size k h = absurd h

      stores-refused : (r : Result ℕ Cause) (size : Size) (word : W) (k : M → Result (After W F M) Stop)
          → IsIn a (touch_at Store size r)
          → (clean s.place r >>= λ place. there s.place (store_of ops acc' m place (bytes_in size) word) >>= k)
          ≡ Err (Address s.place)
      stores-refused (Ok place) size word k h = rw (store-refused unwritten place (bytes_in size) word h) refl
      stores-refused (Err cause) size word k h = absurd h

      carried-refused : (width : Width) (operand : Operand)
          → IsIn a (operand_touch ops f s Load (size_for width) operand)
          → carried ops acc' width f s m operand ≡ Err (Address s.place)
      unfolding carried
      carried-refused width (InRegister name) h = absurd h
      carried-refused width (InMemory operand) h = at (address_of ops f s operand) h
        where
          at : (r : Result ℕ Cause) → IsIn a (touch_at Load (size_for width) r)
              → (clean s.place r >>= λ place. there s.place (load_of ops acc' m place (size_of width)))
              ≡ Err (Address s.place)
          at (Ok place) h = rw (load-refused unread place (size_of width) h) refl
          at (Err cause) h = absurd h

      taken-refused : (width : Width) (operand : Operand) (other : Result ℕ Cause)
          → Stays (taken ops acc width f s m operand other)
          → IsIn a (operand_touch ops f s Load (size_for width) operand)
          → taken ops acc' width f s m operand other ≡ Err (Address s.place)
      unfolding taken
      taken-refused width (InRegister name) other h i = absurd i
      taken-refused width (InMemory operand) other h i = at (address_of ops f s operand) h i
        where
          at : (r : Result ℕ Cause) → Stays (taken_at ops acc width s.place m r other)
              → IsIn a (touch_at Load (size_for width) r)
              → taken_at ops acc' width s.place m r other ≡ Err (Address s.place)
          at (Ok place) h i = taken_at-refused width place other h (load-refused unread place (size_of width) i)
          at (Err cause) h i = absurd i

      -- what is done with an operand
      takes-refused : {C : Type 0} (width : Width) (operand : Operand) (other : Result ℕ Cause)
          (k k' : Taken → Result C Stop) → Stays (taken ops acc width f s m operand other >>= k)
          → IsIn a (operand_touch ops f s Load (size_for width) operand)
          → (taken ops acc' width f s m operand other >>= k') ≡ Err (Address s.place)
      takes-refused width operand other k k' h i = rw (taken-refused width operand other
          (stays-first (taken ops acc width f s m operand other) k h) i) refl

      -- an operand is stored to where it was loaded from
      stored-too : (size : Size) (operand : Operand) → IsIn a (operand_touch ops f s Store size operand)
          → IsIn a (operand_touch ops f s Load size operand)
      stored-too size (InRegister name) h = h
      stored-too size (InMemory operand) h = at (address_of ops f s operand) h
        where
          at : (r : Result ℕ Cause) → IsIn a (touch_at Store size r) → IsIn a (touch_at Load size r)
          at (Ok place) h = h
          at (Err cause) h = h

      either-way : (size : Size) (operand : Operand) → IsIn a (operand_touch ops f s Load size operand) ⊎ IsIn a
          (operand_touch ops f s Store size operand)
          → IsIn a (operand_touch ops f s Load size operand)
      either-way size operand (inl h) = h
      either-way size operand (inr h) = stored-too size operand h

      computed-in : (arithmetic : Arithmetic) (width : Width) (to : Operand)
          → IsIn a (computed_touches ops f s arithmetic width to).first ⊎ IsIn a
          (computed_touches ops f s arithmetic width to).second
          → IsIn a (operand_touch ops f s Load (size_for width) to)
      computed-in Compare width to (inl h) = h
      computed-in Compare width to (inr h) = absurd h
      computed-in Add width to h = either-way (size_for width) to h
      computed-in Or width to h = either-way (size_for width) to h
      computed-in And width to h = either-way (size_for width) to h
      computed-in Sub width to h = either-way (size_for width) to h
      computed-in Xor width to h = either-way (size_for width) to h

      -- ** the rows

      number-then : {A C : Type 0} (r : Result A Cause) (k k' : A → Result C Stop) → Stays (clean s.place r >>= k)
          → ((x : A) → k' x ≡ Err (Address s.place))
          → (clean s.place r >>= k') ≡ Err (Address s.place)
      number-then (Ok x) k k' h rest = rest x
      number-then (Err cause) k k' h rest = absurd h

      unless : {C : Type 0} (b : Bool) → b ≡ false → (x y x' y' : Result C Stop) → Stays (if b then x else y)
          → (Stays y → y' ≡ Err (Address s.place))
          → (if b then x' else y') ≡ Err (Address s.place)
      unless true e x y x' y' h rest = cc
      unless false e x y x' y' h rest = rest h

      plain-refused : (arithmetic : Arithmetic) (width : Width) (field : Option ℕ) (to : Operand)
          → Stays (compute_plain ops acc arithmetic width field f s m to)
          → IsIn a (computed_touches ops f s arithmetic width to).first ⊎ IsIn a
          (computed_touches ops f s arithmetic width to).second
          → compute_plain ops acc' arithmetic width field f s m to ≡ Err (Address s.place)
      unfolding compute_plain
      plain-refused arithmetic width field to h i = takes-refused width to
          (immediate_of ops width field f.immediate) _ _ h (computed-in arithmetic width to i)

      nowhere : {P : Type 0} → ⊥ ⊎ ⊥ → P
      nowhere (inl i) = absurd i
      nowhere (inr i) = absurd i

      number-refused : (arithmetic : Arithmetic) (width : Width) (field : Option ℕ) (to : Operand)
          → Stays (compute_number ops acc arithmetic width field f s m to)
          → IsIn a (computed_touches ops f s arithmetic width to).first ⊎ IsIn a
          (computed_touches ops f s arithmetic width to).second
          → compute_number ops acc' arithmetic width field f s m to ≡ Err (Address s.place)
      unfolding compute_number
      number-refused Add QuadWidth (Some at) (InRegister to) h i = nowhere i
      number-refused Add QuadWidth (Some at) (InMemory to) h i = plain-refused Add QuadWidth (Some at) (InMemory to) h i
      number-refused Add QuadWidth None to h i = plain-refused Add QuadWidth None to h i
      number-refused Add LongWidth field to h i = plain-refused Add LongWidth field to h i
      number-refused Or width field to h i = plain-refused Or width field to h i
      number-refused And width field to h i = plain-refused And width field to h i
      number-refused Sub width field to h i = plain-refused Sub width field to h i
      number-refused Xor width field to h i = plain-refused Xor width field to h i
      number-refused Compare width field to h i = plain-refused Compare width field to h i

      -- only the first access, if there is no second
      once : {P Q : Type 0} → P ⊎ ⊥ → (P → Q) → Q
      once (inl i) k = k i
      once (inr i) k = absurd i

      moved-refused : (width : Width) (operands : Operands) → Stays (move_of ops acc width f s m operands)
          → IsIn a (touches_of ops f s (Move width operands)).first
          → move_of ops acc' width f s m operands ≡ Err (Address s.place)
      unfolding touches_of move_of move_in move_number stored
      moved-refused width (IntoRegister to from) h i = rw (carried-refused width from i) refl
      moved-refused width (IntoMemory to from) h i = stores-refused (address_of ops f s to) (size_for width) _ _ i
      moved-refused width (Immediate (InRegister to)) h i = absurd i
      moved-refused width (Immediate (InMemory to)) h i =
          number-then (immediate_of ops width f.immediate_field f.immediate) _ _ h
          (λ number. stores-refused (address_of ops f s to) (size_for width) (ops.word number) _ i)

      computes-refused : (arithmetic : Arithmetic) (width : Width) (operands : Operands)
          → Stays (compute_of ops acc arithmetic width f s m operands)
          → IsIn a (touches_of ops f s (Compute arithmetic width operands)).first ⊎ IsIn a
          (touches_of ops f s (Compute arithmetic width operands)).second
          → compute_of ops acc' arithmetic width f s m operands ≡ Err (Address s.place)
      unfolding touches_of compute_of compute_in
      computes-refused arithmetic width (IntoRegister to (InRegister from)) h i = nowhere i
      computes-refused arithmetic width (IntoRegister to (InMemory from)) h i =
          unless (is_cleared arithmetic to (InMemory from)) (not-cleared arithmetic to from) _ _ _ _ h
          (λ made. once i (takes-refused width (InMemory from)
          (number_at ops width (register_of s.registers to)) _ _ made))
      computes-refused arithmetic width (IntoMemory to from) h i =
          takes-refused width (InMemory to) (number_at ops width (register_of s.registers from)) _ _ h
          (computed-in arithmetic width (InMemory to) i)
      computes-refused arithmetic width (Immediate to) h i = number-refused arithmetic width f.immediate_field to h i

      extends-refused : (to : Register) (from : Operand) → IsIn a (operand_touch ops f s Load Byte from)
          → extend_byte ops acc' f s m to from ≡ Err (Address s.place)
      unfolding extend_byte
      extends-refused to (InRegister from) i = absurd i
      extends-refused to (InMemory from) i = loads-refused (address_of ops f s from) Byte _ i

      calls-refused : (operand : Operand) → Stays (call_of ops acc f s m (Indirect operand))
          → IsIn a (operand_touch ops f s Load Quad operand) ⊎ IsIn a (push_touch ops s)
          → call_of ops acc' f s m (Indirect operand) ≡ Err (Address s.place)
      unfolding call_of
      calls-refused operand h (inl i) = takes-refused QuadWidth operand (ops.number_of s.registers.rsp) _ _ h i
      calls-refused operand h (inr i) = call-refused unwritten operand h i

      in-touches : (operation : Operation) → Stays (act ops acc f operation s m)
          → IsIn a (touches_of ops f s operation).first ⊎ IsIn a (touches_of ops f s operation).second
          → act ops acc' f operation s m ≡ Err (Address s.place)
      unfolding touches_of act store_byte extend_long test_of multiply_of shift_of push_of pop_of leave_of return_of
          call_of jump_of stored
      in-touches (Move width (IntoRegister to from)) h i = once i (moved-refused width (IntoRegister to from) h)
      in-touches (Move width (IntoMemory to from)) h i = once i (moved-refused width (IntoMemory to from) h)
      in-touches (Move width (Immediate to)) h i = once i (moved-refused width (Immediate to) h)
      in-touches (StoreByte to from) h i = once i (stores-refused (address_of ops f s to) Byte _ _)
      in-touches (ExtendByte width to from) h i = once i (extends-refused to from)
      in-touches (ExtendLong to from) h i = once i (λ j. rw (carried-refused LongWidth from j) refl)
      in-touches (LoadAddress width to from) h i = nowhere i
      in-touches (Compute arithmetic width operands) h i = computes-refused arithmetic width operands h i
      in-touches (Test width from right) h i = once i (takes-refused width from
          (number_at ops width (register_of s.registers right)) _ _ h)
      in-touches (Multiply width to from) h i = once i (takes-refused width from
          (number_at ops width (register_of s.registers to)) _ _ h)
      in-touches (Shift shift width to count) h i = takes-refused width to (Ok 0) _ _ h
          (either-way (size_for width) to i)
      in-touches (Push from) h i = once i (push-refused unwritten (register_of s.registers from)
          (ops.number_of s.registers.rsp) _)
      in-touches (Pop to) h i = once i (loads-refused (ops.number_of s.registers.rsp) Quad _)
      in-touches Leave h i = once i (loads-refused (ops.number_of s.registers.rbp) Quad _)
      in-touches (Call (Relative distance)) h i = once i
          (push-refused unwritten (ops.word f.next) (ops.number_of s.registers.rsp) _)
      in-touches (Call (Indirect operand)) h i = calls-refused operand h i
      in-touches (Jump (Relative distance)) h i = nowhere i
      in-touches (Jump (Indirect operand)) h i = once i (takes-refused QuadWidth operand (Ok 0) _ _ h)
      in-touches (JumpIf condition distance) h i = nowhere i
      in-touches Return h i = once i (loads-refused (ops.number_of s.registers.rsp) Quad _)
      in-touches (Nop operand) h i = nowhere i
      in-touches Undefined h i = nowhere i

      -- the law of one instruction
      pub act-refused : (operation : Operation) → Stays (act ops acc f operation s m)
          → Contains (touched acc m (touches_of ops f s operation)) a
          → act ops acc' f operation s m ≡ Err (Address s.place)
      act-refused operation h i = in-touches operation h (touched-in acc m a (touches_of ops f s operation) i)
