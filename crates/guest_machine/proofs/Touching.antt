-- An instruction asks only for the bytes that it touches: where none of them is closed, its step is the same.
use Rattle.std.proofs.Common.{◌≡◌, ℕ, zero, suc, ◌-◌, ◌^◌, Bool, true, false, List, [], ◌∷◌, Option, Some, None, Result}
use Rattle.std.proofs.Common.{Ok, Err, refl, sym, ap, subst, ◌∙◌}
use Rattle.std.specs.Prelude.{if◌then◌else◌, is_err}
use Rattle.std.specs.List.{list_any}
use Rattle.std.proofs.lemmas.Bool.{or_parts}
use Rattle.std.proofs.lemmas.List.Folds.{list_any-append}
use Rattle.amd64_words.specs.declared.register.Register.{Register}
use Rattle.amd64_subset.specs.declared.instr.Width.{Width}
use Rattle.amd64_subset.specs.declared.instr.Width.TheVariants.{Long as LongWidth, Quad as QuadWidth}
use Rattle.amd64_subset.specs.declared.instr.Arithmetic.{Arithmetic}
use Rattle.amd64_subset.specs.declared.instr.Arithmetic.TheVariants.{Add, Or, And, Sub, Xor, Compare}
use Rattle.amd64_subset.specs.declared.instr.Decoded.{Decoded}
use Rattle.amd64_subset.specs.declared.instr.Operation.{Operation}
use Rattle.amd64_subset.specs.declared.instr.Operation.TheVariants.{Move, StoreByte, ExtendByte, ExtendLong}
use Rattle.amd64_subset.specs.declared.instr.Operation.TheVariants.{LoadAddress, Compute, Test, Multiply, Shift, Push}
use Rattle.amd64_subset.specs.declared.instr.Operation.TheVariants.{Pop, Leave, Call, Jump, JumpIf, Return}
use Rattle.amd64_subset.specs.declared.instr.Operation.TheVariants.{Nop, Undefined}
use Rattle.amd64_subset.specs.declared.instr.Target.TheVariants.{Relative, Indirect}
use Rattle.amd64_subset.specs.declared.operand.Memory.{Memory}
use Rattle.amd64_subset.specs.declared.operand.Operand.{Operand}
use Rattle.amd64_subset.specs.declared.operand.Operand.TheVariants.{InMemory, Register as InRegister}
use Rattle.amd64_subset.specs.declared.operand.Operands.{Operands}
use Rattle.amd64_subset.specs.declared.operand.Operands.TheVariants.{IntoRegister, IntoMemory, Immediate}
use Rattle.amd64_subset.specs.Decoding.{decoded}
use Rattle.guest_arithmetic.specs.declared.cause.Cause.{Cause}
use Rattle.guest_arithmetic.specs.declared.effect.Effect.{Effect}
use Rattle.guest_arithmetic.specs.Cause.{used, both}
use Rattle.guest_arithmetic.specs.Values.{Operations}
use Rattle.guest_operands.specs.declared.frame.Frame.{Frame}
use Rattle.guest_operands.specs.declared.slot.Slot.{Slot}
use Rattle.guest_operands.specs.declared.slot.Slot.TheVariants.{Place, Register as OfSlot}
use Rattle.guest_operands.specs.declared.slot.Taken.{Taken}
use Rattle.guest_operands.specs.declared.space.Size.{Size}
use Rattle.guest_operands.specs.declared.space.Size.TheVariants.{Byte, Quad}
use Rattle.guest_operands.specs.declared.state.State.{State}
use Rattle.guest_operands.specs.declared.stop.Stop.{Stop}
use Rattle.guest_machine.specs.declared.touch.Direction.TheVariants.{Load, Store}
use Rattle.guest_machine.specs.declared.touch.Touch.{Touch}
use Rattle.guest_machine.specs.declared.touch.Touches.{Touches}
use Rattle.guest_operands.specs.Access.{Refusal, Accesses, bytes_in, next_place, reached, bytes_from, bytes_at}
use Rattle.guest_operands.specs.Access.{all_write, put_all, code_then}
use Rattle.guest_operands.specs.Closed.{closed}
use Rattle.guest_operands.specs.Access.{code_at, load_of, store_of, fetch_of}
use Rattle.guest_operands.specs.Operand.{size_for, size_of, charged, address_of, number_at, carried, weighed, taken_at}
use Rattle.guest_operands.specs.Operand.{taken, put}
use Rattle.guest_operands.specs.State.{register_of, at_place}
use Rattle.guest_arithmetic.specs.Arithmetic.{compute_effect, product_effect, each_flag}
use Rattle.guest_operands.specs.Frame.{frame_of}
use Rattle.guest_machine.specs.Step.{immediate_of, is_cleared, add_field, finished, concluded, move_in, stored}
use Rattle.guest_machine.specs.Step.{store_byte, move_number, move_of, extend_byte, extend_long, load_address}
use Rattle.guest_machine.specs.Step.{compute_in, compute_plain, compute_number, compute_of, test_of, multiply_of}
use Rattle.guest_machine.specs.Step.{shift_of, pushed, push_of, pop_of, leave_of, return_of, call_of, jump_of}
use Rattle.guest_machine.specs.Step.{jump_if, nop_of, act, act_if, step_of}
use Rattle.guest_machine.specs.Touch.{touch_at, paired, push_touch, operand_touch, changed_touches, computed_touches}
use Rattle.guest_machine.specs.Touch.{touches_of, touches_if, next_touches, places_from, refuses}
use Rattle.guest_machine.specs.Touch.{touched_then, touched}
use Rattle.guest_operands.specs.Use.{◌>>=◌, plus, clean, there, After, left}
use Rattle.guest_arithmetic.specs.declared.effect.Change.TheVariants.{Unsettled}

-- what follows from a value that was reached
bind-same : {A C : Type 0} (x : Result A Stop) (f g : A → Result C Stop) → ((a : A) → x ≡ Ok a → f a ≡ g a)
    → (x >>= f) ≡ (x >>= g)
bind-same (Ok a) f g h = h a refl
bind-same (Err stop) f g h = refl

module _ {M B : Type 0} (acc : Accesses M B) (shut : M → ℕ → Bool) (m : M) where
  -- no byte of these is closed
  abbrev pub Open : ℕ → ℕ → Type 0
  Open place size = list_any (shut m) (places_from place size) ≡ false

  bytes-open : (size place : ℕ) → Open place size → bytes_at (closed shut acc) m place size ≡ bytes_at acc m place size
  bytes-open zero place free = refl
  bytes-open (suc size) place free =
      let parts = or_parts (shut m place) (list_any (shut m) (places_from (next_place place) size)) free in
      rw (parts.0, bytes-open size (next_place place) parts.1) refl

  writes-open : (size place : ℕ) → Open place size
      → all_write (closed shut acc) m place size ≡ all_write acc m place size
  writes-open zero place free = refl
  writes-open (suc size) place free =
      let parts = or_parts (shut m place) (list_any (shut m) (places_from (next_place place) size)) free in
      rw (parts.0, writes-open size (next_place place) parts.1) refl

  put-open : (bytes : List B) (memory : M) (place : ℕ)
      → put_all (closed shut acc) memory place bytes ≡ put_all acc memory place bytes
  put-open [] memory place = refl
  put-open (byte ∷ bytes) memory place = put-open bytes (acc.put memory place byte) (next_place place)

  pub code-open : (size place : ℕ) → code_at (closed shut acc) m place size ≡ code_at acc m place size
  code-open zero place = refl
  code-open (suc size) place = ap (code_then (acc.code m place)) (code-open size (next_place place))

  -- none of the bytes that are touched is closed
  abbrev pub Free : Touches → Type 0
  Free it = list_any (shut m) (touched acc m it) ≡ false

  -- an access that is no refused one
  abbrev Made : Option Touch → Type 0
  Made None = Unit {0}
  Made (Some touch) = refuses acc m touch.direction touch.address (bytes_in touch.size) ≡ false

  first-open : (touch : Touch) (second : Option Touch) → Free (paired (Some touch) second)
      → Open touch.address (bytes_in touch.size)
  unfolding touched
  first-open touch second free =
      let more = if refuses acc m touch.direction touch.address (bytes_in touch.size) then []
      else touched_then acc m second [] in
      (or_parts (list_any (shut m) (places_from touch.address (bytes_in touch.size))) (list_any (shut m) more)
      (sym (list_any-append (shut m) (places_from touch.address (bytes_in touch.size)) more) ∙ free)).0

  rest-open : (first second : Option Touch) → Made first → Free (paired first second) → Free (paired second None)
  unfolding touched
  rest-open None second made free = free
  rest-open (Some touch) second made free =
      let more = if refuses acc m touch.direction touch.address (bytes_in touch.size) then []
      else touched_then acc m second [] in
      let rest : list_any (shut m) more ≡ false =
      (or_parts (list_any (shut m) (places_from touch.address (bytes_in touch.size))) (list_any (shut m) more)
      (sym (list_any-append (shut m) (places_from touch.address (bytes_in touch.size)) more) ∙ free)).1 in
      subst (λ (b : Bool). list_any (shut m) (if b then [] else touched_then acc m second []) ≡ false) made rest

module _ {W F B M : Type 0} (ops : Operations W F B) (acc : Accesses M B) (shut : M → ℕ → Bool) (m : M) where
  abbrev acc' : Accesses M B
  acc' = closed shut acc

  load-open : (place size : ℕ) → Open acc shut m place size
      → load_of ops acc' m place size ≡ load_of ops acc m place size
  unfolding load_of
  load-open place size free = ap (reached ops.joined) (bytes-open acc shut m size place free)

  store-open : (place size : ℕ) (word : W) → Open acc shut m place size
      → store_of ops acc' m place size word ≡ store_of ops acc m place size word
  unfolding store_of
  store-open place size word free =
      rw (writes-open acc shut m size place free, put-open acc shut m (bytes_from ops word 0 size) m place) refl

  -- a word that was loaded was not refused
  loaded : (place size : ℕ) (word : W) → load_of ops acc m place size ≡ Ok word
      → is_err (bytes_at acc m place size) ≡ false
  unfolding load_of
  loaded place size word e = answered (bytes_at acc m place size) e
    where
      answered : (r : Result (List B) Refusal) → reached ops.joined r ≡ Ok word → is_err r ≡ false
      answered (Ok bytes) e = refl
      answered (Err why) e = absurd cc

  -- a load at an address, and a store
  load-at : (here : ℕ) (r : Result ℕ Cause) (size : Size) (second : Option Touch)
      → Free acc shut m (paired (touch_at Load size r) second)
      → (clean here r >>= λ place. there here (load_of ops acc' m place (bytes_in size)))
      ≡ (clean here r >>= λ place. there here (load_of ops acc m place (bytes_in size)))
  load-at here (Err cause) size second free = refl
  load-at here (Ok place) size second free =
      ap (there here) (load-open place (bytes_in size)
      (first-open acc shut m (record { direction = Load; size = size; address = place }) second free))

  store-at : (here : ℕ) (r : Result ℕ Cause) (size : Size) (word : W) (second : Option Touch)
      → Free acc shut m (paired (touch_at Store size r) second)
      → (clean here r >>= λ place. there here (store_of ops acc' m place (bytes_in size) word))
      ≡ (clean here r >>= λ place. there here (store_of ops acc m place (bytes_in size) word))
  store-at here (Err cause) size word second free = refl
  store-at here (Ok place) size word second free =
      ap (there here) (store-open place (bytes_in size) word
      (first-open acc shut m (record { direction = Store; size = size; address = place }) second free))

  module _ (f : Frame) (s : State W F) where
    carried-open : (width : Width) (operand : Operand) (second : Option Touch)
        → Free acc shut m (paired (operand_touch ops f s Load (size_for width) operand) second)
        → carried ops acc' width f s m operand ≡ carried ops acc width f s m operand
    unfolding carried
    carried-open width (InRegister name) second free = refl
    carried-open width (InMemory operand) second free =
        load-at s.place (address_of ops f s operand) (size_for width) second free

    taken_at-open : (width : Width) (r other : Result ℕ Cause) (second : Option Touch)
        → Free acc shut m (paired (touch_at Load (size_for width) r) second)
        → taken_at ops acc' width s.place m r other ≡ taken_at ops acc width s.place m r other
    unfolding taken_at
    taken_at-open width (Err cause) other second free = refl
    taken_at-open width (Ok place) other second free =
        rw (load-open place (size_of width)
        (first-open acc shut m (record
        { direction = Load; size = size_for width; address = place }) second free)) refl

    taken-open : (width : Width) (operand : Operand) (other : Result ℕ Cause) (second : Option Touch)
        → Free acc shut m (paired (operand_touch ops f s Load (size_for width) operand) second)
        → taken ops acc' width f s m operand other ≡ taken ops acc width f s m operand other
    unfolding taken
    taken-open width (InRegister name) other second free = refl
    taken-open width (InMemory operand) other second free =
        taken_at-open width (address_of ops f s operand) other second free

    -- the slot of an operand
    abbrev IsSlot : Operand → Slot → Type 0
    IsSlot (InRegister name) slot = slot ≡ OfSlot name
    IsSlot (InMemory operand) slot = (place : ℕ) × ((address_of ops f s operand ≡ Ok place) × (slot ≡ Place place))

    -- what an operand was that was taken
    record IsTaken (width : Width) (operand : Operand) (other : Result ℕ Cause) (it : Taken) : Type 0 where
      made : Made acc shut m (operand_touch ops f s Load (size_for width) operand)
      other_is : other ≡ Ok it.other
      slot_is : IsSlot operand it.slot

    -- two uses that both have a number
    both-ok : (r other : Result ℕ Cause) (p : ℕ × ℕ) → both r other ≡ Ok p → other ≡ Ok p.1
    both-ok (Ok a) (Ok b) p e = cc
    both-ok (Ok a) (Err why) p e = absurd cc
    both-ok (Err why) (Ok b) p e = absurd cc
    both-ok (Err why) (Err why') p e = absurd cc

    clean-ok : {A : Type 0} (here : ℕ) (r : Result A Cause) (a : A) → clean here r ≡ Ok a → r ≡ Ok a
    clean-ok here (Ok a) b e = cc
    clean-ok here (Err why) b e = absurd cc

    bound : {A C : Type 0} (r : Result A Stop) (k : A → C) (c : C) → (r >>= λ a. Ok (k a)) ≡ Ok c
        → (a : A) × ((r ≡ Ok a) × (k a ≡ c))
    bound (Ok a) k c e = (a, (refl, cc))
    bound (Err stop) k c e = absurd cc

    weighed-made : (width : Width) (place : ℕ) (r : Result W Refusal) (other : Result ℕ Cause) (p : ℕ × ℕ)
        → weighed ops acc width place r other ≡ Ok p
        → (word : W) × ((r ≡ Ok word) × (other ≡ Ok p.1))
    weighed-made width place (Ok word) other p e = (
      word,
      (
        refl,
        both-ok (number_at ops width word) other p
            (clean-ok place (both (number_at ops width word) other) p e),
      ),
    )
    weighed-made width place (Err why) other p e = absurd cc

    taken_at-is : (width : Width) (operand : Memory) (r other : Result ℕ Cause) (it : Taken)
        → address_of ops f s operand ≡ r → taken_at ops acc width s.place m r other ≡ Ok it
        → Made acc shut m (touch_at Load (size_for width) r)
        × ((other ≡ Ok it.other) × ((place : ℕ) × ((address_of ops f s operand ≡ Ok place) × (it.slot ≡ Place place))))
    unfolding taken_at
    taken_at-is width operand (Err cause) other it at e = absurd cc
    taken_at-is width operand (Ok place) other it at e =
        let b = bound (weighed ops acc width s.place (load_of ops acc m place (size_of width)) other)
        (λ parts. record { slot = Place place; number = parts.0; other = parts.1 }) it e in
        let w = weighed-made width s.place (load_of ops acc m place (size_of width)) other b.0 b.1.0 in (
          loaded place (size_of width) w.0 w.1.0,
          (
            subst (λ (t : Taken). other ≡ Ok t.other) b.1.1 w.1.1,
            (place, (at, ap (λ (t : Taken). t.slot) (sym b.1.1))),
          ),
        )

    taken-is : (width : Width) (operand : Operand) (other : Result ℕ Cause) (it : Taken)
        → taken ops acc width f s m operand other ≡ Ok it → IsTaken width operand other it
    unfolding taken
    taken-is width (InRegister name) other it e =
        let r = number_at ops width (register_of s.registers name) in
        let b = bound (clean s.place (both r other))
        (λ parts. record { slot = OfSlot name; number = parts.0; other = parts.1 }) it e in
        let w = both-ok r other b.0 (clean-ok s.place (both r other) b.0 b.1.0) in
        record {
          made = tt;
          other_is = subst (λ (t : Taken). other ≡ Ok t.other) b.1.1 w;
          slot_is = ap (λ (t : Taken). t.slot) (sym b.1.1);
        }
    taken-is width (InMemory operand) other it e =
        let h = taken_at-is width operand (address_of ops f s operand) other it refl e in
        record { made = h.0; other_is = h.1.0; slot_is = h.1.1 }

    -- results in their places
    abbrev SlotOpen : Width → Slot → Type 0
    SlotOpen width (OfSlot name) = Unit {0}
    SlotOpen width (Place place) = Open acc shut m place (size_of width)

    slot-put : (width : Width) (slot : Slot) (word : W) → SlotOpen width slot
        → put ops acc' width slot word s m ≡ put ops acc width slot word s m
    unfolding put
    slot-put width (OfSlot name) word free = refl
    slot-put width (Place place) word free = rw (store-open place (size_of width) word free) refl

    slot-open : (width : Width) (operand : Operand) (slot : Slot) → IsSlot operand slot
        → Made acc shut m (operand_touch ops f s Load (size_for width) operand)
        → Free acc shut m (changed_touches ops f s width operand) → SlotOpen width slot
    slot-open width (InRegister name) slot is made free = subst (λ (x : Slot). SlotOpen width x) (sym is) tt
    slot-open width (InMemory operand) slot is made free =
        let second : Free acc shut m (paired (touch_at Store (size_for width) (address_of ops f s operand)) None) =
        rest-open acc shut m (touch_at Load (size_for width) (address_of ops f s operand))
        (touch_at Store (size_for width) (address_of ops f s operand)) made free in
        let at : Free acc shut m (paired (touch_at Store (size_for width) (Ok is.0)) None) =
        subst (λ (r : Result ℕ Cause). Free acc shut m
        (paired (touch_at Store (size_for width) r) None)) is.1.0 second in
        subst (λ (x : Slot). SlotOpen width x) (sym is.1.1)
        (first-open acc shut m (record { direction = Store; size = size_for width; address = is.0 }) None at)

    finished-open : (width : Width) (slot : Slot) (effect : Effect) → SlotOpen width slot
        → finished ops acc' width slot effect f s m ≡ finished ops acc width slot effect f s m
    unfolding finished
    finished-open width slot effect free = rw (slot-put width slot (ops.word effect.number) free) refl

    -- what goes into a register reaches no memory
    concluded-register : (arithmetic : Arithmetic) (width : Width) (name : Register) (effect : Effect)
        → concluded ops acc' arithmetic width (OfSlot name) effect f s m
        ≡ concluded ops acc arithmetic width (OfSlot name) effect f s m
    unfolding concluded
    concluded-register Compare width name effect = refl
    concluded-register Add width name effect = finished-open width (OfSlot name) effect tt
    concluded-register Or width name effect = finished-open width (OfSlot name) effect tt
    concluded-register And width name effect = finished-open width (OfSlot name) effect tt
    concluded-register Sub width name effect = finished-open width (OfSlot name) effect tt
    concluded-register Xor width name effect = finished-open width (OfSlot name) effect tt

    -- an operand that is read and written
    changed-open : (width : Width) (operand : Operand) (other : Result ℕ Cause)
        (k k' : Taken → Result (After W F M) Stop) → Free acc shut m (changed_touches ops f s width operand)
        → ((it : Taken) → SlotOpen width it.slot → k' it ≡ k it)
        → (taken ops acc' width f s m operand other >>= k') ≡ (taken ops acc width f s m operand other >>= k)
    changed-open width operand other k k' free h =
        rw (taken-open width operand other (operand_touch ops f s Store (size_for width) operand) free)
        (bind-same (taken ops acc width f s m operand other) k' k
        (λ it e. let is = taken-is width operand other it e in
        h it (slot-open width operand it.slot is.slot_is is.made free)))

    computed-open : (arithmetic : Arithmetic) (width : Width) (operand : Operand) (other : Result ℕ Cause)
        (effect : Taken → Effect)
        → Free acc shut m (computed_touches ops f s arithmetic width operand)
        → (taken ops acc' width f s m operand other >>= λ it. concluded ops acc' arithmetic width it.slot
        (effect it) f s m)
        ≡ (taken ops acc width f s m operand other >>= λ it. concluded ops acc arithmetic width it.slot
        (effect it) f s m)
    unfolding concluded
    computed-open Compare width operand other effect free = rw (taken-open width operand other None free) refl
    computed-open Add width operand other effect free =
        changed-open width operand other _ _ free (λ it o. finished-open width it.slot (effect it) o)
    computed-open Or width operand other effect free =
        changed-open width operand other _ _ free (λ it o. finished-open width it.slot (effect it) o)
    computed-open And width operand other effect free =
        changed-open width operand other _ _ free (λ it o. finished-open width it.slot (effect it) o)
    computed-open Sub width operand other effect free =
        changed-open width operand other _ _ free (λ it o. finished-open width it.slot (effect it) o)
    computed-open Xor width operand other effect free =
        changed-open width operand other _ _ free (λ it o. finished-open width it.slot (effect it) o)

    -- a load whose address was asked, and what is done with the word
    loads-open : (r : Result ℕ Cause) (size : Size) (k : ℕ → W → Result (After W F M) Stop)
        → Free acc shut m (paired (touch_at Load size r) None)
        → (clean s.place r >>= λ place. there s.place (load_of ops acc' m place (bytes_in size)) >>= k place)
        ≡ (clean s.place r >>= λ place. there s.place (load_of ops acc m place (bytes_in size)) >>= k place)
    loads-open (Err cause) size k free = refl
    loads-open (Ok place) size k free =
        rw (load-open place (bytes_in size)
        (first-open acc shut m (record { direction = Load; size = size; address = place }) None free)) refl

    stored-open : (r : Result ℕ Cause) (size : Size) (word : W) → Free acc shut m (paired (touch_at Store size r) None)
        → (clean s.place r >>= λ place. there s.place (store_of ops acc' m place (bytes_in size) word) >>= λ after. Ok
        (left (at_place s f.next) after))
        ≡ (clean s.place r >>= λ place. there s.place (store_of ops acc m place (bytes_in size) word) >>= λ after. Ok
        (left (at_place s f.next) after))
    stored-open (Err cause) size word free = refl
    stored-open (Ok place) size word free =
        rw (store-open place (bytes_in size) word
        (first-open acc shut m (record { direction = Store; size = size; address = place }) None free)) refl

    if-open : (b : Bool) (x x' y y' : Result (After W F M) Stop) → x' ≡ x → y' ≡ y
        → (if b then x' else y') ≡ (if b then x else y)
    if-open true x x' y y' e g = e
    if-open false x x' y y' e g = g

    after-number : (r : Result ℕ Cause) (k' k : ℕ → Result (After W F M) Stop) → ((number : ℕ) → k' number ≡ k number)
        → (clean s.place r >>= k') ≡ (clean s.place r >>= k)
    after-number (Ok number) k' k h = h number
    after-number (Err cause) k' k h = refl

    pushed-open : (stack : ℕ) (word : W) → Open acc shut m (plus stack (2 ^ 64 - 8)) 8
        → pushed ops acc' stack word s m ≡ pushed ops acc stack word s m
    unfolding pushed
    pushed-open stack word free = rw (store-open (plus stack (2 ^ 64 - 8)) 8 word free) refl

    push-open : (r : Result ℕ Cause)
        → Free acc shut m (paired (touch_at Store Quad (used (λ stack. plus stack (2 ^ 64 - 8)) r)) None)
        → (stack : ℕ) → r ≡ Ok stack → Open acc shut m (plus stack (2 ^ 64 - 8)) 8
    push-open (Ok n) free stack e =
        let same : n ≡ stack = cc in
        subst (λ (n : ℕ). Open acc shut m (plus n (2 ^ 64 - 8)) 8) same
        (first-open acc shut m (record { direction = Store; size = Quad; address = plus n (2 ^ 64 - 8) }) None free)
    push-open (Err why) free stack e = absurd cc

    moved-open : (width : Width) (operands : Operands) → Free acc shut m (touches_of ops f s (Move width operands))
        → move_of ops acc' width f s m operands ≡ move_of ops acc width f s m operands
    unfolding touches_of move_of move_in move_number stored
    moved-open width (IntoRegister to from) free = rw (carried-open width from None free) refl
    moved-open width (IntoMemory to from) free = stored-open (address_of ops f s to) (size_for width) _ free
    moved-open width (Immediate (InRegister to)) free = refl
    moved-open width (Immediate (InMemory to)) free =
        after-number (immediate_of ops width f.immediate_field f.immediate)
        (λ number. stored ops acc' (size_of width) f s m to (ops.word number))
        (λ number. stored ops acc (size_of width) f s m to (ops.word number))
        (λ number. stored-open (address_of ops f s to) (size_for width) (ops.word number) free)

    plain-open : (arithmetic : Arithmetic) (width : Width) (field : Option ℕ) (to : Operand)
        → Free acc shut m (computed_touches ops f s arithmetic width to)
        → compute_plain ops acc' arithmetic width field f s m to ≡ compute_plain ops acc arithmetic width field f s m to
    unfolding compute_plain
    plain-open arithmetic width field to free =
        computed-open arithmetic width to _ (λ it. compute_effect arithmetic width it.number it.other) free

    -- only an add of 64 bits may have a field
    number-open : (arithmetic : Arithmetic) (width : Width) (field : Option ℕ) (to : Operand)
        → Free acc shut m (computed_touches ops f s arithmetic width to)
        → compute_number ops acc' arithmetic width field f s m to
        ≡ compute_number ops acc arithmetic width field f s m to
    unfolding compute_number add_field
    number-open Add QuadWidth (Some at) (InRegister to) free =
        after-number (charged (Some at) (ops.moved (register_of s.registers to) f.immediate at))
        (λ number. finished ops acc' QuadWidth (OfSlot to)
        (record { number = number; changes = each_flag Unsettled }) f s m)
        (λ number. finished ops acc QuadWidth (OfSlot to)
        (record { number = number; changes = each_flag Unsettled }) f s m)
        (λ number. finished-open QuadWidth (OfSlot to) (record { number = number; changes = each_flag Unsettled }) tt)
    number-open Add QuadWidth (Some at) (InMemory to) free = plain-open Add QuadWidth (Some at) (InMemory to) free
    number-open Add QuadWidth None to free = plain-open Add QuadWidth None to free
    number-open Add LongWidth field to free = plain-open Add LongWidth field to free
    number-open Or width field to free = plain-open Or width field to free
    number-open And width field to free = plain-open And width field to free
    number-open Sub width field to free = plain-open Sub width field to free
    number-open Xor width field to free = plain-open Xor width field to free
    number-open Compare width field to free = plain-open Compare width field to free

    computes-open : (arithmetic : Arithmetic) (width : Width) (operands : Operands)
        → Free acc shut m (touches_of ops f s (Compute arithmetic width operands))
        → compute_of ops acc' arithmetic width f s m operands ≡ compute_of ops acc arithmetic width f s m operands
    unfolding touches_of compute_of compute_in
    computes-open arithmetic width (IntoRegister to from) free =
        if-open (is_cleared arithmetic to from) _ _ _ _ (finished-open width (OfSlot to) _ tt)
        (rw (taken-open width from (number_at ops width (register_of s.registers to)) None free)
        (bind-same (taken ops acc width f s m from (number_at ops width (register_of s.registers to)))
        (λ it. concluded ops acc' arithmetic width (OfSlot to)
        (compute_effect arithmetic width it.other it.number) f s m)
        (λ it. concluded ops acc arithmetic width (OfSlot to)
        (compute_effect arithmetic width it.other it.number) f s m)
        (λ it e. concluded-register arithmetic width to (compute_effect arithmetic width it.other it.number))))
    computes-open arithmetic width (IntoMemory to from) free =
        computed-open arithmetic width (InMemory to) _ (λ it. compute_effect arithmetic width it.number it.other) free
    computes-open arithmetic width (Immediate to) free = number-open arithmetic width f.immediate_field to free

    extends-open : (to : Register) (from : Operand)
        → Free acc shut m (paired (operand_touch ops f s Load Byte from) None)
        → extend_byte ops acc' f s m to from ≡ extend_byte ops acc f s m to from
    unfolding extend_byte
    extends-open to (InRegister from) free = refl
    extends-open to (InMemory from) free = loads-open (address_of ops f s from) Byte _ free

    call-open : (operand : Operand)
        → Free acc shut m (paired (operand_touch ops f s Load Quad operand) (push_touch ops s))
        → call_of ops acc' f s m (Indirect operand) ≡ call_of ops acc f s m (Indirect operand)
    unfolding call_of
    call-open operand free =
        rw (taken-open QuadWidth operand (ops.number_of s.registers.rsp) (push_touch ops s) free)
        (bind-same (taken ops acc QuadWidth f s m operand (ops.number_of s.registers.rsp)) _ _
        (λ it e. let is = taken-is QuadWidth operand (ops.number_of s.registers.rsp) it e in
        ap (λ (r : Result (After W F M) Stop). r >>= λ after. Ok (left (at_place after.state it.number) after.memory))
        (pushed-open it.other (ops.word f.next)
        (push-open (ops.number_of s.registers.rsp)
        (rest-open acc shut m (operand_touch ops f s Load Quad operand)
        (push_touch ops s) is.made free) it.other is.other_is))))

    -- a push from %rsp
    pushes-open : (word : W) (r : Result ℕ Cause) (k : After W F M → Result (After W F M) Stop)
        → Free acc shut m (paired (touch_at Store Quad (used (λ stack. plus stack (2 ^ 64 - 8)) r)) None)
        → (clean s.place r >>= λ stack. pushed ops acc' stack word s m >>= k)
        ≡ (clean s.place r >>= λ stack. pushed ops acc stack word s m >>= k)
    pushes-open word (Err why) k free = refl
    pushes-open word (Ok stack) k free =
        ap (λ (x : Result (After W F M) Stop). x >>= k) (pushed-open stack word (push-open (Ok stack) free stack refl))

    -- the law of one instruction
    pub act-open : (operation : Operation) → Free acc shut m (touches_of ops f s operation)
        → act ops acc' f operation s m ≡ act ops acc f operation s m
    unfolding touches_of act store_byte extend_long load_address test_of multiply_of shift_of push_of pop_of leave_of return_of call_of jump_of jump_if nop_of stored
    act-open (Move width operands) free = moved-open width operands free
    act-open (StoreByte to from) free = stored-open (address_of ops f s to) Byte _ free
    act-open (ExtendByte width to from) free = extends-open to from free
    act-open (ExtendLong to from) free = rw (carried-open LongWidth from None free) refl
    act-open (LoadAddress width to from) free = refl
    act-open (Compute arithmetic width operands) free = computes-open arithmetic width operands free
    act-open (Test width left_operand right) free =
        rw (taken-open width left_operand (number_at ops width (register_of s.registers right)) None free) refl
    act-open (Multiply width to from) free =
        rw (taken-open width from (number_at ops width (register_of s.registers to)) None free)
        (bind-same (taken ops acc width f s m from (number_at ops width (register_of s.registers to)))
        (λ it. finished ops acc' width (OfSlot to) (product_effect width it.other it.number) f s m)
        (λ it. finished ops acc width (OfSlot to) (product_effect width it.other it.number) f s m)
        (λ it e. finished-open width (OfSlot to) (product_effect width it.other it.number) tt))
    act-open (Shift shift width to count) free =
        changed-open width to (Ok 0) _ _ free (λ it o. finished-open width it.slot _ o)
    act-open (Push from) free = pushes-open (register_of s.registers from) (ops.number_of s.registers.rsp) _ free
    act-open (Pop to) free = loads-open (ops.number_of s.registers.rsp) Quad _ free
    act-open Leave free = loads-open (ops.number_of s.registers.rbp) Quad _ free
    act-open (Call (Relative distance)) free = pushes-open (ops.word f.next) (ops.number_of s.registers.rsp) _ free
    act-open (Call (Indirect operand)) free = call-open operand free
    act-open (Jump (Relative distance)) free = refl
    act-open (Jump (Indirect operand)) free = rw (taken-open QuadWidth operand (Ok 0) None free) refl
    act-open (JumpIf condition distance) free = refl
    act-open Return free = loads-open (ops.number_of s.registers.rsp) Quad _ free
    act-open (Nop operand) free = refl
    act-open Undefined free = refl

  -- the law of one step
  module _ (is_field : ℕ → Bool) (s : State W F) where
    pub if-read-open : (o : Option Decoded) → Free acc shut m (touches_if ops is_field o s)
        → act_if ops acc' is_field o s m ≡ act_if ops acc is_field o s m
    if-read-open None free = refl
    if-read-open (Some d) free = act-open (frame_of is_field s.place d) s d.instr.operation free

    pub step-open : Free acc shut m (next_touches ops acc is_field s m)
        → step_of ops acc' is_field s m ≡ step_of ops acc is_field s m
    unfolding next_touches step_of fetch_of
    step-open free =
        rw (code-open acc shut m 15 s.place) (if-read-open (decoded (code_at acc m s.place 15)) free)
