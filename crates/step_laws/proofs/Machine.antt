-- An instruction that reads numbers alone does what the machine's does.
use Rattle.std.proofs.Common.{◌≡◌, ℕ, ◌+◌, ◌*◌, ◌-◌, ◌%◌, ◌^◌, Bool, true, false, List, [], ◌∷◌, Option, Some, None}
use Rattle.std.proofs.Common.{Result, Ok, Err, refl, sym, ap, subst, ◌∙◌, arith}
use Rattle.std.specs.Prelude.{if◌then◌else◌}
use Rattle.std.specs.List.{All}
use Rattle.std.proofs.lemmas.List.Elements.{All-head, All-tail}
use Rattle.amd64_words.specs.declared.register.Register.{Register}
use Rattle.amd64_words.specs.declared.register.Register.TheVariants.{Rsp, Rbp}
use Rattle.amd64_subset.specs.declared.instr.Arithmetic.{Arithmetic}
use Rattle.amd64_subset.specs.declared.instr.Arithmetic.TheVariants.{Add, Or, And, Sub, Xor, Compare}
use Rattle.amd64_subset.specs.declared.instr.Condition.{Condition}
use Rattle.amd64_subset.specs.declared.instr.Condition.TheVariants.{Overflow, NotOverflow, Below, NotBelow, Equal}
use Rattle.amd64_subset.specs.declared.instr.Condition.TheVariants.{NotEqual, BelowOrEqual, Above, Sign, NotSign, Less}
use Rattle.amd64_subset.specs.declared.instr.Condition.TheVariants.{NotLess, LessOrEqual, Greater}
use Rattle.amd64_subset.specs.declared.instr.Decoded.{Decoded}
use Rattle.amd64_subset.specs.declared.instr.Operation.{Operation}
use Rattle.amd64_subset.specs.declared.instr.Operation.TheVariants.{Move, StoreByte, ExtendByte, ExtendLong}
use Rattle.amd64_subset.specs.declared.instr.Operation.TheVariants.{LoadAddress, Compute, Test, Multiply}
use Rattle.amd64_subset.specs.declared.instr.Operation.TheVariants.{Shift as ShiftBy, Push, Pop, Leave, Call, Jump}
use Rattle.amd64_subset.specs.declared.instr.Operation.TheVariants.{JumpIf, Return, Nop, Undefined as Nothing}
use Rattle.amd64_subset.specs.declared.instr.Shift.{Shift}
use Rattle.amd64_subset.specs.declared.instr.Target.{Target}
use Rattle.amd64_subset.specs.declared.instr.Target.TheVariants.{Relative, Indirect}
use Rattle.amd64_subset.specs.declared.instr.Width.{Width}
use Rattle.amd64_subset.specs.declared.instr.Width.TheVariants.{Long, Quad}
use Rattle.amd64_subset.specs.declared.operand.Base.{Base}
use Rattle.amd64_subset.specs.declared.operand.Base.TheVariants.{Absolute, NextInstruction, Register as OfRegister}
use Rattle.amd64_subset.specs.declared.operand.Index.{Index}
use Rattle.amd64_subset.specs.declared.operand.Memory.{Memory}
use Rattle.amd64_subset.specs.declared.operand.Operand.{Operand}
use Rattle.amd64_subset.specs.declared.operand.Operand.TheVariants.{InMemory, Register as InRegister}
use Rattle.amd64_subset.specs.declared.operand.Operands.{Operands}
use Rattle.amd64_subset.specs.declared.operand.Operands.TheVariants.{IntoRegister, IntoMemory, Immediate}
use Rattle.guest_arithmetic.specs.declared.cause.Cause.{Cause}
use Rattle.guest_arithmetic.specs.declared.effect.Changes.{Changes}
use Rattle.guest_arithmetic.specs.declared.effect.Effect.{Effect}
use Rattle.guest_arithmetic.specs.declared.flags.Flags.{Flags}
use Rattle.guest_arithmetic.specs.Arithmetic.{bits_of, compute_effect, low, product_effect, shift_effect}
use Rattle.guest_arithmetic.specs.Flags.{condition_of, is_below_or_equal, is_less, is_less_or_equal}
use Rattle.guest_arithmetic.specs.Plain.{plain_operations}
use Rattle.guest_arithmetic.specs.Values.{Operations}
use Rattle.guest_operands.specs.declared.frame.Frame.{Frame}
use Rattle.guest_operands.specs.declared.slot.Slot.{Slot}
use Rattle.guest_operands.specs.declared.slot.Slot.TheVariants.{Place, Register as OfSlot}
use Rattle.guest_operands.specs.declared.slot.Taken.{Taken}
use Rattle.guest_operands.specs.declared.state.State.{State}
use Rattle.guest_operands.specs.declared.stop.Stop.{Stop}
use Rattle.guest_operands.specs.declared.stop.Stop.TheVariants.{Address, Code}
use Rattle.guest_operands.specs.Access.{Accesses, Refusal, Refused, Shut, load_of}
use Rattle.guest_operands.specs.Operand.{address_of, base_of, carried, carried_as, factor_of, index_of, number_at, put}
use Rattle.guest_operands.specs.Operand.{size_of, taken, taken_at, weighed}
use Rattle.guest_operands.specs.State.{at_place, register_of, with_register, with_stack, with_word}
use Rattle.guest_operands.specs.Use.{◌>>=◌, After, clean, left, plus, there}
use Rattle.guest_machine.specs.Step.{act, call_of, compute_in, compute_number, compute_of, compute_plain, concluded}
use Rattle.guest_machine.specs.Step.{extend_byte, extend_long, finished, immediate_of, is_cleared, jump_if, jump_of}
use Rattle.guest_machine.specs.Step.{leave_of, load_address, move_in, move_number, move_of, multiply_of, nop_of, pop_of}
use Rattle.guest_machine.specs.Step.{push_of, pushed, return_of, settled, shift_of, store_byte, stored, test_of}
use Rattle.guest_machine.specs.Touch.{places_from}
use Rattle.job_meaning.specs.declared.values.Byte.{Byte}
use Rattle.job_meaning.specs.declared.values.Flag.{Flag}
use Rattle.job_meaning.specs.declared.values.Word.{Word}
use Rattle.job_meaning.specs.declared.values.Word.TheVariants.{Number}
use Rattle.job_meaning.specs.Marked.{marked_operations}
use Rattle.step_laws.specs.Plain.{HasNumbers, IsAfter, IsByte, IsNumber, IsTruth, numbered}
use Rattle.step_laws.specs.Reads.{address_in, base_at, bytes_in, bytes_read, clears, flags_read, in_condition}
use Rattle.step_laws.specs.Reads.{in_address, in_base, in_index, in_operand, index_at, left_undefined, registers_read}
use Rattle.step_laws.proofs.NeededSteps.{OpenTo}
use Rattle.step_laws.proofs.After.{Same, SoFar, at-first, at-last, computed-settled, far-stack, far-word}
use Rattle.step_laws.proofs.After.{none_undefined, product-settled, same-if, same-then, same-there, settled-last}
use Rattle.step_laws.proofs.After.{shift-settled, unsettled_by}
use Rattle.step_laws.proofs.Numbers.{SameAccess, all-left, all-right, condition-is, kept-is, kept_byte-is, load-same}
use Rattle.step_laws.proofs.Numbers.{marked, number-is, number_at-is, store-same, used-is}
use Rattle.amd64_subset.specs.Number.{signed_long_of}
use Rattle.amd64_words.specs.RegisterLaws.{told_by_number}

-- the sum of an address's parts
sum-is : (x y z b i d : ℕ) → x % 2 ^ 64 ≡ (b + d) % 2 ^ 64 → y % 2 ^ 64 ≡ i % 2 ^ 64
    → plus (plus x y) z ≡ (b + i + d + z) % 2 ^ 64
sum-is x y z b i d e g = omega arith

next-is : (place len d : ℕ) → plus d (plus place len) % 2 ^ 64 ≡ (place + len + d) % 2 ^ 64
next-is place len d = omega arith

one-mod : (n : ℕ) → n % 2 ^ 64 % 2 ^ 64 ≡ n % 2 ^ 64
one-mod n = omega arith

condition-plain : (condition : Condition) (flags : Flags Bool)
    → (b : Bool) × (condition_of plain_operations condition flags ≡ Ok b)
unfolding condition_of is_less is_less_or_equal is_below_or_equal plain_operations
condition-plain Overflow flags = (_, refl)
condition-plain NotOverflow flags = (_, refl)
condition-plain Below flags = (_, refl)
condition-plain NotBelow flags = (_, refl)
condition-plain Equal flags = (_, refl)
condition-plain NotEqual flags = (_, refl)
condition-plain BelowOrEqual flags = (_, refl)
condition-plain Above flags = (_, refl)
condition-plain Sign flags = (_, refl)
condition-plain NotSign flags = (_, refl)
condition-plain Less flags = (_, refl)
condition-plain NotLess flags = (_, refl)
condition-plain LessOrEqual flags = (_, refl)
condition-plain Greater flags = (_, refl)

-- the machine clears a register where the manual does
pub cleared-is : (arithmetic : Arithmetic) (to : Register) (from : Operand)
    → is_cleared arithmetic to from ≡ clears arithmetic to from
unfolding is_cleared
cleared-is Add to from = refl
cleared-is Or to from = refl
cleared-is And to from = refl
cleared-is Sub to (InRegister from) = told_by_number to from
cleared-is Sub to (InMemory from) = refl
cleared-is Xor to (InRegister from) = told_by_number to from
cleared-is Xor to (InMemory from) = refl
cleared-is Compare to from = refl

-- d: the instruction; s, s': the states where it begins
module _ (owner : ℕ → ℕ) {M : Type 0} (acc : Accesses M Byte) (m : M) (opened : OpenTo acc m) (d : Decoded)
    (s : State Word Flag) (s' : State ℕ Bool)
    (same : HasNumbers s s') where
  abbrev ops : Operations Word Flag Byte
  ops = marked owner

  abbrev acc' : Accesses M ℕ
  acc' = numbered acc

  -- no field begins in the instruction
  abbrev pub bare : Frame
  bare = record {
    next = plus s'.place d.len;
    displacement = d.instr.displacement;
    immediate = d.instr.immediate;
    displacement_field = None;
    immediate_field = None;
  }

  -- these registers are numbers, and these bytes
  abbrev pub AreNumbers : List Register → Type 0
  AreNumbers registers = All (λ r. IsNumber (register_of s.registers r)) registers

  abbrev pub AreBytes : List ℕ → Type 0
  AreBytes places = All (λ place. IsByte (acc.byte m place)) places

  abbrev pub Then : Flags Bool → After Word Flag M → After ℕ Bool M → Type 0
  Then undefined a a' = IsAfter undefined s s' a.state a'.state × (a.memory ≡ a'.memory)

  abbrev Yet : After Word Flag M → After ℕ Bool M → Type 0
  Yet a a' = SoFar s s' same.thread_pointer a.state a'.state × (a.memory ≡ a'.memory)

  -- ** registers and addresses

  held : (r : Register) (rs : List Register) → AreNumbers (r ∷ rs)
      → register_of s.registers r ≡ Number (register_of s'.registers r)
  held r rs h = number-is (register_of s.registers r) (register_of s'.registers r)
      (All-head (λ r. IsNumber (register_of s.registers r)) r rs h) (same.register r)

  pub rest : (r : Register) (rs : List Register) → AreNumbers (r ∷ rs) → AreNumbers rs
  rest r rs h = All-tail (λ r. IsNumber (register_of s.registers r)) r rs h

  base-is : (base : Base) → AreNumbers (in_base base)
      → (x : ℕ) × (base_of ops None bare.displacement bare.next s.registers base ≡ Ok x)
      × (base_of plain_operations None bare.displacement bare.next s'.registers base ≡ Ok x)
      × (x % 2 ^ 64 ≡ (base_at d s' base + d.instr.displacement) % 2 ^ 64)
  unfolding base_of marked_operations plain_operations
  base-is Absolute h = (d.instr.displacement, refl, refl, omega arith)
  base-is NextInstruction h =
      (plus d.instr.displacement (plus s'.place d.len), refl, refl, next-is s'.place d.len d.instr.displacement)
  base-is (OfRegister r) h = (
    plus d.instr.displacement (register_of s'.registers r),
    rw
        (held r [] h) refl,
    refl,
    omega arith,
  )

  index-is : (index : Option Index) → AreNumbers (in_index index)
      → (y : ℕ) × (index_of ops s.registers index ≡ Ok y) × (index_of plain_operations s'.registers index ≡ Ok y)
      × (y % 2 ^ 64 ≡ index_at d s' index % 2 ^ 64)
  unfolding index_of marked_operations plain_operations
  index-is None h = (0, refl, refl, refl)
  index-is (Some index) h = (
    register_of s'.registers index.register * factor_of index.scale % 2 ^ 64,
    rw (held index.register [] h) refl,
    refl,
    one-mod (register_of s'.registers index.register * factor_of index.scale),
  )

  pub address-is : (memory : Memory) → AreNumbers (in_address memory)
      → (address_of ops bare s memory ≡ Ok (address_in d s' memory))
      × (address_of plain_operations bare s' memory ≡ Ok (address_in d s' memory))
  unfolding address_of
  address-is memory h =
      let b = base-is memory.base (all-left (λ r. IsNumber (register_of s.registers r)) (in_base memory.base)
      (in_index memory.index) h) in
      let i = index-is memory.index (all-right (λ r. IsNumber (register_of s.registers r)) (in_base memory.base)
      (in_index memory.index) h) in
      let sum = sum-is b.0 i.0 (if memory.from_thread_pointer then s'.thread_pointer else 0) (base_at d s' memory.base)
      (index_at d s' memory.index) d.instr.displacement b.3 i.3 in
      let pointer = ap (λ z. plus (plus b.0 i.0) (if memory.from_thread_pointer then z else 0))
      (sym same.thread_pointer) in
      (rw (b.1, i.1) (ap Ok (pointer ∙ sum)), rw (b.2, i.2) (ap Ok sum))

  -- ** operands

  clean-is : {A C C' : Type 0} (Q : C → C' → Type 0) (r : Result A Cause) (r' : Result A Cause) (x : A) → r ≡ Ok x
      → r' ≡ Ok x
      → (k : A → Result C Stop) (k' : A → Result C' Stop) → Same Q (k x) (k' x)
      → Same Q (clean s.place r >>= k) (clean s'.place r' >>= k')
  clean-is Q r r' x e e' k k' h = rw (e, e') h

  carried-same : (width : Width) (operand : Operand) → AreNumbers (in_operand operand)
      → AreBytes (bytes_in d s' (size_of width) operand)
      → Same (λ w n. w ≡ Number n) (carried ops acc width bare s m operand)
      (carried plain_operations acc' width bare s' m operand)
  unfolding carried
  carried-same width (InRegister name) h b = kept-is owner width (register_of s.registers name)
      (register_of s'.registers name) (held name [] h)
  carried-same width (InMemory memory) h b =
      let a = address-is memory h in
      rw (a.0, a.1) (same-there (λ w n. w ≡ Number n) s.place s'.place _ _ same.place
      (load-same owner acc m opened (address_in d s' memory) (size_of width) b))

  weighed-same : (width : Width) (r : Result Word Refusal) (r' : Result ℕ Refusal) (other other' : Result ℕ Cause)
      (x : ℕ) → other ≡ Ok x → other' ≡ Ok x
      → SameAccess (λ w n. w ≡ Number n) r r' → Same (λ (p : ℕ × ℕ) (q : ℕ × ℕ). q ≡ p)
      (weighed ops acc width s.place r other) (weighed plain_operations acc' width s'.place r' other')
  unfolding number_at plain_operations
  weighed-same width (Ok w) (Ok n) other other' x e e' h = rw (e, e', number_at-is owner width w n h) refl
  weighed-same width (Ok w) (Err why) other other' x e e' h = absurd h
  weighed-same width (Err Refused) (Ok n) other other' x e e' h = absurd h
  weighed-same width (Err Refused) (Err Refused) other other' x e e' h = rw (e, e') (tt, ap Address same.place)
  weighed-same width (Err Refused) (Err Shut) other other' x e e' h = absurd h
  weighed-same width (Err Shut) r' other other' x e e' h = absurd h

  taken-same : (width : Width) (operand : Operand) (other other' : Result ℕ Cause) (x : ℕ) → other ≡ Ok x
      → other' ≡ Ok x → AreNumbers (in_operand operand)
      → AreBytes (bytes_in d s' (size_of width) operand)
      → Same (λ (p : Taken) (q : Taken). q ≡ p) (taken ops acc width bare s m operand other)
      (taken plain_operations acc' width bare s' m operand other')
  unfolding taken taken_at number_at plain_operations
  taken-same width (InRegister name) other other' x e e' h b =
      rw (
        e,
        e',
        number_at-is owner width (register_of s.registers name) (register_of s'.registers name)
            (held name [] h),
      ) refl
  taken-same width (InMemory memory) other other' x e e' h b =
      let a = address-is memory h in
      rw (a.0, a.1)
      (same-then (λ (p : ℕ × ℕ) (q : ℕ × ℕ). q ≡ p) (λ (p : Taken) (q : Taken). q ≡ p) _ _ _ _
      (weighed-same width _ _ other other' x e e' (load-same owner acc m opened (address_in d s' memory)
      (size_of width) b))
      (λ p q g. ap (λ (q : ℕ × ℕ). record { slot = Place (address_in d s' memory); number = q.0; other = q.1 }) g))

  -- what follows an operand that was taken
  takes-same : {C C' : Type 0} (Q : C → C' → Type 0) (width : Width) (operand : Operand) (other other' : Result ℕ Cause)
      (x : ℕ) → other ≡ Ok x → other' ≡ Ok x
      → AreNumbers (in_operand operand) → AreBytes (bytes_in d s' (size_of width) operand)
      → (k : Taken → Result C Stop) (k' : Taken → Result C' Stop)
      → ((it : Taken) → Same Q (k it) (k' it))
      → Same Q (taken ops acc width bare s m operand other >>= k)
      (taken plain_operations acc' width bare s' m operand other' >>= k')
  takes-same Q width operand other other' x e e' h b k k' each =
      same-then (λ (p : Taken) (q : Taken). q ≡ p) Q _ _ k k' (taken-same width operand other other' x e e' h b)
      (λ p q g. subst (λ (t : Taken). Same Q (k p) (k' t)) (sym g) (each p))

  -- ** results

  first-state : SoFar s s' same.thread_pointer s s'
  first-state = at-first s s' same.thread_pointer

  put-same : (width : Width) (slot : Slot) (n : ℕ) → Same Yet (put ops acc width slot (Number n) s m)
      (put plain_operations acc' width slot n s' m)
  unfolding put
  put-same width (OfSlot name) n = (far-word s s' same.thread_pointer s s' first-state name (Number n) n refl, refl)
  put-same width (Place place) n =
      same-then (λ (a : M) (b : M). a ≡ b) Yet _ _ _ _
      (same-there (λ (a : M) (b : M). a ≡ b) s.place s'.place _ _ same.place
      (store-same owner acc m opened place (size_of width) n)) (λ a b e. (first-state, e))

  finished-same : (undefined : Flags Bool) (width : Width) (slot : Slot) (effect : Effect)
      → unsettled_by effect.changes ≡ undefined
      → Same (Then undefined) (finished ops acc width slot effect bare s m)
      (finished plain_operations acc' width slot effect bare s' m)
  unfolding finished marked_operations plain_operations
  finished-same undefined width slot effect e =
      same-then Yet (Then undefined) _ _ _ _ (put-same width slot (effect.number % 2 ^ 64))
      (λ a a' h. (
        subst (λ (u : Flags Bool). IsAfter u s s' (settled ops effect.changes bare a.state)
            (settled plain_operations effect.changes bare a'.state)) e
            (settled-last s s' same.thread_pointer owner a.state a'.state h.0 effect.changes bare bare refl),
        h.1,
      ))

  dropped-same : (changes : Changes) → unsettled_by changes ≡ none_undefined
      → Then none_undefined (left (settled ops changes bare s) m) (left (settled plain_operations changes bare s') m)
  dropped-same changes e = (
    subst (λ (u : Flags Bool). IsAfter u s s' (settled ops changes bare s)
        (settled plain_operations changes bare s')) e (settled-last s s' same.thread_pointer owner s s' first-state
        changes bare bare refl),
    refl,
  )

  concluded-same : (arithmetic : Arithmetic) (width : Width) (slot : Slot) (effect : Effect)
      → unsettled_by effect.changes ≡ none_undefined
      → Same (Then none_undefined) (concluded ops acc arithmetic width slot effect bare s m)
      (concluded plain_operations acc' arithmetic width slot effect bare s' m)
  unfolding concluded
  concluded-same Compare width slot effect e = dropped-same effect.changes e
  concluded-same Add width slot effect e = finished-same none_undefined width slot effect e
  concluded-same Or width slot effect e = finished-same none_undefined width slot effect e
  concluded-same And width slot effect e = finished-same none_undefined width slot effect e
  concluded-same Sub width slot effect e = finished-same none_undefined width slot effect e
  concluded-same Xor width slot effect e = finished-same none_undefined width slot effect e

  -- a word in a register, and the next place
  word-last : (name : Register) (w : Word) (n : ℕ) → w ≡ Number n → (place : ℕ)
      → Then none_undefined (left (at_place (with_word s name w) place) m)
      (left (at_place (with_word s' name n) place) m)
  word-last name w n e place = (
    at-last s s' same.thread_pointer _ _ (far-word s s' same.thread_pointer s s' first-state name w n e) place place
        refl,
    refl,
  )

  place-last : (place : ℕ) (a b : M) → a ≡ b → Then none_undefined (left (at_place s place) a)
      (left (at_place s' place) b)
  place-last place a b e = (at-last s s' same.thread_pointer s s' first-state place place refl, e)

  -- ** moves

  stores-same : (size : ℕ) (to : Memory) (w : Word) (n : ℕ) → w ≡ Number n → AreNumbers (in_address to)
      → Same (Then none_undefined) (stored ops acc size bare s m to w)
      (stored plain_operations acc' size bare s' m to n)
  unfolding stored
  stores-same size to w n e h =
      let a = address-is to h in
      rw (a.0, a.1, e)
      (same-then (λ (a : M) (b : M). a ≡ b) (Then none_undefined) _ _ _ _
      (same-there (λ (a : M) (b : M). a ≡ b) s.place s'.place _ _ same.place
      (store-same owner acc m opened (address_in d s' to) size n)) (place-last bare.next))

  immediate-is : (width : Width) → (immediate_of ops width None d.instr.immediate ≡ Ok (low width d.instr.immediate))
      × (immediate_of plain_operations width None d.instr.immediate ≡ Ok (low width d.instr.immediate))
  unfolding immediate_of
  immediate-is width = (refl, refl)

  word-is : (n : ℕ) → ops.word n ≡ Number (plain_operations.word n)
  unfolding marked_operations plain_operations
  word-is n = refl

  move-same : (width : Width) (operands : Operands) → AreNumbers (registers_read (Move width operands))
      → AreBytes (bytes_read d s' (Move width operands))
      → Same (Then none_undefined) (move_of ops acc width bare s m operands)
      (move_of plain_operations acc' width bare s' m operands)
  unfolding move_of move_in move_number registers_read bytes_read
  move-same width (IntoRegister to from) h b =
      same-then (λ w n. w ≡ Number n) (Then none_undefined) _ _ _ _ (carried-same width from h b)
      (λ w n e. word-last to w n e bare.next)
  move-same width (IntoMemory to from) h b =
      stores-same (size_of width) to _ _ (kept-is owner width (register_of s.registers from)
      (register_of s'.registers from) (held from (in_address to) h)) (rest from (in_address to) h)
  move-same width (Immediate (InRegister to)) h b =
      let n = low width d.instr.immediate in
      clean-is (Then none_undefined) _ _ n (immediate-is width).0 (immediate-is width).1 _ _
      (word-last to (ops.word n) (plain_operations.word n) (word-is n) bare.next)
  move-same width (Immediate (InMemory to)) h b =
      let n = low width d.instr.immediate in
      clean-is (Then none_undefined) _ _ n (immediate-is width).0 (immediate-is width).1 _ _
      (stores-same (size_of width) to (ops.word n) (plain_operations.word n) (word-is n) h)

  extend_byte-same : (to : Register) (from : Operand) → AreNumbers (in_operand from) → AreBytes (bytes_in d s' 1 from)
      → Same (Then none_undefined) (extend_byte ops acc bare s m to from)
      (extend_byte plain_operations acc' bare s' m to from)
  unfolding extend_byte
  extend_byte-same to (InRegister from) h b =
      word-last to _ _ (kept_byte-is owner (register_of s.registers from) (register_of s'.registers from)
      (held from [] h)) bare.next
  extend_byte-same to (InMemory from) h b =
      let a = address-is from h in
      rw (a.0, a.1)
      (same-then (λ w n. w ≡ Number n) (Then none_undefined) _ _ _ _
      (same-there (λ w n. w ≡ Number n) s.place s'.place _ _ same.place
      (load-same owner acc m opened (address_in d s' from) 1 b)) (λ w n e. word-last to w n e bare.next))

  extended : (w : Word) (n : ℕ) → w ≡ Number n → carried_as ops (λ n. signed_long_of (low Long n)) (ops.number_of w)
      ≡ Number (carried_as plain_operations (λ n. signed_long_of (low Long n)) (plain_operations.number_of n))
  unfolding marked_operations plain_operations
  extended w n e = rw e refl

  -- ** arithmetic

  plain-same : (arithmetic : Arithmetic) (width : Width) (to : Operand) → AreNumbers (in_operand to)
      → AreBytes (bytes_in d s' (size_of width) to)
      → Same (Then none_undefined) (compute_plain ops acc arithmetic width None bare s m to)
      (compute_plain plain_operations acc' arithmetic width None bare s' m to)
  unfolding compute_plain
  plain-same arithmetic width to h b =
      takes-same (Then none_undefined) width to _ _ (low width d.instr.immediate) (immediate-is width).0
      (immediate-is width).1 h b _ _
      (λ it. concluded-same arithmetic width it.slot (compute_effect arithmetic width it.number it.other)
      (computed-settled arithmetic width it.number it.other))

  number-same : (arithmetic : Arithmetic) (width : Width) (to : Operand) → AreNumbers (in_operand to)
      → AreBytes (bytes_in d s' (size_of width) to)
      → Same (Then none_undefined) (compute_number ops acc arithmetic width None bare s m to)
      (compute_number plain_operations acc' arithmetic width None bare s' m to)
  unfolding compute_number
  number-same Add Quad to h b = plain-same Add Quad to h b
  number-same Add Long to h b = plain-same Add Long to h b
  number-same Or width to h b = plain-same Or width to h b
  number-same And width to h b = plain-same And width to h b
  number-same Sub width to h b = plain-same Sub width to h b
  number-same Xor width to h b = plain-same Xor width to h b
  number-same Compare width to h b = plain-same Compare width to h b

  -- a register's number that is taken with an operand
  other-is : (width : Width) (r : Register) (rs : List Register) → AreNumbers (r ∷ rs)
      → (number_at ops width (register_of s.registers r) ≡ Ok (low width (register_of s'.registers r)))
      × (number_at plain_operations width (register_of s'.registers r) ≡ Ok (low width (register_of s'.registers r)))
  unfolding number_at plain_operations
  other-is width r rs h = (
    number_at-is owner width (register_of s.registers r) (register_of s'.registers r)
        (held r rs h),
    refl,
  )

  pub unless-cleared : (b : Bool) (rs : List Register) → b ≡ false → AreNumbers (if b then [] else rs) → AreNumbers rs
  unless-cleared true rs e h = absurd cc
  unless-cleared false rs e h = h

  compute-same : (arithmetic : Arithmetic) (width : Width) (operands : Operands)
      → AreNumbers (registers_read (Compute arithmetic width operands))
      → AreBytes (bytes_read d s' (Compute arithmetic width operands))
      → Same (Then none_undefined) (compute_of ops acc arithmetic width bare s m operands)
      (compute_of plain_operations acc' arithmetic width bare s' m operands)
  unfolding compute_of compute_in registers_read bytes_read
  compute-same arithmetic width (IntoRegister to from) h b =
      same-if (Then none_undefined) (is_cleared arithmetic to from) _ _ _ _
      (λ e. finished-same none_undefined width (OfSlot to) (compute_effect arithmetic width 0 0)
      (computed-settled arithmetic width 0 0))
      (λ e. let all = unless-cleared (clears arithmetic to from) (to ∷ in_operand from)
      (sym (cleared-is arithmetic to from) ∙ e) h in
      let o = other-is width to (in_operand from) all in
      takes-same (Then none_undefined) width from _ _ (low width (register_of s'.registers to)) o.0 o.1
      (rest to (in_operand from) all) b _ _
      (λ it. concluded-same arithmetic width (OfSlot to) (compute_effect arithmetic width it.other it.number)
      (computed-settled arithmetic width it.other it.number)))
  compute-same arithmetic width (IntoMemory to from) h b =
      let o = other-is width from (in_address to) h in
      takes-same (Then none_undefined) width (InMemory to) _ _ (low width (register_of s'.registers from)) o.0 o.1
      (rest from (in_address to) h) b _ _
      (λ it. concluded-same arithmetic width it.slot (compute_effect arithmetic width it.number it.other)
      (computed-settled arithmetic width it.number it.other))
  compute-same arithmetic width (Immediate to) h b = number-same arithmetic width to h b

  -- ** the stack

  stack-is : (r : Register) (rs : List Register) → AreNumbers (r ∷ rs)
      → (ops.number_of (register_of s.registers r) ≡ Ok (register_of s'.registers r))
      × (plain_operations.number_of (register_of s'.registers r) ≡ Ok (register_of s'.registers r))
  unfolding plain_operations
  stack-is r rs h = (used-is owner (register_of s.registers r) (register_of s'.registers r) (held r rs h), refl)

  pub rsp-is : (rs : List Register) → AreNumbers (Rsp ∷ rs)
      → (ops.number_of s.registers.rsp ≡ Ok s'.registers.rsp)
      × (plain_operations.number_of s'.registers.rsp ≡ Ok s'.registers.rsp)
  unfolding register_of
  rsp-is rs h = stack-is Rsp rs h

  pub rbp-is : (rs : List Register) → AreNumbers (Rbp ∷ rs)
      → (ops.number_of s.registers.rbp ≡ Ok s'.registers.rbp)
      × (plain_operations.number_of s'.registers.rbp ≡ Ok s'.registers.rbp)
  unfolding register_of
  rbp-is rs h = stack-is Rbp rs h

  plain-used : (n : ℕ) → plain_operations.number_of n ≡ Ok n
  unfolding plain_operations
  plain-used n = refl

  eight-same : (place : ℕ) → AreBytes (places_from place 8)
      → Same (λ w n. w ≡ Number n) (there s.place (load_of ops acc m place 8))
      (there s'.place (load_of plain_operations acc' m place 8))
  eight-same place b = same-there (λ w n. w ≡ Number n) s.place s'.place _ _ same.place
      (load-same owner acc m opened place 8 b)

  pushed-same : (stack : ℕ) (w : Word) (n : ℕ) → w ≡ Number n
      → Same Yet (pushed ops acc stack w s m) (pushed plain_operations acc' stack n s' m)
  unfolding pushed
  pushed-same stack w n e =
      rw e (same-then (λ (a : M) (b : M). a ≡ b) Yet _ _ _ _
      (same-there (λ (a : M) (b : M). a ≡ b) s.place s'.place _ _ same.place
      (store-same owner acc m opened (plus stack (2 ^ 64 - 8)) 8 n))
      (λ a b g. (far-stack s s' same.thread_pointer s s' first-state _ _ (word-is (plus stack (2 ^ 64 - 8))), g)))

  yet-last : (place : ℕ) (a : After Word Flag M) (a' : After ℕ Bool M) → Yet a a'
      → Then none_undefined (left (at_place a.state place) a.memory) (left (at_place a'.state place) a'.memory)
  yet-last place a a' h = (at-last s s' same.thread_pointer a.state a'.state h.0 place place refl, h.1)

  -- ** the rows

  target-same : (operand : Operand) → AreNumbers (in_operand operand) → AreBytes (bytes_in d s' 8 operand)
      → Same (Then none_undefined) (jump_of ops acc bare s m (Indirect operand))
      (jump_of plain_operations acc' bare s' m (Indirect operand))
  unfolding jump_of
  target-same operand h b =
      takes-same (Then none_undefined) Quad operand (Ok 0) (Ok 0) 0 refl refl h b _ _
      (λ it. place-last it.number m m refl)

  call-same : (target : Target) → AreNumbers (registers_read (Call target)) → AreBytes (bytes_read d s' (Call target))
      → Same (Then none_undefined) (call_of ops acc bare s m target) (call_of plain_operations acc' bare s' m target)
  unfolding call_of registers_read bytes_read
  call-same (Relative distance) h b =
      let stack = rsp-is [] h in
      clean-is (Then none_undefined) _ _ s'.registers.rsp stack.0 stack.1 _ _
      (same-then Yet (Then none_undefined) _ _ _ _ (pushed-same s'.registers.rsp _ _ (word-is bare.next))
      (yet-last (plus bare.next distance)))
  call-same (Indirect operand) h b =
      let stack = rsp-is (in_operand operand) h in
      takes-same (Then none_undefined) Quad operand _ _ s'.registers.rsp stack.0 stack.1
      (rest Rsp (in_operand operand) h) b _ _
      (λ it. same-then Yet (Then none_undefined) _ _ _ _ (pushed-same it.other _ _ (word-is bare.next))
      (yet-last it.number))

  multiply-same : (width : Width) (to : Register) (from : Operand) → AreNumbers (to ∷ in_operand from)
      → AreBytes (bytes_in d s' (size_of width) from)
      → Same (Then (left_undefined (Multiply width to from))) (multiply_of ops acc width bare s m to from)
      (multiply_of plain_operations acc' width bare s' m to from)
  unfolding multiply_of
  multiply-same width to from h b =
      let o = other-is width to (in_operand from) h in
      takes-same (Then (left_undefined (Multiply width to from))) width from _ _
      (low width (register_of s'.registers to)) o.0 o.1 (rest to (in_operand from) h) b _ _
      (λ it. finished-same (left_undefined (Multiply width to from)) width (OfSlot to)
      (product_effect width it.other it.number) (product-settled width to from it.other it.number))

  shift-same : (shift : Shift) (width : Width) (to : Operand) (count : ℕ) → AreNumbers (in_operand to)
      → AreBytes (bytes_in d s' (size_of width) to)
      → Same (Then (left_undefined (ShiftBy shift width to count))) (shift_of ops acc shift width bare s m to count)
      (shift_of plain_operations acc' shift width bare s' m to count)
  unfolding shift_of
  shift-same shift width to count h b =
      takes-same (Then (left_undefined (ShiftBy shift width to count))) width to (Ok 0) (Ok 0) 0 refl refl h b _ _
      (λ it. finished-same (left_undefined (ShiftBy shift width to count)) width it.slot
      (shift_effect shift width it.number (count % bits_of width))
      (shift-settled shift width to it.number count))

  pop-same : (to : Register) → AreNumbers (Rsp ∷ []) → AreBytes (places_from s'.registers.rsp 8)
      → Same (Then none_undefined) (pop_of ops acc bare s m to) (pop_of plain_operations acc' bare s' m to)
  unfolding pop_of
  pop-same to h b =
      let stack = rsp-is [] h in
      clean-is (Then none_undefined) _ _ s'.registers.rsp stack.0 stack.1 _ _
      (same-then (λ w n. w ≡ Number n) (Then none_undefined) _ _ _ _ (eight-same s'.registers.rsp b)
      (λ w n e. yet-last bare.next (left (with_word (with_stack s (ops.word (plus s'.registers.rsp 8))) to w) m)
      (left (with_word (with_stack s' (plain_operations.word (plus s'.registers.rsp 8))) to n) m) (
        far-word s s' same.thread_pointer _ _ (far-stack s s' same.thread_pointer s s' first-state _ _
            (word-is (plus s'.registers.rsp 8))) to w n e,
        refl,
      )))

  leave-same : AreNumbers (Rbp ∷ []) → AreBytes (places_from s'.registers.rbp 8)
      → Same (Then none_undefined) (leave_of ops acc bare s m) (leave_of plain_operations acc' bare s' m)
  unfolding leave_of with_register
  leave-same h b =
      let base = rbp-is [] h in
      clean-is (Then none_undefined) _ _ s'.registers.rbp base.0 base.1 _ _
      (same-then (λ w n. w ≡ Number n) (Then none_undefined) _ _ _ _ (eight-same s'.registers.rbp b)
      (λ w n e. yet-last bare.next (left (with_word (with_stack s (ops.word (plus s'.registers.rbp 8))) Rbp w) m)
      (left (with_word (with_stack s' (plain_operations.word (plus s'.registers.rbp 8))) Rbp n) m) (
        far-word s s' same.thread_pointer _ _ (far-stack s s' same.thread_pointer s s' first-state _ _
            (word-is (plus s'.registers.rbp 8))) Rbp w n e,
        refl,
      )))

  return-same : AreNumbers (Rsp ∷ []) → AreBytes (places_from s'.registers.rsp 8)
      → Same (Then none_undefined) (return_of ops acc s m) (return_of plain_operations acc' s' m)
  unfolding return_of
  return-same h b =
      let stack = rsp-is [] h in
      clean-is (Then none_undefined) _ _ s'.registers.rsp stack.0 stack.1 _ _
      (same-then (λ w n. w ≡ Number n) (Then none_undefined) _ _ _ _ (eight-same s'.registers.rsp b)
      (λ w n e. clean-is (Then none_undefined) _ _ n (used-is owner w n e) (plain-used n) _ _
      (yet-last n (left (with_stack s (ops.word (plus s'.registers.rsp 8))) m)
      (left (with_stack s' (plain_operations.word (plus s'.registers.rsp 8))) m)
      (far-stack s s' same.thread_pointer s s' first-state _ _ (word-is (plus s'.registers.rsp 8)), refl))))

  nop-same : (operand : Option Operand) → Same (Then none_undefined) (nop_of ops acc bare s m operand)
      (nop_of plain_operations acc' bare s' m operand)
  unfolding nop_of
  nop-same None = place-last bare.next m m refl
  nop-same (Some (InRegister name)) = place-last bare.next m m refl
  nop-same (Some (InMemory memory)) = place-last bare.next m m refl

  jump-same : (condition : Condition) (distance : ℕ) → All IsTruth (in_condition condition s.flags)
      → Same (Then none_undefined) (jump_if ops acc bare s m condition distance)
      (jump_if plain_operations acc' bare s' m condition distance)
  unfolding jump_if
  jump-same condition distance h =
      let e = condition-is owner condition s.flags s'.flags same.zero same.sign same.carry same.overflow h in
      let x = condition-plain condition s'.flags in
      clean-is (Then none_undefined) _ _ x.0 (e ∙ x.1) x.1 _ _ (place-last _ m m refl)

  pub act-same : (operation : Operation) → AreNumbers (registers_read operation)
      → All IsTruth (flags_read operation s.flags) → AreBytes (bytes_read d s' operation)
      → Same (Then (left_undefined operation)) (act ops acc bare operation s m)
      (act plain_operations acc' bare operation s' m)
  unfolding act registers_read flags_read bytes_read left_undefined store_byte extend_long load_address test_of push_of
      jump_of register_of
  act-same (Move width operands) h g b = move-same width operands h b
  act-same (StoreByte to from) h g b =
      stores-same 1 to _ _ (kept_byte-is owner (register_of s.registers from) (register_of s'.registers from)
      (held from (in_address to) h)) (rest from (in_address to) h)
  act-same (ExtendByte width to from) h g b = extend_byte-same to from h b
  act-same (ExtendLong to from) h g b =
      same-then (λ w n. w ≡ Number n) (Then none_undefined) _ _ _ _ (carried-same Long from h b)
      (λ w n e. word-last to _ _ (extended w n e) bare.next)
  act-same (LoadAddress width to from) h g b =
      let a = address-is from h in
      clean-is (Then none_undefined) _ _ (address_in d s' from) a.0 a.1 _ _
      (word-last to _ _ (word-is (low width (address_in d s' from))) bare.next)
  act-same (Compute arithmetic width operands) h g b = compute-same arithmetic width operands h b
  act-same (Test width from right) h g b =
      let o = other-is width right (in_operand from) h in
      takes-same (Then none_undefined) width from _ _ (low width (register_of s'.registers right)) o.0 o.1
      (rest right (in_operand from) h) b _ _
      (λ it. dropped-same (compute_effect And width it.number it.other).changes
      (computed-settled And width it.number it.other))
  act-same (Multiply width to from) h g b = multiply-same width to from h b
  act-same (ShiftBy shift width to count) h g b = shift-same shift width to count h b
  act-same (Push from) h g b =
      let stack = rsp-is (from ∷ []) h in
      clean-is (Then none_undefined) _ _ s'.registers.rsp stack.0 stack.1 _ _
      (same-then Yet (Then none_undefined) _ _ _ _ (pushed-same s'.registers.rsp _ _
      (held from [] (rest Rsp (from ∷ []) h))) (yet-last bare.next))
  act-same (Pop to) h g b = pop-same to h b
  act-same Leave h g b = leave-same h b
  act-same (Call (Relative distance)) h g b = call-same (Relative distance) h b
  act-same (Call (Indirect operand)) h g b = call-same (Indirect operand) h b
  act-same (Jump (Relative distance)) h g b = place-last (plus bare.next distance) m m refl
  act-same (Jump (Indirect operand)) h g b = target-same operand h b
  act-same (JumpIf condition distance) h g b = jump-same condition distance g
  act-same Return h g b = return-same h b
  act-same (Nop operand) h g b = nop-same operand
  act-same Nothing h g b = (tt, ap Code same.place)
