-- A step of the meaning that has no cause is refused as soon as one byte that it touches can be neither read nor
-- written.
use Rattle.std.proofs.Common.{◌≡◌, ◌⊎◌, inl, inr, ℕ, zero, suc, Bool, true, false, List, [], ◌++◌, Option, Some, None}
use Rattle.std.proofs.Common.{Result, Err, refl, sym, ap, ◌∙◌, eq-eqb}
use Rattle.std.specs.Prelude.{if◌then◌else◌, ◌==◌, nat_lt, is_err}
use Rattle.std.specs.List.{Contains, list_any}
use Rattle.std.proofs.lemmas.Bool.{or_parts}
use Rattle.std.proofs.lemmas.List.Folds.{list_any-append}
use Rattle.amd64_subset.specs.declared.instr.Arithmetic.{Arithmetic}
use Rattle.amd64_subset.specs.declared.instr.Arithmetic.TheVariants.{Add, Or, And, Sub, Xor, Compare}
use Rattle.amd64_subset.specs.declared.instr.Decoded.{Decoded}
use Rattle.amd64_subset.specs.declared.instr.Operation.{Operation}
use Rattle.amd64_subset.specs.declared.instr.Operation.TheVariants.{Move, StoreByte, ExtendByte, ExtendLong}
use Rattle.amd64_subset.specs.declared.instr.Operation.TheVariants.{LoadAddress, Compute, Test, Multiply, Shift, Push}
use Rattle.amd64_subset.specs.declared.instr.Operation.TheVariants.{Pop, Leave, Call, Jump, JumpIf, Return}
use Rattle.amd64_subset.specs.declared.instr.Operation.TheVariants.{Nop, Undefined}
use Rattle.amd64_subset.specs.declared.instr.Target.TheVariants.{Relative, Indirect}
use Rattle.amd64_subset.specs.declared.instr.Width.{Width}
use Rattle.amd64_subset.specs.declared.instr.Width.TheVariants.{Long, Quad}
use Rattle.amd64_subset.specs.declared.operand.Operands.{Operands}
use Rattle.amd64_subset.specs.declared.operand.Operands.TheVariants.{IntoRegister, IntoMemory, Immediate}
use Rattle.amd64_subset.specs.Decoding.{decoded}
use Rattle.guest_arithmetic.specs.declared.cause.Cause.{Cause}
use Rattle.guest_arithmetic.specs.Values.{Operations}
use Rattle.guest_operands.specs.declared.frame.Frame.{Frame}
use Rattle.guest_operands.specs.declared.state.State.{State}
use Rattle.guest_operands.specs.declared.stop.Stop.{Stop}
use Rattle.guest_operands.specs.declared.stop.Stop.TheVariants.{Address}
use Rattle.guest_operands.specs.Access.{Accesses, Refusal, Refused, bytes_in, code_at, code_then, fetch_of, next_place}
use Rattle.guest_machine.specs.Step.{act}
use Rattle.guest_machine.specs.declared.touch.Touch.{Touch}
use Rattle.guest_machine.specs.declared.touch.Touches.{Touches}
use Rattle.guest_machine.specs.declared.touch.Direction.{Direction}
use Rattle.guest_machine.specs.declared.touch.Direction.TheVariants.{Load, Store}
use Rattle.guest_machine.specs.Touch.{places_from, refuses, touched, touched_then, touches_of}
use Rattle.job_meaning.specs.Reading.{beside_linker}
use Rattle.whole_meaning.specs.declared.marks.Mark.{Mark}
use Rattle.whole_meaning.specs.Fields.{address_at, lent, lent_at, lent_frame, marked_frame, read_in, reads_next}
use Rattle.whole_meaning.specs.Fields.{without_operand}
use Rattle.whole_meaning.specs.Reading.{done, hindrance, marked_step, own_touches, plain_step, reaches_linker}
use Rattle.step_laws.specs.Steps.{without}
use Rattle.step_laws.proofs.Hindrances.{reads-address}
use Rattle.step_laws.proofs.Needed.{Stays, act-refused, call-refused}
use Rattle.step_laws.proofs.Places.{AllowsLess, IsIn, IsLess, IsOpen, bytes-less, touched-in, writes-less}

-- ** the memory without the byte

open-if : {A : Type 0} (b : Bool) (x y : Result A Refusal) → IsOpen x → IsOpen y → IsOpen (if b then x else y)
open-if true x y h k = h
open-if false x y h k = k

less-if : {A : Type 0} (b : Bool) (r : Result A Refusal) → IsLess r (if b then Err Refused else r)
less-if true r = inr refl
less-if false r = inl refl

-- no byte is closed
pub record OpenTo {M B : Type 0} (acc : Accesses M B) (m : M) : Type 0 where
  pub byte : (place : ℕ) → IsOpen (acc.byte m place)
  pub writes : (place : ℕ) → IsOpen (acc.writes m place)

module _ {M B : Type 0} (acc : Accesses M B) (m : M) (opened : OpenTo acc m) (a : ℕ) where
  less-without : AllowsLess acc (without a acc) m
  less-without = record {
    open_byte = opened.byte;
    open_writes = opened.writes;
    byte = λ place. less-if (place == a) (acc.byte m place);
    writes = λ place. less-if (place == a) (acc.writes m place);
  }

  unread : (without a acc).byte m a ≡ Err Refused
  unread = rw (eq-eqb a a refl) refl

  unwritten : (without a acc).writes m a ≡ Err Refused
  unwritten = rw (eq-eqb a a refl) refl

  -- ** what is touched

  refused-less : {A : Type 0} (r r' : Result A Refusal) → IsLess r r' → is_err r ≡ true → is_err r' ≡ true
  refused-less r r' (inl e) h = rw e h
  refused-less r r' (inr e) h = rw e refl

  refuses-less : (direction : Direction) (place size : ℕ) → refuses acc m direction place size ≡ true
      → refuses (without a acc) m direction place size ≡ true
  refuses-less Load place size h = refused-less _ _ (bytes-less acc (without a acc) m less-without size place) h
  refuses-less Store place size h = refused-less _ _ (writes-less acc (without a acc) m less-without size place) h

  module _ (shut : ℕ → Bool) where
    -- fewer bytes are touched where an access is refused
    fewer : (b b' : Bool) → (b ≡ true → b' ≡ true) → (rest rest' : List ℕ)
        → (list_any shut rest ≡ false → list_any shut rest' ≡ false)
        → list_any shut (if b then [] else rest) ≡ false → list_any shut (if b' then [] else rest') ≡ false
    fewer b true h rest rest' k none = refl
    fewer true false h rest rest' k none = absurd (let e = h refl in cc)
    fewer false false h rest rest' k none = k none

    parts-free : (places more more' : List ℕ) → (list_any shut more ≡ false → list_any shut more' ≡ false)
        → list_any shut (places ++ more) ≡ false
        → list_any shut (places ++ more') ≡ false
    parts-free places more more' k none =
        let parts = or_parts (list_any shut places) (list_any shut more)
        (sym (list_any-append shut places more) ∙ none) in
        list_any-append shut places more' ∙ rw (parts.0, k parts.1) refl

    then-free : (o : Option Touch) (rest rest' : List ℕ) → (list_any shut rest ≡ false → list_any shut rest' ≡ false)
        → list_any shut (touched_then acc m o rest) ≡ false
        → list_any shut (touched_then (without a acc) m o rest') ≡ false
    then-free None rest rest' k none = k none
    then-free (Some touch) rest rest' k none =
        parts-free (places_from touch.address (bytes_in touch.size)) _ _
        (fewer (refuses acc m touch.direction touch.address (bytes_in touch.size))
        (refuses (without a acc) m touch.direction touch.address (bytes_in touch.size))
        (refuses-less touch.direction touch.address (bytes_in touch.size)) rest rest' k) none

    touched-free : (it : Touches) → list_any shut (touched acc m it) ≡ false
        → list_any shut (touched (without a acc) m it) ≡ false
    unfolding touched
    touched-free it none = then-free it.first _ _ (then-free it.second [] [] (λ e. e)) none

  -- ** code

  code-same : (size place : ℕ) → code_at (without a acc) m place size ≡ code_at acc m place size
  code-same zero place = refl
  code-same (suc size) place = ap (code_then (acc.code m place)) (code-same size (next_place place))

  fetch-same : (place : ℕ) → fetch_of (without a acc) m place ≡ fetch_of acc m place
  unfolding fetch_of
  fetch-same place = code-same 15 place

-- ** the step

module _ {W F B M : Type 0} (ops : Operations W F B) (acc : Accesses M B) (m : M) (opened : OpenTo acc m) (a : ℕ)
    (mark : ℕ → Mark) (s : State W F) where
  -- a word that is lent is no byte of the memory
  lent-less : (number : ℕ) → AllowsLess (lent_at ops acc number) (lent_at ops (without a acc) number) m
  lent-less number = record {
    open_byte = λ place. open-if (nat_lt place 8) _ _ tt (opened.byte place);
    open_writes = opened.writes;
    byte = λ place. lent-if (nat_lt place 8) (place == a) _ (acc.byte m place);
    writes = λ place. less-if (place == a) (acc.writes m place);
  }
    where
      lent-if : {A : Type 0} (b c : Bool) (x r : Result A Refusal)
          → IsLess (if b then x else r) (if b then x else (if c then Err Refused else r))
      lent-if true c x r = inl refl
      lent-if false c x r = less-if c r

  nowhere : {P : Type 0} → IsIn a None → P
  nowhere i = absurd i

  module _ (number : ℕ) (f f' : Frame) where
    abbrev Lent : Operation → Type 0
    Lent operation = Stays (act ops (lent_at ops acc number) f' operation s m)
        → IsIn a (touches_of ops f s operation).second
        → act ops (lent_at ops (without a acc) number) f' operation s m ≡ Err (Address s.place)

    -- of the instructions that read such a word, only a call touches more
    computes : (arithmetic : Arithmetic) (width : Width) (operands : Operands)
        → reads_next (read_in (Compute arithmetic width operands)) ≡ true
        → IsIn a (touches_of ops f s (Compute arithmetic width operands)).second → ⊥
    unfolding touches_of read_in
    computes arithmetic width (IntoRegister to from) reads i = i
    computes Compare width (IntoMemory to from) reads i = i
    computes Add Long (IntoMemory to from) reads i = cc
    computes Add Quad (IntoMemory to from) reads i = cc
    computes Or Long (IntoMemory to from) reads i = cc
    computes Or Quad (IntoMemory to from) reads i = cc
    computes And Long (IntoMemory to from) reads i = cc
    computes And Quad (IntoMemory to from) reads i = cc
    computes Sub Long (IntoMemory to from) reads i = cc
    computes Sub Quad (IntoMemory to from) reads i = cc
    computes Xor Long (IntoMemory to from) reads i = cc
    computes Xor Quad (IntoMemory to from) reads i = cc
    computes Compare width (Immediate to) reads i = i
    computes Add Long (Immediate to) reads i = cc
    computes Add Quad (Immediate to) reads i = cc
    computes Or Long (Immediate to) reads i = cc
    computes Or Quad (Immediate to) reads i = cc
    computes And Long (Immediate to) reads i = cc
    computes And Quad (Immediate to) reads i = cc
    computes Sub Long (Immediate to) reads i = cc
    computes Sub Quad (Immediate to) reads i = cc
    computes Xor Long (Immediate to) reads i = cc
    computes Xor Quad (Immediate to) reads i = cc

    lent-refused : (operation : Operation) → reads_next (read_in operation) ≡ true → Lent operation
    unfolding touches_of act read_in
    lent-refused (Move width (IntoRegister to from)) reads h i = nowhere i
    lent-refused (Move width (IntoMemory to from)) reads h i = nowhere i
    lent-refused (Move width (Immediate to)) reads h i = nowhere i
    lent-refused (StoreByte to from) reads h i = nowhere i
    lent-refused (ExtendByte width to from) reads h i = nowhere i
    lent-refused (ExtendLong to from) reads h i = nowhere i
    lent-refused (LoadAddress width to from) reads h i = nowhere i
    lent-refused (Compute arithmetic width operands) reads h i = absurd (computes arithmetic width operands reads i)
    lent-refused (Test width from right) reads h i = nowhere i
    lent-refused (Multiply width to from) reads h i = nowhere i
    lent-refused (Shift shift width to count) reads h i = absurd cc
    lent-refused (Push from) reads h i = nowhere i
    lent-refused (Pop to) reads h i = nowhere i
    lent-refused Leave reads h i = nowhere i
    lent-refused (Call (Relative distance)) reads h i = nowhere i
    lent-refused (Call (Indirect operand)) reads h i =
        call-refused ops (lent_at ops acc number) (lent_at ops (without a acc) number) m (lent-less number) a f' s
        (unwritten acc m opened a) operand h i
    lent-refused (Jump (Relative distance)) reads h i = nowhere i
    lent-refused (Jump (Indirect operand)) reads h i = nowhere i
    lent-refused (JumpIf condition distance) reads h i = nowhere i
    lent-refused Return reads h i = nowhere i
    lent-refused (Nop operand) reads h i = nowhere i
    lent-refused Undefined reads h i = nowhere i

  no-first : IsIn a None ⊎ IsIn a None → ⊥
  no-first (inl i) = i
  no-first (inr i) = i

  only-second : (o : Option Touch) → IsIn a None ⊎ IsIn a o → IsIn a o
  only-second o (inl i) = absurd i
  only-second o (inr i) = i

  acts-refused : (it : Decoded) (number : Option ℕ) → (number ≡ None ⊎ (reads_next (read_in it.instr.operation) ≡ true))
      → Stays (act ops (lent ops acc number) (lent_frame number (marked_frame mark s.place it)) it.instr.operation s m)
      → Contains (touched acc m (without_operand number (touches_of ops
      (marked_frame mark s.place it) s it.instr.operation))) a
      → act ops (lent ops (without a acc) number) (lent_frame number (marked_frame mark s.place it)) it.instr.operation
      s m ≡ Err (Address s.place)
  acts-refused it None reads h i =
      act-refused ops acc (without a acc) m (less-without acc m opened a) a (marked_frame mark s.place it) s
      (unread acc m opened a) (unwritten acc m opened a)
      it.instr.operation h i
  acts-refused it (Some number) (inl none) h i = absurd cc
  acts-refused it (Some number) (inr reads) h i =
      let touches = touches_of ops (marked_frame mark s.place it) s it.instr.operation in
      lent-refused number (marked_frame mark s.place it)
      (lent_frame (Some number) (marked_frame mark s.place it)) it.instr.operation reads h
      (only-second touches.second (touched-in acc m a (without_operand (Some number) touches) i))

  reads-or-none : (bytes : List ℕ) (d : Decoded) (number : Option ℕ) → hindrance ops mark s bytes ≡ None
      → decoded bytes ≡ Some d → address_at mark s.place d.disp ≡ number
      → number ≡ None ⊎ (reads_next (read_in d.instr.operation) ≡ true)
  reads-or-none bytes d None free e is = inl refl
  reads-or-none bytes d (Some number) free e is = inr (reads-address ops mark s bytes d number free e is)

  done-refused : (bytes : List ℕ) (why : Option Cause) (it : Option Decoded) → hindrance ops mark s bytes ≡ why
      → decoded bytes ≡ it → Stays (done ops acc mark why it s m)
      → Contains (touched acc m (own_touches ops mark s it)) a
      → done ops (without a acc) mark why it s m ≡ Err (Address s.place)
  done-refused bytes (Some why) it free e h i = absurd h
  done-refused bytes None None free e h i = absurd (no-first (touched-in acc m a (own_touches ops mark s None) i))
  done-refused bytes None (Some it) free e h i =
      acts-refused it (address_at mark s.place it.disp) (reads-or-none bytes it
      (address_at mark s.place it.disp) free e refl) h i

  module _ (shut : ℕ → Bool) where
    beside-stays : {A : Type 0} (b : Bool) (step : Result A Stop) → Stays (beside_linker b s.place step)
        → (b ≡ false) × Stays step
    beside-stays true step h = absurd h
    beside-stays false step h = (refl, h)

    outside : (b c : Bool) → (if b then true else c) ≡ false → (b ≡ false) × (c ≡ false)
    outside true c e = absurd cc
    outside false c e = (refl, e)

    reaches-less : reaches_linker ops acc mark shut s m ≡ false
        → reaches_linker ops (without a acc) mark shut s m ≡ false
    unfolding reaches_linker
    reaches-less e =
        let p = outside (shut s.place) _ e in
        rw (p.0, fetch-same acc m opened a s.place) (touched-free acc m opened a shut
        (own_touches ops mark s (decoded (fetch_of acc m s.place))) p.1)

    pub step-refused : Stays (marked_step ops acc mark shut s m)
        → Contains (touched acc m (own_touches ops mark s (decoded (fetch_of acc m s.place)))) a
        → marked_step ops (without a acc) mark shut s m ≡ Err (Address s.place)
    unfolding marked_step plain_step
    step-refused h i =
        let p = beside-stays (reaches_linker ops acc mark shut s m) (plain_step ops acc mark s m) h in
        let bytes = fetch_of acc m s.place in
        rw (reaches-less p.0, fetch-same acc m opened a s.place)
        (done-refused bytes (hindrance ops mark s bytes) (decoded bytes) refl refl p.1 i)
