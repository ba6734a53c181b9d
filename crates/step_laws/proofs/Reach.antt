-- The bytes that the meaning's instruction touches are those that it reads and writes.
use Rattle.std.proofs.Common.{◌≡◌, ℕ, zero, suc, ◌-◌, ◌^◌, Bool, true, false, ◌||◌, List, [], ◌∷◌, ◌++◌, Option, None}
use Rattle.std.proofs.Common.{Result, Ok, Err, refl, sym, ap, subst, ◌∙◌}
use Rattle.std.specs.Prelude.{if◌then◌else◌, is_err}
use Rattle.std.specs.List.{list_any}
use Rattle.std.proofs.lemmas.Bool.{or_parts}
use Rattle.std.proofs.lemmas.List.Folds.{list_any-append}
use Rattle.amd64_words.specs.declared.register.Register.{Register}
use Rattle.amd64_words.specs.declared.register.Register.TheVariants.{Rsp}
use Rattle.amd64_subset.specs.declared.instr.Arithmetic.{Arithmetic}
use Rattle.amd64_subset.specs.declared.instr.Arithmetic.TheVariants.{Add, Or, And, Sub, Xor, Compare}
use Rattle.amd64_subset.specs.declared.instr.Decoded.{Decoded}
use Rattle.amd64_subset.specs.declared.instr.Operation.{Operation}
use Rattle.amd64_subset.specs.declared.instr.Operation.TheVariants.{Move, StoreByte, ExtendByte, ExtendLong}
use Rattle.amd64_subset.specs.declared.instr.Operation.TheVariants.{LoadAddress, Compute, Test, Multiply, Shift, Push}
use Rattle.amd64_subset.specs.declared.instr.Operation.TheVariants.{Pop, Leave, Call, Jump, JumpIf, Return}
use Rattle.amd64_subset.specs.declared.instr.Operation.TheVariants.{Nop, Undefined}
use Rattle.amd64_subset.specs.declared.instr.Target.TheVariants.{Relative, Indirect}
use Rattle.amd64_subset.specs.declared.instr.Width.{Width}
use Rattle.amd64_subset.specs.declared.operand.Memory.{Memory}
use Rattle.amd64_subset.specs.declared.operand.Operand.{Operand}
use Rattle.amd64_subset.specs.declared.operand.Operand.TheVariants.{InMemory, Register as InRegister}
use Rattle.amd64_subset.specs.declared.operand.Operands.{Operands}
use Rattle.amd64_subset.specs.declared.operand.Operands.TheVariants.{IntoRegister, IntoMemory, Immediate}
use Rattle.guest_arithmetic.specs.declared.cause.Cause.{Cause}
use Rattle.guest_arithmetic.specs.Cause.{used}
use Rattle.guest_operands.specs.declared.frame.Frame.{Frame}
use Rattle.guest_operands.specs.declared.space.Size.{Size}
use Rattle.guest_operands.specs.declared.space.Size.TheVariants.{Byte as ByteSize, Long as LongSize, Quad as QuadSize}
use Rattle.guest_operands.specs.declared.state.State.{State}
use Rattle.guest_operands.specs.Access.{bytes_in as bytes_of, Accesses, Refusal, Refused, Shut, both_reached, bytes_at}
use Rattle.guest_operands.specs.Access.{next_place}
use Rattle.guest_operands.specs.Operand.{address_of, size_for, size_of}
use Rattle.guest_operands.specs.State.{register_of}
use Rattle.guest_operands.specs.Use.{plus}
use Rattle.guest_machine.specs.declared.touch.Touch.{Touch}
use Rattle.guest_machine.specs.declared.touch.Touches.{Touches}
use Rattle.guest_machine.specs.declared.touch.Direction.TheVariants.{Load, Store}
use Rattle.guest_machine.specs.Touch.{changed_touches, computed_touches, operand_touch, paired, places_from, push_touch}
use Rattle.guest_machine.specs.Touch.{refuses, touch_at, touched, touched_then, touches_of}
use Rattle.job_meaning.specs.declared.values.Byte.{Byte}
use Rattle.job_meaning.specs.declared.values.Flag.{Flag}
use Rattle.job_meaning.specs.declared.values.Word.{Word}
use Rattle.step_laws.specs.Plain.{HasNumbers, any_refused}
use Rattle.step_laws.specs.Reads.{address_in, bytes_in, bytes_read, bytes_written, clears, computed, in_address}
use Rattle.step_laws.specs.Reads.{in_operand, in_result, registers_read}
use Rattle.step_laws.proofs.Machine.{AreNumbers, address-is, bare, cleared-is, rbp-is, rest, rsp-is, unless-cleared}
use Rattle.step_laws.proofs.Needed.{not-cleared}
use Rattle.step_laws.proofs.NeededSteps.{OpenTo}
use Rattle.step_laws.proofs.Numbers.{marked}

either-refused : {A C D : Type 0} (f : A → C → D) (a : Result A Refusal) (b : Result C Refusal)
    → is_err (both_reached f a b) ≡ (is_err a || is_err b)
either-refused f (Ok a) (Ok b) = refl
either-refused f (Ok a) (Err why) = refl
either-refused f (Err Refused) (Ok b) = refl
either-refused f (Err Refused) (Err why) = refl
either-refused f (Err Shut) b = refl

or-same : (a b c : Bool) → b ≡ c → (a || b) ≡ (a || c)
or-same a b c e = ap (λ x. a || x) e

module _ {M : Type 0} (acc : Accesses M Byte) (m : M) (shut : ℕ → Bool) where
  -- a load is refused if one of its bytes is
  load-refused : (size place : ℕ) → is_err (bytes_at acc m place size) ≡ any_refused acc m (places_from place size)
  load-refused zero place = refl
  load-refused (suc size) place =
      either-refused ◌∷◌ (acc.byte m place) (bytes_at acc m (next_place place) size)
      ∙ or-same (is_err (acc.byte m place)) _ _ (load-refused size (next_place place))

  -- none of these places is the linker's own
  abbrev pub Apart : List ℕ → Type 0
  Apart places = list_any shut places ≡ false

  parts : (xs ys : List ℕ) → Apart (xs ++ ys) → Apart xs × Apart ys
  parts xs ys e = or_parts (list_any shut xs) (list_any shut ys) (sym (list_any-append shut xs ys) ∙ e)

  together : (xs ys : List ℕ) → Apart xs → Apart ys → Apart (xs ++ ys)
  together xs ys e g = list_any-append shut xs ys ∙ rw (e, g) refl

  nothing : (b : Bool) → Apart (if b then [] else [])
  nothing true = refl
  nothing false = refl

  -- what is written after a load that is made
  written-apart : (b c : Bool) (written more : List ℕ) → b ≡ c → (Apart written → Apart more)
      → Apart (if c then [] else written) → Apart (if b then [] else more)
  written-apart true c written more e k h = refl
  written-apart false true written more e k h = absurd cc
  written-apart false false written more e k h = k h

  abbrev pub Free : Touches → Type 0
  Free it = Apart (touched acc m it)

  store-free : (r : Result ℕ Cause) (place : ℕ) → r ≡ Ok place → (size : Size)
      → Apart (places_from place (bytes_of size)) → Apart (touched_then acc m (touch_at Store size r) [])
  store-free (Ok p) place e size h =
      together (places_from p (bytes_of size)) _ (let same : place ≡ p = cc in
      subst (λ (q : ℕ). Apart (places_from q (bytes_of size))) same h)
      (nothing (refuses acc m Store p (bytes_of size)))
  store-free (Err why) place e size h = absurd cc

  load-free : (r : Result ℕ Cause) (place : ℕ) → r ≡ Ok place → (size : Size) (written : List ℕ) (second : Option Touch)
      → (Apart written → Apart (touched_then acc m second []))
      → Apart (places_from place (bytes_of size) ++ (if any_refused acc m
      (places_from place (bytes_of size)) then [] else written))
      → Free (paired (touch_at Load size r) second)
  unfolding touched
  load-free (Ok p) place e size written second k h =
      let same : place ≡ p = cc in
      let h' : Apart (places_from p (bytes_of size) ++ (if any_refused acc m
      (places_from p (bytes_of size)) then [] else written)) =
      subst (λ (q : ℕ). Apart (places_from q (bytes_of size) ++
      (if any_refused acc m (places_from q (bytes_of size)) then [] else written))) same h in
      let both = parts (places_from p (bytes_of size)) (if any_refused acc m
      (places_from p (bytes_of size)) then [] else written) h' in
      together (places_from p (bytes_of size)) _ both.0
      (written-apart (refuses acc m Load p (bytes_of size)) (any_refused acc m (places_from p (bytes_of size))) written
      (touched_then acc m second [])
      (load-refused (bytes_of size) p) k both.1)
  load-free (Err why) place e size written second k h = absurd cc

  none-free : Free (paired None None)
  unfolding touched
  none-free = refl

  first-free : (o : Option Touch) → Apart (touched_then acc m o []) → Free (paired o None)
  unfolding touched
  first-free o h = h

  second-free : (o : Option Touch) → Apart (touched_then acc m o []) → Free (paired None o)
  unfolding touched
  second-free o h = h

  -- the bytes that are read, and then those that are written
  abbrev pub Reaches : List ℕ → List ℕ → Type 0
  Reaches read written = Apart (read ++ (if any_refused acc m read then [] else written))

  module _ (owner : ℕ → ℕ) (opened : OpenTo acc m) (d : Decoded) (s : State Word Flag) (s' : State ℕ Bool)
      (same : HasNumbers s s') where
    abbrev Numbers : List Register → Type 0
    Numbers registers = AreNumbers owner acc m opened d s s' same registers

    abbrev frame : Frame
    frame = bare owner acc m opened d s s' same

    at : (memory : Memory) → Numbers (in_address memory)
        → address_of (marked owner) frame s memory ≡ Ok (address_in d s' memory)
    at memory h = (address-is owner acc m opened d s s' same memory h).0

    operand-free : (size : Size) (operand : Operand) (written : List ℕ) (second : Option Touch)
        → (Apart written → Apart (touched_then acc m second []))
        → Numbers (in_operand operand) → Reaches (bytes_in d s' (bytes_of size) operand) written
        → Free (paired (operand_touch (marked owner) frame s Load size operand) second)
    operand-free size (InRegister name) written second k h r = second-free second (k r)
    operand-free size (InMemory memory) written second k h r =
        load-free (address_of (marked owner) frame s memory) (address_in d s' memory)
        (at memory h) size written second k r

    -- an operand that is only read
    reads-free : (size : Size) (operand : Operand) → Numbers (in_operand operand)
        → Reaches (bytes_in d s' (bytes_of size) operand) []
        → Free (paired (operand_touch (marked owner) frame s Load size operand) None)
    reads-free size operand h r = operand-free size operand [] None (λ e. refl) h r

    written-free : (size : Size) (operand : Operand) → Numbers (in_result operand)
        → Apart (bytes_in d s' (bytes_of size) operand)
        → Apart (touched_then acc m (operand_touch (marked owner) frame s Store size operand) [])
    written-free size (InRegister name) h e = refl
    written-free size (InMemory memory) h e = store-free (address_of (marked owner) frame s memory)
        (address_in d s' memory) (at memory h) size e

    result-of : (operand : Operand) → Numbers (in_operand operand) → Numbers (in_result operand)
    result-of (InRegister name) h = rest owner acc m opened d s s' same name [] h
    result-of (InMemory memory) h = h

    changed-free : (width : Width) (to : Operand) → Numbers (in_operand to)
        → Reaches (bytes_in d s' (size_of width) to) (bytes_in d s' (size_of width) to)
        → Free (changed_touches (marked owner) frame s width to)
    changed-free width to h r =
        operand-free (size_for width) to (bytes_in d s' (size_of width) to)
        (operand_touch (marked owner) frame s Store (size_for width) to)
        (λ e. written-free (size_for width) to (result-of to h) e) h r

    computed-free : (arithmetic : Arithmetic) (width : Width) (to : Operand) → Numbers (in_operand to)
        → Reaches (bytes_in d s' (size_of width) to) (computed d s' arithmetic width to)
        → Free (computed_touches (marked owner) frame s arithmetic width to)
    computed-free Compare width to h r = reads-free (size_for width) to h r
    computed-free Add width to h r = changed-free width to h r
    computed-free Or width to h r = changed-free width to h r
    computed-free And width to h r = changed-free width to h r
    computed-free Sub width to h r = changed-free width to h r
    computed-free Xor width to h r = changed-free width to h r

    stored-free : (size : Size) (to : Memory) → Numbers (in_address to)
        → Apart (bytes_in d s' (bytes_of size) (InMemory to))
        → Free (paired (operand_touch (marked owner) frame s Store size (InMemory to)) None)
    stored-free size to h e = first-free (operand_touch (marked owner) frame s Store size (InMemory to))
        (written-free size (InMemory to) h e)

    pushed-free : (rs : List Register) → Numbers (Rsp ∷ rs) → Apart (places_from (plus s'.registers.rsp (2 ^ 64 - 8)) 8)
        → Apart (touched_then acc m (push_touch (marked owner) s) [])
    pushed-free rs h e =
        let r = (rsp-is owner acc m opened d s s' same rs h).0 in
        store-free (used (λ stack. plus stack (2 ^ 64 - 8)) ((marked owner).number_of s.registers.rsp))
        (plus s'.registers.rsp (2 ^ 64 - 8)) (rw r refl) QuadSize e

    moved-free : (width : Width) (operands : Operands) → Numbers (registers_read (Move width operands))
        → Reaches (bytes_read d s' (Move width operands)) (bytes_written d s' (Move width operands))
        → Free (touches_of (marked owner) frame s (Move width operands))
    unfolding touches_of registers_read bytes_read bytes_written
    moved-free width (IntoRegister to from) h r = reads-free (size_for width) from h r
    moved-free width (IntoMemory to from) h r = stored-free (size_for width) to
        (rest owner acc m opened d s s' same from (in_address to) h) r
    moved-free width (Immediate (InRegister to)) h r = none-free
    moved-free width (Immediate (InMemory to)) h r = stored-free (size_for width) to h r

    compute-free : (arithmetic : Arithmetic) (width : Width) (operands : Operands)
        → Numbers (registers_read (Compute arithmetic width operands))
        → Reaches (bytes_read d s' (Compute arithmetic width operands))
        (bytes_written d s' (Compute arithmetic width operands))
        → Free (touches_of (marked owner) frame s (Compute arithmetic width operands))
    unfolding touches_of registers_read bytes_read bytes_written
    compute-free arithmetic width (IntoRegister to (InRegister from)) h r = none-free
    compute-free arithmetic width (IntoRegister to (InMemory from)) h r =
        let all = unless-cleared owner acc m opened d s s' same (clears arithmetic to (InMemory from))
        (to ∷ in_address from)
        (sym (cleared-is arithmetic to (InMemory from)) ∙ not-cleared arithmetic to from) h in
        reads-free (size_for width) (InMemory from) (rest owner acc m opened d s s' same to (in_address from) all) r
    compute-free arithmetic width (IntoMemory to from) h r =
        computed-free arithmetic width (InMemory to) (rest owner acc m opened d s s' same from (in_address to) h) r
    compute-free arithmetic width (Immediate to) h r = computed-free arithmetic width to h r

    call-free : (operand : Operand) → Numbers (Rsp ∷ in_operand operand)
        → Reaches (bytes_in d s' 8 operand) (places_from (plus s'.registers.rsp (2 ^ 64 - 8)) 8)
        → Free (paired (operand_touch (marked owner) frame s Load QuadSize operand) (push_touch (marked owner) s))
    call-free operand h r =
        operand-free QuadSize operand (places_from (plus s'.registers.rsp (2 ^ 64 - 8)) 8) (push_touch (marked owner) s)
        (λ e. pushed-free (in_operand operand) h e)
        (rest owner acc m opened d s s' same Rsp (in_operand operand) h) r

    pub touches-free : (operation : Operation) → Numbers (registers_read operation)
        → Reaches (bytes_read d s' operation) (bytes_written d s' operation)
        → Free (touches_of (marked owner) frame s operation)
    unfolding touches_of registers_read bytes_read bytes_written register_of
    touches-free (Move width operands) h r = moved-free width operands h r
    touches-free (StoreByte to from) h r = stored-free ByteSize to
        (rest owner acc m opened d s s' same from (in_address to) h) r
    touches-free (ExtendByte width to from) h r = reads-free ByteSize from h r
    touches-free (ExtendLong to from) h r = reads-free LongSize from h r
    touches-free (LoadAddress width to from) h r = none-free
    touches-free (Compute arithmetic width operands) h r = compute-free arithmetic width operands h r
    touches-free (Test width from right) h r = reads-free (size_for width) from
        (rest owner acc m opened d s s' same right (in_operand from) h) r
    touches-free (Multiply width to from) h r = reads-free (size_for width) from
        (rest owner acc m opened d s s' same to (in_operand from) h) r
    touches-free (Shift shift width to count) h r = changed-free width to h r
    touches-free (Push from) h r = first-free (push_touch (marked owner) s) (pushed-free (from ∷ []) h r)
    touches-free (Pop to) h r = load-free _ s'.registers.rsp
        (rsp-is owner acc m opened d s s' same [] h).0 QuadSize [] None (λ e. refl) r
    touches-free Leave h r = load-free _ s'.registers.rbp
        (rbp-is owner acc m opened d s s' same [] h).0 QuadSize [] None (λ e. refl) r
    touches-free (Call (Relative distance)) h r = first-free (push_touch (marked owner) s) (pushed-free [] h r)
    touches-free (Call (Indirect operand)) h r = call-free operand h r
    touches-free (Jump (Relative distance)) h r = none-free
    touches-free (Jump (Indirect operand)) h r = reads-free QuadSize operand h r
    touches-free (JumpIf condition distance) h r = none-free
    touches-free Return h r = load-free _ s'.registers.rsp
        (rsp-is owner acc m opened d s s' same [] h).0 QuadSize [] None (λ e. refl) r
    touches-free (Nop operand) h r = none-free
    touches-free Undefined h r = none-free
