-- A step that nothing hinders is unclean for the first cause of its words and flags, whatever fields it has.
use Rattle.std.proofs.Common.{◌≡◌, ℕ, zero, suc, true, false, ◌&&◌, List, [], ◌∷◌, ◌++◌, Option, Some, None, Result, Ok}
use Rattle.std.proofs.Common.{Err, refl, sym, ap, ◌∙◌, arith}
use Rattle.std.specs.Prelude.{if◌then◌else◌, not, nat_lt}
use Rattle.std.proofs.lemmas.Bool.{and_parts}
use Rattle.amd64_words.specs.declared.register.Register.{Register}
use Rattle.amd64_subset.specs.declared.instr.Arithmetic.TheVariants.{Add}
use Rattle.amd64_subset.specs.declared.instr.Decoded.{Decoded}
use Rattle.amd64_subset.specs.declared.instr.Operation.{Operation}
use Rattle.amd64_subset.specs.declared.instr.Operation.TheVariants.{Move, StoreByte, ExtendByte, ExtendLong}
use Rattle.amd64_subset.specs.declared.instr.Operation.TheVariants.{LoadAddress, Compute, Test, Multiply}
use Rattle.amd64_subset.specs.declared.instr.Operation.TheVariants.{Shift as ShiftBy, Push, Pop, Leave, Call, Jump}
use Rattle.amd64_subset.specs.declared.instr.Operation.TheVariants.{JumpIf, Return, Nop, Undefined}
use Rattle.amd64_subset.specs.declared.instr.Width.TheVariants.{Quad}
use Rattle.amd64_subset.specs.declared.operand.Memory.{Memory}
use Rattle.amd64_subset.specs.declared.operand.Operand.TheVariants.{Register as InRegister}
use Rattle.amd64_subset.specs.declared.operand.Operands.TheVariants.{Immediate}
use Rattle.amd64_subset.specs.Decoding.{decoded}
use Rattle.guest_arithmetic.specs.declared.cause.Cause.{Cause}
use Rattle.guest_operands.specs.declared.frame.Frame.{Frame}
use Rattle.guest_operands.specs.declared.state.State.{State}
use Rattle.guest_operands.specs.declared.stop.Stop.{Stop}
use Rattle.guest_operands.specs.Access.{Accesses, Refusal, Refused, Shut, all_write, both_reached, bytes_at, fetch_of}
use Rattle.guest_operands.specs.Access.{load_of, next_place, reached, store_of}
use Rattle.guest_operands.specs.Frame.{frame_of}
use Rattle.guest_operands.specs.Operand.{address_of}
use Rattle.guest_operands.specs.Use.{After}
use Rattle.job_meaning.specs.declared.values.Byte.{Byte}
use Rattle.job_meaning.specs.declared.values.Flag.{Flag}
use Rattle.job_meaning.specs.declared.values.Word.{Word}
use Rattle.marked_code.proofs.Lent.{lent-address, lent-load}
use Rattle.marked_code.proofs.NextIndex.{next_has_no_index}
use Rattle.whole_meaning.specs.declared.marks.Mark.{Mark}
use Rattle.whole_meaning.specs.Fields as fields
use Rattle.whole_meaning.specs.Fields.{lent_at, lent_byte, lent_frame, marked_frame}
use Rattle.whole_meaning.specs.Reading.{done, hindrance}
use Rattle.whole_meaning.specs.Threads.{ops}
use Rattle.step_laws.specs.Reads.{flags_read}
use Rattle.cause_laws.specs.Instructions.{is_nop, operand_of, read_operand, uses_loaded}
use Rattle.cause_laws.specs.Laws.{IsDone}
use Rattle.cause_laws.specs.Operands as operands
use Rattle.cause_laws.specs.Operands.{first_mark, offset_of, operand_address}
use Rattle.cause_laws.specs.Steps.{accesses_of, first_loaded, operand_words, used_flags, words_of}
use Rattle.cause_laws.proofs.Addresses.{address-says, given}
use Rattle.cause_laws.proofs.Covered.{added-field, placed-field, supplied-field}
use Rattle.cause_laws.proofs.Fields.{read-is}
use Rattle.cause_laws.proofs.Generic.{adds-none, disp-there, is-there, lacks-immediate, next-base, next-operand}
use Rattle.cause_laws.proofs.Generic.{no-field, no-immediate, no-number, no-operand, no-read, only-offset}
use Rattle.cause_laws.proofs.Generic.{placed-operand, summed-step}
use Rattle.cause_laws.proofs.Lent.{lent-tells}
use Rattle.cause_laws.proofs.Picks.{pick}
use Rattle.cause_laws.proofs.Touches.{address-same, same-by}
use Rattle.cause_laws.proofs.Uses.{NotShut, Tells}
use Rattle.cause_laws.proofs.Words.{none-tells, some-tells}

-- ** a memory where no byte is closed

both-open : {A C D : Type 0} (f : A → C → D) (a : Result A Refusal) (c : Result C Refusal) → NotShut a → NotShut c
    → NotShut (both_reached f a c)
both-open f (Ok a) (Ok c) g h = tt
both-open f (Ok a) (Err Refused) g h = tt
both-open f (Ok a) (Err Shut) g h = h
both-open f (Err Shut) c g h = absurd g
both-open f (Err Refused) c g h = tt

reached-open : {A C : Type 0} (f : A → C) (r : Result A Refusal) → NotShut r → NotShut (reached f r)
reached-open f (Ok a) g = tt
reached-open f (Err Refused) g = tt
reached-open f (Err Shut) g = g

module _ {M : Type 0} (acc : Accesses M Byte) (m : M) (open_byte : (place : ℕ) → NotShut (acc.byte m place))
    (open_write : (place : ℕ) → NotShut (acc.writes m place)) where
  bytes-open : (size place : ℕ) → NotShut (bytes_at acc m place size)
  bytes-open zero place = tt
  bytes-open (suc size) place = both-open ◌∷◌ _ _ (open_byte place) (bytes-open size (next_place place))

  writes-open : (size place : ℕ) → NotShut (all_write acc m place size)
  writes-open zero place = tt
  writes-open (suc size) place = both-open (λ a b. tt) _ _ (open_write place) (writes-open size (next_place place))

  pub load-open : (place size : ℕ) → NotShut (load_of ops acc m place size)
  unfolding load_of
  load-open place size = reached-open _ _ (bytes-open size place)

  pub store-open : (place size : ℕ) (word : Word) → NotShut (store_of ops acc m place size word)
  unfolding store_of
  store-open place size word = reached-open _ _ (writes-open size place)

  lent-open : (number place : ℕ) → NotShut ((lent_at ops acc number).byte m place)
  lent-open number place =
      (elim (nat_lt place 8) as
      (λ b. NotShut (if b then Ok (ops.byte_of (ops.word number) place) else acc.byte m place)) [
        | true ↦ tt
        | false ↦ open_byte place
      ])

-- what reads its operand uses no flag
no-flags : (op : Operation) (x : Memory) (flags : _) → read_operand op ≡ Some x → flags_read {F = Flag} op flags ≡ []
unfolding read_operand flags_read
no-flags (Move width operands) x flags e = refl
no-flags (StoreByte to from) x flags e = refl
no-flags (ExtendByte width to from) x flags e = refl
no-flags (ExtendLong to from) x flags e = refl
no-flags (LoadAddress width to from) x flags e = refl
no-flags (Compute arithmetic width operands) x flags e = refl
no-flags (Test width operand right) x flags e = refl
no-flags (Multiply width to from) x flags e = refl
no-flags (ShiftBy shift width to count) x flags e = refl
no-flags (Push from) x flags e = refl
no-flags (Pop to) x flags e = refl
no-flags Leave x flags e = refl
no-flags (Call target) x flags e = refl
no-flags (Jump target) x flags e = refl
no-flags (JumpIf condition distance) x flags e = absurd cc
no-flags Return x flags e = refl
no-flags (Nop operand) x flags e = refl
no-flags Undefined x flags e = refl

module _ {M : Type 0} (acc : Accesses M Byte) (mark : ℕ → Mark) (state : State Word Flag) (memory : M) (it : Decoded)
    (free : hindrance ops mark state (fetch_of acc memory state.place) ≡ None)
    (read : decoded (fetch_of acc memory state.place) ≡ Some it)
    (open_byte : (place : ℕ) → NotShut (acc.byte memory place))
    (open_write : (place : ℕ) → NotShut (acc.writes memory place)) where
  abbrev bytes : List ℕ
  bytes = fetch_of acc memory state.place

  abbrev frame : Frame
  frame = marked_frame mark state.place it

  abbrev operation : Operation
  operation = it.instr.operation

  abbrev Told : Type 0
  Told = Tells state.place (done ops acc mark None (Some it) state memory)
      (pick (words_of acc mark state memory (Some it)) (used_flags acc mark state memory (Some it)))

  no-immediate-field : offset_of (first_mark mark state it it.imm) ≡ None → frame.immediate_field ≡ None
  no-immediate-field none = (no-immediate acc mark state memory it free read none).1 ∙ no-field state.place it.imm

  placed-told : (number : ℕ) → offset_of (first_mark mark state it it.disp) ≡ Some number → Told
  placed-told number is =
      let h = placed-operand mark state it (operand_of operation)
      (placed-field mark state bytes it free read number is) in
      let x = h.0 in let a = h.1.0 in
      let there : operand_of operation ≡ Some x = h.1.1.0 in
      let bare = only-offset (first_mark mark state it it.disp) number is in
      let none = lacks-immediate acc mark state memory it free read
      (λ to e. no-operand to x (sym (ap operand_of e) ∙ there)) in
      let at : address_of ops frame state x ≡ Ok a = is-there _ (operand_address mark state it x) a
      (same-by (operands.offset_field mark state it) _ _ _ (address-says mark state it x)) h.1.1.1 in
      rw (address-same acc state memory mark it it.disp, bare)
      (some-tells acc mark state memory it bare (no-immediate-field none) (load-open acc memory open_byte open_write)
      (store-open acc memory open_byte open_write) none number is x a there at)

  supplied-told : (number : ℕ) → offset_of (first_mark mark state it it.disp) ≡ None
      → operands.address_of (first_mark mark state it it.disp) ≡ Some number → Told
  unfolding marked_frame frame_of
  supplied-told number none is =
      let h = next-operand (read_operand operation) (supplied-field mark state bytes it free read number is) in
      let x = h.0 in
      let there : read_operand operation ≡ Some x = h.1.0 in
      let p = and_parts (operands.is_next x.base) (not x.from_thread_pointer) h.1.1 in
      let from : (fields.is_from_next x.base && not x.from_thread_pointer) ≡ true =
      next-base acc mark state memory it free read x.base x.from_thread_pointer h.1.1 in
      let disp = disp-there acc mark state memory it free read it.disp number is in
      let index : x.index ≡ None = next_has_no_index bytes it disp.0 x read disp.1
      (read-is operation ∙ there) (and_parts (fields.is_from_next x.base) (not x.from_thread_pointer) from).0 in
      let bare : frame.displacement_field ≡ None =
      (no-number it.instr.displacement _ _ (offset_of (first_mark mark state it it.disp)) _
      (given mark state it it.instr.displacement it.disp) none).0 in
      let at : address_of ops (lent_frame (Some number) frame) state x ≡ Ok 0 =
      lent-address ops frame state x number bare (omega arith) from index in
      let lacks = lacks-immediate acc mark state memory it free read
      (λ to e. no-read to x (sym (ap read_operand e) ∙ there)) in
      rw (address-same acc state memory mark it it.disp, is)
      (lent-tells acc (lent_at ops acc number) mark (lent_frame (Some number) frame) state memory it number
      (no-immediate-field lacks) is
      (load-open (lent_at ops acc number) memory (lent-open acc memory open_byte open_write number) open_write)
      (store-open (lent_at ops acc number) memory (lent-open acc memory open_byte open_write number) open_write) x at
      (lent-load ops acc (λ m place. false) memory number (λ k below. refl)) there none lacks p.0 index
      (no-flags operation x state.flags there))

  own-told : offset_of (first_mark mark state it it.disp) ≡ None
      → operands.address_of (first_mark mark state it it.disp) ≡ None
      → offset_of (first_mark mark state it it.imm) ≡ None → Told
  unfolding marked_frame frame_of
  own-told none bare lacks =
      let field : frame.displacement_field ≡ None =
      (no-number it.instr.displacement _ _ (offset_of (first_mark mark state it it.disp)) _
      (given mark state it it.instr.displacement it.disp) none).0 in
      rw (address-same acc state memory mark it it.disp, bare)
      (none-tells acc mark state memory it bare (no-immediate-field lacks) (load-open acc memory open_byte open_write)
      (store-open acc memory open_byte open_write) lacks none field)

  -- an offset field that is added: the step is done, and no word of it is a use
  abbrev cause_by : Operation → Option Cause
  cause_by op = pick (operand_words mark state it (is_nop op) (operand_of op)
      ++ (if uses_loaded op then first_loaded acc memory (accesses_of mark state it op) else []))
      (flags_read op state.flags)

  add-cause : (to : Register) → cause_by (Compute Add Quad (Immediate (InRegister to))) ≡ None
  unfolding operand_of uses_loaded accesses_of flags_read
  add-cause to = refl

  summed-is : (result : Result (After Word Flag M) Stop) (o a i : Option ℕ) (n : ℕ) → o ≡ None → a ≡ None → i ≡ Some n
      → IsDone acc mark state memory result it o a i → (x : After Word Flag M) × (result ≡ Ok x)
  summed-is result None None (Some k) n e f g h = (_, h.1.1.2)
  summed-is result None None None n e f g h = absurd cc
  summed-is result None (Some k) i n e f g h = absurd cc
  summed-is result (Some k) a i n e f g h = absurd cc

  summed-told : (number : ℕ) → offset_of (first_mark mark state it it.disp) ≡ None
      → operands.address_of (first_mark mark state it it.disp) ≡ None
      → offset_of (first_mark mark state it it.imm) ≡ Some number → Told
  summed-told number none bare is =
      let d = summed-is _ _ _ _ number none bare is
      (summed-step acc mark state memory it free read number none bare is) in
      let h = adds-none mark state it operation (added-field mark state bytes it free read number is) in
      let cause : cause_by operation ≡ None = ap cause_by h.1.1.0 ∙ add-cause h.0 in
      let done_is : done ops acc mark None (Some it) state memory ≡ Ok d.0 = d.1 in
      rw done_is (rw is cause)

  pub instruction-told : Told
  instruction-told = by_fields (offset_of (first_mark mark state it it.disp)) refl
      (operands.address_of (first_mark mark state it it.disp)) refl
      (offset_of (first_mark mark state it it.imm)) refl
    where
      by_fields : (o : Option ℕ) → offset_of (first_mark mark state it it.disp) ≡ o → (a : Option ℕ)
          → operands.address_of (first_mark mark state it it.disp) ≡ a
          → (i : Option ℕ) → offset_of (first_mark mark state it it.imm) ≡ i → Told
      by_fields (Some n) e a f i g = placed-told n e
      by_fields None e (Some n) f i g = supplied-told n e f
      by_fields None e None f (Some n) g = summed-told n e f g
      by_fields None e None f None g = own-told e f g

module _ {M : Type 0} (acc : Accesses M Byte) (mark : ℕ → Mark) (state : State Word Flag) (memory : M)
    (open_byte : (place : ℕ) → NotShut (acc.byte memory place))
    (open_write : (place : ℕ) → NotShut (acc.writes memory place)) where
  -- the law of a step that nothing hinders, over any memory
  pub step-told : hindrance ops mark state (fetch_of acc memory state.place) ≡ None → (o : Option Decoded)
      → decoded (fetch_of acc memory state.place) ≡ o
      → Tells state.place (done ops acc mark None o state memory)
      (pick (words_of acc mark state memory o) (used_flags acc mark state memory o))
  step-told free None read = refl
  step-told free (Some it) read = instruction-told acc mark state memory it free read open_byte open_write
