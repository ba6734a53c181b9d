-- A step that nothing hinders is the machine's step over marked values, with the operand that a field gives.
use Rattle.std.proofs.Common.{◌≡◌, ℕ, zero, suc, ◌+◌, ◌-◌, ◌%◌, ◌^◌, ◌<◌, Bool, true, false, ◌&&◌, Option, Some, None}
use Rattle.std.proofs.Common.{Result, Ok, Err, refl, sym, ap, ◌∙◌, arith}
use Rattle.std.specs.Prelude.{is_some, nat_lt, not, option_map}
use Rattle.std.proofs.lemmas.Bool.{and_parts, lt-ltb}
use Rattle.address_map.specs.Map.{owner_at}
use Rattle.amd64_words.specs.declared.register.Register.{Register}
use Rattle.amd64_subset.specs.declared.instr.Arithmetic.TheVariants.{Add}
use Rattle.amd64_subset.specs.declared.instr.Decoded.{Decoded}
use Rattle.amd64_subset.specs.declared.instr.Operation.{Operation}
use Rattle.amd64_subset.specs.declared.instr.Operation.TheVariants.{Compute}
use Rattle.amd64_subset.specs.declared.instr.Width.TheVariants.{Quad}
use Rattle.amd64_subset.specs.declared.operand.Base.{Base}
use Rattle.amd64_subset.specs.declared.operand.Memory.{Memory}
use Rattle.amd64_subset.specs.declared.operand.Operand.TheVariants.{Register as InRegister}
use Rattle.amd64_subset.specs.declared.operand.Operands.TheVariants.{Immediate}
use Rattle.amd64_subset.specs.Decoding.{decoded}
use Rattle.guest_arithmetic.specs.declared.cause.Cause.{Cause}
use Rattle.guest_arithmetic.specs.Flags.{with_changes}
use Rattle.guest_operands.specs.declared.frame.Frame.{Frame}
use Rattle.guest_operands.specs.declared.state.State.{State}
use Rattle.guest_operands.specs.Access.{Accesses, bytes_at, bytes_from, fetch_of, load_of, next_place, reached}
use Rattle.guest_operands.specs.Access.{store_of}
use Rattle.guest_operands.specs.Frame.{field_at, frame_of}
use Rattle.guest_operands.specs.Operand.{address_of, base_of, index_of, put}
use Rattle.guest_operands.specs.State.{register_of, with_word}
use Rattle.guest_operands.specs.Use.{left, plus}
use Rattle.guest_machine.specs.Step.{act, add_field, compute_number, compute_of, finished, step_of}
use Rattle.job_meaning.specs.declared.values.Byte.{Byte}
use Rattle.job_meaning.specs.declared.values.Flag.{Flag}
use Rattle.job_meaning.specs.declared.values.Flag.TheVariants.{Unsettled}
use Rattle.job_meaning.specs.declared.values.Word.{Word}
use Rattle.job_meaning.specs.declared.values.Word.TheVariants.{Number}
use Rattle.job_meaning.specs.Marked.{marked_operations, moved_in}
use Rattle.marked_code.proofs.Lent.{lent-address, lent-load}
use Rattle.marked_code.proofs.NextIndex.{next_has_no_index}
use Rattle.whole_meaning.specs.declared.marks.Mark.{Mark}
use Rattle.whole_meaning.specs.declared.marks.Mark.TheVariants.{Usual, Offset, Address, Inside}
use Rattle.whole_meaning.specs.Fields as fields
use Rattle.whole_meaning.specs.Fields.{address_at, lent_at, lent_frame, marked_frame, starts_offset}
use Rattle.whole_meaning.specs.Reading.{done, hindrance}
use Rattle.whole_meaning.specs.Threads.{ops}
use Rattle.cause_laws.specs.Instructions.{operand_of, read_operand}
use Rattle.cause_laws.specs.Laws.{IsDone, IsGeneric, absolute, bare_frame, displaced, with_number_at}
use Rattle.cause_laws.specs.Operands as operands
use Rattle.cause_laws.specs.Operands.{adds_to_base, block_of, first_mark, is_from_next, is_next_operand, is_placed}
use Rattle.cause_laws.specs.Operands.{offset_of, operand_address}
use Rattle.cause_laws.proofs.Addresses.{AddsField, Given, address-says, block-adds, given}
use Rattle.cause_laws.proofs.Covered.{added-field, placed-field, supplied-field}
use Rattle.cause_laws.proofs.Fields.{base-next, read-is}
use Rattle.cause_laws.proofs.Moved.{act-moved}
use Rattle.cause_laws.proofs.Supplied.{act-supplied}
use Rattle.cause_laws.proofs.Touches.{Same, address-same, same-by}

-- ** fields that are not there

pub no-field : (here : ℕ) (o : Option ℕ) → field_at (λ place. false) here o ≡ None
no-field here None = refl
no-field here (Some k) = refl

-- without an offset field the number is what was read
pub no-number : (read : ℕ) (fld : Option ℕ) (number : ℕ) (o : Option ℕ) (whose : ℕ) → Given read fld number o whose
    → o ≡ None
    → (fld ≡ None) × (number ≡ read)
no-number read None number None whose h e = (refl, h)
no-number read None number (Some n) whose h e = absurd h
no-number read (Some at) number None whose h e = absurd h
no-number read (Some at) number (Some n) whose h e = absurd cc

-- a mark is not of both kinds
pub only-offset : (μ : Mark) (n : ℕ) → offset_of μ ≡ Some n → operands.address_of μ ≡ None
only-offset Usual n e = absurd cc
only-offset (Offset number byte) n e = refl
only-offset (Address number addend byte) n e = absurd cc
only-offset Inside n e = absurd cc

-- ** operands that are there

pub placed-operand : (mark : ℕ → Mark) (state : State Word Flag) (it : Decoded) (o : Option Memory)
    → is_placed mark state it o ≡ true
    → (memory : Memory) × ((address : ℕ) × ((o ≡ Some memory) × (operand_address mark state it memory ≡ Some address)))
placed-operand mark state it None e = absurd cc
placed-operand mark state it (Some memory) e = there (operand_address mark state it memory) refl e
  where
    there : (a : Option ℕ) → operand_address mark state it memory ≡ a → is_some a ≡ true
        → (x : Memory) × ((address : ℕ) × ((Some memory ≡ Some x) × (operand_address mark state it x ≡ Some address)))
    there None is e = absurd cc
    there (Some a) is e = (memory, (a, (refl, is)))

pub next-operand : (o : Option Memory) → is_next_operand o ≡ true
    → (memory : Memory) × ((o ≡ Some memory) × (is_from_next memory ≡ true))
next-operand None e = absurd cc
next-operand (Some memory) e = (memory, (refl, e))

pub adds-none : (mark : ℕ → Mark) (state : State Word Flag) (it : Decoded) (op : Operation)
    → adds_to_base mark state it op ≡ true
    → (to : Register) × ((start : ℕ) × ((op ≡ Compute Add Quad (Immediate (InRegister to)))
    × (block_of (operands.owner mark state it it.imm) (operands.value_of mark state it to) ≡ Some start)))
adds-none mark state it (Compute Add Quad (Immediate (InRegister to))) e =
    there (block_of (operands.owner mark state it it.imm) (operands.value_of mark state it to)) refl e
  where
    there : (o : Option ℕ) → block_of (operands.owner mark state it it.imm) (operands.value_of mark state it to) ≡ o
        → is_some o ≡ true
        → (r : Register) × ((start : ℕ)
        × ((◌≡◌ {A = Operation} (Compute Add Quad (Immediate (InRegister to)))
        (Compute Add Quad (Immediate (InRegister r))))
        × (block_of (operands.owner mark state it it.imm) (operands.value_of mark state it r) ≡ Some start)))
    there None is e = absurd cc
    there (Some start) is e = (to, (start, (refl, is)))
adds-none mark state it op e = absurd cc

pub no-operand : (to : Register) (memory : Memory)
    → operand_of (Compute Add Quad (Immediate (InRegister to))) ≡ Some memory → ⊥
unfolding operand_of
no-operand to memory e = absurd cc

pub no-read : (to : Register) (memory : Memory)
    → read_operand (Compute Add Quad (Immediate (InRegister to))) ≡ Some memory → ⊥
unfolding read_operand
no-read to memory e = absurd cc

pub is-there : (r : Result ℕ Cause) (o : Option ℕ) (a : ℕ) → Same r o → o ≡ Some a → r ≡ Ok a
is-there (Ok b) o a h e = let same : Some b ≡ Some a = sym h ∙ e in let is : b ≡ a = cc in ap (λ (n : ℕ). Ok n) is
is-there (Err why) o a h e = let no : None ≡ Some a = sym h ∙ e in absurd cc

low-address : (mark : ℕ → Mark) (state : State Word Flag) (it : Decoded) (memory : Memory) (a : ℕ)
    → operand_address mark state it memory ≡ Some a → a < 2 ^ 64
unfolding operand_address
low-address mark state it memory a e =
    small (operands.sum_of (operands.base_of mark state it (operands.offset_field mark state it) memory.base)
    (operands.index_of mark state it memory.index)) e
  where
    small : (o : Option ℕ)
        → option_map (λ number. (number + operands.displacement mark state it (operands.offset_field mark state it)
        + operands.pointer mark state it memory) % 2 ^ 64) o ≡ Some a → a < 2 ^ 64
    small None e = absurd cc
    small (Some n) e = let is : (n + operands.displacement mark state it (operands.offset_field mark state it)
        + operands.pointer mark state it memory) % 2 ^ 64 ≡ a = cc in omega (arith, is)

-- the operand at the address that the displacement is
absolute-is : (state : State Word Flag) (it : Decoded) (a : ℕ) → a < 2 ^ 64
    → address_of ops (displaced a (bare_frame state.place it)) state absolute ≡ Ok a
unfolding address_of base_of index_of frame_of
absolute-is state it a low =
    let same : plus (plus a 0) 0 ≡ a = omega (arith, low) in
    rw (no-field state.place it.disp, same) refl

-- ** a word wherever it lies

module _ {M : Type 0} (acc : Accesses M Byte) (number start : ℕ) (m : M) (low : start < 2 ^ 64) where
  bytes-there : (size k place : ℕ) → k + size ≡ 8 → place ≡ (start + k) % 2 ^ 64
      → bytes_at (with_number_at acc number start) m place size ≡ Ok (bytes_from ops (ops.word number) k size)
  bytes-there zero k place fits is = refl
  bytes-there (suc size) k place fits is =
      let within : plus place (2 ^ 64 - start) ≡ k = omega (arith, is, fits, low) in
      let small : nat_lt k 8 ≡ true = lt-ltb k 8 (omega (arith, fits)) in
      let behind : next_place place ≡ (start + (k + 1)) % 2 ^ 64 = omega (arith, is) in
      rw (within, small, bytes-there size (k + 1) (next_place place) (omega (arith, fits)) behind) refl

  pub number-load : load_of ops (with_number_at acc number start) m start 8
      ≡ Ok (ops.joined (bytes_from ops (ops.word number) 0 8))
  unfolding load_of
  number-load = ap (reached ops.joined) (bytes-there 8 0 start refl (omega (arith, low)))

  pub lent-same : load_of ops (lent_at ops acc number) m 0 8 ≡ load_of ops (with_number_at acc number start) m start 8
  lent-same = lent-load ops acc (λ m place. false) m number (λ k below. refl) ∙ sym number-load

  stores-same : (place : ℕ) (word : Word)
      → store_of ops (lent_at ops acc number) m place 8 word
      ≡ store_of ops (with_number_at acc number start) m place 8 word
  unfolding store_of
  stores-same place word = refl

-- ** a sum

module _ {M : Type 0} (acc : Accesses M Byte) (state : State Word Flag) (memory : M) where
  abbrev with_sum : Register → ℕ → ℕ → State Word Flag
  with_sum to number next = record (with_word state to (Number (number % 2 ^ 64))) {
    flags = record { zero = Unsettled; sign = Unsettled; carry = Unsettled; overflow = Unsettled };
    place = next;
  }

  add-is : (f : Frame) (to : Register) (at a number sum : ℕ) → f.immediate_field ≡ Some at → f.immediate ≡ number
      → moved_in owner_at (register_of state.registers to) number at ≡ Ok a → a % 2 ^ 64 ≡ sum % 2 ^ 64
      → act ops acc f (Compute Add Quad (Immediate (InRegister to))) state memory
      ≡ Ok (left (with_sum to sum f.next) memory)
  unfolding act compute_of compute_number add_field marked_operations finished put with_changes
  add-is f to at a number sum fld num there same = rw (fld, num, there, same) refl

-- ** the step

module _ {M : Type 0} (acc : Accesses M Byte) (mark : ℕ → Mark) (state : State Word Flag) (memory : M) (it : Decoded)
    (free : hindrance ops mark state (fetch_of acc memory state.place) ≡ None)
    (read : decoded (fetch_of acc memory state.place) ≡ Some it) where
  abbrev frame : Frame
  frame = marked_frame mark state.place it

  abbrev operation : Operation
  operation = it.instr.operation

  -- the immediate of an instruction whose operand is in memory is no field
  pub no-immediate : offset_of (first_mark mark state it it.imm) ≡ None
      → (frame.immediate ≡ it.instr.immediate) × (frame.immediate_field ≡ field_at (λ place. false) state.place it.imm)
  unfolding marked_frame frame_of
  no-immediate none =
      let h = no-number it.instr.immediate _ _ (offset_of (first_mark mark state it it.imm)) _
      (given mark state it it.instr.immediate it.imm) none in
      (h.1, h.0 ∙ sym (no-field state.place it.imm))

  pub lacks-immediate : ((to : Register) → operation ≡ Compute Add Quad (Immediate (InRegister to)) → ⊥)
      → offset_of (first_mark mark state it it.imm) ≡ None
  lacks-immediate never = by_field (offset_of (first_mark mark state it it.imm)) refl
    where
      by_field : (o : Option ℕ) → offset_of (first_mark mark state it it.imm) ≡ o
          → offset_of (first_mark mark state it it.imm) ≡ None
      by_field None is = is
      by_field (Some n) is =
          let h = adds-none mark state it operation
          (added-field mark state (fetch_of acc memory state.place) it free read n is) in
          absurd (never h.0 h.1.1.0)

  abbrev Done : Type 0
  Done = IsDone acc mark state memory (done ops acc mark None (Some it) state memory) it
      (offset_of (first_mark mark state it it.disp)) (operands.address_of (first_mark mark state it it.disp))
      (offset_of (first_mark mark state it it.imm))

  -- ** an offset field as the displacement

  placed-step : (number : ℕ) → offset_of (first_mark mark state it it.disp) ≡ Some number → Done
  unfolding marked_frame frame_of
  placed-step number is =
      let h = placed-operand mark state it (operand_of operation)
      (placed-field mark state (fetch_of acc memory state.place) it free read number is) in
      let x = h.0 in let a = h.1.0 in
      let there : operand_of operation ≡ Some x = h.1.1.0 in
      let bare : operands.address_of (first_mark mark state it it.disp) ≡ None =
      only-offset (first_mark mark state it it.disp) number is in
      let none : offset_of (first_mark mark state it it.imm) ≡ None =
      lacks-immediate (λ to e. no-operand to x (sym (ap operand_of e) ∙ there)) in
      let imm = no-immediate none in
      let at : address_of ops frame state x ≡ Ok a = is-there _ (operand_address mark state it x) a
      (same-by (operands.offset_field mark state it) _ _ _ (address-says mark state it x)) h.1.1.1 in
      let low : a < 2 ^ 64 = low-address mark state it x a h.1.1.1 in
      rw (is, address-same acc state memory mark it it.disp, bare) (
        x,
        (
          a,
          (
            there,
            h.1.1.1,
            act-moved ops acc frame (displaced a (bare_frame state.place it)) state memory x a at
                (absolute-is state it a low)
                refl imm.0 imm.1 operation (no-field state.place it.disp) there,
          ),
        ),
      )

  -- ** an address field

  pub disp-there : (o : Option ℕ) (number : ℕ) → operands.address_of (first_mark mark state it o) ≡ Some number
      → (k : ℕ) × (o ≡ Some k)
  disp-there None number e = absurd cc
  disp-there (Some k) number e = (k, refl)

  pub next-base : (b : Base) (t : Bool) → (operands.is_next b && not t) ≡ true → (fields.is_from_next b && not t) ≡ true
  next-base b t e = ap (λ (x : Bool). x && not t) (base-next b) ∙ e

  supplied-step : (number : ℕ) → offset_of (first_mark mark state it it.disp) ≡ None
      → operands.address_of (first_mark mark state it it.disp) ≡ Some number → Done
  unfolding marked_frame frame_of
  supplied-step number none is =
      let h = next-operand (read_operand operation)
      (supplied-field mark state (fetch_of acc memory state.place) it free read number is) in
      let x = h.0 in
      let there : read_operand operation ≡ Some x = h.1.0 in
      let from : (fields.is_from_next x.base && not x.from_thread_pointer) ≡ true =
      next-base x.base x.from_thread_pointer h.1.1 in
      let disp = disp-there it.disp number is in
      let index : x.index ≡ None = next_has_no_index (fetch_of acc memory state.place) it disp.0 x read disp.1
      (read-is operation ∙ there) (and_parts (fields.is_from_next x.base) (not x.from_thread_pointer) from).0 in
      let bare : frame.displacement_field ≡ None =
      (no-number it.instr.displacement _ _ (offset_of (first_mark mark state it it.disp)) _
      (given mark state it it.instr.displacement it.disp) none).0 in
      let at : address_of ops (lent_frame (Some number) frame) state x ≡ Ok 0 =
      lent-address ops frame state x number bare (omega arith) from index in
      let lacks : offset_of (first_mark mark state it it.imm) ≡ None =
      lacks-immediate (λ to e. no-read to x (sym (ap read_operand e) ∙ there)) in
      let imm = no-immediate lacks in
      rw (none, address-same acc state memory mark it it.disp, is) (λ start low.
      act-supplied ops (lent_at ops acc number) (with_number_at acc number start) (lent_frame (Some number) frame)
      (displaced start (bare_frame state.place it)) state memory x 0 start at (absolute-is state it start low)
      (lent-same acc number start memory low) (stores-same acc number start memory low)
      refl imm.0 imm.1 operation there)

  -- ** an offset field as the immediate

  summed-of : (fld : Option ℕ) (n : ℕ) (o : Option ℕ) (whose : ℕ) → Given it.instr.immediate fld n o whose
      → (number : ℕ)
      → o ≡ Some number → (at : ℕ) × ((fld ≡ Some at) × ((n ≡ number) × (owner_at at ≡ whose)))
  summed-of None n None whose h number e = absurd cc
  summed-of None n (Some x) whose h number e = absurd h
  summed-of (Some at) n None whose h number e = absurd h
  summed-of (Some at) n (Some x) whose h number e = let is : x ≡ number = cc in (at, (refl, (h.0 ∙ is, h.1)))

  moved-is : (r : Result ℕ Cause) (o : Option ℕ) (number start : ℕ) → AddsField number r o → o ≡ Some start
      → (a : ℕ) × ((r ≡ Ok a) × (a % 2 ^ 64 ≡ (start + number) % 2 ^ 64))
  moved-is (Ok a) o number start h e =
      let there : o ≡ Some h.0 = h.1.0 in
      let same : Some h.0 ≡ Some start = sym there ∙ e in
      let is : h.0 ≡ start = cc in
      (a, (refl, omega (arith, h.1.1, is)))
  moved-is (Err why) o number start h e = let no : None ≡ Some start = sym h ∙ e in absurd cc

  pub summed-step : (number : ℕ) → offset_of (first_mark mark state it it.disp) ≡ None
      → operands.address_of (first_mark mark state it it.disp) ≡ None
      → offset_of (first_mark mark state it it.imm) ≡ Some number → Done
  unfolding marked_frame frame_of
  summed-step number none bare is =
      let h = adds-none mark state it operation
      (added-field mark state (fetch_of acc memory state.place) it free read number is) in
      let to = h.0 in let start = h.1.0 in
      let f = summed-of frame.immediate_field frame.immediate _ _
      (given mark state it it.instr.immediate it.imm) number is in
      let mine : AddsField number (moved_in owner_at (register_of state.registers to) number f.0)
      (block_of (owner_at f.0) (register_of state.registers to)) =
      block-adds (register_of state.registers to) number f.0 in
      let whose : owner_at f.0 ≡ operands.owner mark state it it.imm = f.1.1.1 in
      let s = moved-is _ _ number start mine (ap (λ (n : ℕ). block_of n (register_of state.registers to)) whose
      ∙ h.1.1.1) in
      let there : moved_in owner_at (register_of state.registers to) number f.0 ≡ Ok s.0 = s.1.0 in
      let op : operation ≡ Compute Add Quad (Immediate (InRegister to)) = h.1.1.0 in
      let fld : frame.immediate_field ≡ Some f.0 = f.1.0 in
      let num : frame.immediate ≡ number = f.1.1.0 in
      rw (none, address-same acc state memory mark it it.disp, bare, is) (
        to,
        (
          start,
          (
            op,
            h.1.1.1,
            ap (λ (o : Operation). act ops acc frame o state memory) op
                ∙ add-is acc state memory frame to f.0 s.0 number (start + number) fld num there s.1.1,
          ),
        ),
      )

  -- ** no field

  own-step : offset_of (first_mark mark state it it.disp) ≡ None
      → operands.address_of (first_mark mark state it it.disp) ≡ None
      → offset_of (first_mark mark state it it.imm) ≡ None → Done
  unfolding marked_frame frame_of step_of
  own-step none bare lacks =
      let d = no-number it.instr.displacement _ _ _ _ (given mark state it it.instr.displacement it.disp) none in
      let i = no-number it.instr.immediate _ _ _ _ (given mark state it it.instr.immediate it.imm) lacks in
      rw (none, address-same acc state memory mark it it.disp, bare, lacks, read)
      (same_frames frame.displacement frame.displacement_field frame.immediate frame.immediate_field
      d.1 (d.0 ∙ sym (no-field state.place it.disp)) i.1 (i.0 ∙ sym (no-field state.place it.imm)))
    where
      same_frames : (d : ℕ) (df : Option ℕ) (i : ℕ) (f : Option ℕ) → d ≡ it.instr.displacement
          → df ≡ field_at (λ place. false) state.place it.disp → i ≡ it.instr.immediate
          → f ≡ field_at (λ place. false) state.place it.imm
          → act ops acc (record {
            next = plus state.place it.len;
            displacement = d;
            immediate = i;
            displacement_field = df;
            immediate_field = f;
          }) operation state memory ≡ act ops acc (bare_frame state.place it) operation state memory
      same_frames d df i f a b c e = rw (a, b, c, e) refl

  pub instruction-step : Done
  instruction-step = by_fields (offset_of (first_mark mark state it it.disp)) refl
      (operands.address_of (first_mark mark state it it.disp)) refl
      (offset_of (first_mark mark state it it.imm)) refl
    where
      by_fields : (o : Option ℕ) → offset_of (first_mark mark state it it.disp) ≡ o → (a : Option ℕ)
          → operands.address_of (first_mark mark state it it.disp) ≡ a
          → (i : Option ℕ) → offset_of (first_mark mark state it it.imm) ≡ i → Done
      by_fields (Some n) e a f i g = placed-step n e
      by_fields None e (Some n) f i g = supplied-step n e f
      by_fields None e None f (Some n) g = summed-step n e f g
      by_fields None e None f None g = own-step e f g

module _ {M : Type 0} (acc : Accesses M Byte) (mark : ℕ → Mark) (state : State Word Flag) (memory : M) where
  -- the law of a step that nothing hinders, over any memory
  pub generic-step : hindrance ops mark state (fetch_of acc memory state.place) ≡ None
      → (o : Option Decoded) → decoded (fetch_of acc memory state.place) ≡ o
      → IsGeneric acc mark state memory (done ops acc mark None o state memory) o
  unfolding step_of
  generic-step free None read = rw read refl
  generic-step free (Some it) read = instruction-step acc mark state memory it free read
