-- The address of an operand over marked values is the sum that the table has, and its cause that of the words in it.
use Rattle.std.proofs.Common.{◌≡◌, ℕ, ◌+◌, ◌*◌, ◌%◌, ◌^◌, ◌==◌, true, false, List, [], ◌∷◌, ◌++◌, Option, Some, None}
use Rattle.std.proofs.Common.{Result, Ok, Err, refl, sym, subst, ◌∙◌, arith}
use Rattle.std.specs.Prelude.{if◌then◌else◌, option_map}
use Rattle.address_map.specs.Map.{owner_at}
use Rattle.amd64_subset.specs.declared.instr.Decoded.{Decoded}
use Rattle.amd64_subset.specs.declared.operand.Base.{Base}
use Rattle.amd64_subset.specs.declared.operand.Base.TheVariants.{Absolute, NextInstruction, Register as OfRegister}
use Rattle.amd64_subset.specs.declared.operand.Index.{Index}
use Rattle.amd64_subset.specs.declared.operand.Memory.{Memory}
use Rattle.amd64_subset.specs.declared.operand.Scale.{Scale}
use Rattle.amd64_subset.specs.declared.operand.Scale.TheVariants.{One, Two, Four, Eight}
use Rattle.guest_arithmetic.specs.declared.cause.Cause.{Cause}
use Rattle.guest_arithmetic.specs.declared.cause.Cause.TheVariants as cause
use Rattle.guest_arithmetic.specs.Cause.{both, used}
use Rattle.guest_operands.specs.declared.state.State.{State}
use Rattle.guest_operands.specs.Frame.{field_at, frame_of}
use Rattle.guest_operands.specs.Operand.{address_of, base_of, charged, factor_of, index_of}
use Rattle.guest_operands.specs.State.{register_of}
use Rattle.guest_operands.specs.Use.{plus}
use Rattle.job_meaning.specs.declared.values.Flag.{Flag}
use Rattle.job_meaning.specs.declared.values.Token.TheVariants.{Base as BaseOf, Descriptor}
use Rattle.job_meaning.specs.declared.values.Word.{Word}
use Rattle.job_meaning.specs.declared.values.Word.TheVariants.{Number, Undefined, Marked}
use Rattle.job_meaning.specs.Marked.{marked_operations, moved_in, used_number}
use Rattle.whole_meaning.specs.declared.marks.Mark.{Mark}
use Rattle.whole_meaning.specs.declared.marks.Mark.TheVariants.{Usual, Offset, Address, Inside}
use Rattle.whole_meaning.specs.Fields.{field_number, marked_frame, number_in as field_number_in, starts_offset}
use Rattle.whole_meaning.specs.Threads.{ops}
use Rattle.cause_laws.specs.Operands as operands
use Rattle.cause_laws.specs.Operands.{block_of, factor, first_mark, number_in, offset_of, operand_address, sum_of}
use Rattle.cause_laws.specs.Operands.{value_of, words_by}
use Rattle.cause_laws.proofs.Picks.{earlier, word_cause, pick-append}

-- a use of a number, the number that the table has, and its cause
abbrev pub Says : Result ℕ Cause → Option ℕ → Option Cause → Type 0
Says (Ok a) o c = (o ≡ Some a) × (c ≡ None)
Says (Err why) o c = (o ≡ None) × (c ≡ Some why)

-- the same with something added, modulo 2^64
abbrev Adds : ℕ → Result ℕ Cause → Option ℕ → Option Cause → Type 0
Adds more (Ok a) o c = (n : ℕ) × ((o ≡ Some n) × ((a % 2 ^ 64 ≡ (n + more) % 2 ^ 64) × (c ≡ None)))
Adds more (Err why) o c = (o ≡ None) × (c ≡ Some why)

word-adds : (w : Word) (more : ℕ) → Adds more (used (plus more) (used_number w)) (number_in w) (word_cause (w ∷ []))
word-adds (Number n) more = (n, (refl, (omega arith, refl)))
word-adds Undefined more = (refl, refl)
word-adds (Marked (BaseOf block)) more = (refl, refl)
word-adds (Marked (Descriptor instance symbol)) more = (refl, refl)

scaled : (n : ℕ) (scale : Scale) → (n * factor_of scale % 2 ^ 64) % 2 ^ 64 ≡ (n * factor scale + 0) % 2 ^ 64
scaled n One = omega arith
scaled n Two = omega arith
scaled n Four = omega arith
scaled n Eight = omega arith

module _ (mark : ℕ → Mark) (state : State Word Flag) (it : Decoded) where
  index-adds : (i : Option Index)
      → Adds 0 (index_of ops state.registers i) (operands.index_of mark state it i)
      (word_cause (operands.index_words mark state it i))
  unfolding index_of marked_operations
  index-adds None = (0, (refl, (refl, refl)))
  index-adds (Some index) = with_word (register_of state.registers index.register) index.scale
    where
      with_word : (w : Word) (scale : Scale)
          → Adds 0 (used (λ number. number * factor_of scale % 2 ^ 64) (used_number w))
          (option_map (λ number. number * factor scale) (number_in w)) (word_cause (w ∷ []))
      with_word (Number n) scale = (n * factor scale, (refl, (scaled n scale, refl)))
      with_word Undefined scale = (refl, refl)
      with_word (Marked (BaseOf block)) scale = (refl, refl)
      with_word (Marked (Descriptor instance symbol)) scale = (refl, refl)

  base-adds : (displacement : ℕ) (b : Base)
      → Adds displacement (base_of ops None displacement (plus state.place it.len) state.registers b)
      (operands.base_of mark state it None b) (word_cause (operands.base_words mark state it b))
  unfolding base_of marked_operations
  base-adds displacement Absolute = (0, (refl, (omega arith, refl)))
  base-adds displacement NextInstruction = (plus state.place it.len, (refl, (omega arith, refl)))
  base-adds displacement (OfRegister register) = word-adds (register_of state.registers register) displacement

sums : (more pointer : ℕ) (r i : Result ℕ Cause) (b j : Option ℕ) (c c' : Option Cause) → Adds more r b c
    → Adds 0 i j c'
    → Says (used (λ parts. plus (plus parts.0 parts.1) pointer) (both r i))
    (option_map (λ number. (number + more + pointer) % 2 ^ 64) (sum_of b j)) (earlier c c')
sums more pointer (Ok a) (Ok x) b j c c' h k = let there : b ≡ Some h.0 = h.1.0 in let there' : j ≡ Some k.0 = k.1.0 in
    let same : (h.0 + k.0 + more + pointer) % 2 ^ 64 ≡ plus (plus a x) pointer = omega (arith, h.1.1.0, k.1.1.0) in
    rw (there, there', h.1.1.1, k.1.1.1, same) (refl, refl)
sums more pointer (Ok a) (Err why) b j c c' h k = let there : b
    ≡ Some h.0 = h.1.0 in rw (there, k.0, h.1.1.1, k.1) (refl, refl)
sums more pointer (Err why) (Ok x) b j c c' h k = rw (h.0, h.1, k.1.1.1) (refl, refl)
sums more pointer (Err why) (Err why') b j c c' h k = rw (h.0, h.1, k.1) (refl, refl)

-- with an offset field, any cause is a misuse of the field
abbrev pub SaysField : Result ℕ Cause → Option ℕ → Type 0
SaysField (Ok a) o = o ≡ Some a
SaysField (Err why) o = (o ≡ None) × (why ≡ cause.Field)

-- a base that an offset field is added to
abbrev pub AddsField : ℕ → Result ℕ Cause → Option ℕ → Type 0
AddsField more (Ok a) o = (n : ℕ) × ((o ≡ Some n) × (a % 2 ^ 64 ≡ (n + more) % 2 ^ 64))
AddsField more (Err why) o = o ≡ None

none-behind : (b : Option ℕ) → sum_of b None ≡ None
none-behind None = refl
none-behind (Some a) = refl

field-sums : (more pointer at : ℕ) (r i : Result ℕ Cause) (b j : Option ℕ) (c' : Option Cause) → AddsField more r b
    → Adds 0 i j c'
    → SaysField (used (λ parts. plus (plus parts.0 parts.1) pointer) (charged (Some at) (both r i)))
    (option_map (λ number. (number + more + pointer) % 2 ^ 64) (sum_of b j))
field-sums more pointer at (Ok a) (Ok x) b j c' h k = let there : b ≡ Some h.0 = h.1.0 in let there' : j
    ≡ Some k.0 = k.1.0 in
    let same : (h.0 + k.0 + more + pointer) % 2 ^ 64 ≡ plus (plus a x) pointer = omega (arith, h.1.1, k.1.1.0) in
    rw (there, there', same) refl
field-sums more pointer at (Ok a) (Err why) b j c' h k = rw (k.0, none-behind b) (refl, refl)
field-sums more pointer at (Err why) (Ok x) b j c' h k = rw h (refl, refl)
field-sums more pointer at (Err why) (Err why') b j c' h k = rw h (refl, refl)

pub block-adds : (w : Word) (number place : ℕ)
    → AddsField number (moved_in owner_at w number place) (block_of (owner_at place) w)
block-adds (Number n) number place = refl
block-adds Undefined number place = refl
block-adds (Marked (Descriptor instance symbol)) number place = refl
block-adds (Marked (BaseOf block)) number place =
    (elim (block.instance == owner_at place) as (λ b. AddsField number
    (if b then Ok ((block.start + number) % 2 ^ 64) else Err cause.Field) (if b then Some block.start else None)) [
      | true ↦ (block.start, (refl, omega arith))
      | false ↦ refl
    ])

-- ** a number in an instruction: where its field is, what it is, the number of the field, and whose code it is

abbrev pub Given : ℕ → Option ℕ → ℕ → Option ℕ → ℕ → Type 0
Given read None number None whose = number ≡ read
Given read None number (Some n) whose = ⊥
Given read (Some at) number None whose = ⊥
Given read (Some at) number (Some n) whose = (number ≡ n) × (owner_at at ≡ whose)

module _ (mark : ℕ → Mark) (state : State Word Flag) (it : Decoded) where
  pub given : (read : ℕ) (o : Option ℕ) → Given read (field_at (λ place. starts_offset (mark place)) state.place o)
      (field_number_in mark state.place o read) (offset_of (first_mark mark state it o))
      (operands.owner mark state it o)
  given read None = refl
  given read (Some k) = by_mark (mark (plus state.place k))
    where
      by_mark : (μ : Mark)
          → Given read (if starts_offset μ then Some (plus state.place k) else None) (field_number μ read)
          (offset_of μ) (owner_at (plus state.place k))
      by_mark Usual = refl
      by_mark (Offset number byte) =
          (elim (byte == 0) as (λ b. Given read (if b then Some (plus state.place k) else None)
          (if b then number else read) (if b then Some number else None) (owner_at (plus state.place k))) [
            | true ↦ (refl, refl)
            | false ↦ refl
          ])
      by_mark (Address number addend byte) = refl
      by_mark Inside = refl

-- ** the whole address

-- with an offset field or without one
abbrev pub SaysBy : Option ℕ → Result ℕ Cause → Option ℕ → List Word → Type 0
SaysBy None r o ws = Says r o (word_cause ws)
SaysBy (Some number) r o ws = SaysField r o

module _ (mark : ℕ → Mark) (state : State Word Flag) (it : Decoded) where
  field-base : (at number whose : ℕ) → owner_at at ≡ whose → operands.owner mark state it it.disp ≡ whose → (b : Base)
      → AddsField number (base_of ops (Some at) number (plus state.place it.len) state.registers b)
      (operands.base_of mark state it (Some number) b)
  unfolding base_of marked_operations
  field-base at number whose e g Absolute = refl
  field-base at number whose e g NextInstruction = refl
  field-base at number whose e g (OfRegister register) =
      let same : owner_at at ≡ operands.owner mark state it it.disp = e ∙ sym g in
      subst (λ (n : ℕ). AddsField number (moved_in owner_at (register_of state.registers register) number at)
      (block_of n (register_of state.registers register))) same
      (block-adds (register_of state.registers register) number at)

  by-field : (fld : Option ℕ) (number : ℕ) (o : Option ℕ) (whose : ℕ) → Given it.instr.displacement fld number o whose
      → operands.owner mark state it it.disp ≡ whose → (pointer : ℕ) (b : Base) (i : Option Index)
      → SaysBy o (used (λ parts. plus (plus parts.0 parts.1) pointer)
      (charged fld (both (base_of ops fld number (plus state.place it.len) state.registers b)
      (index_of ops state.registers i))))
      (option_map (λ n. (n + operands.displacement mark state it o + pointer) % 2 ^ 64)
      (sum_of (operands.base_of mark state it o b) (operands.index_of mark state it i)))
      (operands.base_words mark state it b ++ operands.index_words mark state it i)
  by-field None number None whose is e pointer b i =
      rw (is, pick-append (operands.base_words mark state it b) (operands.index_words mark state it i))
      (sums it.instr.displacement pointer _ _ _ _ _ _ (base-adds mark state it it.instr.displacement b)
      (index-adds mark state it i))
  by-field None number (Some n) whose is e pointer b i = absurd is
  by-field (Some at) number None whose is e pointer b i = absurd is
  by-field (Some at) number (Some n) whose is e pointer b i =
      rw (is.0) (field-sums n pointer at _ _ _ _ _ (field-base at n whose is.1 e b) (index-adds mark state it i))

  pub address-says : (memory : Memory) → SaysBy (operands.offset_field mark state it)
      (address_of ops (marked_frame mark state.place it) state memory) (operand_address mark state it memory)
      (words_by mark state it None memory)
  unfolding address_of operand_address marked_frame frame_of
  address-says memory =
      by-field (field_at (λ place. starts_offset (mark place)) state.place it.disp)
      (field_number_in mark state.place it.disp it.instr.displacement) (operands.offset_field mark state it)
      (operands.owner mark state it it.disp) (given mark state it it.instr.displacement it.disp) refl
      (operands.pointer mark state it memory) memory.base memory.index
