-- Operands: addresses, words that are moved whole or in part, numbers that are used, slots for results.
use Rattle.std.specs.Prelude.{ℕ, ◌*◌, ◌%◌, ◌^◌, Result, Ok, Err, Option, Some, None, if◌then◌else◌}
use Rattle.amd64_subset.specs.declared.instr.Width.{Width}
use Rattle.amd64_subset.specs.declared.instr.Width.TheVariants.{Long, Quad}
use Rattle.amd64_subset.specs.declared.operand.Base.{Base}
use Rattle.amd64_subset.specs.declared.operand.Base.TheVariants.{Absolute, NextInstruction, Register as OfRegister}
use Rattle.amd64_subset.specs.declared.operand.Scale.{Scale}
use Rattle.amd64_subset.specs.declared.operand.Scale.TheVariants.{One, Two, Four, Eight}
use Rattle.amd64_subset.specs.declared.operand.Index.{Index}
use Rattle.amd64_subset.specs.declared.operand.Memory.{Memory}
use Rattle.amd64_subset.specs.declared.operand.Operand.{Operand}
use Rattle.amd64_subset.specs.declared.operand.Operand.TheVariants.{InMemory, Register as InRegister}
use Rattle.guest_arithmetic.specs.declared.cause.Cause.{Cause}
use Rattle.guest_arithmetic.specs.declared.cause.Cause.TheVariants.{Field}
use Rattle.guest_operands.specs.declared.stop.Stop.{Stop}
use Rattle.guest_operands.specs.declared.stop.Stop.TheVariants.{Unclean}
use Rattle.guest_operands.specs.declared.state.Registers.{Registers}
use Rattle.guest_operands.specs.declared.state.State.{State}
use Rattle.guest_operands.specs.declared.frame.Frame.{Frame}
use Rattle.guest_arithmetic.specs.Values.{Operations}
use Rattle.guest_operands.specs.Access.{Refusal, Accesses, bytes_in, load_of, store_of}
use Rattle.guest_operands.specs.declared.slot.Slot.{Slot}
use Rattle.guest_operands.specs.declared.space.Size.{Size}
use Rattle.guest_operands.specs.declared.space.Size.TheVariants.{Long as LongSize, Quad as QuadSize}
use Rattle.guest_operands.specs.declared.slot.Slot.TheVariants.{Place, Register as OfSlot}
use Rattle.guest_operands.specs.declared.slot.Taken.{Taken}
use Rattle.guest_arithmetic.specs.Arithmetic.{low}
use Rattle.guest_operands.specs.State.{register_of, with_word}
use Rattle.guest_arithmetic.specs.Cause.{used, both, cause_with}
use Rattle.guest_operands.specs.Use.{◌>>=◌, plus, clean, there, refused_with, After, left}

abbrev pub factor_of : Scale → ℕ
factor_of One = 1
factor_of Two = 2
factor_of Four = 4
factor_of Eight = 8

-- how many bytes an operand of this width has
abbrev pub size_for : Width → Size
size_for Long = LongSize
size_for Quad = QuadSize

abbrev pub size_of : Width → ℕ
size_of width = bytes_in (size_for width)

-- the answer; if there is an offset field, any cause becomes a misuse of the field
abbrev pub charged : {A : Type 0} → Option ℕ → Result A Cause → Result A Cause
charged None result = result
charged (Some at) (Ok x) = Ok x
charged (Some at) (Err cause) = Err Field

-- the word of `f` of the number; if the word is not a number, nothing is known of the result
abbrev pub carried_as : {W F B : Type 0} → Operations W F B → (ℕ → ℕ) → Result ℕ Cause → W
carried_as ops f (Ok number) = ops.word (f number)
carried_as ops f (Err cause) = ops.unknown

module _ {W F B : Type 0} (ops : Operations W F B) where
  -- a number in an instruction that is not added to a base; it may be an offset field
  abbrev pub unmoved : Option ℕ → ℕ → Result ℕ Cause
  unmoved None number = Ok number
  unmoved (Some at) number = ops.misused number

  -- the same with a base
  abbrev pub moved_by : Option ℕ → ℕ → W → Result ℕ Cause
  moved_by None number word = used (plus number) (ops.number_of word)
  moved_by (Some at) number word = ops.moved word number at

  -- a base plus the displacement; the next instruction's address is a base too, but not one for offset fields
  unfoldable pub base_of : Option ℕ → ℕ → ℕ → Registers W → Base → Result ℕ Cause
  base_of field displacement next registers Absolute = unmoved field displacement
  base_of field displacement next registers (OfRegister register) =
      moved_by field displacement (register_of registers register)
  base_of field displacement next registers NextInstruction =
      used (λ number. plus number next) (unmoved field displacement)

  -- an index register times its factor
  unfoldable pub index_of : Registers W → Option Index → Result ℕ Cause
  index_of registers None = Ok 0
  index_of registers (Some index) =
      used (λ number. number * factor_of index.scale % 2 ^ 64) (ops.number_of (register_of registers index.register))

  -- the address of a memory operand (Intel's manual, volume 1, section 3.7.5), or the cause why it has none
  unfoldable pub address_of : Frame → State W F → Memory → Result ℕ Cause
  address_of frame state memory =
      used (λ parts. plus (plus parts.0 parts.1) (if memory.from_thread_pointer then state.thread_pointer else 0))
      (charged frame.displacement_field
      (both (base_of frame.displacement_field frame.displacement frame.next state.registers memory.base)
      (index_of state.registers memory.index)))

  -- a register's word, moved at a width
  unfoldable pub kept : Width → W → W
  kept Quad word = word
  kept Long word = carried_as ops (λ number. number % 2 ^ 32) (ops.number_of word)

  -- a register's lowest byte, moved
  unfoldable pub kept_byte : W → W
  kept_byte word = carried_as ops (λ number. number % 256) (ops.number_of word)

  -- a register's number at a width
  unfoldable pub number_at : Width → W → Result ℕ Cause
  number_at width word = used (low width) (ops.number_of word)

module _ {W F B M : Type 0} (ops : Operations W F B) (acc : Accesses M B) where
  -- the operand's word, to be moved and not used
  unfoldable pub carried : Width → Frame → State W F → M → Operand → Result W Stop
  carried width frame state memory (InRegister register) = Ok (kept ops width (register_of state.registers register))
  carried width frame state memory (InMemory operand) = do
    place ← clean state.place (address_of ops frame state operand)
    there state.place (load_of ops acc memory place (size_of width))

  -- the number of a loaded word, with another use
  abbrev pub weighed : Width → ℕ → Result W Refusal → Result ℕ Cause → Result (ℕ × ℕ) Stop
  weighed width here (Ok word) other = clean here (both (number_at ops width word) other)
  weighed width here (Err why) other = Err (refused_with here why other)

  -- the same at an address, which is used first
  unfoldable pub taken_at : Width → ℕ → M → Result ℕ Cause → Result ℕ Cause → Result Taken Stop
  taken_at width here memory (Err cause) other = Err (Unclean here (cause_with cause other))
  taken_at width here memory (Ok place) other = do
    parts ← weighed width here (load_of ops acc memory place (size_of width)) other
    Ok (record { slot = Place place; number = parts.0; other = parts.1 })

  -- the operand's number, with another use; if several fail, the first cause is reported
  unfoldable pub taken : Width → Frame → State W F → M → Operand → Result ℕ Cause → Result Taken Stop
  taken width frame state memory (InRegister register) other = do
    parts ← clean state.place (both (number_at ops width (register_of state.registers register)) other)
    Ok (record { slot = OfSlot register; number = parts.0; other = parts.1 })
  taken width frame state memory (InMemory operand) other =
      taken_at width state.place memory (address_of ops frame state operand) other

  -- a result written to its slot
  unfoldable pub put : Width → Slot → W → State W F → M → Result (After W F M) Stop
  put width (OfSlot register) word state memory = Ok (left (with_word state register word) memory)
  put width (Place place) word state memory = do
    after ← there state.place (store_of ops acc memory place (size_of width) word)
    Ok (left state after)
