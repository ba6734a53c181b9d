-- Operands over marked values, and fields in an instruction: what a field allows, and the address that an operand has.
use Rattle.std.specs.Prelude.{ℕ, ℤ, pos, negsuc, ◌+◌, ◌-◌, ◌*◌, ◌%◌, ◌^◌, ◌==◌, ◌&&◌, ◌||◌, Bool, true, false, not}
use Rattle.std.specs.Prelude.{nat_le, List, [], ◌∷◌, ◌++◌, Option, Some, None, is_some, option_map, if◌then◌else◌}
use Rattle.address_map.specs.Map.{owner_at}
use Rattle.amd64_words.specs.declared.register.Register.{Register}
use Rattle.amd64_subset.specs.declared.instr.Arithmetic.TheVariants.{Add}
use Rattle.amd64_subset.specs.declared.instr.Decoded.{Decoded}
use Rattle.amd64_subset.specs.declared.instr.Operation.{Operation}
use Rattle.amd64_subset.specs.declared.instr.Operation.TheVariants.{Compute}
use Rattle.amd64_subset.specs.declared.instr.Width.TheVariants.{Quad}
use Rattle.amd64_subset.specs.declared.operand.Base.{Base}
use Rattle.amd64_subset.specs.declared.operand.Base.TheVariants.{Absolute, NextInstruction, Register as OfRegister}
use Rattle.amd64_subset.specs.declared.operand.Index.{Index}
use Rattle.amd64_subset.specs.declared.operand.Memory.{Memory}
use Rattle.amd64_subset.specs.declared.operand.Operand.TheVariants.{Register as InRegister}
use Rattle.amd64_subset.specs.declared.operand.Operands.TheVariants.{Immediate}
use Rattle.amd64_subset.specs.declared.operand.Scale.{Scale}
use Rattle.amd64_subset.specs.declared.operand.Scale.TheVariants.{One, Two, Four, Eight}
use Rattle.guest_operands.specs.declared.state.State.{State}
use Rattle.guest_operands.specs.State.{register_of}
use Rattle.guest_operands.specs.Use.{plus}
use Rattle.job_meaning.specs.declared.values.Flag.{Flag}
use Rattle.job_meaning.specs.declared.values.Token.TheVariants.{Base as BaseOf, Descriptor}
use Rattle.job_meaning.specs.declared.values.Word.{Word}
use Rattle.job_meaning.specs.declared.values.Word.TheVariants.{Number, Undefined, Marked}
use Rattle.whole_meaning.specs.declared.marks.Mark.{Mark}
use Rattle.whole_meaning.specs.declared.marks.Mark.TheVariants.{Usual, Offset, Address, Inside}
use Rattle.cause_laws.specs.Instructions.{operand_of, read_operand}

-- ** words

abbrev pub number_in : Word → Option ℕ
number_in (Number number) = Some number
number_in Undefined = None
number_in (Marked token) = None

-- the first address of a block of this instance, whichever thread's it is, if the word is its base
abbrev pub block_of : ℕ → Word → Option ℕ
block_of instance (Number number) = None
block_of instance Undefined = None
block_of instance (Marked (BaseOf block)) = if block.instance == instance then Some block.start else None
block_of instance (Marked (Descriptor owner symbol)) = None

-- of two numbers that are both there
abbrev pub sum_of : Option ℕ → Option ℕ → Option ℕ
sum_of None b = None
sum_of (Some a) None = None
sum_of (Some a) (Some b) = Some (a + b)

-- ** fields

-- the number of an offset field, where its first byte has this mark
abbrev pub offset_of : Mark → Option ℕ
offset_of Usual = None
offset_of (Offset number byte) = if byte == 0 then Some number else None
offset_of (Address number addend byte) = None
offset_of Inside = None

-- the address that an address field names, where its first byte has this mark
abbrev pub address_of : Mark → Option ℕ
address_of Usual = None
address_of (Offset number byte) = None
address_of (Address number addend byte) = if byte == 0 then Some number else None
address_of Inside = None

-- a number of four bytes in an instruction begins at its byte k
abbrev pub begins_at : Option ℕ → ℕ → Bool
begins_at None k = false
begins_at (Some at) k = at == k

abbrev pub factor : Scale → ℕ
factor One = 1
factor Two = 2
factor Four = 4
factor Eight = 8

-- relative to the next instruction, and to nothing else
abbrev pub is_next : Base → Bool
is_next Absolute = false
is_next NextInstruction = true
is_next (OfRegister register) = false

abbrev pub is_from_next : Memory → Bool
is_from_next memory = is_next memory.base && not memory.from_thread_pointer

abbrev pub is_next_operand : Option Memory → Bool
is_next_operand None = false
is_next_operand (Some memory) = is_from_next memory

-- an addend is minus so many
abbrev pub is_minus : ℤ → ℕ → Bool
is_minus (pos n) size = false
is_minus (negsuc n) size = n + 1 == size

-- it: the instruction at the thread's place
module _ (mark : ℕ → Mark) (state : State Word Flag) (it : Decoded) where
  -- ** where its numbers of four bytes begin

  -- the mark of the first byte of one
  abbrev pub first_mark : Option ℕ → Mark
  first_mark None = Usual
  first_mark (Some k) = mark (plus state.place k)

  -- the instance whose code it lies in
  abbrev pub owner : Option ℕ → ℕ
  owner None = 0
  owner (Some k) = owner_at (plus state.place k)

  -- the displacement is an offset field, and its number
  abbrev pub offset_field : Option ℕ
  offset_field = offset_of (first_mark it.disp)

  -- ** the address of an operand in memory

  abbrev pub value_of : Register → Word
  value_of register = register_of state.registers register

  -- the base: with an offset field in the displacement only a block of the code's own instance is one
  abbrev pub base_of : Option ℕ → Base → Option ℕ
  base_of None Absolute = Some 0
  base_of None NextInstruction = Some (plus state.place it.len)
  base_of None (OfRegister register) = number_in (value_of register)
  base_of (Some number) Absolute = None
  base_of (Some number) NextInstruction = None
  base_of (Some number) (OfRegister register) = block_of (owner it.disp) (value_of register)

  abbrev pub index_of : Option Index → Option ℕ
  index_of None = Some 0
  index_of (Some index) = option_map (λ number. number * factor index.scale) (number_in (value_of index.register))

  -- a field's own number, or else what is read
  abbrev pub displacement : Option ℕ → ℕ
  displacement None = it.instr.displacement
  displacement (Some number) = number

  abbrev pub pointer : Memory → ℕ
  pointer memory = if memory.from_thread_pointer then state.thread_pointer else 0

  -- base plus displacement plus index, and with an FS prefix the thread pointer, if the first and the third are known
  unfoldable pub operand_address : Memory → Option ℕ
  operand_address memory =
      option_map (λ number. (number + displacement offset_field + pointer memory) % 2 ^ 64)
      (sum_of (base_of offset_field memory.base) (index_of memory.index))

  -- the words that an address is computed with; with an offset field the field allows them or does not
  abbrev pub base_words : Base → List Word
  base_words Absolute = []
  base_words NextInstruction = []
  base_words (OfRegister register) = value_of register ∷ []

  abbrev pub index_words : Option Index → List Word
  index_words None = []
  index_words (Some index) = value_of index.register ∷ []

  abbrev pub words_by : Option ℕ → Memory → List Word
  words_by None memory = base_words memory.base ++ index_words memory.index
  words_by (Some number) memory = []

  abbrev pub address_words : Memory → List Word
  address_words memory = words_by offset_field memory

  -- ** what fields allow

  abbrev pub is_placed : Option Memory → Bool
  is_placed None = false
  is_placed (Some memory) = is_some (operand_address memory)

  -- a 64-bit add of an immediate to a register that holds the base of a block of the code's own instance
  abbrev pub adds_to_base : Operation → Bool
  adds_to_base (Compute Add Quad (Immediate (InRegister to))) = is_some (block_of (owner it.imm) (value_of to))
  adds_to_base operation = false

  -- an offset field that begins at byte k may be covered: as the displacement of an operand that has an address, or
  -- as such an immediate
  abbrev pub allows_offset : ℕ → Bool
  allows_offset k =
      (begins_at it.disp k && is_placed (operand_of it.instr.operation))
      || (begins_at it.imm k && adds_to_base it.instr.operation)

  -- an address field that begins at byte k may be covered: as the displacement of an operand relative to the next
  -- instruction, which reads its 64 bits and does not write them, where the addend is minus the distance to the
  -- instruction's end
  abbrev pub allows_address : ℤ → ℕ → Bool
  allows_address addend k =
      (begins_at it.disp k && is_next_operand (read_operand it.instr.operation)) && is_minus addend (it.len - k)

  -- byte k of the instruction may be covered where it has this mark: a byte of a field is asked for the whole field
  abbrev pub allows : ℕ → Mark → Bool
  allows k Usual = true
  allows k (Offset number byte) = nat_le byte k && allows_offset (k - byte)
  allows k (Address number addend byte) = nat_le byte k && allows_address addend (k - byte)
  allows k Inside = false
