-- The bytes of a form: prefixes, REX, opcode, ModRM, SIB, displacement, immediate, each only where it is needed.
use Rattle.std.specs.Prelude.{ℕ, ◌+◌, ◌*◌, ◌%◌, Bool, false, List, [], ◌∷◌, ◌++◌, length, take, drop, nat_le, Option}
use Rattle.std.specs.Prelude.{Some, None, is_some, not, ◌&&◌, ◌||◌, ◌==◌, if◌then◌else◌}
use Rattle.std.specs.Option.{option_to_list}
use Rattle.std.specs.Int.{w64, to_le_bytes}
use Rattle.amd64_words.specs.declared.register.Register.{Register}
use Rattle.amd64_subset.specs.declared.operand.Base.{Base}
use Rattle.amd64_subset.specs.declared.operand.Base.TheVariants as base
use Rattle.amd64_subset.specs.declared.operand.Scale.{Scale}
use Rattle.amd64_subset.specs.declared.operand.Scale.TheVariants as scale
use Rattle.amd64_subset.specs.declared.operand.Index.{Index}
use Rattle.amd64_subset.specs.declared.operand.Operand.{Operand}
use Rattle.amd64_subset.specs.declared.operand.Operand.TheVariants as operand
use Rattle.amd64_subset.specs.declared.instr.Instr.{Instr}
use Rattle.amd64_subset.specs.declared.prefix.Rex.{Rex}
use Rattle.amd64_words.specs.declared.size.Size.{Size}
use Rattle.amd64_subset.specs.declared.selectors.Selectors.{Selectors}
use Rattle.amd64_encoder.specs.declared.form.Fields.{Fields}
use Rattle.amd64_encoder.specs.declared.form.Fields.TheVariants as fields
use Rattle.amd64_encoder.specs.declared.form.Form.{Form}
use Rattle.amd64_subset.specs.Number.{count_of}
use Rattle.amd64_subset.specs.Register.{number_of}
use Rattle.amd64_subset.specs.Selectors.{displacement_size}
use Rattle.amd64_encoder.specs.Form.{low_bits, fits_byte, form_of}

-- a byte made of fields of two, three and three bits
abbrev pub packed : ℕ → ℕ → ℕ → ℕ
packed high middle low = 64 * high + 8 * middle + low

-- the fourth bit of a register's number
abbrev pub is_high : Register → Bool
is_high register = nat_le 8 (number_of register)

abbrev pub scale_number : Scale → ℕ
scale_number scale.One = 0
scale_number scale.Two = 1
scale_number scale.Four = 2
scale_number scale.Eight = 3

-- SIB with these three bits of a base; an index field of 100 means no index
abbrev pub sib_of : Option Index → ℕ → ℕ
sib_of None low = packed 0 4 low
sib_of (Some index) low = packed (scale_number index.scale) (low_bits index.register) low

-- the mode for a base with these three bits: no displacement, one byte, or four
abbrev pub mode_of : ℕ → ℕ → ℕ
mode_of displacement low =
    if (displacement == 0) && not (low == 5) then 0
    else if fits_byte displacement then 1
    else 2

-- 100 in place of a base calls for a SIB byte
abbrev pub needs_sib : Option Index → ℕ → Bool
needs_sib index low = is_some index || (low == 4)

-- ModRM and SIB of an operand, with this number in the reg field
abbrev pub address_of : ℕ → Base → Option Index → ℕ → Selectors
address_of field base.NextInstruction index displacement = record { modrm = packed 0 field 5; sib = None }
address_of field base.Absolute index displacement = record { modrm = packed 0 field 4; sib = Some (sib_of index 5) }
address_of field (base.Register register) index displacement =
    if needs_sib index (low_bits register)
    then record {
      modrm = packed (mode_of displacement (low_bits register)) field 4;
      sib = Some (sib_of index (low_bits register));
    }
    else record { modrm = packed (mode_of displacement (low_bits register)) field (low_bits register); sib = None }

unfoldable pub selectors_of : ℕ → Operand → ℕ → Selectors
selectors_of field (operand.Register register) displacement =
    record { modrm = packed 3 field (low_bits register); sib = None }
selectors_of field (operand.InMemory memory) displacement = address_of field memory.base memory.index displacement

-- the fourth bits of an operand's registers
abbrev pub base_is_high : Base → Bool
base_is_high (base.Register register) = is_high register
base_is_high other = false

abbrev pub index_is_high : Option Index → Bool
index_is_high None = false
index_is_high (Some index) = is_high index.register

abbrev pub high_base : Operand → Bool
high_base (operand.Register register) = is_high register
high_base (operand.InMemory memory) = base_is_high memory.base

abbrev pub high_index : Operand → Bool
high_index (operand.Register register) = false
high_index (operand.InMemory memory) = index_is_high memory.index

-- the FS prefix stands before the instruction
abbrev pub has_segment : Operand → Bool
has_segment (operand.Register register) = false
has_segment (operand.InMemory memory) = memory.from_thread_pointer

-- the bits of REX that a form needs
abbrev pub bits_in : Bool → Fields → Rex
bits_in wide fields.Bare = record { wide = wide; register = false; index = false; base = false }
bits_in wide (fields.Low register) = record { wide = wide; register = false; index = false; base = is_high register }
bits_in wide (fields.Selected field operand) =
    record { wide = wide; register = nat_le 8 field; index = high_index operand; base = high_base operand }

abbrev pub rex_bits : Form → Rex
rex_bits form = bits_in form.wide form.fields

abbrev pub bit : Bool → ℕ → ℕ
bit b worth = if b then worth else 0

abbrev pub rex_byte : Rex → ℕ
rex_byte bits = 0x40 + bit bits.wide 8 + bit bits.register 4 + bit bits.index 2 + bit bits.base 1

abbrev pub when : Bool → ℕ → Option ℕ
when b byte = if b then Some byte else None

-- REX, if a bit of it is set or an 8-bit register needs it
unfoldable pub rex_in : Form → Option ℕ
rex_in form =
    let bits = rex_bits form in
    when ((((form.low_byte || bits.wide) || bits.register) || bits.index) || bits.base) (rex_byte bits)

-- the FS prefix, if the operand is addressed from the thread pointer
unfoldable pub mark_in : Fields → Option ℕ
mark_in (fields.Selected field operand) = when (has_segment operand) 0x64
mark_in other = None

-- ModRM and SIB, if there are any
unfoldable pub selectors_in : Fields → ℕ → Option Selectors
selectors_in (fields.Selected field operand) displacement = Some (selectors_of (field % 8) operand displacement)
selectors_in other displacement = None

-- a number in this many bytes, little-endian
unfoldable pub number_bytes : Size → ℕ → List ℕ
number_bytes size number = take (count_of size) (to_le_bytes w64 number)

-- ModRM, SIB and the displacement
abbrev pub selector_bytes : Option Selectors → ℕ → List ℕ
selector_bytes None displacement = []
selector_bytes (Some selectors) displacement =
    selectors.modrm ∷ (option_to_list selectors.sib ++ number_bytes (displacement_size selectors) displacement)

abbrev pub opcode_bytes : Form → List ℕ
opcode_bytes form = option_to_list (when form.escaped 0x0f) ++ (form.opcode ∷ [])

-- all bytes of a form
unfoldable pub form_bytes : Form → ℕ → List ℕ
form_bytes form displacement =
    option_to_list (mark_in form.fields) ++ (option_to_list (rex_in form) ++ (opcode_bytes form
    ++ (selector_bytes (selectors_in form.fields displacement) displacement ++ number_bytes form.size form.number)))

-- the spelling of an instruction
unfoldable pub spelling_of : Instr → List ℕ
spelling_of instr = form_bytes (form_of instr.operation instr.immediate) instr.displacement

-- the list with `part` written over it from this index on
unfoldable pub spliced : ℕ → List ℕ → List ℕ → List ℕ
spliced at part bytes = take at bytes ++ (part ++ drop (at + length part) bytes)
