-- The code sequences that reach thread-local storage ("ELF Handling For Thread-Local Storage"; psABI, "Thread-Local
-- Storage"): the bytes of each form, and their relocations.
use Rattle.std.specs.Prelude.{◌≡◌, ◌+◌, ◌/◌, ◌%◌, ◌==◌, ◌||◌, ◌&&◌, ℕ, ℤ, negsuc, Bool, true, false, List, [], ◌∷◌}
use Rattle.std.specs.Prelude.{Option, Some, None, nat_lt, slice_index, if◌then◌else◌}
use Rattle.elf_records.specs.declared.relocation.RelocationKind.{RelocationKind}
use Rattle.elf_records.specs.declared.relocation.RelocationKind.TheVariants.{TlsGd, TlsLd, GotTpOff, GotPc32TlsDesc}
use Rattle.elf_records.specs.declared.relocation.RelocationKind.TheVariants.{TlsDescCall}
use Rattle.elf_records.specs.declared.relocation_row.FieldValue.TheVariants.{Distance}
use Rattle.elf_records.specs.declared.relocation_row.TableEntry.TheVariants.{AddressWord}
use Rattle.elf_records.specs.RelocationRows.{row as kind_row}
use Rattle.sequence_forms.specs.declared.forms.Form.{Form}
use Rattle.sequence_forms.specs.declared.forms.Form.TheVariants.{Gd, Ld, IeMov, IeAdd, GdInd, LdInd, DescLea, DescCall}
use Rattle.sequence_forms.specs.declared.forms.Cell.{Cell}
use Rattle.sequence_forms.specs.declared.forms.Cell.TheVariants.{Is, Rex, ModRm, Field}
use Rattle.sequence_forms.specs.declared.forms.Call.{Call}
use Rattle.sequence_forms.specs.declared.forms.Call.TheVariants.{Direct, Indirect}
use Rattle.sequence_forms.specs.declared.forms.Second.{Second}
use Rattle.sequence_forms.specs.declared.forms.Row.{Row}

-- whether a byte is allowed in a cell: REX is 48 or 4c; ModRM has mod 00 and rm 101, so it is 5 + 8 * register
abbrev pub fits : Cell → ℕ → Bool
fits (Is literal) byte = byte == literal
fits Rex byte = (byte == 0x48) || (byte == 0x4c)
fits ModRm byte = (byte % 8 == 5) && nat_lt byte 64
fits Field byte = true

-- a form's bytes, the type, the offset and the addend of its first relocation (no addend: any), and its second one
pub record Sequence : Type 0 where
  pub cells : List Cell
  pub first : RelocationKind
  pub first_at : ℕ
  pub addend : Option ℤ
  pub second : Option Second

-- four bytes of a field, and what follows them
abbrev pub r4 : List Cell → List Cell
r4 rest = Field ∷ Field ∷ Field ∷ Field ∷ rest

-- lea x@tlsgd(%rip), %rdi; and a call of __tls_get_addr, direct or indirect
abbrev pub general : List Cell → List Cell
general call = Is 0x66 ∷ Is 0x48 ∷ Is 0x8d ∷ Is 0x3d ∷ r4 call

-- lea x@tlsld(%rip), %rdi; and a call of __tls_get_addr, direct or indirect
abbrev pub local : List Cell → List Cell
local call = Is 0x48 ∷ Is 0x8d ∷ Is 0x3d ∷ r4 call

-- the addend of a field of four bytes at the end of its instruction
abbrev pub to_end : Option ℤ
to_end = Some (negsuc 3)

abbrev pub direct : ℕ → Option Second
direct at = Some (record { at = at; call = Direct })

abbrev pub indirect : ℕ → Option Second
indirect at = Some (record { at = at; call = Indirect })

abbrev pub row_of : List Cell → RelocationKind → ℕ → Option ℤ → Option Second → Sequence
row_of cells first first_at addend second =
    record { cells = cells; first = first; first_at = first_at; addend = addend; second = second }

-- the table
unfoldable pub row : Form → Sequence
-- lea x@tlsgd(%rip), %rdi; call __tls_get_addr@plt, with prefixes to 16 bytes
row Gd = row_of (general (Is 0x66 ∷ Is 0x66 ∷ Is 0x48 ∷ Is 0xe8 ∷ r4 [])) TlsGd 4 to_end (direct 12)
-- lea x@tlsld(%rip), %rdi; call __tls_get_addr@plt
row Ld = row_of (local (Is 0xe8 ∷ r4 [])) TlsLd 3 to_end (direct 8)
-- mov x@gottpoff(%rip), %r
row IeMov = row_of (Rex ∷ Is 0x8b ∷ ModRm ∷ r4 []) GotTpOff 3 to_end None
-- add x@gottpoff(%rip), %r
row IeAdd = row_of (Rex ∷ Is 0x03 ∷ ModRm ∷ r4 []) GotTpOff 3 to_end None
-- lea x@tlsgd(%rip), %rdi; call *__tls_get_addr@gotpcrel(%rip)
row GdInd = row_of (general (Is 0x66 ∷ Is 0x48 ∷ Is 0xff ∷ Is 0x15 ∷ r4 [])) TlsGd 4 to_end (indirect 12)
-- lea x@tlsld(%rip), %rdi; call *__tls_get_addr@gotpcrel(%rip)
row LdInd = row_of (local (Is 0xff ∷ Is 0x15 ∷ r4 [])) TlsLd 3 to_end (indirect 9)
-- lea x@tlsdesc(%rip), %rax
row DescLea = row_of (Is 0x48 ∷ Is 0x8d ∷ Is 0x05 ∷ r4 []) GotPc32TlsDesc 3 to_end None
-- call *x@tlscall(%rax)
row DescCall = row_of (Is 0xff ∷ Is 0x10 ∷ []) TlsDescCall 0 None None

-- whether the form finds a variable at a fixed distance from the thread pointer
abbrev pub is_initial : Form → Bool
is_initial IeMov = true
is_initial IeAdd = true
is_initial form = false

-- the register of a sequence that starts there in the code: the one that ModRM names, with REX's bit R; 0 for a form
-- that names none
unfoldable pub register : Form → List ℕ → ℕ → ℕ
register form code start =
    if is_initial form then slice_index code (start + 2) / 8 + (if slice_index code start == 0x4c then 8 else 0) else 0

-- the types of the second relocation: its field holds the distance to the function, or to the word with its address
abbrev pub IsCallKind : Call → RelocationKind → Type 0
IsCallKind Direct kind = (kind_row kind).value ≡ Distance
IsCallKind Indirect kind = (kind_row kind).entry ≡ AddressWord

-- a row of the code equals the definition
pub record IsRow (sequence : Sequence) (given : Row) : Type 0 where
  pub cells_are : given.cells.now ≡ sequence.cells
  pub first_is : given.first ≡ sequence.first
  pub first_at_is : given.first_at ≡ sequence.first_at
  pub addend_is : given.addend ≡ sequence.addend
  pub second_is : given.second ≡ sequence.second
