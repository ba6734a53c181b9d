-- The types of relocation that linking takes from an object (psABI, "Relocation Types").
use Rattle.std.specs.Prelude.{◌≡◌, ◌==◌, ℕ, Option, Some, None, if◌then◌else◌}
use Rattle.elf_records.specs.declared.relocation.TheConstants.{R_X86_64_NONE, R_X86_64_64, R_X86_64_PC32}
use Rattle.elf_records.specs.declared.relocation.TheConstants.{R_X86_64_PLT32, R_X86_64_GOTPCREL, R_X86_64_32}
use Rattle.elf_records.specs.declared.relocation.TheConstants.{R_X86_64_32S, R_X86_64_TLSGD, R_X86_64_TLSLD}
use Rattle.elf_records.specs.declared.relocation.TheConstants.{R_X86_64_DTPOFF32, R_X86_64_GOTTPOFF, R_X86_64_TPOFF32}
use Rattle.elf_records.specs.declared.relocation.TheConstants.{R_X86_64_GOTPC32_TLSDESC, R_X86_64_TLSDESC_CALL}
use Rattle.elf_records.specs.declared.relocation.TheConstants.{R_X86_64_GOTPCRELX, R_X86_64_REX_GOTPCRELX}
use Rattle.elf_records.specs.declared.relocation.RelocationKind.{RelocationKind}
use Rattle.elf_records.specs.declared.relocation.RelocationKind.TheVariants.{Nothing, Absolute64, Pc32, Plt32}
use Rattle.elf_records.specs.declared.relocation.RelocationKind.TheVariants.{GotPcRel, Absolute32, Absolute32Signed}
use Rattle.elf_records.specs.declared.relocation.RelocationKind.TheVariants.{TlsGd, TlsLd, DtpOff32, GotTpOff}
use Rattle.elf_records.specs.declared.relocation.RelocationKind.TheVariants.{TpOff32, GotPc32TlsDesc, TlsDescCall}
use Rattle.elf_records.specs.declared.relocation.RelocationKind.TheVariants.{GotPcRelX, RexGotPcRelX}
use Rattle.elf_records.specs.declared.relocation_row.FieldPlace.TheVariants.{InCode}
use Rattle.elf_records.specs.RelocationRows.{row, form_width}

-- the type with this number
abbrev pub relocation_kind : ℕ → Option RelocationKind
relocation_kind n =
    if n == R_X86_64_NONE then Some Nothing else
    if n == R_X86_64_64 then Some Absolute64 else
    if n == R_X86_64_PC32 then Some Pc32 else
    if n == R_X86_64_PLT32 then Some Plt32 else
    if n == R_X86_64_GOTPCREL then Some GotPcRel else
    if n == R_X86_64_32 then Some Absolute32 else
    if n == R_X86_64_32S then Some Absolute32Signed else
    if n == R_X86_64_TLSGD then Some TlsGd else
    if n == R_X86_64_TLSLD then Some TlsLd else
    if n == R_X86_64_DTPOFF32 then Some DtpOff32 else
    if n == R_X86_64_GOTTPOFF then Some GotTpOff else
    if n == R_X86_64_TPOFF32 then Some TpOff32 else
    if n == R_X86_64_GOTPC32_TLSDESC then Some GotPc32TlsDesc else
    if n == R_X86_64_TLSDESC_CALL then Some TlsDescCall else
    if n == R_X86_64_GOTPCRELX then Some GotPcRelX else
    if n == R_X86_64_REX_GOTPCRELX then Some RexGotPcRelX else
    None

-- how many bytes the field has
abbrev pub field_width : RelocationKind → ℕ
field_width kind = form_width (row kind).form

-- the type belongs to an instruction, so it stands only in executable sections
abbrev pub IsOfCode : RelocationKind → Type 0
IsOfCode kind = (row kind).place ≡ InCode

-- the field's width; 0 for a number that is not a type of the list
abbrev pub width_of : Option RelocationKind → ℕ
width_of None = 0
width_of (Some kind) = field_width kind
