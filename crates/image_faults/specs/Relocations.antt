-- When a relocation of an image is right (psABI, "Relocation Types"; "ELF Handling For Thread-Local Storage").
use Rattle.std.specs.Prelude.{◌≡◌, ◌+◌, ◌-◌, ◌*◌, ◌<◌, ◌≤◌, ◌⊎◌, ◌==◌, ◌<ℤ◌, ℕ, ℤ, pos, List, Option, Some, None}
use Rattle.std.specs.Prelude.{IsTrue, if◌then◌else◌}
use Rattle.elf_records.specs.declared.relocation.Rela.{Rela}
use Rattle.elf_records.specs.Records.{rela_at, rela_symbol, rela_kind}
use Rattle.elf_records.specs.declared.relocation.TheConstants.{R_X86_64_JUMP_SLOT, R_X86_64_RELATIVE}
use Rattle.elf_records.specs.declared.relocation.TheConstants.{R_X86_64_DTPMOD64, R_X86_64_DTPOFF64, R_X86_64_TPOFF64}
use Rattle.elf_records.specs.declared.relocation.TheConstants.{R_X86_64_TLSDESC}
use Rattle.image_faults.specs.declared.loader_kind.LoaderKind.{LoaderKind}
use Rattle.image_faults.specs.declared.loader_kind.LoaderKind.TheVariants.{JumpSlot, Relative, Module, ModuleOffset}
use Rattle.image_faults.specs.declared.loader_kind.LoaderKind.TheVariants.{ThreadOffset, Descriptor}
use Rattle.image_faults.specs.Parts.{segment, loads, has_tls, tls_size}
use Rattle.image_faults.specs.Array.{relocations_place, symbol_count}
use Rattle.image_faults.specs.Symbols.{IsImport, IsRuntime}

-- relocation k
unfoldable pub rela : List ℕ → ℕ → Rela
rela b k = rela_at (relocations_place b + 24 * k) b

-- the type with this number
abbrev pub loader_kind : ℕ → Option LoaderKind
loader_kind n =
    if n == R_X86_64_JUMP_SLOT then Some JumpSlot else
    if n == R_X86_64_RELATIVE then Some Relative else
    if n == R_X86_64_DTPMOD64 then Some Module else
    if n == R_X86_64_DTPOFF64 then Some ModuleOffset else
    if n == R_X86_64_TPOFF64 then Some ThreadOffset else
    if n == R_X86_64_TLSDESC then Some Descriptor else
    None

-- the number of a type
abbrev pub kind_number : LoaderKind → ℕ
kind_number JumpSlot = R_X86_64_JUMP_SLOT
kind_number Relative = R_X86_64_RELATIVE
kind_number Module = R_X86_64_DTPMOD64
kind_number ModuleOffset = R_X86_64_DTPOFF64
kind_number ThreadOffset = R_X86_64_TPOFF64
kind_number Descriptor = R_X86_64_TLSDESC

-- how many bytes a relocation of this number writes
abbrev pub field_width : ℕ → ℕ
field_width n = if n == R_X86_64_TLSDESC then 16 else 8

-- the symbol that a relocation of the type may name
abbrev pub MayName : List ℕ → Option LoaderKind → ℕ → Type 0
MayName b None k = ⊥
MayName b (Some JumpSlot) k = IsRuntime b k
MayName b (Some Relative) k = k ≡ 0
MayName b (Some ModuleOffset) k = IsImport b k
MayName b (Some kind) k = (k ≡ 0) ⊎ IsImport b k

-- a type that a loader knows, and a symbol that it may name
abbrev pub NamesRight : List ℕ → Rela → Type 0
NamesRight b r = (rela_symbol r < symbol_count b) × MayName b (loader_kind (rela_kind r)) (rela_symbol r)

-- LOAD i, which is not the last, holds the bytes that the relocation writes
abbrev pub HoldsField : List ℕ → Rela → ℕ → Type 0
HoldsField b r i =
    (i + 1 < loads b) × ((segment b i).vaddr ≤ r.offset)
    × (r.offset + field_width (rela_kind r) ≤ (segment b i).vaddr + (segment b i).memsz)

-- its place is after the field of the relocation before it
abbrev pub IsBehindLast : List ℕ → ℕ → Type 0
IsBehindLast b k =
    (k ≡ 0) ⊎ ((rela b (k - 1)).offset + field_width (rela_kind (rela b (k - 1))) ≤ (rela b k).offset)

-- a type that a loader knows, a symbol that it may name, a place in the image, and places that rise
abbrev pub IsRightRelocation : List ℕ → ℕ → Type 0
IsRightRelocation b k =
    NamesRight b (rela b k) × ((i : ℕ) × HoldsField b (rela b k) i) × IsBehindLast b k

-- an offset outside the image's own TLS segment; the segment's end counts as inside
abbrev pub IsOutsideTls : List ℕ → ℤ → Type 0
IsOutsideTls b addend = (addend <ℤ pos 0) ⊎ (pos (tls_size b) <ℤ addend)

-- for a relocation without a symbol: its type needs a TLS segment of this image and there is none, or its addend must
-- be an offset there and is not
abbrev pub LacksOwnTls : List ℕ → Option LoaderKind → ℤ → Type 0
LacksOwnTls b (Some Module) addend = IsTrue (has_tls b) → ⊥
LacksOwnTls b (Some ThreadOffset) addend = (IsTrue (has_tls b) → ⊥) ⊎ IsOutsideTls b addend
LacksOwnTls b (Some Descriptor) addend = (IsTrue (has_tls b) → ⊥) ⊎ IsOutsideTls b addend
LacksOwnTls b _ addend = ⊥

-- a relocation for the image's own TLS segment lies outside it
abbrev pub IsOwnOutside : List ℕ → ℕ → Type 0
IsOwnOutside b k =
    (rela_symbol (rela b k) ≡ 0) × LacksOwnTls b (loader_kind (rela_kind (rela b k))) (rela b k).addend
