-- What an object lends: names, bytes, symbols and relocations, as functions of the file's bytes (gABI, "Sections",
-- "Symbol Table", "Relocation"). Number 0 of the sections and of the symbols is reserved, and nothing of it is read.
use Rattle.std.specs.Prelude.{◌+◌, ◌*◌, ◌==◌, ◌&&◌, ℕ, Bool, true, false, not, List, [], map, slice_range}
use Rattle.std.specs.Prelude.{Option, Some, None, is_some, nat_lt, unwrap_or, if◌then◌else◌}
use Rattle.std.specs.List.{range_with_len}
use Rattle.elf_records.specs.Strings.{text_at}
use Rattle.elf_records.specs.Records.{rela_at, rela_symbol, rela_kind, symbol_binding as binding_number}
use Rattle.elf_records.specs.Records.{symbol_kind as type_number, symbol_visibility as visibility_number}
use Rattle.elf_records.specs.declared.section_header.TheConstants.{SHT_NULL, SHT_RELA, SHT_NOBITS}
use Rattle.elf_records.specs.declared.symbol.TheConstants.{SHN_UNDEF, SHN_ABS}
use Rattle.elf_records.specs.Symbols.{binding_numbered, type_numbered, visibility_numbered}
use Rattle.object_faults.specs.declared.class.SectionClass.{SectionClass}
use Rattle.object_faults.specs.declared.class.SectionClass.TheVariants.{Tls}
use Rattle.elf_records.specs.declared.symbol.SymbolBinding.{SymbolBinding}
use Rattle.elf_records.specs.declared.symbol.SymbolBinding.TheVariants.{Local}
use Rattle.elf_records.specs.declared.symbol.SymbolType.{SymbolType}
use Rattle.elf_records.specs.declared.symbol.SymbolType.TheVariants.{NoType}
use Rattle.elf_records.specs.declared.symbol.Visibility.{Visibility}
use Rattle.elf_records.specs.declared.symbol.Visibility.TheVariants.{Default}
use Rattle.elf_object.specs.declared.symbol.SymbolPlace.{SymbolPlace}
use Rattle.elf_object.specs.declared.symbol.SymbolPlace.TheVariants.{Undefined, Absolute, InSection}
use Rattle.elf_records.specs.declared.relocation.RelocationKind.TheVariants.{Nothing}
use Rattle.elf_object.specs.declared.relocation.Relocation.{Relocation}
use Rattle.elf_object.specs.Parts.{section, is_section, symbol, symbol_table, relocation_table, entry_count}
use Rattle.elf_object.specs.Classes.{kept_class}
use Rattle.elf_object.specs.Relocations.{relocation_kind}

-- the place that a section number of the file stands for
abbrev pub place_numbered : ℕ → SymbolPlace
place_numbered n = if n == SHN_UNDEF then Undefined else if n == SHN_ABS then Absolute else InSection n

-- the bytes of section s in the file
unfoldable pub section_bytes : List ℕ → ℕ → List ℕ
section_bytes b s =
    if is_section b s && (not ((section b s).kind == SHT_NULL) && not ((section b s).kind == SHT_NOBITS))
    then slice_range b (section b s).offset ((section b s).offset + (section b s).size) else []

-- the class that linking keeps section s in
unfoldable pub section_class : List ℕ → ℕ → Option SectionClass
section_class b s = if is_section b s then kept_class (section b s) else None

-- whether a section that is kept in this class is one of thread-local storage
abbrev pub is_tls_class : Option SectionClass → Bool
is_tls_class (Some (Tls initial)) = true
is_tls_class class = false

-- the size of section s in memory
unfoldable pub section_size : List ℕ → ℕ → ℕ
section_size b s = if is_section b s then (section b s).size else 0

-- the alignment of section s; 0 in the file counts as 1
unfoldable pub section_alignment : List ℕ → ℕ → ℕ
section_alignment b s = if is_section b s && not ((section b s).addralign == 0) then (section b s).addralign else 1

-- the name of symbol e
unfoldable pub symbol_name : List ℕ → ℕ → List ℕ
symbol_name b e =
    if nat_lt 0 e then text_at (section_bytes b (section b (symbol_table b)).link) (symbol b e).name else []

-- the binding, type, visibility, place, value and size of symbol e
unfoldable pub symbol_binding : List ℕ → ℕ → SymbolBinding
symbol_binding b e = if nat_lt 0 e then binding_numbered (binding_number (symbol b e)) else Local

unfoldable pub symbol_type : List ℕ → ℕ → SymbolType
symbol_type b e = if nat_lt 0 e then type_numbered (type_number (symbol b e)) else NoType

unfoldable pub symbol_visibility : List ℕ → ℕ → Visibility
symbol_visibility b e = if nat_lt 0 e then visibility_numbered (visibility_number (symbol b e)) else Default

unfoldable pub symbol_place : List ℕ → ℕ → SymbolPlace
symbol_place b e = if nat_lt 0 e then place_numbered (symbol b e).shndx else Undefined

unfoldable pub symbol_value : List ℕ → ℕ → ℕ
symbol_value b e = if nat_lt 0 e then (symbol b e).value else 0

unfoldable pub symbol_size : List ℕ → ℕ → ℕ
symbol_size b e = if nat_lt 0 e then (symbol b e).size else 0

-- whether a symbol with this place is thread-local: it is in a section of thread-local storage
abbrev pub is_tls_place : List ℕ → SymbolPlace → Bool
is_tls_place b (InSection s) = is_tls_class (section_class b s)
is_tls_place b place = false

-- the relocation at an offset of the file
unfoldable pub relocation_at : ℕ → List ℕ → Relocation
relocation_at at b =
    let entry = rela_at at b in
    record {
      offset = entry.offset;
      kind = unwrap_or (relocation_kind (rela_kind entry)) Nothing;
      symbol =
          rela_symbol entry;
      addend = entry.addend;
    }

-- n relocations of the table at an offset of the file, from number e on
unfoldable pub relocations_from : List ℕ → ℕ → ℕ → ℕ → List Relocation
relocations_from b at e n = map (λ (k : ℕ). relocation_at (at + 24 * k) b) (range_with_len e n)

-- the section that holds the relocations of section t, if linking keeps t; 0 if there is none
unfoldable pub kept_relocation_table : List ℕ → ℕ → ℕ
kept_relocation_table b t = if is_some (section_class b t) then relocation_table b t else 0

-- the relocations in section r; none if r is 0
unfoldable pub relocations_in : List ℕ → ℕ → List Relocation
relocations_in b r = if nat_lt 0 r then relocations_from b (section b r).offset 0 (entry_count (section b r)) else []

-- the relocations of section t, if linking keeps it
abbrev pub relocations : List ℕ → ℕ → List Relocation
relocations b t = relocations_in b (kept_relocation_table b t)

-- the section whose relocations section r holds, if linking keeps it; else 0
unfoldable pub relocation_target : List ℕ → ℕ → ℕ
relocation_target b r =
    if (is_section b r && ((section b r).kind == SHT_RELA)) && is_some (section_class b (section b r).info) then
    (section b r).info else 0
