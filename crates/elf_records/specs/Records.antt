-- The six records of ELF64, each field at its offset in the record (gABI, "ELF Header", "Sections", "Symbol Table",
-- "Relocation", "Program Header" and "Dynamic Section").
use Rattle.std.specs.Prelude.{◌≡◌, ◌≢◌, ◌+◌, ◌/◌, ◌%◌, ◌^◌, ℕ, List, [], ◌∷◌, ◌++◌, take}
use Rattle.std.specs.Int.{w64, cast_signed, cast_unsigned}
use Rattle.elf_records.specs.declared.file_header.Header.{Header}
use Rattle.elf_records.specs.declared.section_header.SectionHeader.{SectionHeader}
use Rattle.elf_records.specs.declared.symbol.SymbolEntry.{SymbolEntry}
use Rattle.elf_records.specs.declared.relocation.Rela.{Rela}
use Rattle.elf_records.specs.declared.program_header.Segment.{Segment}
use Rattle.elf_records.specs.declared.dynamic.DynamicEntry.{DynamicEntry}
use Rattle.elf_records.specs.declared.file_header.TheConstants.{ELF_IDENT, EV_CURRENT}
use Rattle.elf_records.specs.declared.section_header.TheConstants.{SHT_NULL, SHT_NOBITS}
use Rattle.elf_records.specs.Fields.{number_at, part_at, spelled}

-- Elf64_Ehdr
unfoldable pub header_at : ℕ → List ℕ → Header
header_at at bytes = record {
  ident = part_at 16 at bytes;
  e_type = number_at 2 (at + 16) bytes;
  e_machine = number_at 2 (at + 18) bytes;
  e_version = number_at 4 (at + 20) bytes;
  e_entry = number_at 8 (at + 24) bytes;
  e_phoff = number_at 8 (at + 32) bytes;
  e_shoff = number_at 8 (at + 40) bytes;
  e_flags = number_at 4 (at + 48) bytes;
  e_ehsize = number_at 2 (at + 52) bytes;
  e_phentsize = number_at 2 (at + 54) bytes;
  e_phnum = number_at 2 (at + 56) bytes;
  e_shentsize = number_at 2 (at + 58) bytes;
  e_shnum = number_at 2 (at + 60) bytes;
  e_shstrndx = number_at 2 (at + 62) bytes;
}

-- the fields after the identification, as their widths and values in the order of the file
abbrev pub header_fields : Header → List (ℕ × ℕ)
header_fields r =
    (2, r.e_type) ∷ (2, r.e_machine) ∷ (4, r.e_version) ∷ (8, r.e_entry) ∷ (8, r.e_phoff)
    ∷ (8, r.e_shoff) ∷ (4, r.e_flags) ∷ (2, r.e_ehsize) ∷ (2, r.e_phentsize) ∷ (2, r.e_phnum)
    ∷ (2, r.e_shentsize) ∷ (2, r.e_shnum) ∷ (2, r.e_shstrndx) ∷ []

-- the bytes of the record
unfoldable pub header_bytes : Header → List ℕ
header_bytes r = r.ident ++ spelled (header_fields r)

-- Elf64_Shdr
unfoldable pub section_at : ℕ → List ℕ → SectionHeader
section_at at bytes = record {
  name = number_at 4 at bytes;
  kind = number_at 4 (at + 4) bytes;
  flags = number_at 8 (at + 8) bytes;
  addr = number_at 8 (at + 16) bytes;
  offset = number_at 8 (at + 24) bytes;
  size = number_at 8 (at + 32) bytes;
  link = number_at 4 (at + 40) bytes;
  info = number_at 4 (at + 44) bytes;
  addralign = number_at 8 (at + 48) bytes;
  entsize = number_at 8 (at + 56) bytes;
}

-- the fields, as their widths and values in the order of the file
abbrev pub section_fields : SectionHeader → List (ℕ × ℕ)
section_fields r =
    (4, r.name) ∷ (4, r.kind) ∷ (8, r.flags) ∷ (8, r.addr) ∷ (8, r.offset)
    ∷ (8, r.size) ∷ (4, r.link) ∷ (4, r.info) ∷ (8, r.addralign) ∷ (8, r.entsize) ∷ []

-- the bytes of the record
unfoldable pub section_bytes : SectionHeader → List ℕ
section_bytes r = spelled (section_fields r)

-- Elf64_Sym
unfoldable pub symbol_at : ℕ → List ℕ → SymbolEntry
symbol_at at bytes = record {
  name = number_at 4 at bytes;
  info = number_at 1 (at + 4) bytes;
  other = number_at 1 (at + 5) bytes;
  shndx = number_at 2 (at + 6) bytes;
  value = number_at 8 (at + 8) bytes;
  size = number_at 8 (at + 16) bytes;
}

-- the fields, as their widths and values in the order of the file
abbrev pub symbol_fields : SymbolEntry → List (ℕ × ℕ)
symbol_fields r =
    (4, r.name) ∷ (1, r.info) ∷ (1, r.other)
    ∷ (2, r.shndx) ∷ (8, r.value) ∷ (8, r.size) ∷ []

-- the bytes of the record
unfoldable pub symbol_bytes : SymbolEntry → List ℕ
symbol_bytes r = spelled (symbol_fields r)

-- Elf64_Rela; the addend is in two's complement
unfoldable pub rela_at : ℕ → List ℕ → Rela
rela_at at bytes = record {
  offset = number_at 8 at bytes;
  info = number_at 8 (at + 8) bytes;
  addend = cast_signed w64 (number_at 8 (at + 16) bytes);
}

-- the fields, as their widths and values in the order of the file
abbrev pub rela_fields : Rela → List (ℕ × ℕ)
rela_fields r = (8, r.offset) ∷ (8, r.info) ∷ (8, cast_unsigned w64 r.addend) ∷ []

-- the bytes of the record
unfoldable pub rela_bytes : Rela → List ℕ
rela_bytes r = spelled (rela_fields r)

-- Elf64_Phdr
unfoldable pub segment_at : ℕ → List ℕ → Segment
segment_at at bytes = record {
  kind = number_at 4 at bytes;
  flags = number_at 4 (at + 4) bytes;
  offset = number_at 8 (at + 8) bytes;
  vaddr = number_at 8 (at + 16) bytes;
  paddr = number_at 8 (at + 24) bytes;
  filesz = number_at 8 (at + 32) bytes;
  memsz = number_at 8 (at + 40) bytes;
  align = number_at 8 (at + 48) bytes;
}

-- the fields, as their widths and values in the order of the file
abbrev pub segment_fields : Segment → List (ℕ × ℕ)
segment_fields r =
    (4, r.kind) ∷ (4, r.flags) ∷ (8, r.offset) ∷ (8, r.vaddr)
    ∷ (8, r.paddr) ∷ (8, r.filesz) ∷ (8, r.memsz) ∷ (8, r.align) ∷ []

-- the bytes of the record
unfoldable pub segment_bytes : Segment → List ℕ
segment_bytes r = spelled (segment_fields r)

-- Elf64_Dyn
unfoldable pub dynamic_at : ℕ → List ℕ → DynamicEntry
dynamic_at at bytes = record {
  tag = number_at 8 at bytes;
  value = number_at 8 (at + 8) bytes;
}

-- the fields, as their widths and values in the order of the file
abbrev pub dynamic_fields : DynamicEntry → List (ℕ × ℕ)
dynamic_fields r = (8, r.tag) ∷ (8, r.value) ∷ []

-- the bytes of the record
unfoldable pub dynamic_bytes : DynamicEntry → List ℕ
dynamic_bytes r = spelled (dynamic_fields r)

-- ELF64_ST_BIND: the high four bits of info
abbrev pub symbol_binding : SymbolEntry → ℕ
symbol_binding r = r.info / 16

-- ELF64_ST_TYPE: its low four bits
abbrev pub symbol_kind : SymbolEntry → ℕ
symbol_kind r = r.info % 16

-- ELF64_ST_VISIBILITY: the low two bits of other
abbrev pub symbol_visibility : SymbolEntry → ℕ
symbol_visibility r = r.other % 4

-- ELF64_R_SYM: the high half of info
abbrev pub rela_symbol : Rela → ℕ
rela_symbol r = r.info / 2 ^ 32

-- ELF64_R_TYPE: its low half
abbrev pub rela_kind : Rela → ℕ
rela_kind r = r.info % 2 ^ 32

-- the first seven bytes say ELF, 64 bits, little-endian, version 1
abbrev pub IsElf : Header → Type 0
IsElf h = (take 7 h.ident ≡ ELF_IDENT) × (h.e_version ≡ EV_CURRENT)

-- the file holds bytes of the section
abbrev pub HasBytes : SectionHeader → Type 0
HasBytes h = (h.kind ≢ SHT_NULL) × (h.kind ≢ SHT_NOBITS)
