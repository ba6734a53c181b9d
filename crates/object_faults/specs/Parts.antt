-- Where the parts of an object lie in its bytes (gABI, "ELF Header", "Sections", "Symbol Table", "Relocation").
use Rattle.std.specs.Prelude.{◌≡◌, ◌+◌, ◌*◌, ◌/◌, ◌<◌, ◌==◌, ◌&&◌, ℕ, Bool, List, nat_lt, if◌then◌else◌}
use Rattle.elf_records.specs.declared.file_header.Header.{Header}
use Rattle.elf_records.specs.declared.section_header.SectionHeader.{SectionHeader}
use Rattle.elf_records.specs.declared.symbol.SymbolEntry.{SymbolEntry}
use Rattle.elf_records.specs.declared.relocation.Rela.{Rela}
use Rattle.elf_records.specs.Records.{header_at, section_at, symbol_at, rela_at}
use Rattle.elf_records.specs.declared.section_header.TheConstants.{SHT_SYMTAB, SHT_STRTAB, SHT_RELA}
pub use Rattle.elf_records.specs.Records.{HasBytes}
use Rattle.object_faults.specs.Firsts.{first_below}

-- the file's header
unfoldable pub header : List ℕ → Header
header b = header_at 0 b

-- the header of section s, in the table that the file's header names
unfoldable pub section : List ℕ → ℕ → SectionHeader
section b s = section_at ((header b).e_shoff + 64 * s) b

-- s numbers a section; number 0 is reserved
abbrev pub IsSection : List ℕ → ℕ → Type 0
IsSection b s = (0 < s) × (s < (header b).e_shnum)

abbrev pub is_section : List ℕ → ℕ → Bool
is_section b s = nat_lt 0 s && nat_lt s (header b).e_shnum

-- s numbers a string table
abbrev pub IsStrings : List ℕ → ℕ → Type 0
IsStrings b s = IsSection b s × ((section b s).kind ≡ SHT_STRTAB)

-- s numbers a section of symbols
abbrev pub IsTable : List ℕ → ℕ → Type 0
IsTable b s = IsSection b s × ((section b s).kind ≡ SHT_SYMTAB)

-- s numbers a section of relocations
abbrev pub IsRela : List ℕ → ℕ → Type 0
IsRela b s = IsSection b s × ((section b s).kind ≡ SHT_RELA)

-- whether s, which is not 0, numbers a section of symbols
abbrev pub is_table : List ℕ → ℕ → Bool
is_table b s = nat_lt 0 s && ((section b s).kind == SHT_SYMTAB)

-- the symbol table, the first section of symbols; 0 where there is none
unfoldable pub symbol_table : List ℕ → ℕ
symbol_table b = first_below (is_table b) (header b).e_shnum

-- how many entries of 24 bytes a section has
abbrev pub entry_count : SectionHeader → ℕ
entry_count h = h.size / 24

-- how many symbols there are, number 0 included
abbrev pub symbol_count : List ℕ → ℕ
symbol_count b = if nat_lt 0 (symbol_table b) then entry_count (section b (symbol_table b)) else 0

-- symbol e
unfoldable pub symbol : List ℕ → ℕ → SymbolEntry
symbol b e = symbol_at ((section b (symbol_table b)).offset + 24 * e) b

-- entry e of section s, which holds relocations
unfoldable pub rela : List ℕ → ℕ → ℕ → Rela
rela b s e = rela_at ((section b s).offset + 24 * e) b

-- whether section r, which is not 0, holds relocations of section t
abbrev pub relocates : List ℕ → ℕ → ℕ → Bool
relocates b t r = nat_lt 0 r && (((section b r).kind == SHT_RELA) && ((section b r).info == t))

-- the section that holds the relocations of section t, the first such one; 0 where there is none
unfoldable pub relocation_table : List ℕ → ℕ → ℕ
relocation_table b t = first_below (relocates b t) (header b).e_shnum
