-- An object with one function and one thread-local variable, byte for byte (gABI, "ELF Header", "Sections", "Symbol
-- Table" and "Relocation").
use Rattle.std.specs.Prelude.{ℕ, ◌+◌, ◌*◌, ◌==◌, Bool, List, [], ◌∷◌, ◌++◌, codes, length, if◌then◌else◌}
use Rattle.std.specs.List.{flat_map}
use Rattle.elf_records.specs.Records.{header_bytes, section_bytes, symbol_bytes, rela_bytes}
use Rattle.elf_records.specs.declared.file_header.Header.{Header}
use Rattle.elf_records.specs.declared.relocation.Rela.{Rela}
use Rattle.elf_records.specs.declared.section_header.SectionHeader.{SectionHeader}
use Rattle.elf_records.specs.declared.symbol.SymbolEntry.{SymbolEntry}
use Rattle.object_builder.specs.Headers.{object_header}

-- the parts of the object: the names of its function and its variable, the code and its relocations, the variable's
-- initial bytes, how many zeros follow them, and whether the code calls `__tls_get_addr`
pub record Shape : Type 0 where
  pub function : List ℕ
  pub variable : List ℕ
  pub code : List ℕ
  pub relocations : List Rela
  pub initial : List ℕ
  pub zeros : ℕ
  pub calls : Bool

-- ** symbols: the reserved one, the function in section 1, the variable in section 3, and `__tls_get_addr` if it is
-- called

abbrev pub symbol_of : ℕ → ℕ → ℕ → ℕ → SymbolEntry
symbol_of name info section size =
    record { name = name; info = info; other = 0; shndx = section; value = 0; size = size }

-- the offset of its name in the table of names
abbrev pub variable_name_at : Shape → ℕ
variable_name_at s = 2 + length s.function

abbrev pub getter_name_at : Shape → ℕ
getter_name_at s = 3 + length s.function + length s.variable

-- GLOBAL and NOTYPE is 0x10, GLOBAL and FUNC 0x12, GLOBAL and TLS 0x16
abbrev pub getter_symbols : Shape → List SymbolEntry
getter_symbols s = if s.calls then symbol_of (getter_name_at s) 0x10 0 0 ∷ [] else []

unfoldable pub symbols_of : Shape → List SymbolEntry
symbols_of s =
    symbol_of 0 0 0 0 ∷ symbol_of 1 0x12 1 (length s.code) ∷ symbol_of (variable_name_at s) 0x16 3 (length s.initial)
    ∷ getter_symbols s

-- ** names, each followed by a zero byte

abbrev pub getter_name : Bool → List ℕ
getter_name calls = if calls then codes "__tls_get_addr\0" else []

unfoldable pub names_of : Shape → List ℕ
names_of s = 0 ∷ s.function ++ (0 ∷ s.variable ++ (0 ∷ getter_name s.calls))

unfoldable pub section_names : List ℕ
section_names = codes "\0.text\0.rela.text\0.tdata\0.tbss\0.symtab\0.strtab\0.shstrtab\0"

-- ** the offsets of the parts: after the header and eight section headers

abbrev pub symbols_at : Shape → ℕ
symbols_at s = 576 + length s.code + length s.initial

abbrev pub names_at : Shape → ℕ
names_at s = symbols_at s + 24 * length (symbols_of s)

abbrev pub section_names_at : Shape → ℕ
section_names_at s = names_at s + length (names_of s)

abbrev pub relocations_at : Shape → ℕ
relocations_at s = section_names_at s + 57

-- ** sections

-- a name, a type, flags, an offset in the file, a size, two numbers that depend on the type, an alignment, and the
-- size of an entry
abbrev pub section_of : ℕ → ℕ → ℕ → ℕ → ℕ → ℕ → ℕ → ℕ → ℕ → SectionHeader
section_of name kind flags offset size link info alignment entry = record {
  name = name;
  kind = kind;
  flags = flags;
  addr = 0;
  offset = offset;
  size = size;
  link = link;
  info = info;
  addralign = alignment;
  entsize = entry;
}

-- the alignment of the zeros: none needs no alignment
abbrev pub zeros_alignment : ℕ → ℕ
zeros_alignment zeros = if zeros == 0 then 1 else 4

unfoldable pub sections_of : Shape → List SectionHeader
sections_of s =
    section_of 0 0 0 0 0 0 0 0 0
    -- .text: PROGBITS, ALLOC and EXECINSTR
    ∷ section_of 1 1 6 576 (length s.code) 0 0 16 0
    -- .rela.text: RELA, of section 1, by the symbols of section 5
    ∷ section_of 7 4 0 (relocations_at s) (24 * length s.relocations) 5 1 8 24
    -- .tdata: PROGBITS, WRITE, ALLOC and TLS
    ∷ section_of 18 1 0x403 (576 + length s.code) (length s.initial) 0 0 4 0
    -- .tbss: NOBITS, WRITE, ALLOC and TLS
    ∷ section_of 25 8 0x403 (symbols_at s) s.zeros 0 0 (zeros_alignment s.zeros) 0
    -- .symtab: SYMTAB, with the names of section 6, all but the reserved symbol global
    ∷ section_of 31 2 0 (symbols_at s) (24 * length (symbols_of s)) 6 1 8 24
    -- .strtab and .shstrtab: STRTAB
    ∷ section_of 39 3 0 (names_at s) (length (names_of s)) 0 0 1 0
    ∷ section_of 47 3 0 (section_names_at s) 57 0 0 1 0
    ∷ []

-- ** the file

unfoldable pub file_header : Header
file_header = object_header 8

-- the bytes after the headers
unfoldable pub contents_of : Shape → List ℕ
contents_of s =
    s.code ++ (s.initial ++ (flat_map symbol_bytes (symbols_of s) ++ (names_of s ++ (section_names
    ++ flat_map rela_bytes s.relocations))))

unfoldable pub object_bytes : Shape → List ℕ
object_bytes s = header_bytes file_header ++ (flat_map section_bytes (sections_of s) ++ contents_of s)
