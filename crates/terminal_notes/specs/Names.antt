-- The names at a place in the bytes of an object that may have faults (gABI, "ELF Header", "Sections", "Symbol Table",
-- "Relocation"). No number is believed: what would pass the end of the file has no name, which is the empty one.
use Rattle.std.specs.Prelude.{ℕ, ◌+◌, ◌*◌, List, [], length, nat_le, slice_range, Option, Some, None, if◌then◌else◌}
use Rattle.elf_records.specs.Records.{header_at, section_at, symbol_at, rela_at, rela_symbol}
use Rattle.elf_records.specs.Strings.{text_at}
use Rattle.elf_records.specs.declared.section_header.SectionHeader.{SectionHeader}
use Rattle.elf_records.specs.declared.symbol.SymbolEntry.{SymbolEntry}
use Rattle.elf_records.specs.declared.relocation.Rela.{Rela}
use Rattle.elf_records.specs.declared.file_header.Header.{Header}
use Rattle.object_rules.specs.declared.fault.FaultKind.{FaultKind}
use Rattle.object_rules.specs.declared.fault.FaultKind.TheVariants as kind
use Rattle.terminal_notes.specs.declared.names.Part.{Part}
use Rattle.terminal_notes.specs.declared.names.Part.TheVariants as part

-- the file's header
abbrev pub header_in : List ℕ → Option Header
header_in b = if nat_le 64 (length b) then Some (header_at 0 b) else None

-- entry n of the table at an offset, whose entries have this size, if it lies in the file
abbrev pub entry_in : {R : Type 0} → ℕ → (ℕ → List ℕ → R) → ℕ → ℕ → List ℕ → Option R
entry_in size record_at table n b =
    if nat_le (table + (size * n + size)) (length b) then Some (record_at (table + size * n) b) else None

-- the header of section s
abbrev pub section_of_header : List ℕ → ℕ → Option Header → Option SectionHeader
section_of_header b s None = None
section_of_header b s (Some header) = entry_in 64 section_at header.e_shoff s b

unfoldable pub section_in : List ℕ → ℕ → Option SectionHeader
section_in b s = section_of_header b s (header_in b)

-- a text of the string table with this header
abbrev pub text_of : List ℕ → ℕ → Option SectionHeader → List ℕ
text_of b at None = []
text_of b at (Some table) =
    if nat_le (table.offset + table.size) (length b)
    then text_at (slice_range b table.offset (table.offset + table.size)) at else []

-- the text at an offset of section s, a string table
unfoldable pub text_in : List ℕ → ℕ → ℕ → List ℕ
text_in b s at = text_of b at (section_in b s)

-- the name of section s: its header and the file's name it
abbrev pub name_of_section : List ℕ → Option Header → Option SectionHeader → List ℕ
name_of_section b None section = []
name_of_section b (Some header) None = []
name_of_section b (Some header) (Some section) = text_in b header.e_shstrndx section.name

unfoldable pub section_name : List ℕ → ℕ → List ℕ
section_name b s = name_of_section b (header_in b) (section_in b s)

-- the name of symbol n of the symbol table in section s
abbrev pub name_of_symbol : List ℕ → SectionHeader → Option SymbolEntry → List ℕ
name_of_symbol b table None = []
name_of_symbol b table (Some symbol) = text_in b table.link symbol.name

abbrev pub symbol_of : List ℕ → ℕ → Option SectionHeader → List ℕ
symbol_of b n None = []
symbol_of b n (Some table) = name_of_symbol b table (entry_in 24 symbol_at table.offset n b)

unfoldable pub symbol_in : List ℕ → ℕ → ℕ → List ℕ
symbol_in b s n = symbol_of b n (section_in b s)

-- the name of the symbol that relocation n of section s names
abbrev pub name_of_named : List ℕ → SectionHeader → Option Rela → List ℕ
name_of_named b table None = []
name_of_named b table (Some relocation) = symbol_in b table.link (rela_symbol relocation)

abbrev pub named_of : List ℕ → ℕ → Option SectionHeader → List ℕ
named_of b n None = []
named_of b n (Some table) = name_of_named b table (entry_in 24 rela_at table.offset n b)

unfoldable pub named_in : List ℕ → ℕ → ℕ → List ℕ
named_in b s n = named_of b n (section_in b s)

-- what the entry of a fault of this kind is
abbrev pub part_of : FaultKind → Part
part_of kind.Truncated = part.Whole
part_of kind.NotElf = part.Whole
part_of kind.NotRelocatable = part.Whole
part_of kind.SectionName = part.Whole
part_of kind.SectionKind = part.Whole
part_of kind.SectionAlign = part.Whole
part_of kind.TooLarge = part.Whole
part_of kind.SymbolTable = part.Symbol
part_of kind.SymbolName = part.Symbol
part_of kind.SymbolSection = part.Symbol
part_of kind.SymbolRange = part.Symbol
part_of kind.SymbolKind = part.Symbol
part_of kind.RelocTarget = part.Whole
part_of kind.RelocSymbol = part.Relocation
part_of kind.RelocKind = part.Relocation
part_of kind.RelocRange = part.Relocation
part_of kind.RelocOverlap = part.Relocation
part_of kind.Sequence = part.Relocation
part_of kind.StrayCall = part.Relocation
part_of kind.WritableData = part.Whole

-- the name of the symbol that a fault concerns
abbrev pub symbol_name : Part → List ℕ → ℕ → ℕ → List ℕ
symbol_name part.Whole b s n = []
symbol_name part.Symbol b s n = symbol_in b s n
symbol_name part.Relocation b s n = named_in b s n
