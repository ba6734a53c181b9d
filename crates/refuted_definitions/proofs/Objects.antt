-- Objects of two symbols, as few bytes as tell names, bindings and places: file header, a table of symbols, one of
-- names, and a section of thread-local storage. The file header stands for section 0.
use Rattle.std.proofs.Common.{ℕ, List, [], ◌∷◌, ◌++◌}
use Rattle.std.specs.Prelude.{codes, replicate}
use Rattle.elf_records.specs.declared.file_header.Header.{Header}
use Rattle.elf_records.specs.declared.section_header.SectionHeader.{SectionHeader}
use Rattle.elf_records.specs.declared.symbol.SymbolEntry.{SymbolEntry}
use Rattle.elf_records.specs.Records.{header_bytes, section_bytes, symbol_bytes}

abbrev header : Header
header = record {
  ident = replicate 16 0;
  e_type = 1;
  e_machine = 62;
  e_version = 1;
  e_entry = 0;
  e_phoff = 0;
  e_shoff = 0;
  e_flags = 0;
  e_ehsize = 64;
  e_phentsize = 0;
  e_phnum = 0;
  e_shentsize = 64;
  e_shnum = 4;
  e_shstrndx = 0;
}

abbrev section : ℕ → ℕ → ℕ → ℕ → ℕ → SectionHeader
section kind flags offset size link = record {
  name = 0;
  kind = kind;
  flags = flags;
  addr = 0;
  offset = offset;
  size = size;
  link = link;
  info = 0;
  addralign = 1;
  entsize = 0;
}

-- info: 16 for GLOBAL, 32 for WEAK, and 6 more for TLS; other: 0 for default, 3 for protected; home: 0 for undefined,
-- 0xfff1 for absolute, 3 for thread-local storage
abbrev pub symbol : ℕ → ℕ → ℕ → SymbolEntry
symbol info other home = record { name = 1; info = info; other = other; shndx = home; value = 0; size = 0 }

abbrev none : SymbolEntry
none = record { name = 0; info = 0; other = 0; shndx = 0; value = 0; size = 0 }

unfoldable pub object : List ℕ → SymbolEntry → SymbolEntry → List ℕ
object name first second =
    header_bytes header ++ section_bytes (section 2 0 256 72 2) ++ section_bytes (section 3 0 328 20 0)
    ++ section_bytes (section 1 0x403 0 0 0) ++ symbol_bytes none ++ symbol_bytes first ++ symbol_bytes second
    ++ (0 ∷ name ++ 0 ∷ [])

-- x is GLOBAL, and then WEAK
unfoldable pub defines_twice : List ℕ
defines_twice = object (codes "x") (symbol 16 0 0xfff1) (symbol 32 0 0xfff1)

-- x is not defined
unfoldable pub asks : List ℕ
asks = object (codes "x") (symbol 16 0 0) (symbol 16 0 0)

-- x is a thread-local variable, which is protected
unfoldable pub offers : List ℕ
offers = object (codes "x") (symbol 22 3 3) (symbol 16 0 0)

-- the function of the run time is asked for
unfoldable pub calls : List ℕ
calls = object (codes "__tls_get_addr") (symbol 16 0 0) (symbol 16 0 0)
