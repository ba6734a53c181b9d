-- The dynamic tables of a linked image: the dynamic array, the hash table, the symbols, the relocations and the names,
-- each at the next multiple of 8 (gABI, "Dynamic Section", "Hash Table", "Symbol Table", "Relocation",
-- "String Table").
use Rattle.std.specs.Prelude.{◌+◌, ◌-◌, ◌*◌, ◌^◌, ◌==◌, ℕ, Bool, true, false, List, [], ◌∷◌, ◌++◌}
use Rattle.std.specs.Prelude.{length, replicate, take, sum_by, nat_lt, if◌then◌else◌}
use Rattle.std.specs.List.{flat_map}
use Rattle.std.specs.Int.{next_multiple_of}
use Rattle.elf_records.specs.Fields.{bytes_of}
use Rattle.elf_records.specs.Records.{dynamic_bytes, symbol_bytes, rela_bytes}
use Rattle.elf_records.specs.declared.dynamic.DynamicEntry.{DynamicEntry}
use Rattle.elf_records.specs.declared.symbol.SymbolEntry.{SymbolEntry}
use Rattle.elf_records.specs.declared.relocation.Rela.{Rela}
use Rattle.elf_records.specs.declared.dynamic.TheConstants.{DT_NULL, DT_HASH, DT_STRTAB, DT_SYMTAB, DT_RELA, DT_RELASZ}
use Rattle.elf_records.specs.declared.dynamic.TheConstants.{DT_RELAENT, DT_STRSZ, DT_SYMENT, DT_FLAGS, DT_FLAGS_1}
use Rattle.elf_records.specs.declared.dynamic.TheConstants.{DF_STATIC_TLS, DF_1_PIE}
use Rattle.elf_records.specs.declared.symbol.TheConstants.{SHN_UNDEF}
use Rattle.elf_records.specs.Symbols.{binding_number, type_number, visibility_number}
use Rattle.image_rules.specs.declared.places.FileKind.{FileKind}
use Rattle.image_rules.specs.declared.places.FileKind.TheVariants.{Exe, Pie, Module}
use Rattle.image_faults.specs.Relocations.{kind_number}
use Rattle.image_file.specs.declared.part.PartClass.TheVariants.{ReadOnly}
use Rattle.image_file.specs.declared.symbol.ImageSymbol.{ImageSymbol}
use Rattle.image_file.specs.declared.relocation.ImageRelocation.{ImageRelocation}
use Rattle.image_file.specs.Spelled.{Part, Spelled}
use Rattle.image_file.specs.Tabled.{tabled}
use Rattle.image_writer.specs.Contents.{Contents, tables_address, all_symbols, all_names, symbol}

-- how many symbols there are, number 0 included, and how many relocations
abbrev pub symbol_total : Contents → ℕ
symbol_total c = length c.symbols + 1

abbrev pub has_relocations : Contents → Bool
has_relocations c = nat_lt 0 (length c.relocations)

-- an entry of the dynamic array
abbrev pub array_entry : ℕ → ℕ → DynamicEntry
array_entry tag value = record { tag = tag; value = value }

-- that of a flag, if the array has one: of static TLS, or of a program that may be loaded anywhere
abbrev pub flags_entries : Bool → FileKind → List DynamicEntry
flags_entries true kind = array_entry DT_FLAGS DF_STATIC_TLS ∷ []
flags_entries false Exe = []
flags_entries false Pie = array_entry DT_FLAGS_1 DF_1_PIE ∷ []
flags_entries false Module = []

-- how many bytes each table has, and where it begins, in bytes from the start of the part
abbrev pub array_size : Contents → ℕ
array_size c = 16 * (6 + (if has_relocations c then 3 else 0) + length (flags_entries c.is_flagged c.kind))

abbrev pub hash_size : Contents → ℕ
hash_size c = 12 + 4 * symbol_total c

abbrev pub symbols_start : Contents → ℕ
symbols_start c = next_multiple_of (array_size c + hash_size c) 8

abbrev pub relocations_start : Contents → ℕ
relocations_start c = symbols_start c + 24 * symbol_total c

abbrev pub strings_start : Contents → ℕ
strings_start c = relocations_start c + 24 * length c.relocations

-- the names, each with a zero byte after it; the name of symbol 0 is empty
abbrev pub name_bytes : List ℕ → List ℕ
name_bytes name = name ++ (0 ∷ [])

unfoldable pub strings : Contents → List ℕ
strings c = flat_map name_bytes (all_names c)

-- the dynamic array
abbrev pub relocation_entries : Contents → Bool → List DynamicEntry
relocation_entries c false = []
relocation_entries c true =
    array_entry DT_RELA (tables_address c + relocations_start c)
    ∷ array_entry DT_RELASZ (24 * length c.relocations)
    ∷ array_entry DT_RELAENT 24
    ∷ []

unfoldable pub array : Contents → List DynamicEntry
array c =
    (
    array_entry DT_HASH (tables_address c + array_size c)
    ∷ array_entry DT_STRTAB (tables_address c + strings_start c)
    ∷ array_entry DT_SYMTAB (tables_address c + symbols_start c)
    ∷ array_entry DT_STRSZ (length (strings c))
    ∷ array_entry DT_SYMENT 24
    ∷ []
    )
    ++ (relocation_entries c (has_relocations c) ++ (flags_entries c.is_flagged c.kind ++ (array_entry DT_NULL 0 ∷ [])))

-- the hash table: one bucket, and a chain through all symbols except number 0
abbrev pub chain : ℕ → ℕ → ℕ
chain n k = if k == 0 then 0 else (if k + 1 == n then 0 else k + 1)

unfoldable pub hash_words : ℕ → List ℕ
hash_words n = 1 ∷ n ∷ (if n == 1 then 0 else 1) ∷ tabled (chain n) n

-- the entry of a symbol whose name begins at this offset of the names; a defined one is in section 1
unfoldable pub symbol_entry : ImageSymbol → ℕ → SymbolEntry
symbol_entry s at = record {
  name = at;
  info = 16 * binding_number s.binding + type_number s.kind;
  other = visibility_number s.visibility;
  shndx = (if s.is_defined then 1 else SHN_UNDEF);
  value = s.value;
  size = s.size;
}

-- where the name of symbol k begins among the names
abbrev pub name_start : Contents → ℕ → ℕ
name_start c k = sum_by (λ name. length name + 1) (take k (all_names c))

unfoldable pub symbol_rows : Contents → List SymbolEntry
symbol_rows c = tabled (λ k. symbol_entry (symbol c k) (name_start c k)) (symbol_total c)

-- the entry of a relocation
unfoldable pub relocation_entry : ImageRelocation → Rela
relocation_entry r = record {
  offset = r.place;
  info = r.symbol * 2 ^ 32 + kind_number r.kind;
  addend = r.addend;
}

-- the tables' bytes; only the hash table may end between multiples of 8
unfoldable pub tables : Contents → List ℕ
tables c =
    flat_map dynamic_bytes (array c)
    ++ (flat_map (bytes_of 4) (hash_words (symbol_total c))
    ++ (replicate (symbols_start c - (array_size c + hash_size c)) 0
    ++ (flat_map symbol_bytes (symbol_rows c)
    ++ (flat_map (λ r. rela_bytes (relocation_entry r)) c.relocations
    ++ strings c))))

-- the part that holds them
unfoldable pub tables_part : Contents → Part
tables_part c = record { class = ReadOnly; address = tables_address c; bytes = tables c }

-- the image that the contents become
unfoldable pub finished : Contents → Spelled
finished c = record {
  kind = c.kind;
  parts = c.parts ++ (tables_part c ∷ []);
  array_size = array_size c;
  got = c.got;
  tls = c.tls;
  symbols = all_symbols c;
  names = all_names c;
  relocations = c.relocations;
  is_flagged = c.is_flagged;
}
