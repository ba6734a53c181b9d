-- What the dynamic array holds: HASH, STRTAB, SYMTAB, STRSZ, SYMENT; RELA, RELASZ, RELAENT if there are relocations;
-- FLAGS or FLAGS_1, or neither; NULL (gABI, "Dynamic Section").
use Rattle.std.specs.Prelude.{◌≡◌, ◌+◌, ◌-◌, ◌*◌, ◌/◌, ◌%◌, ◌≤◌, ◌==◌, ◌&&◌, ◌⊎◌, ℕ, Bool, List}
use Rattle.std.specs.Prelude.{nat_le, if◌then◌else◌}
use Rattle.elf_records.specs.declared.dynamic.DynamicEntry.{DynamicEntry}
use Rattle.elf_records.specs.Fields.{number_at}
use Rattle.elf_records.specs.Records.{dynamic_at}
use Rattle.elf_records.specs.declared.file_header.TheConstants.{ET_DYN}
use Rattle.elf_records.specs.declared.dynamic.TheConstants.{DT_NULL, DT_HASH, DT_STRTAB, DT_SYMTAB, DT_RELA, DT_RELASZ}
use Rattle.elf_records.specs.declared.dynamic.TheConstants.{DT_RELAENT, DT_STRSZ, DT_SYMENT, DT_FLAGS, DT_FLAGS_1}
use Rattle.elf_records.specs.declared.dynamic.TheConstants.{DF_STATIC_TLS, DF_1_PIE}
use Rattle.image_rules.specs.declared.rule.EntryRule.{EntryRule}
use Rattle.image_rules.specs.declared.rule.EntryRule.TheVariants.{Hash, Strings, Symbols, StringsSize, SymbolSize}
use Rattle.image_rules.specs.declared.rule.EntryRule.TheVariants.{Relocations, RelocationsSize, RelocationSize, Flags}
use Rattle.image_rules.specs.declared.rule.EntryRule.TheVariants.{End}
use Rattle.image_rules.specs.Rules.{entry_number}
use Rattle.image_faults.specs.Parts.{header, segment, loads, last}

-- how many bytes the array has
abbrev pub array_size : List ℕ → ℕ
array_size b = (segment b (loads b)).filesz

-- entry j
unfoldable pub entry : List ℕ → ℕ → DynamicEntry
entry b j = dynamic_at ((last b).offset + 16 * j) b

-- the array has an entry j, and it has this tag
abbrev pub HasTag : List ℕ → ℕ → ℕ → Type 0
HasTag b j tag = (16 * (j + 1) ≤ array_size b) × ((entry b j).tag ≡ tag)

abbrev pub has_tag : List ℕ → ℕ → ℕ → Bool
has_tag b j tag = nat_le (16 * (j + 1)) (array_size b) && ((entry b j).tag == tag)

-- the offset in the file of an address in the last LOAD
abbrev pub place : List ℕ → ℕ → ℕ
place b address = (last b).offset + (address - (last b).vaddr)

-- a table of n bytes at this address lies in the last LOAD, at a multiple of 8 from its start
abbrev pub HoldsTable : List ℕ → ℕ → ℕ → Type 0
HoldsTable b address n =
    ((last b).vaddr ≤ address) × ((address - (last b).vaddr) % 8 ≡ 0)
    × (address + n ≤ (last b).vaddr + (last b).filesz)

-- where the hash table stands, and how many chains it has, by its own count: one for each symbol
abbrev pub hash_place : List ℕ → ℕ
hash_place b = place b (entry b 0).value

unfoldable pub bucket_count : List ℕ → ℕ
bucket_count b = number_at 4 (hash_place b) b

unfoldable pub symbol_count : List ℕ → ℕ
symbol_count b = number_at 4 (hash_place b + 4) b

-- where the names stand, and how many bytes they take; 0 where the array does not say it
abbrev pub strings_place : List ℕ → ℕ
strings_place b = place b (entry b 1).value

abbrev pub strings_size : List ℕ → ℕ
strings_size b = if has_tag b 3 DT_STRSZ then (entry b 3).value else 0

-- where the symbols stand
abbrev pub symbols_place : List ℕ → ℕ
symbols_place b = place b (entry b 2).value

-- where the relocations stand, and how many bytes they take, if the array names them
abbrev pub relocations_place : List ℕ → ℕ
relocations_place b = place b (entry b 5).value

abbrev pub relocations_size : List ℕ → ℕ
relocations_size b = if has_tag b 5 DT_RELA && has_tag b 6 DT_RELASZ then (entry b 6).value else 0

-- how many relocations there are
unfoldable pub relocation_count : List ℕ → ℕ
relocation_count b = relocations_size b / 24

-- the entry after those of the tables
abbrev pub flags_entry : List ℕ → ℕ
flags_entry b = if has_tag b 5 DT_RELA then 8 else 5

-- the image uses static TLS
abbrev pub IsFlagged : List ℕ → Type 0
IsFlagged b = HasTag b (flags_entry b) DT_FLAGS × ((entry b (flags_entry b)).value ≡ DF_STATIC_TLS)

-- the image is a program that may be loaded anywhere
abbrev pub IsProgram : List ℕ → Type 0
IsProgram b =
    HasTag b (flags_entry b) DT_FLAGS_1 × ((entry b (flags_entry b)).value ≡ DF_1_PIE) × ((header b).e_type ≡ ET_DYN)

-- where each entry stands in the array
abbrev pub entry_place : EntryRule → List ℕ → ℕ
entry_place Flags b = flags_entry b
entry_place End b = flags_entry b + 1
entry_place rule b = entry_number rule

-- what each entry holds; the three of relocations only if the first of them is there
abbrev pub IsRightEntry : EntryRule → List ℕ → Type 0
IsRightEntry Hash b =
    HasTag b 0 DT_HASH × HoldsTable b (entry b 0).value (12 + 4 * symbol_count b) × (bucket_count b ≡ 1)
IsRightEntry Strings b = HasTag b 1 DT_STRTAB × HoldsTable b (entry b 1).value (strings_size b)
IsRightEntry Symbols b = HasTag b 2 DT_SYMTAB × HoldsTable b (entry b 2).value (24 * symbol_count b)
IsRightEntry StringsSize b = HasTag b 3 DT_STRSZ
IsRightEntry SymbolSize b = HasTag b 4 DT_SYMENT × ((entry b 4).value ≡ 24)
IsRightEntry Relocations b =
    (HasTag b 5 DT_RELA → ⊥) ⊎ (HasTag b 5 DT_RELA × HoldsTable b (entry b 5).value (relocations_size b))
IsRightEntry RelocationsSize b =
    (HasTag b 5 DT_RELA → ⊥) ⊎ (HasTag b 6 DT_RELASZ × ((entry b 6).value % 24 ≡ 0))
IsRightEntry RelocationSize b = (HasTag b 5 DT_RELA → ⊥) ⊎ (HasTag b 7 DT_RELAENT × ((entry b 7).value ≡ 24))
IsRightEntry Flags b = HasTag b (flags_entry b) DT_NULL ⊎ IsFlagged b ⊎ IsProgram b
IsRightEntry End b = HasTag b (flags_entry b) DT_NULL ⊎ HasTag b (flags_entry b + 1) DT_NULL
