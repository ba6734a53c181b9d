-- When a symbol of an image is right (gABI, "Symbol Table").
use Rattle.std.specs.Prelude.{◌≡◌, ◌≢◌, ◌+◌, ◌*◌, ◌<◌, ◌≤◌, ◌⊎◌, ℕ, List}
use Rattle.elf_records.specs.declared.symbol.SymbolEntry.{SymbolEntry}
use Rattle.elf_records.specs.Fields.{part_at}
use Rattle.elf_records.specs.Records.{symbol_at, symbol_binding, symbol_kind}
use Rattle.elf_records.specs.declared.symbol.TheConstants.{SHN_UNDEF, STB_GLOBAL, STB_WEAK, STT_COMMON, STT_TLS}
use Rattle.image_faults.specs.declared.symbol_tests.TheConstants.{GET_ADDRESS_STRING}
use Rattle.image_faults.specs.Parts.{tls_size}
use Rattle.image_faults.specs.Array.{strings_place, strings_size, symbols_place}
use Rattle.elf_records.specs.Strings.{Ends}

-- symbol k
unfoldable pub symbol : List ℕ → ℕ → SymbolEntry
symbol b k = symbol_at (symbols_place b + 24 * k) b

-- its name ends in the string table, its type is known, and it is GLOBAL or WEAK; number 0, the
-- reserved one, need not be
abbrev pub IsRightSymbol : List ℕ → ℕ → Type 0
IsRightSymbol b k =
    Ends b (strings_place b) (strings_size b) (symbol b k).name
    × (symbol_kind (symbol b k) ≤ STT_TLS) × (symbol_kind (symbol b k) ≢ STT_COMMON)
    × ((k ≡ 0) ⊎ (symbol_binding (symbol b k) ≡ STB_GLOBAL) ⊎ (symbol_binding (symbol b k) ≡ STB_WEAK))

-- a thread-local symbol of another image
abbrev pub IsImport : List ℕ → ℕ → Type 0
IsImport b k = (k ≢ 0) × ((symbol b k).shndx ≡ SHN_UNDEF) × (symbol_kind (symbol b k) ≡ STT_TLS)

-- the run time's function that finds thread-local data, by its name with the zero byte after it
abbrev pub IsRuntime : List ℕ → ℕ → Type 0
IsRuntime b k =
    ((symbol b k).shndx ≡ SHN_UNDEF) × ((symbol b k).name + 15 ≤ strings_size b)
    × (part_at 15 (strings_place b + (symbol b k).name) b ≡ GET_ADDRESS_STRING)

-- a thread-local symbol of this image lies past the end of its TLS segment
abbrev pub IsPastTls : List ℕ → ℕ → Type 0
IsPastTls b k =
    (symbol_kind (symbol b k) ≡ STT_TLS) × ((symbol b k).shndx ≢ SHN_UNDEF) × (tls_size b < (symbol b k).value)
