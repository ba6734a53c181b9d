-- Where the functions of an image begin, by their names (gABI, "Symbol Table").
use Rattle.std.specs.Prelude.{◌+◌, ◌&&◌, ℕ, Bool, true, false, not, List, drop, length}
use Rattle.std.specs.Prelude.{Option, Some, None, nat_le, nat_lt, option_and_then, slice_get}
use Rattle.std.specs.Prelude.{if◌then◌else◌}
use Rattle.std.specs.List.{list_any, position_from}
use Rattle.std.specs.Str.{bytes_eq}
use Rattle.image_file.specs.declared.part.PartClass.{PartClass}
use Rattle.image_file.specs.declared.part.PartClass.TheVariants.{Executable, ReadOnly, Writable}
use Rattle.image_file.specs.declared.symbol.ImageSymbol.{ImageSymbol}
use Rattle.elf_records.specs.Symbols.{is_tls}
use Rattle.image_file.specs.Spelled.{Part, Spelled}

-- code can be executed, but not read
abbrev pub is_code : PartClass → Bool
is_code Executable = true
is_code ReadOnly = false
is_code Writable = false

-- whether a byte of an executable part has this address
abbrev pub runs_at : ℕ → Part → Bool
runs_at address part =
    is_code part.class && (nat_le part.address address && nat_lt address (part.address + length part.bytes))

-- a symbol's address, if it is defined, is not thread-local, and names an executable byte
abbrev pub function_place : List Part → ImageSymbol → Option ℕ
function_place parts symbol =
    if (symbol.is_defined && not (is_tls symbol.kind)) && list_any (runs_at symbol.value) parts
    then Some symbol.value
    else None

-- where the function of a name begins, by the first symbol of the name; symbol 0 is reserved
unfoldable pub entry_in : Spelled → List ℕ → Option ℕ
entry_in image name =
    option_and_then (function_place image.parts)
    (option_and_then (slice_get image.symbols) (position_from (bytes_eq name) 1 (drop 1 image.names)))
