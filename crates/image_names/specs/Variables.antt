-- The thread-local variables of an image, by their names (gABI, "Symbol Table": the value of a symbol of type STT_TLS
-- is an offset in the TLS segment).
use Rattle.std.specs.Prelude.{◌&&◌, ℕ, List, drop}
use Rattle.std.specs.Prelude.{Option, Some, None, option_and_then, slice_get}
use Rattle.std.specs.Prelude.{if◌then◌else◌}
use Rattle.std.specs.List.{position_from}
use Rattle.std.specs.Str.{bytes_eq}
use Rattle.image_file.specs.declared.symbol.ImageSymbol.{ImageSymbol}
use Rattle.image_file.specs.Spelled.{Spelled}
use Rattle.image_names.specs.declared.variable.Variable.{Variable}
use Rattle.elf_records.specs.Symbols.{is_tls}

-- the thread-local variable of a symbol, if it is defined and thread-local
abbrev pub variable_place : ImageSymbol → Option Variable
variable_place symbol =
    if symbol.is_defined && is_tls symbol.kind then Some (record { offset = symbol.value }) else None

-- the thread-local variable of a name, by the first symbol with the name; symbol 0 is reserved
unfoldable pub variable_in : Spelled → List ℕ → Option Variable
variable_in image name =
    option_and_then variable_place
    (option_and_then (slice_get image.symbols) (position_from (bytes_eq name) 1 (drop 1 image.names)))
