-- The laws of names.
use Rattle.std.specs.Prelude.{◌≡◌, ◌&&◌, ℕ, Bool, false, List, Option, Some, None}
use Rattle.std.specs.List.{list_any}
use Rattle.std.specs.Str.{bytes_eq}
use Rattle.elf_object.specs.Lent.{symbol_visibility}
use Rattle.link_faults.specs.declared.symbol_ref.SymbolRef.{SymbolRef}
use Rattle.tls_symbols.specs.Bindings.{exported_names, is_tls_symbol, object_at}
use Rattle.elf_records.specs.Symbols.{is_visible}
use Rattle.tls_symbols.specs.Definitions.{definition_of}

-- whether a name with this definition is exported: the definition is thread-local and visible to other images
abbrev pub is_exported_by : List (List ℕ) → Option SymbolRef → Bool
is_exported_by objects (Some found) =
    let b = object_at objects found.object in
    is_tls_symbol b found.symbol && is_visible (symbol_visibility b found.symbol)
is_exported_by objects None = false

-- an image exports exactly the names whose definition in it is thread-local and visible to other images
abbrev pub ExportsAreByName : Type 0
ExportsAreByName = (objects : List (List ℕ)) (name : List ℕ)
    → list_any (bytes_eq name) (exported_names objects) ≡ is_exported_by objects (definition_of objects name)
