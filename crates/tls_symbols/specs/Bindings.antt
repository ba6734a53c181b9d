-- What a symbol is bound to (gABI, "Symbol Table"; Drepper, "ELF Handling For Thread-Local Storage", section 4: which
-- ways to reach a variable allow another module's).
use Rattle.std.specs.Prelude.{◌+◌, ◌-◌, ◌&&◌, ℕ, Bool, true, false, not, List, [], ◌∷◌, Option, Some, None}
use Rattle.std.specs.Prelude.{slice_index_or, nat_eq, if◌then◌else◌}
use Rattle.std.specs.List.{flat_map, list_any, range_with_len}
use Rattle.std.specs.Str.{bytes_eq}
use Rattle.elf_records.specs.declared.relocation.RelocationKind.{RelocationKind}
pub use Rattle.elf_records.specs.RelocationRows.{may_import}
use Rattle.elf_object.specs.declared.relocation.Relocation.{Relocation}
use Rattle.elf_records.specs.declared.symbol.SymbolBinding.TheVariants.{Local}
use Rattle.elf_records.specs.Symbols.{get_address, is_visible}
use Rattle.elf_object.specs.Lent.{is_tls_place, symbol_binding, symbol_name, symbol_place, symbol_visibility}
use Rattle.elf_object.specs.Parts.{symbol_count}
use Rattle.link_faults.specs.declared.binding.Binding.{Binding}
use Rattle.link_faults.specs.declared.binding.Binding.TheVariants.{Here, Startup, Runtime}
use Rattle.link_faults.specs.declared.symbol_ref.SymbolRef.{SymbolRef}
use Rattle.tls_symbols.specs.declared.imports.Imports.{Imports}
use Rattle.tls_symbols.specs.declared.imports.Imports.TheVariants.{Yes, No}
use Rattle.tls_symbols.specs.Definitions.{definition_of, flat_map_from, same_binding, IsWithin}

-- the bytes of object o
abbrev pub object_at : List (List ℕ) → ℕ → List ℕ
object_at objects o = slice_index_or objects o []

-- ** symbols of thread-local storage

abbrev pub is_tls_symbol : List ℕ → ℕ → Bool
is_tls_symbol b e = is_tls_place b (symbol_place b e)

-- ** what an image exports

abbrev pub is_same : SymbolRef → SymbolRef → Bool
is_same x y = nat_eq x.object y.object && nat_eq x.symbol y.symbol

-- whether the definition is symbol e of object o
abbrev pub is_symbol : Option SymbolRef → ℕ → ℕ → Bool
is_symbol (Some found) o e = nat_eq found.object o && nat_eq found.symbol e
is_symbol None o e = false

-- whether symbol e of object o is GLOBAL or WEAK, and its name binds to it
abbrev pub is_its_definition : List (List ℕ) → ℕ → List ℕ → ℕ → Bool
is_its_definition objects o b e =
    not (same_binding Local (symbol_binding b e)) && is_symbol (definition_of objects (symbol_name b e)) o e

-- whether the image exports a name through this symbol
abbrev pub is_exported : List (List ℕ) → ℕ → List ℕ → ℕ → Bool
is_exported objects o b e =
    is_its_definition objects o b e && (is_tls_symbol b e && is_visible (symbol_visibility b e))

abbrev pub exported_at : List (List ℕ) → ℕ → List ℕ → ℕ → List (List ℕ)
exported_at objects o b e = if is_exported objects o b e then symbol_name b e ∷ [] else []

-- the names that symbols of object o export; symbol 0 is reserved
unfoldable pub exported_in : List (List ℕ) → ℕ → List ℕ → List (List ℕ)
exported_in objects o b = flat_map (exported_at objects o b) (range_with_len 1 (symbol_count b - 1))

-- the names that an image of these objects exports, in the order of their definitions
unfoldable pub exported_names : List (List ℕ) → List (List ℕ)
exported_names objects = flat_map_from (exported_in objects) 0 objects

-- ** what a symbol is bound to

-- the first of the startup images, from number k on, that exports the name
abbrev pub first_export : List ℕ → ℕ → List (List (List ℕ)) → Option ℕ
first_export name k [] = None
first_export name k (names ∷ more) = if list_any (bytes_eq name) names then Some k else first_export name (k + 1) more

abbrev pub of_startup : Option ℕ → Option Binding
of_startup (Some k) = Some (Startup k)
of_startup None = None

abbrev pub here_or : Option SymbolRef → Option Binding → Option Binding
here_or (Some found) rest = Some (Here found)
here_or None rest = rest

-- whether a symbol may be another image's variable
abbrev pub may : Imports → Bool
may Yes = true
may No = false

-- what a name is bound to, by whether it may be another image's variable; image 1 is the program
abbrev pub name_bound : List (List ℕ) → List (List (List ℕ)) → Bool → List ℕ → Option Binding
name_bound objects startup imports name =
    if bytes_eq name get_address then Some Runtime else
    here_or (definition_of objects name) (if imports then of_startup (first_export name 1 startup) else None)

-- what symbol e of object o is bound to, by whether it may be another image's variable; a LOCAL one is bound to itself
unfoldable pub bound_to : List (List ℕ) → List (List (List ℕ)) → ℕ → ℕ → Bool → Option Binding
bound_to objects startup o e imports =
    let b = object_at objects o in
    if same_binding Local (symbol_binding b e)
    then Some (Here (record { object = o; symbol = e }))
    else name_bound objects startup imports (symbol_name b e)

-- what a relocation of object o is bound to, by its symbol and its type
abbrev pub name_binding : List (List ℕ) → List (List (List ℕ)) → RelocationKind → List ℕ → Option Binding
name_binding objects startup kind name = name_bound objects startup (may_import kind) name

abbrev pub binding_of : List (List ℕ) → List (List (List ℕ)) → ℕ → Relocation → Option Binding
binding_of objects startup o r = bound_to objects startup o r.symbol (may_import r.kind)

-- whether a binding is thread-local; what a startup image exports always is
abbrev pub is_tls_binding : List (List ℕ) → Binding → Bool
is_tls_binding objects (Here found) = is_tls_symbol (object_at objects found.object) found.symbol
is_tls_binding objects (Startup k) = true
is_tls_binding objects Runtime = false

-- what is bound in the image is one of its symbols
abbrev pub IsBindingWithin : List (List ℕ) → Binding → Type 0
IsBindingWithin objects (Here found) = IsWithin objects found
IsBindingWithin objects (Startup k) = Unit {0}
IsBindingWithin objects Runtime = Unit {0}
