-- Which symbols the dynamic symbol table of an image has, and in which order (gABI, "Symbol Table" and "Dynamic
-- Section"; the order is this project's own).
use Rattle.std.specs.Prelude.{◌+◌, ◌-◌, ◌&&◌, ℕ, Bool, true, false, not, List, [], ◌∷◌, Option, Some}
use Rattle.std.specs.Prelude.{filter, length, sum_by, if◌then◌else◌}
use Rattle.std.specs.List.{filter_map, flat_map, range_with_len}
use Rattle.std.specs.Str.{bytes_eq}
use Rattle.elf_records.specs.declared.symbol.SymbolBinding.TheVariants.{Local}
use Rattle.elf_object.specs.Lent.{symbol_binding, symbol_name, symbol_place}
use Rattle.elf_object.specs.Parts.{symbol_count}
use Rattle.sequence_forms.specs.declared.places.Site.{Site}
use Rattle.sequence_forms.specs.Forms.{row}
use Rattle.link_faults.specs.declared.binding.Binding.{Binding}
use Rattle.link_faults.specs.declared.binding.Binding.TheVariants.{Startup}
use Rattle.link_faults.specs.declared.symbol_ref.SymbolRef.{SymbolRef}
use Rattle.tls_symbols.specs.Bindings.{bound_to, may_import, object_at}
use Rattle.tls_symbols.specs.Definitions.{definition_of, flat_map_from, is_defined, same_binding}

-- the names without repetition, each at its first place
abbrev pub distinct : List (List ℕ) → List (List ℕ)
distinct [] = []
distinct (name ∷ names) = name ∷ filter (λ other. not (bytes_eq name other)) (distinct names)

-- ** what the image defines

-- whether symbol e is GLOBAL or WEAK and defines its name
abbrev pub is_definition : List ℕ → ℕ → Bool
is_definition b e = not (same_binding Local (symbol_binding b e)) && is_defined (symbol_place b e)

-- the name of symbol e, if it defines one
abbrev pub defined_at : List ℕ → ℕ → List (List ℕ)
defined_at b e = if is_definition b e then symbol_name b e ∷ [] else []

-- the names that the symbols of an object define; symbol 0 is reserved
unfoldable pub defined_in : List ℕ → List (List ℕ)
defined_in b = flat_map (defined_at b) (range_with_len 1 (symbol_count b - 1))

-- the names that the objects define, each once, in the order of the first symbols that do
unfoldable pub defined_names : List (List ℕ) → List (List ℕ)
defined_names objects = distinct (flat_map defined_in objects)

-- the definitions that these names bind to: the first GLOBAL one, else the first WEAK one
unfoldable pub defined_symbols : List (List ℕ) → List SymbolRef
defined_symbols objects = filter_map (definition_of objects) (defined_names objects)

-- ** what the image imports

abbrev pub is_startup : Option Binding → Bool
is_startup (Some (Startup image)) = true
is_startup _ = false

-- whether the symbol that a site of object o uses is defined by a startup image
abbrev pub is_import : List (List ℕ) → List (List (List ℕ)) → ℕ → Site → Bool
is_import objects startup o site =
    is_startup (bound_to objects startup o site.symbol (may_import (row site.form).first))

-- the name that the site imports, if it imports one
abbrev pub imported_at : List (List ℕ) → List (List (List ℕ)) → ℕ → Site → List (List ℕ)
imported_at objects startup o site =
    if is_import objects startup o site then symbol_name (object_at objects o) site.symbol ∷ [] else []

-- the names that the sites of object o import
unfoldable pub imported_in : List (List ℕ) → List (List (List ℕ)) → ℕ → List Site → List (List ℕ)
imported_in objects startup o sites = flat_map (imported_at objects startup o) sites

-- the names that a startup image defines and a sequence uses, each once, in the order of their first sites
unfoldable pub imports : List (List ℕ) → List (List (List ℕ)) → List (List Site) → List (List ℕ)
imports objects startup sites = distinct (flat_map_from (imported_in objects startup) 0 sites)

-- ** how much room the names take

abbrev pub name_of : List (List ℕ) → SymbolRef → List ℕ
name_of objects found = symbol_name (object_at objects found.object) found.symbol

-- the size of a name: a symbol table entry of 24 bytes, its bytes, and a zero in the string table
abbrev pub size_of : List ℕ → ℕ
size_of name = 25 + length name

-- the size of all defined and imported names
unfoldable pub name_size : List (List ℕ) → List SymbolRef → List (List ℕ) → ℕ
name_size objects symbols imported = sum_by (λ found. size_of (name_of objects found)) symbols + sum_by size_of imported
