-- What walks over the symbols and the sites of objects look for, and what they have found so far.
use Rattle.std.specs.Prelude.{◌≡◌, ℕ, Bool, true, List, map, ◌++◌, [], ◌∷◌, if◌then◌else◌}
use Rattle.std.specs.List.{filter_map, list_any, range_with_len}
use Rattle.std.specs.Str.{bytes_eq}
use Rattle.elf_object.specs.Parts.{symbol_count}
use Rattle.tls_symbols.specs.Bindings.{bound_to}
use Rattle.tls_symbols.specs.Definitions.{definition_of}
use Rattle.dynamic_symbols.specs.Names.{is_startup}
use Rattle.dynamic_symbols.specs.declared.defining.Found.{Found}

-- the names, with one more if it is new
abbrev pub with_name : List (List ℕ) → List ℕ → List (List ℕ)
with_name names name = if list_any (bytes_eq name) names then names else names ++ name ∷ []

-- the names, with those of a list that are new, in its order
abbrev pub with_names : List (List ℕ) → List (List ℕ) → List (List ℕ)
with_names names [] = names
with_names names (name ∷ more) = with_names (with_name names name) more

-- the names that were found
abbrev pub names_of : Found → List (List ℕ)
names_of found = map (λ name. name.now) found.names.keys

-- the symbols are the definitions that the names bind to
abbrev pub IsBound : List (List ℕ) → Found → Type 0
IsBound objects found = found.symbols.items ≡ filter_map (definition_of objects) (names_of found)

-- whether any symbol of object o, with the bytes b, is bound to a startup image if it may be one's variable
abbrev pub imports_any : List (List ℕ) → List (List (List ℕ)) → ℕ → List ℕ → Bool
imports_any objects startup o b =
    list_any (λ e. is_startup (bound_to objects startup o e true)) (range_with_len 0 (symbol_count b))
