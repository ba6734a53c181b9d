-- Each name that an image imports is exported by a startup image.
use Rattle.std.proofs.Common.{◌≡◌, ◌+◌, ◌||◌, ℕ, Bool, true, false, List, [], ◌∷◌, Option, Some, None, refl}
use Rattle.std.specs.Prelude.{if◌then◌else◌}
use Rattle.std.specs.List.{All, list_any}
use Rattle.std.specs.Str.{bytes_eq}
use Rattle.elf_object.specs.declared.relocation.Relocation.{Relocation}
use Rattle.elf_records.specs.declared.symbol.SymbolBinding.TheVariants.{Local}
use Rattle.elf_object.specs.Lent.{symbol_binding, symbol_name}
use Rattle.sequence_forms.specs.declared.places.Site.{Site}
use Rattle.sequence_match.specs.Sites.{first_of}
use Rattle.link_faults.specs.declared.binding.Binding.TheVariants.{Here, Runtime}
use Rattle.link_faults.specs.declared.symbol_ref.SymbolRef.{SymbolRef}
use Rattle.tls_symbols.specs.Bindings.{binding_of, bound_to, first_export, here_or, may_import, name_binding}
use Rattle.elf_records.specs.Symbols.{get_address}
use Rattle.tls_symbols.specs.Bindings.{object_at, of_startup}
use Rattle.tls_symbols.specs.Definitions.{definition_of, same_binding}
use Rattle.dynamic_symbols.specs.Names.{imported_at, imported_in, imports, is_import, is_startup}
use Rattle.dynamic_symbols.proofs.Lists.{all_append, all_cons, all_distinct, all_flat, all_nil}
use Rattle.linked_modules.proofs.Listed.{IsAmong}
use Rattle.tls_symbols.specs.Definitions.{flat_map_from}

first_found : (name : List ℕ) (k : ℕ) (startup : List (List (List ℕ)))
    → is_startup (of_startup (first_export name k startup)) ≡ true → IsAmong startup name
first_found name k [] is = absurd (cc)
first_found name k (names ∷ more) is =
    of_test (list_any (bytes_eq name) names) is (first_found name (k + 1) more)
  where
    of_test : (t : Bool) → is_startup (of_startup (if t then Some k else first_export name (k + 1) more)) ≡ true
        → (is_startup (of_startup (first_export name (k + 1) more)) ≡ true → IsAmong more name)
        → (t || list_any (λ others. list_any (bytes_eq name) others) more) ≡ true
    of_test true is rest = refl
    of_test false is rest = rest is

module _ (objects : List (List ℕ)) (startup : List (List (List ℕ))) where
  -- a name that is bound to a startup image
  bound_among : (o : ℕ) (r : Relocation) → is_startup (binding_of objects startup o r) ≡ true
      → IsAmong startup (symbol_name (object_at objects o) r.symbol)
  unfolding bound_to
  bound_among o r is = of_local (same_binding Local (symbol_binding (object_at objects o) r.symbol)) is
    where
      name : List ℕ
      name = symbol_name (object_at objects o) r.symbol

      of_import : (t : Bool) → is_startup (if t then of_startup (first_export name 1 startup) else None) ≡ true
          → IsAmong startup name
      of_import true is = first_found name 1 startup is
      of_import false is = absurd (cc)

      of_definition : (found : Option SymbolRef)
          → is_startup (here_or found (if may_import r.kind then of_startup (first_export name 1 startup) else None))
          ≡ true
          → IsAmong startup name
      of_definition (Some found) is = absurd (cc)
      of_definition None is = of_import (may_import r.kind) is

      of_name : (t : Bool)
          → is_startup (if t then Some Runtime else here_or (definition_of objects name)
          (if may_import r.kind then of_startup (first_export name 1 startup) else None)) ≡ true
          → IsAmong startup name
      of_name true is = absurd (cc)
      of_name false is = of_definition (definition_of objects name) is

      of_local : (t : Bool)
          → is_startup (if t then Some (Here (record { object = o; symbol = r.symbol }))
          else name_binding objects startup r.kind name) ≡ true
          → IsAmong startup name
      of_local true is = absurd (cc)
      of_local false is = of_name (bytes_eq name get_address) is

  -- the names of a site, of an object's sites and of all
  all_at : (o : ℕ) (site : Site) → All (IsAmong startup) (imported_at objects startup o site)
  all_at o site = of_test (is_import objects startup o site) refl
    where
      of_test : (t : Bool) → is_import objects startup o site ≡ t
          → All (IsAmong startup) (if t then symbol_name (object_at objects o) site.symbol ∷ [] else [])
      of_test true is =
          all_cons (IsAmong startup) (symbol_name (object_at objects o) site.symbol) []
          (bound_among o (first_of site) is)
          (all_nil (IsAmong startup))
      of_test false is = all_nil (IsAmong startup)

  all_in : (o : ℕ) (sites : List Site) → All (IsAmong startup) (imported_in objects startup o sites)
  unfolding imported_in
  all_in o sites = all_flat (IsAmong startup) (imported_at objects startup o) sites (all_at o)

  all_from : (o : ℕ) (sites : List (List Site)) → All (IsAmong startup)
      (flat_map_from (imported_in objects startup) o sites)
  all_from o [] = all_nil (IsAmong startup)
  all_from o (own ∷ more) =
      all_append (IsAmong startup) (imported_in objects startup o own)
      (flat_map_from (imported_in objects startup) (o + 1) more)
      (all_in o own) (all_from (o + 1) more)

  pub imports_among : (sites : List (List Site)) → All (IsAmong startup) (imports objects startup sites)
  unfolding imports
  imports_among sites =
      all_distinct (IsAmong startup) (flat_map_from (imported_in objects startup) 0 sites) (all_from 0 sites)
