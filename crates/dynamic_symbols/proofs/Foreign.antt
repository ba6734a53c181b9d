-- What an image imports is not defined in it, and is not the run time's function.
use Rattle.std.proofs.Common.{◌≡◌, ◌+◌, ℕ, Bool, true, false, List, [], ◌∷◌, Option, Some, None, refl}
use Rattle.std.specs.Prelude.{if◌then◌else◌}
use Rattle.std.specs.List.{All}
use Rattle.std.specs.Str.{bytes_eq}
use Rattle.std.proofs.lemmas.Slice.Eq.{bytes_eq-Decides}
use Rattle.elf_object.specs.declared.relocation.Relocation.{Relocation}
use Rattle.elf_records.specs.declared.symbol.SymbolBinding.TheVariants.{Local}
use Rattle.elf_object.specs.Lent.{symbol_binding, symbol_name}
use Rattle.sequence_forms.specs.declared.places.Site.{Site}
use Rattle.link_faults.specs.declared.binding.Binding.{Binding}
use Rattle.link_faults.specs.declared.binding.Binding.TheVariants.{Here, Runtime}
use Rattle.link_faults.specs.declared.symbol_ref.SymbolRef.{SymbolRef}
use Rattle.tls_symbols.specs.Bindings.{binding_of, bound_to, first_export, here_or, may_import, name_binding, object_at}
use Rattle.tls_symbols.specs.Bindings.{of_startup}
use Rattle.elf_records.specs.Symbols.{get_address}
use Rattle.tls_symbols.specs.Definitions.{definition_of, same_binding}
use Rattle.dynamic_symbols.specs.Laws.{BindingsAreByUse, ImportsAreDistinct, ImportsAreForeign, IsForeign}
use Rattle.dynamic_symbols.specs.Names.{imported_at, imported_in, imports, is_import, is_startup}
use Rattle.sequence_match.specs.Sites.{first_of}
use Rattle.dynamic_symbols.proofs.Lists.{all_append, all_cons, all_distinct, all_flat, all_nil, distinct_names}
use Rattle.tls_symbols.specs.Definitions.{flat_map_from}

module _ (objects : List (List ℕ)) (startup : List (List (List ℕ))) where
  -- a name that is bound to a startup image
  foreign : (o : ℕ) (r : Relocation) → is_startup (binding_of objects startup o r) ≡ true
      → IsForeign objects (symbol_name (object_at objects o) r.symbol)
  unfolding bound_to
  foreign o r is = of_local (same_binding Local (symbol_binding (object_at objects o) r.symbol)) is
    where
      of_definition : (rest : Option Binding) (n : List ℕ) → bytes_eq n get_address ≡ false
          → (found : Option SymbolRef) → definition_of objects n ≡ found → is_startup (here_or found rest) ≡ true
          → IsForeign objects n
      of_definition rest n other (Some x) found h = cc
      of_definition rest n other None found h = record {
        undefined = found;
        named = λ same. (let equal : bytes_eq n get_address ≡ true = (bytes_eq-Decides n get_address).1 same in cc);
      }

      of_name : (rest : Option Binding) (n : List ℕ) (t : Bool) → bytes_eq n get_address ≡ t
          → is_startup (if t then Some Runtime else here_or (definition_of objects n) rest) ≡ true → IsForeign objects n
      of_name rest n true e h = cc
      of_name rest n false e h = of_definition rest n e (definition_of objects n) refl h

      of_local : (t : Bool) → is_startup
          (if t then Some (Here (record { object = o; symbol = r.symbol }))
          else name_binding objects startup r.kind (symbol_name (object_at objects o) r.symbol)) ≡ true
          → IsForeign objects (symbol_name (object_at objects o) r.symbol)
      of_local true h = cc
      of_local false h =
          let n = symbol_name (object_at objects o) r.symbol in
          of_name (if may_import r.kind then of_startup (first_export n 1 startup) else None) n
          (bytes_eq n get_address) refl h

  -- the names of a site, of an object's sites and of all
  all_at : (o : ℕ) (site : Site) → All (IsForeign objects) (imported_at objects startup o site)
  all_at o site = by (is_import objects startup o site) refl
    where
      by : (t : Bool) → is_import objects startup o site ≡ t
          → All (IsForeign objects) (if t then symbol_name (object_at objects o) site.symbol ∷ [] else [])
      by true e = all_cons (IsForeign objects) (symbol_name (object_at objects o) site.symbol) []
          (foreign o (first_of site) e) (all_nil (IsForeign objects))
      by false e = all_nil (IsForeign objects)

  all_in : (o : ℕ) (sites : List Site) → All (IsForeign objects) (imported_in objects startup o sites)
  unfolding imported_in
  all_in o sites = all_flat (IsForeign objects) (imported_at objects startup o) sites (all_at o)

  all_from : (o : ℕ) (sites : List (List Site)) → All (IsForeign objects)
      (flat_map_from (imported_in objects startup) o sites)
  all_from o [] = all_nil (IsForeign objects)
  all_from o (own ∷ more) = all_append (IsForeign objects) (imported_in objects startup o own)
      (flat_map_from (imported_in objects startup) (o + 1) more) (all_in o own) (all_from (o + 1) more)

-- ** the laws of imports

pub imports_foreign : ImportsAreForeign
unfolding imports
imports_foreign objects startup sites = all_distinct (IsForeign objects)
    (flat_map_from (imported_in objects startup) 0 sites) (all_from objects startup 0 sites)

pub imports_distinct : ImportsAreDistinct
unfolding imports
imports_distinct objects startup sites = distinct_names (flat_map_from (imported_in objects startup) 0 sites)

pub bindings_by_use : BindingsAreByUse
unfolding bound_to
bindings_by_use objects startup o x y kinds symbols = λ i.
    if same_binding Local (symbol_binding (object_at objects o) (symbols i))
    then Some (Here (record { object = o; symbol = symbols i }))
    else name_binding objects startup (kinds i) (symbol_name (object_at objects o) (symbols i))
