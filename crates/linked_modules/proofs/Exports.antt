-- A name that an image exports is that of one of its own symbols, which is thread-local and seen by other images.
use Rattle.std.proofs.Common.{◌≡◌, ◌+◌, ◌-◌, ◌<◌, ◌≤◌, ◌∙◌, ℕ, Bool, true, false, not, List, [], ◌∷◌, Option, Some}
use Rattle.std.proofs.Common.{None, length, drop, nat_eq, refl, ap, subst, arith}
use Rattle.std.specs.Prelude.{◌&&◌, if◌then◌else◌}
use Rattle.std.specs.List.{All, flat_map, list_any, range_with_len}
use Rattle.std.specs.Str.{bytes_eq}
use Rattle.std.proofs.lemmas.Bool.Decides.{nat_tests}
use Rattle.std.proofs.lemmas.List.FromFn.{get_or-range_with_len, length-range_with_len}
use Rattle.std.proofs.lemmas.Slice.Eq.{bytes_eq-Decides}
use Rattle.elf_records.specs.declared.symbol.SymbolBinding.TheVariants.{Local}
use Rattle.elf_object.specs.declared.symbol.SymbolPlace.{SymbolPlace}
use Rattle.elf_object.specs.declared.symbol.SymbolPlace.TheVariants.{Undefined, Absolute, InSection}
use Rattle.elf_object.specs.Lent.{symbol_binding, symbol_name, symbol_place, symbol_visibility}
use Rattle.elf_object.specs.Parts.{symbol_count}
use Rattle.link_faults.specs.declared.symbol_ref.SymbolRef.{SymbolRef}
use Rattle.tls_symbols.specs.Bindings.{exported_at, exported_in, exported_names, is_exported, is_symbol}
use Rattle.tls_symbols.specs.Bindings.{is_its_definition, is_tls_symbol, object_at}
use Rattle.elf_object.specs.Lent.{is_tls_place}
use Rattle.elf_records.specs.Symbols.{is_visible}
use Rattle.tls_symbols.specs.Definitions.{definition_of, is_defined, same_binding}
use Rattle.tls_symbols.proofs.Within.{dropped_is}
use Rattle.dynamic_symbols.specs.Names.{defined_at, defined_in, defined_names, defined_symbols, is_definition}
use Rattle.dynamic_symbols.proofs.Lists.{all_append, all_cons, all_flat_range, all_nil}
use Rattle.linked_modules.proofs.Listed.{any_bound, any_distinct, any_flat, both}
use Rattle.tls_symbols.specs.Definitions.{flat_map_from}

-- ** what holds of the name of each symbol that is exported holds of all exports

module _ (objects : List (List ℕ)) (P : List ℕ → Type 0)
    (each : (o e : ℕ) → o < length objects → 1 ≤ e → e < symbol_count (object_at objects o)
    → is_exported objects o (object_at objects o) e ≡ true → P (symbol_name (object_at objects o) e)) where
  at_symbol : (o e : ℕ) → o < length objects → 1 ≤ e → e < symbol_count (object_at objects o)
      → All P (exported_at objects o (object_at objects o) e)
  at_symbol o e within above below = of_test (is_exported objects o (object_at objects o) e) refl
    where
      of_test : (t : Bool) → is_exported objects o (object_at objects o) e ≡ t
          → All P (if t then symbol_name (object_at objects o) e ∷ [] else [])
      of_test true is = all_cons P (symbol_name (object_at objects o) e) [] (each o e within above below is) (all_nil P)
      of_test false is = all_nil P

  in_object : (o : ℕ) → o < length objects → All P (exported_in objects o (object_at objects o))
  unfolding exported_in
  in_object o within =
      all_flat_range P (exported_at objects o (object_at objects o)) 1 (symbol_count (object_at objects o) - 1)
      (λ e low high. at_symbol o e within low (omega (arith, low, high)))

  from_object : (more : List (List ℕ)) (o : ℕ) → drop o objects ≡ more → All P
      (flat_map_from (exported_in objects) o more)
  from_object [] o left = all_nil P
  from_object (b ∷ more) o left =
      let at = dropped_is objects o [] b more left in
      all_append P (exported_in objects o b) (flat_map_from (exported_in objects) (o + 1) more)
      (subst (λ c. All P (exported_in objects o c)) at.here (in_object o at.within)) (from_object more (o + 1) at.rest)

  pub all_exported : All P (exported_names objects)
  unfolding exported_names
  all_exported = from_object objects 0 refl

-- ** a symbol that is exported

is_it : (found : Option SymbolRef) (o e : ℕ) → is_symbol found o e ≡ true
    → found ≡ Some (record { object = o; symbol = e })
is_it None o e is = absurd (cc)
is_it (Some x) o e is =
    let tests = both (nat_eq x.object o) (nat_eq x.symbol e) is in
    let object : x.object ≡ o = same x.object o tests.0 in
    let symbol : x.symbol ≡ e = same x.symbol e tests.1 in
    (λ i. Some (record { object = object i; symbol = symbol i }))
  where
    same : (m n : ℕ) → nat_eq m n ≡ true → m ≡ n
    same m n h = grind (arith, nat_tests)

defined_tls : (b : List ℕ) (place : SymbolPlace) → is_tls_place b place ≡ true → is_defined place ≡ true
defined_tls b Undefined is = absurd (cc)
defined_tls b Absolute is = refl
defined_tls b (InSection s) is = refl

module _ (objects : List (List ℕ)) (o e : ℕ) (within : o < length objects) (above : 1 ≤ e)
    (below : e < symbol_count (object_at objects o))
    (exported : is_exported objects o (object_at objects o) e ≡ true) where
  abbrev b : List ℕ
  b = object_at objects o

  abbrev name : List ℕ
  name = symbol_name b e

  tests : (is_its_definition objects o b e ≡ true)
      × ((is_tls_symbol b e && is_visible (symbol_visibility b e)) ≡ true)
  tests = both (is_its_definition objects o b e) (is_tls_symbol b e && is_visible (symbol_visibility b e)) exported

  pub seen : (is_tls_symbol b e ≡ true) × (is_visible (symbol_visibility b e) ≡ true)
  seen = both (is_tls_symbol b e) (is_visible (symbol_visibility b e)) tests.1

  its : (not (same_binding Local (symbol_binding b e)) ≡ true) × (is_symbol (definition_of objects name) o e ≡ true)
  its = both (not (same_binding Local (symbol_binding b e))) (is_symbol (definition_of objects name) o e) tests.0

  -- its name is one of those that the image defines
  defines : is_definition b e ≡ true
  defines =
      ap (λ t. t && is_defined (symbol_place b e)) its.0 ∙ defined_tls b (symbol_place b e) seen.0

  at_itself : list_any (bytes_eq name) (defined_at b e) ≡ true
  at_itself =
      let named : bytes_eq name name ≡ true = (bytes_eq-Decides name name).1 refl in
      rw (defines, named) refl

  listed : list_any (bytes_eq name) (defined_names objects) ≡ true
  unfolding defined_names defined_in
  listed =
      any_distinct name (flat_map defined_in objects)
      (any_flat (bytes_eq name) defined_in objects o [] within
      (any_flat (bytes_eq name) (defined_at b) (range_with_len 1 (symbol_count b - 1)) (e - 1) 0
      (omega (arith, inside, length-range_with_len 1 (symbol_count b - 1)))
      (ap (λ n. list_any (bytes_eq name) (defined_at b n))
      (get_or-range_with_len 1 (symbol_count b - 1) (e - 1) 0 inside ∙ number) ∙ at_itself)))
    where
      inside : e - 1 < symbol_count b - 1
      inside = omega (arith, above, below)

      number : 1 + (e - 1) ≡ e
      number = omega (arith, above)

  -- so it is among the image's own symbols
  pub is_own : (test : SymbolRef → Bool) → test (record { object = o; symbol = e }) ≡ true
      → list_any test (defined_symbols objects) ≡ true
  unfolding defined_symbols
  is_own test passes =
      any_bound test (definition_of objects) name (record { object = o; symbol = e }) (defined_names objects)
      (is_it (definition_of objects name) o e its.1) passes listed
