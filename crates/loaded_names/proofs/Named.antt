-- The first symbol of a name in an image is the definition that the name binds to, where it has one. Else it is none, or
-- another image's, which is nothing here.
use Rattle.std.proofs.Common.{◌≡◌, ◌||◌, ◌∙◌, ℕ, Bool, true, false, List, [], ◌∷◌, ◌++◌, Option, Some, None}
use Rattle.std.proofs.Common.{drop, map, refl, sym, ap, subst}
use Rattle.std.specs.Prelude.{option_and_then, option_map, slice_get}
use Rattle.std.specs.List.{All, list_any, position_from}
use Rattle.std.specs.Str.{bytes_eq}
use Rattle.std.proofs.lemmas.List.Elements.{All-append, All-cons, All-map, All-nil}
use Rattle.std.proofs.lemmas.Option.{get_or_from_slice_get, slice_get_within}
use Rattle.std.proofs.lemmas.Slice.Eq.{bytes_eq-Decides}
use Rattle.image_file.specs.declared.symbol.ImageSymbol.{ImageSymbol}
use Rattle.elf_records.specs.declared.symbol.SymbolType.TheVariants.{NoType, Tls}
use Rattle.image_file.specs.Spelled.{Spelled}
use Rattle.image_writer.specs.Contents.{null_symbol}
use Rattle.image_writer.specs.Tables.{finished}
use Rattle.link_faults.specs.declared.symbol_ref.SymbolRef.{SymbolRef}
use Rattle.tls_symbols.specs.Definitions.{definition_of}
use Rattle.dynamic_symbols.specs.Names.{name_of}
use Rattle.dynamic_symbols.proofs.Lists.{all_first, all_rest}
use Rattle.dynamic_symbols.proofs.Named.{symbols_named}
use Rattle.link_core.specs.Dynamic.{defined, foreign, imports, names, own_symbols, runtime_names, runtime_symbols}
use Rattle.link_core.specs.Dynamic.{symbols}
use Rattle.link_core.specs.Images.{contents, image_of}
use Rattle.link_needs.specs.Linking.{Linking}
use Rattle.link_needs.specs.Needs.{uses_runtime}
use Rattle.loaded_names.proofs.Defined.{IsOwn, definition_listed, symbols_own}
use Rattle.loaded_names.proofs.First.{first_behind, first_here, first_named, one_later}

-- ** symbols of other images

abbrev pub IsForeign : ImageSymbol → Type 0
IsForeign symbol = symbol.is_defined ≡ false

imports_foreign : (names : List (List ℕ)) → All IsForeign (map (λ (name : List ℕ). foreign Tls) names)
imports_foreign names = All-map IsForeign (λ (name : List ℕ). foreign Tls) names (λ k d below. refl)

runtime_foreign : (uses : Bool) → All IsForeign (runtime_symbols uses)
runtime_foreign true = All-cons IsForeign (foreign NoType) [] refl (All-nil IsForeign)
runtime_foreign false = All-nil IsForeign

-- what is read of a symbol, which is nothing of another image's
abbrev pub Reads : {X : Type 0} → (ImageSymbol → Option X) → Type 0
Reads read = (symbol : ImageSymbol) → symbol.is_defined ≡ false → read symbol ≡ None

module _ {X : Type 0} (read : ImageSymbol → Option X) (reads : Reads read) where
  -- so nothing is read here
  none_read : (others : List ImageSymbol) → All IsForeign others → (number : Option ℕ)
      → option_and_then read (option_and_then (slice_get others) number) ≡ None
  none_read others are None = refl
  none_read others are (Some k) = of_symbol (slice_get others k) refl
    where
      of_symbol : (found : Option ImageSymbol) → slice_get others k ≡ found → option_and_then read found ≡ None
      of_symbol None is = refl
      of_symbol (Some symbol) is =
          let same = get_or_from_slice_get others k symbol symbol is in
          reads symbol (subst IsForeign same (are k symbol (slice_get_within others k symbol is)))

-- ** symbols of this one

module _ (l : Linking) (name : List ℕ) where
  abbrev test : List ℕ → Bool
  test = bytes_eq name

  -- the image's own symbols, before others
  abbrev first_of : List SymbolRef → List (List ℕ) → List ImageSymbol → Option ImageSymbol
  first_of own others symbols =
      first_named test (map (name_of l.objects) own ++ others) (map (defined l) own ++ symbols)

  own_first : (own : List SymbolRef) (others : List (List ℕ)) (symbols : List ImageSymbol) → All (IsOwn l.objects) own
      → list_any test (map (name_of l.objects) own) ≡ true
      → first_of own others symbols ≡ option_map (defined l) (definition_of l.objects name)
  own_first [] others symbols are is = absurd (cc)
  own_first (found ∷ own) others symbols are is =
      of_test (test (name_of l.objects found)) refl is
      (own_first own others symbols (all_rest (IsOwn l.objects) found own are))
    where
      of_test : (t : Bool) → test (name_of l.objects found) ≡ t
          → (t || list_any test (map (name_of l.objects) own)) ≡ true
          → (list_any test (map (name_of l.objects) own) ≡ true
          → first_of own others symbols ≡ option_map (defined l) (definition_of l.objects name))
          → first_of (found ∷ own) others symbols ≡ option_map (defined l) (definition_of l.objects name)
      of_test true here is rest =
          let same : name ≡ name_of l.objects found = (bytes_eq-Decides name (name_of l.objects found)).0 here in
          first_here test (name_of l.objects found) (map (name_of l.objects) own ++ others) (defined l found)
          (map (defined l) own ++ symbols) here
          ∙ sym (ap (option_map (defined l))
          (ap (definition_of l.objects) same ∙ all_first (IsOwn l.objects) found own are))
      of_test false other is rest =
          first_behind test (name_of l.objects found) (map (name_of l.objects) own ++ others) (defined l found)
          (map (defined l) own ++ symbols) other
          ∙ rest is

  own_behind : (own : List SymbolRef) (others : List (List ℕ)) (symbols : List ImageSymbol)
      → list_any test (map (name_of l.objects) own) ≡ false
      → first_of own others symbols ≡ first_named test others symbols
  own_behind [] others symbols none = refl
  own_behind (found ∷ own) others symbols none =
      of_test (test (name_of l.objects found)) refl none (own_behind own others symbols)
    where
      of_test : (t : Bool) → test (name_of l.objects found) ≡ t
          → (t || list_any test (map (name_of l.objects) own)) ≡ false
          → (list_any test (map (name_of l.objects) own) ≡ false
          → first_of own others symbols ≡ first_named test others symbols)
          → first_of (found ∷ own) others symbols ≡ first_named test others symbols
      of_test true here none rest = absurd (cc)
      of_test false other none rest =
          first_behind test (name_of l.objects found) (map (name_of l.objects) own ++ others) (defined l found)
          (map (defined l) own ++ symbols) other
          ∙ rest none

  -- ** the image

  abbrev pub other_names : List (List ℕ)
  other_names = imports l ++ runtime_names (uses_runtime l)

  abbrev pub other_symbols : List ImageSymbol
  other_symbols = map (λ (name : List ℕ). foreign Tls) (imports l) ++ runtime_symbols (uses_runtime l)

  pub others_foreign : All IsForeign other_symbols
  others_foreign =
      All-append IsForeign (map (λ (name : List ℕ). foreign Tls) (imports l))
      (runtime_symbols (uses_runtime l)) (imports_foreign (imports l)) (runtime_foreign (uses_runtime l))

  abbrev is_listed : Bool
  is_listed = list_any test (map (name_of l.objects) (own_symbols l))

  -- a name that is not among the image's own has no definition
  not_defined : is_listed ≡ false → definition_of l.objects name ≡ None
  not_defined none = of_definition (definition_of l.objects name) refl
    where
      of_definition : (found : Option SymbolRef) → definition_of l.objects name ≡ found
          → definition_of l.objects name ≡ None
      of_definition None is = is
      of_definition (Some found) is =
          let listed : is_listed ≡ true =
          ap (list_any test) (symbols_named l.objects) ∙ definition_listed l.objects name found is in
          absurd (cc)

  -- what an image has of a name, by the first symbol of the name; symbol 0 is reserved
  abbrev pub symbol_in : Spelled → Option ImageSymbol
  symbol_in image = option_and_then (slice_get image.symbols) (position_from test 1 (drop 1 image.names))

  symbol_first : symbol_in (image_of l) ≡ first_named test (names l) (symbols l)
  unfolding image_of finished contents
  symbol_first = one_later test (names l) 0 null_symbol (symbols l)

  -- what is read of it is what is read of the name's definition
  pub read_named : {X : Type 0} (read : ImageSymbol → Option X) → Reads read
      → option_and_then read (symbol_in (image_of l))
      ≡ option_and_then read (option_map (defined l) (definition_of l.objects name))
  unfolding names symbols
  read_named read reads = ap (option_and_then read) symbol_first ∙ of_listed is_listed refl
    where
      of_listed : (t : Bool) → is_listed ≡ t
          → option_and_then read (first_of (own_symbols l) other_names other_symbols)
          ≡ option_and_then read (option_map (defined l) (definition_of l.objects name))
      of_listed true is =
          ap (option_and_then read) (own_first (own_symbols l) other_names other_symbols (symbols_own l.objects) is)
      of_listed false none =
          ap (option_and_then read) (own_behind (own_symbols l) other_names other_symbols none)
          ∙ none_read read reads other_symbols others_foreign (position_from test 0 other_names)
          ∙ sym (ap (λ d. option_and_then read (option_map (defined l) d)) (not_defined none))
