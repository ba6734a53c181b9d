-- What a loader finds of a name in an image that others may import from is the name's definition, where that is
-- thread-local and seen by other images, and else nothing.
use Rattle.std.proofs.Common.{◌≡◌, ◌∙◌, ◌&&◌, ◌||◌, ℕ, Bool, true, false, List, [], ◌∷◌, ◌++◌, Option, Some, None, map}
use Rattle.std.proofs.Common.{refl, sym, ap}
use Rattle.std.specs.Prelude.{if◌then◌else◌}
use Rattle.std.specs.List.{All, list_any}
use Rattle.std.specs.Str.{bytes_eq}
use Rattle.std.proofs.lemmas.Bool.{and_left, and_parts, and_right}
use Rattle.std.proofs.lemmas.List.Elements.{All-head, All-tail}
use Rattle.std.proofs.lemmas.Option.{same_Some}
use Rattle.std.proofs.lemmas.Slice.Eq.{bytes_eq-Decides}
use Rattle.dynamic_symbols.proofs.Lists.{all_first, all_rest}
use Rattle.dynamic_symbols.proofs.Named.{symbols_named}
use Rattle.dynamic_symbols.specs.Laws.{IsShared}
use Rattle.dynamic_symbols.specs.Names.{name_of}
use Rattle.elf_object.specs.Lent.{symbol_type, symbol_visibility}
use Rattle.image_file.specs.declared.symbol.ImageSymbol.{ImageSymbol}
use Rattle.elf_records.specs.declared.symbol.SymbolType.TheVariants.{Tls}
use Rattle.image_writer.specs.Tables.{finished}
use Rattle.link_core.specs.Dynamic.{defined, names, own_symbols, symbols}
use Rattle.link_core.specs.Images.{contents, image_of}
use Rattle.link_faults.specs.declared.symbol_ref.SymbolRef.{SymbolRef}
use Rattle.link_needs.specs.Given.{IsGiven}
use Rattle.link_needs.specs.Linking.{Linking, object, offset}
use Rattle.loaded_modules.specs.Loader.{is_shared, shared_among, shared_offset}
use Rattle.tls_symbols.proofs.ExportLaw.{exports_by_name}
use Rattle.tls_symbols.specs.Bindings.{exported_names, is_tls_symbol}
use Rattle.elf_records.specs.Symbols.{is_tls, is_visible}
use Rattle.tls_symbols.specs.Definitions.{definition_of}
use Rattle.tls_symbols.specs.Laws.{is_exported_by}
use Rattle.loaded_names.proofs.Defined.{IsOwn, definition_listed, definition_shared, symbols_own}
use Rattle.loaded_names.proofs.Named.{IsForeign, other_names, other_symbols, others_foreign}
use Rattle.loaded_names.proofs.Symbols.{placed_in}

-- ** a symbol

module _ (l : Linking) where
  -- what a loader finds of a definition
  abbrev pub export_at : Option SymbolRef → Option ℕ
  export_at None = None
  export_at (Some found) = if is_exported_by l.objects (Some found) then Some (offset l found) else None

  module _ (given : IsGiven l) where
    same_shared : (found : SymbolRef) → IsShared l.objects found
        → is_shared (defined l found) ≡ is_exported_by l.objects (Some found)
    unfolding defined
    same_shared found shares = of_tls (is_tls_symbol (object l found.object) found.symbol) refl
      where
        of_tls : (t : Bool) → is_tls_symbol (object l found.object) found.symbol ≡ t
            → (is_tls (if t then Tls else symbol_type (object l found.object) found.symbol)
            && is_visible (symbol_visibility (object l found.object) found.symbol))
            ≡ (t && is_visible (symbol_visibility (object l found.object) found.symbol))
        of_tls true is = refl
        of_tls false other =
            and_left (is_tls (symbol_type (object l found.object) found.symbol))
            (is_visible (symbol_visibility (object l found.object) found.symbol))
            ((placed_in l given found shares).not_tls other)

    value_is : (found : SymbolRef) → is_exported_by l.objects (Some found) ≡ true
        → (defined l found).value ≡ offset l found
    unfolding defined
    value_is found is =
        let tls : is_tls_symbol (object l found.object) found.symbol ≡ true =
        (and_parts (is_tls_symbol (object l found.object) found.symbol)
        (is_visible (symbol_visibility (object l found.object) found.symbol)) is).0 in
        rw tls refl

    -- ** the first of a name

    module _ (name : List ℕ) where
      abbrev finds : List SymbolRef → List ImageSymbol → List (List ℕ) → Option ℕ
      finds own more others = shared_among name (map (defined l) own ++ more) (map (name_of l.objects) own ++ others)

      -- a symbol of the name is its definition
      definition_is : (found : SymbolRef) → IsOwn l.objects found → bytes_eq name (name_of l.objects found) ≡ true
          → definition_of l.objects name ≡ Some found
      definition_is found own same =
          ap (definition_of l.objects) ((bytes_eq-Decides name (name_of l.objects found)).0 same) ∙ own

      shared_is : (found : SymbolRef) → definition_of l.objects name ≡ Some found
          → is_shared (defined l found) ≡ is_exported_by l.objects (definition_of l.objects name)
      shared_is found is =
          same_shared found (definition_shared l.objects name found is) ∙ ap (is_exported_by l.objects) (sym is)

      -- where the definition is not exported no symbol of the image is found
      never : (own : List SymbolRef) (more : List ImageSymbol) (others : List (List ℕ)) → All (IsOwn l.objects) own
          → is_exported_by l.objects (definition_of l.objects name) ≡ false
          → finds own more others ≡ shared_among name more others
      never [] more others are not_exported = refl
      never (found ∷ own) more others are not_exported =
          of_name (bytes_eq name (name_of l.objects found)) refl
          (never own more others (all_rest (IsOwn l.objects) found own are) not_exported)
        where
          of_name : (t : Bool) → bytes_eq name (name_of l.objects found) ≡ t
              → finds own more others ≡ shared_among name more others
              → finds (found ∷ own) more others ≡ shared_among name more others
          of_name true same rest =
              let first : (is_shared (defined l found) && bytes_eq name (name_of l.objects found)) ≡ false =
              and_left (is_shared (defined l found)) (bytes_eq name (name_of l.objects found))
              (shared_is found (definition_is found (all_first (IsOwn l.objects) found own are) same) ∙ not_exported) in
              rw first rest
          of_name false other rest =
              let first : (is_shared (defined l found) && bytes_eq name (name_of l.objects found)) ≡ false =
              and_right (is_shared (defined l found)) (bytes_eq name (name_of l.objects found)) other in
              rw first rest

      -- and where it is, it is the first
      first : (definition : SymbolRef) → definition_of l.objects name ≡ Some definition
          → is_exported_by l.objects (Some definition) ≡ true → (own : List SymbolRef) (more : List ImageSymbol)
          (others : List (List ℕ)) → All (IsOwn l.objects) own
          → list_any (bytes_eq name) (map (name_of l.objects) own) ≡ true
          → finds own more others ≡ Some (offset l definition)
      first definition is exported [] more others are listed = absurd (cc)
      first definition is exported (found ∷ own) more others are listed =
          of_name (bytes_eq name (name_of l.objects found)) refl listed
          (first definition is exported own more others (all_rest (IsOwn l.objects) found own are))
        where
          of_name : (t : Bool) → bytes_eq name (name_of l.objects found) ≡ t
              → (t || list_any (bytes_eq name) (map (name_of l.objects) own)) ≡ true
              → (list_any (bytes_eq name) (map (name_of l.objects) own) ≡ true
              → finds own more others ≡ Some (offset l definition))
              → finds (found ∷ own) more others ≡ Some (offset l definition)
          of_name true same listed rest =
              let its = definition_is found (all_first (IsOwn l.objects) found own are) same in
              let one : definition ≡ found = same_Some definition found (sym is ∙ its) in
              let shared : is_shared (defined l found) ≡ true =
              shared_is found its ∙ ap (is_exported_by l.objects) is ∙ exported in
              rw (shared, same) (ap (λ (x : SymbolRef). Some ((defined l x).value)) (sym one)
              ∙ ap Some (value_is definition exported))
          of_name false other listed rest =
              let passed : (is_shared (defined l found) && bytes_eq name (name_of l.objects found)) ≡ false =
              and_right (is_shared (defined l found)) (bytes_eq name (name_of l.objects found)) other in
              rw passed (rest listed)

      -- nothing is found of what the image does not define
      none_foreign : (others : List ImageSymbol) (their_names : List (List ℕ)) → All IsForeign others
          → shared_among name others their_names ≡ None
      none_foreign [] their_names are = refl
      none_foreign (symbol ∷ others) [] are = refl
      none_foreign (symbol ∷ others) (own ∷ their_names) are =
          let undefined : symbol.is_defined ≡ false = All-head IsForeign symbol others are in
          rw undefined (none_foreign others their_names (All-tail IsForeign symbol others are))

      -- ** an image

      pub export_is : shared_offset name (image_of l) ≡ export_at (definition_of l.objects name)
      unfolding image_of finished contents symbols names
      export_is = of_definition (definition_of l.objects name) refl
        where
          of_exported : (found : SymbolRef) → definition_of l.objects name ≡ Some found
              → (t : Bool) → is_exported_by l.objects (Some found) ≡ t
              → finds (own_symbols l) (other_symbols l name) (other_names l name)
              ≡ (if t then Some (offset l found) else None)
          of_exported found is true exported =
              first found is exported (own_symbols l) (other_symbols l name) (other_names l name)
              (symbols_own l.objects)
              (ap (list_any (bytes_eq name)) (symbols_named l.objects) ∙ definition_listed l.objects name found is)
          of_exported found is false not_exported =
              never (own_symbols l) (other_symbols l name) (other_names l name) (symbols_own l.objects)
              (ap (is_exported_by l.objects) is ∙ not_exported)
              ∙ none_foreign (other_symbols l name) (other_names l name) (others_foreign l name)

          of_definition : (d : Option SymbolRef) → definition_of l.objects name ≡ d
              → finds (own_symbols l) (other_symbols l name) (other_names l name) ≡ export_at d
          of_definition None is =
              never (own_symbols l) (other_symbols l name) (other_names l name) (symbols_own l.objects)
              (ap (is_exported_by l.objects) is)
              ∙ none_foreign (other_symbols l name) (other_names l name) (others_foreign l name)
          of_definition (Some found) is = of_exported found is (is_exported_by l.objects (Some found)) refl

      -- ** by whether the image exports the name

      -- it has a definition that other images find
      pub record IsExport : Type 0 where
        pub found : SymbolRef
        pub defined : definition_of l.objects name ≡ Some found
        pub shared : shared_offset name (image_of l) ≡ Some (offset l found)

      pub exported_found : list_any (bytes_eq name) (exported_names l.objects) ≡ true → IsExport
      exported_found is =
          of_definition (definition_of l.objects name) refl (sym (exports_by_name l.objects name) ∙ is)
        where
          of_definition : (d : Option SymbolRef) → definition_of l.objects name ≡ d
              → is_exported_by l.objects (definition_of l.objects name) ≡ true → IsExport
          of_definition None none exported =
              let not_exported : is_exported_by l.objects (definition_of l.objects name) ≡ false =
              ap (is_exported_by l.objects) none in
              absurd (cc)
          of_definition (Some found) some exported =
              let its : is_exported_by l.objects (Some found) ≡ true = ap (is_exported_by l.objects) (sym some)
              ∙ exported in
              record {
                found = found;
                defined = some;
                shared = export_is ∙ ap export_at some ∙ ap (λ t. if t then Some (offset l found) else None) its;
              }

      pub other_missed : list_any (bytes_eq name) (exported_names l.objects) ≡ false
          → shared_offset name (image_of l) ≡ None
      other_missed is =
          export_is
          ∙ of_definition (definition_of l.objects name) (sym (exports_by_name l.objects name) ∙ is)
        where
          of_definition : (d : Option SymbolRef) → is_exported_by l.objects d ≡ false → export_at d ≡ None
          of_definition None not_exported = refl
          of_definition (Some found) not_exported = ap (λ t. if t then Some (offset l found) else None) not_exported
