-- A name that one of the startup images exports is shared by one of them.
use Rattle.std.proofs.Common.{◌≡◌, ◌||◌, ◌<◌, ◌≤◌, ◌∙◌, ℕ, suc, Bool, true, false, not, List, [], ◌∷◌, ◌++◌, Option}
use Rattle.std.proofs.Common.{Some, None, is_some, length, filter, map, refl, ap}
use Rattle.std.specs.Prelude.{◌&&◌, cond, option_map, if◌then◌else◌}
use Rattle.std.specs.List.{list_any}
use Rattle.std.specs.Option.{option_or}
use Rattle.std.specs.Str.{bytes_eq}
use Rattle.std.proofs.lemmas.Slice.Eq.{bytes_eq-Decides}
use Rattle.elf_object.specs.Lent.{symbol_name, symbol_visibility}
use Rattle.elf_object.specs.Parts.{symbol_count}
use Rattle.image_file.specs.declared.symbol.ImageSymbol.{ImageSymbol}
use Rattle.image_writer.specs.Tables.{finished}
use Rattle.link_faults.specs.declared.symbol_ref.SymbolRef.{SymbolRef}
use Rattle.tls_symbols.specs.Bindings.{exported_names, is_exported, is_tls_symbol}
use Rattle.elf_records.specs.Symbols.{is_visible}
use Rattle.dynamic_symbols.specs.Names.{name_of}
use Rattle.link_needs.specs.Linking.{Linking, object}
use Rattle.link_core.specs.Dynamic.{defined, names, own_symbols, symbols}
use Rattle.link_core.specs.Images.{contents, image_of}
use Rattle.loaded_modules.specs.declared.exports.Export.{Export}
use Rattle.loaded_modules.specs.Images.{is_late}
use Rattle.loaded_modules.specs.Loader.{export_in, is_shared, shared_among, shared_from, shared_offset}
use Rattle.linked_modules.specs.Together.{exports_among}
use Rattle.linked_modules.proofs.Exports.{all_exported, is_own, seen}
use Rattle.linked_modules.proofs.Listed.{IsAmong, all_named}

-- ** one image

module _ (l : Linking) where
  -- a symbol of the image that shares a name
  abbrev shares : List ℕ → SymbolRef → Bool
  shares name found = is_shared (defined l found) && bytes_eq name (name_of l.objects found)

  defined_shared : (o e : ℕ) → is_tls_symbol (object l o) e ≡ true
      → is_visible (symbol_visibility (object l o) e) ≡ true
      → is_shared (defined l (record { object = o; symbol = e })) ≡ true
  unfolding defined
  defined_shared o e tls visible = rw (tls, visible) refl

  among_own : (name : List ℕ) (own : List SymbolRef) (more : List ImageSymbol) (others : List (List ℕ))
      → list_any (shares name) own ≡ true
      → is_some (shared_among name (map (defined l) own ++ more) (map (name_of l.objects) own ++ others)) ≡ true
  among_own name [] more others is = absurd (cc)
  among_own name (found ∷ own) more others is =
      of_test (shares name found) is (among_own name own more others)
    where
      rest : Option ℕ
      rest = shared_among name (map (defined l) own ++ more) (map (name_of l.objects) own ++ others)

      of_test : (t : Bool) → (t || list_any (shares name) own) ≡ true
          → (list_any (shares name) own ≡ true → is_some rest ≡ true)
          → is_some (if t then Some ((defined l found).value) else rest) ≡ true
      of_test true is later = refl
      of_test false is later = later is

  -- the name of a symbol that is exported
  symbol_found : (o e : ℕ) → o < length l.objects → 1 ≤ e → e < symbol_count (object l o)
      → is_exported l.objects o (object l o) e ≡ true
      → is_some (shared_offset (symbol_name (object l o) e) (image_of l)) ≡ true
  unfolding image_of finished contents symbols names
  symbol_found o e within above below exported =
      let name = symbol_name (object l o) e in
      let is = seen l.objects o e within above below exported in
      let named : bytes_eq name name ≡ true = (bytes_eq-Decides name name).1 refl in
      among_own name (own_symbols l) _ _
      (is_own l.objects o e within above below exported (shares name)
      (ap (λ t. t && bytes_eq name name) (defined_shared o e is.0 is.1) ∙ named))

  offset_found : (name : List ℕ) → list_any (bytes_eq name) (exported_names l.objects) ≡ true
      → is_some (shared_offset name (image_of l)) ≡ true
  offset_found name is =
      all_named (λ n. is_some (shared_offset n (image_of l)) ≡ true) name (exported_names l.objects)
      (all_exported l.objects (λ n. is_some (shared_offset n (image_of l)) ≡ true) symbol_found) is

-- ** the startup images

found_here : (number : ℕ) (offset : Option ℕ) (rest : Option Export) → is_some offset ≡ true
    → is_some (option_or (option_map (export_in number) offset) rest) ≡ true
found_here number None rest is = absurd (cc)
found_here number (Some offset) rest is = refl

found_later : (first rest : Option Export) → is_some rest ≡ true → is_some (option_or first rest) ≡ true
found_later None rest is = is
found_later (Some export) rest is = refl

pub export_found : (name : List ℕ) (number : ℕ) (ls : List Linking) → IsAmong (exports_among ls) name
    → is_some (shared_from name number (map (λ l. l.kind) ls) (map image_of ls)) ≡ true
export_found name number [] is = absurd (cc)
export_found name number (l ∷ ls) is = of_late (is_late l.kind) is (export_found name (suc number) ls)
  where
    startup : List Linking
    startup = filter (λ x. not (is_late x.kind)) ls

    rest : Option Export
    rest = shared_from name (suc number) (map (λ x. x.kind) ls) (map image_of ls)

    of_export : (t : Bool) → list_any (bytes_eq name) (exported_names l.objects) ≡ t
        → (t || list_any (λ names. list_any (bytes_eq name) names) (exports_among ls)) ≡ true
        → (IsAmong (exports_among ls) name → is_some rest ≡ true)
        → is_some (option_or (option_map (export_in number) (shared_offset name (image_of l))) rest) ≡ true
    of_export true here is later =
        found_here number (shared_offset name (image_of l)) rest (offset_found l name here)
    of_export false other is later =
        found_later (option_map (export_in number) (shared_offset name (image_of l))) rest (later is)

    of_late : (t : Bool) → IsAmong (map (λ x. exported_names x.objects) (cond (not t) (l ∷ startup) startup)) name
        → (IsAmong (exports_among ls) name → is_some rest ≡ true)
        → is_some (option_or (if t then None else option_map (export_in number) (shared_offset name (image_of l))) rest)
        ≡ true
    of_late true is later = later is
    of_late false is later = of_export (list_any (bytes_eq name) (exported_names l.objects)) refl is later
