-- An object that has no symbol of a startup image imports nothing.
use Rattle.std.proofs.Common.{◌≡◌, ◌+◌, ◌<◌, ◌∙◌, ℕ, Bool, true, false, List, [], ◌∷◌, ◌++◌, Option, Some, None, length}
use Rattle.std.proofs.Common.{refl, sym, ap, arith}
use Rattle.std.specs.Prelude.{if◌then◌else◌}
use Rattle.std.specs.List.{list_any, range_with_len}
use Rattle.std.specs.Str.{bytes_eq}
use Rattle.std.proofs.lemmas.List.Folds.{list_any_at}
use Rattle.std.proofs.lemmas.List.FromFn.{get_or-range_with_len, length-range_with_len}
use Rattle.elf_records.specs.declared.symbol.SymbolBinding.TheVariants.{Local}
use Rattle.elf_records.specs.Symbols.{get_address}
use Rattle.elf_object.specs.Lent.{symbol_binding, symbol_name}
use Rattle.elf_object.specs.Parts.{symbol_count}
use Rattle.sequence_forms.specs.Forms.{row}
use Rattle.sequence_forms.specs.declared.places.Site.{Site}
use Rattle.sequence_match.specs.Sites.{HaveSymbols}
use Rattle.link_faults.specs.declared.binding.Binding.TheVariants.{Here, Runtime}
use Rattle.link_faults.specs.declared.symbol_ref.SymbolRef.{SymbolRef}
use Rattle.tls_symbols.specs.Bindings.{bound_to, here_or, name_bound, object_at}
use Rattle.tls_symbols.specs.Bindings.{may_import as may_be_elsewhere}
use Rattle.tls_symbols.specs.Definitions.{definition_of, same_binding}
use Rattle.dynamic_symbols.specs.Found.{imports_any}
use Rattle.dynamic_symbols.specs.Names.{imported_in, is_import, is_startup}
use Rattle.dynamic_symbols.proofs.Adding.{imports_none}
use Rattle.dynamic_symbols.proofs.Lists.{all_first, all_rest}

-- a test that no number below n passes
none_below : (test : ℕ → Bool) (n e : ℕ) → list_any test (range_with_len 0 n) ≡ false → e < n → test e ≡ false
none_below test n e none below = by (test e) refl
  where
    by : (t : Bool) → test e ≡ t → t ≡ false
    by false is = refl
    by true is =
        let place : e < length (range_with_len 0 n) = rw (length-range_with_len 0 n) below in
        let number : 0 + e ≡ e = omega arith in
        sym (list_any_at test (range_with_len 0 n) e 0 place
        (ap test (get_or-range_with_len 0 n e 0 below ∙ number) ∙ is)) ∙ none

module _ (objects : List (List ℕ)) (startup : List (List (List ℕ))) (o : ℕ) where
  -- what may be no other image's variable is bound to no startup image
  stays : (e : ℕ) → is_startup (bound_to objects startup o e false) ≡ false
  unfolding bound_to
  stays e = of_local (same_binding Local (symbol_binding (object_at objects o) e))
    where
      name : List ℕ
      name = symbol_name (object_at objects o) e

      of_definition : (found : Option SymbolRef) → is_startup (here_or found None) ≡ false
      of_definition (Some x) = refl
      of_definition None = refl

      of_name : (t : Bool) → is_startup (if t then Some Runtime else here_or (definition_of objects name) None) ≡ false
      of_name true = refl
      of_name false = of_definition (definition_of objects name)

      of_local : (t : Bool) → is_startup
          (if t then Some (Here (record { object = o; symbol = e })) else name_bound objects startup false name) ≡ false
      of_local true = refl
      of_local false = of_name (bytes_eq name get_address)

  module _ (b : List ℕ) (none : imports_any objects startup o b ≡ false) where
    no_import : (site : Site) → site.symbol < symbol_count b → is_import objects startup o site ≡ false
    no_import site below = by (may_be_elsewhere (row site.form).first)
      where
        by : (t : Bool) → is_startup (bound_to objects startup o site.symbol t) ≡ false
        by true = none_below (λ e. is_startup (bound_to objects startup o e true))
            (symbol_count b) site.symbol none below
        by false = stays site.symbol

    pub nothing_imported : (sites : List Site) → HaveSymbols b sites → imported_in objects startup o sites ≡ []
    unfolding imported_in
    nothing_imported [] symbols = refl
    nothing_imported (site ∷ sites) symbols =
        let IsBelow : Site → Type 0 = λ site. site.symbol < symbol_count b in
        ap (λ names. names ++ imported_in objects startup o sites)
        (imports_none objects startup o site (no_import site (all_first IsBelow site sites symbols)))
        ∙ nothing_imported sites (all_rest IsBelow site sites symbols)
