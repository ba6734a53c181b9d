-- The names of an image's symbols have no zero bytes.
use Rattle.std.proofs.Common.{◌≡◌, ◌≢◌, ◌+◌, ◌<◌, ◌==◌, ℕ, Bool, true, false, List, [], ◌∷◌, ◌++◌, take, drop}
use Rattle.std.proofs.Common.{get_or, refl, sym, subst, arith, get_or-take}
use Rattle.std.specs.Prelude.{◌&&◌, map, nat_lt, not, if◌then◌else◌}
use Rattle.std.specs.List.{All, before_first, list_all, position_or_len}
use Rattle.std.proofs.lemmas.Bool.Decides.{nat_tests}
use Rattle.std.proofs.lemmas.List.Elements.{All-append, All-cons, All-map, All-nil}
use Rattle.std.proofs.lemmas.List.Sums.{fails_before_first}
use Rattle.elf_records.specs.Strings.{text_at}
use Rattle.elf_records.proofs.TextLengths.{length-text}
use Rattle.elf_object.specs.Lent.{section_bytes, symbol_name}
use Rattle.elf_object.specs.Parts.{section, symbol, symbol_table}
use Rattle.sequence_forms.specs.declared.places.Site.{Site}
use Rattle.link_faults.specs.declared.symbol_ref.SymbolRef.{SymbolRef}
use Rattle.tls_symbols.specs.Bindings.{object_at}
use Rattle.elf_records.specs.Symbols.{get_address}
use Rattle.dynamic_symbols.specs.Names.{imported_at, imported_in, imports, is_import, name_of}
use Rattle.dynamic_symbols.proofs.Lists.{all_distinct, all_flat}
use Rattle.link_needs.specs.Linking.{Linking}
use Rattle.link_tables.specs.Dynamic.{names, own_symbols, runtime_names, imports as imported}
use Rattle.link_needs.specs.Needs.{uses_runtime}
use Rattle.tls_symbols.specs.Definitions.{flat_map_from}

-- a name of no zero byte
abbrev pub IsClean : List ℕ → Type 0
IsClean name = All (λ byte. byte ≢ 0) name

-- ** texts

other_than_zero : (byte : ℕ) → (byte == 0) ≡ false → byte ≢ 0
other_than_zero byte h = grind (arith, nat_tests)

text_clean : (xs : List ℕ) → IsClean (before_first (λ byte. byte == 0) xs)
text_clean xs = λ k d below.
    let n : ℕ = position_or_len (λ (byte : ℕ). byte == 0) xs in
    let inside : k < n = omega (arith, below, length-text xs) in
    let kept : get_or (take n xs) k d ≡ get_or xs k d = get_or-take n xs k d inside in
    subst (λ (byte : ℕ). byte ≢ 0) (sym kept)
    (other_than_zero (get_or xs k d) (fails_before_first (λ (byte : ℕ). byte == 0) xs k d inside))

symbol_clean : (b : List ℕ) (e : ℕ) → IsClean (symbol_name b e)
unfolding symbol_name text_at
symbol_clean b e =
    let rest : List ℕ = drop (symbol b e).name (section_bytes b (section b (symbol_table b)).link) in
    by (nat_lt 0 e) (before_first (λ byte. byte == 0) rest) (text_clean rest)
  where
    by : (t : Bool) (name : List ℕ) → IsClean name → IsClean (if t then name else [])
    by true name clean = clean
    by false name clean = All-nil (λ byte. byte ≢ 0)

-- ** imports

module _ (objects : List (List ℕ)) (startup : List (List (List ℕ))) where
  clean_at : (o : ℕ) (site : Site) → All IsClean (imported_at objects startup o site)
  clean_at o site = by (is_import objects startup o site)
    where
      by : (t : Bool) → All IsClean (if t then symbol_name (object_at objects o) site.symbol ∷ [] else [])
      by true = All-cons IsClean (symbol_name (object_at objects o) site.symbol) []
          (symbol_clean (object_at objects o) site.symbol) (All-nil IsClean)
      by false = All-nil IsClean

  clean_in : (o : ℕ) (own : List Site) → All IsClean (imported_in objects startup o own)
  unfolding imported_in
  clean_in o own = all_flat IsClean (imported_at objects startup o) own (clean_at o)

  clean_from : (o : ℕ) (sites : List (List Site)) → All IsClean (flat_map_from (imported_in objects startup) o sites)
  clean_from o [] = All-nil IsClean
  clean_from o (own ∷ more) =
      All-append IsClean (imported_in objects startup o own) (flat_map_from (imported_in objects startup) (o + 1) more)
      (clean_in o own) (clean_from (o + 1) more)

  imports_clean : (sites : List (List Site)) → All IsClean (imports objects startup sites)
  unfolding imports
  imports_clean sites = all_distinct IsClean (flat_map_from (imported_in objects startup) 0 sites) (clean_from 0 sites)

-- ** the function of the run time

-- a text that is written out
tested : (xs : List ℕ) → list_all (λ byte. not (byte == 0)) xs ≡ true → IsClean xs
tested [] h = All-nil (λ byte. byte ≢ 0)
tested (x ∷ xs) h = by (x == 0) refl h (tested xs)
  where
    by : (t : Bool) → (x == 0) ≡ t → (not t && list_all (λ byte. not (byte == 0)) xs) ≡ true
        → (list_all (λ byte. not (byte == 0)) xs ≡ true → IsClean xs) → IsClean (x ∷ xs)
    by true is h rest = absurd (cc)
    by false is h rest = All-cons (λ byte. byte ≢ 0) x xs (other_than_zero x is) (rest h)

runtime_clean : (uses : Bool) → All IsClean (runtime_names uses)
runtime_clean true = All-cons IsClean get_address [] (tested get_address refl) (All-nil IsClean)
runtime_clean false = All-nil IsClean

-- ** all names

own_clean : (objects : List (List ℕ)) (own : List SymbolRef) → All IsClean (map (name_of objects) own)
own_clean objects own =
    All-map IsClean (name_of objects) own
    (λ k d h. (let found = get_or own k d in symbol_clean (object_at objects found.object) found.symbol))

pub names_clean : (l : Linking) → All IsClean (names l)
unfolding names
names_clean l =
    let more : List (List ℕ) = imported l ++ runtime_names (uses_runtime l) in
    All-append IsClean (map (name_of l.objects) (own_symbols l)) more (own_clean l.objects (own_symbols l))
    (All-append IsClean (imported l) (runtime_names (uses_runtime l))
    (imports_clean l.objects l.startup l.sites) (runtime_clean (uses_runtime l)))
