-- What an image exports, by name.
use Rattle.std.proofs.Common.{◌≡◌, ◌+◌, ◌-◌, ◌<◌, ◌≤◌, ◌∙◌, ◌&&◌, ◌||◌, ◌⊎◌, ℕ, zero, suc, Bool, true, false, not, List}
use Rattle.std.proofs.Common.{[], ◌∷◌, Option, Some, None, length, drop, inl, inr, refl, sym, ap, subst, nat_eq, arith}
use Rattle.std.specs.Prelude.{if◌then◌else◌}
use Rattle.std.specs.List.{flat_map, list_any, range_with_len}
use Rattle.std.specs.Str.{bytes_eq}
use Rattle.std.proofs.lemmas.Bool.{cases_lt}
use Rattle.std.proofs.lemmas.Bool.Decides.{nat_tests}
use Rattle.std.proofs.lemmas.List.{length-drop}
use Rattle.std.proofs.lemmas.List.Folds.{list_any-append}
use Rattle.std.proofs.lemmas.Slice.Eq.{bytes_eq-Decides}
use Rattle.elf_records.specs.declared.symbol.SymbolBinding.{SymbolBinding}
use Rattle.elf_records.specs.declared.symbol.SymbolBinding.TheVariants.{Local, Global, Weak}
use Rattle.elf_object.specs.Lent.{symbol_binding, symbol_name, symbol_place, symbol_visibility}
use Rattle.elf_object.specs.Parts.{symbol_count}
use Rattle.link_faults.specs.declared.symbol_ref.SymbolRef.{SymbolRef}
use Rattle.tls_symbols.specs.Bindings.{exported_at, exported_in, exported_names, is_exported, is_symbol, is_tls_symbol}
use Rattle.tls_symbols.specs.Bindings.{object_at}
use Rattle.elf_records.specs.Symbols.{is_visible}
use Rattle.tls_symbols.specs.Definitions.{defines, definition_of, first_from, first_in, found_or, is_defined, or_weak}
use Rattle.tls_symbols.specs.Definitions.{same_binding}
use Rattle.tls_symbols.specs.Laws.{is_exported_by, ExportsAreByName}
use Rattle.tls_symbols.proofs.Within.{Dropped, dropped_is, find_found}
use Rattle.tls_symbols.specs.Definitions.{flat_map_from}

-- ** tests

either : (s t : Bool) → (s || t) ≡ true → (s ≡ true) ⊎ (t ≡ true)
either true t e = inl refl
either false t e = inr e

pub both : (s t : Bool) → (s && t) ≡ true → (s ≡ true) × (t ≡ true)
both true t e = (refl, e)
both false t e = cc

same_test : (s t : Bool) → (s ≡ true → t ≡ true) → (t ≡ true → s ≡ true) → s ≡ t
same_test true true to from = refl
same_test true false to from = sym (to refl)
same_test false true to from = from refl
same_test false false to from = refl

or_left : (s t : Bool) → s ≡ true → (s || t) ≡ true
or_left s t e = rw e refl

pub or_right : (s t : Bool) → t ≡ true → (s || t) ≡ true
or_right true t e = refl
or_right false t e = e

-- ** the symbol that a name binds to

-- symbol e of object o defines the name for all objects
pub record Defines (objects : List (List ℕ)) (name : List ℕ) (found : SymbolRef) : Type 0 where
  pub object : found.object < length objects
  pub above : 1 ≤ found.symbol
  pub symbol : found.symbol < symbol_count (object_at objects found.object)
  pub shared : same_binding Local (symbol_binding (object_at objects found.object) found.symbol) ≡ false
  pub defined : is_defined (symbol_place (object_at objects found.object) found.symbol) ≡ true
  pub named : name ≡ symbol_name (object_at objects found.object) found.symbol

pub not_local : (x y : SymbolBinding) → same_binding Local x ≡ false → same_binding x y ≡ true
    → same_binding Local y ≡ false
not_local Local y other same = cc
not_local Global Local other same = cc
not_local Global Global other same = refl
not_local Global Weak other same = refl
not_local Weak Local other same = cc
not_local Weak Global other same = refl
not_local Weak Weak other same = refl

some_same : (x y : SymbolRef) → Some x ≡ Some y → x ≡ y
some_same x y e = cc

module _ (objects : List (List ℕ)) (name : List ℕ) (binding : SymbolBinding)
    (shared : same_binding Local binding ≡ false) where
  defined_here : (o e : ℕ) (b : List ℕ) → o < length objects → object_at objects o ≡ b
      → first_in binding name b ≡ Some e → Defines objects name (record { object = o; symbol = e })
  unfolding first_in
  defined_here o e b within here is =
      let found = find_found (defines b binding name) 1 (symbol_count b - 1) e is in
      let test = both (same_binding binding (symbol_binding b e))
      (is_defined (symbol_place b e) && bytes_eq name (symbol_name b e)) found.passes in
      let rest = both (is_defined (symbol_place b e)) (bytes_eq name (symbol_name b e)) test.1 in
      record {
        object = within;
        above = found.low;
        symbol = subst (λ c. e < symbol_count c) (sym here) (omega (arith, found.low, found.high));
        shared = subst (λ c. same_binding Local (symbol_binding c e) ≡ false) (sym here)
            (not_local binding (symbol_binding b e) shared test.0);
        defined = subst (λ c. is_defined (symbol_place c e) ≡ true) (sym here) rest.0;
        named = (bytes_eq-Decides name (symbol_name b e)).0 rest.1 ∙ ap (λ c. symbol_name c e) (sym here);
      }

  first_defines : (more : List (List ℕ)) (o : ℕ) (found : SymbolRef) → drop o objects ≡ more
      → first_from binding name o more ≡ Some found → Defines objects name found
  first_defines [] o found e is = absurd (cc)
  first_defines (b ∷ more) o found e is =
      by_symbol (first_in binding name b) refl (λ h d. first_defines more (o + 1) found h d) is
    where
      at : Dropped objects o [] b more
      at = dropped_is objects o [] b more e

      by_symbol : (x : Option ℕ) → first_in binding name b ≡ x
          → (drop (o + 1) objects ≡ more → first_from binding name (o + 1) more ≡ Some found
          → Defines objects name found)
          → found_or o x (first_from binding name (o + 1) more) ≡ Some found → Defines objects name found
      by_symbol (Some x) here rest is =
          subst (Defines objects name) (some_same _ _ is) (defined_here o x b at.within at.here here)
      by_symbol None here rest is = rest at.rest is

pub definition_defines : (objects : List (List ℕ)) (name : List ℕ) (found : SymbolRef)
    → definition_of objects name ≡ Some found → Defines objects name found
unfolding definition_of
definition_defines objects name found is = by_strong (first_from Global name 0 objects) refl is
  where
    by_strong : (strong : Option SymbolRef) → first_from Global name 0 objects ≡ strong
        → or_weak strong (first_from Weak name 0 objects) ≡ Some found → Defines objects name found
    by_strong (Some x) here is = first_defines objects name Global refl objects 0 found refl (here ∙ is)
    by_strong None here is = first_defines objects name Weak refl objects 0 found refl is

-- ** the names that are listed

module _ (objects : List (List ℕ)) (name : List ℕ) where
  -- symbol e of object o, whose name it is, exports it
  record Lists (o e : ℕ) (b : List ℕ) : Type 0 where
    exports : is_exported objects o b e ≡ true
    named : bytes_eq name (symbol_name b e) ≡ true

  one_listed : (o e : ℕ) (b : List ℕ) → list_any (bytes_eq name) (exported_at objects o b e) ≡ true → Lists o e b
  one_listed o e b is = by_test (is_exported objects o b e) refl is
    where
      first : (t : Bool) → (t || false) ≡ true → t ≡ true
      first true h = refl
      first false h = h

      by_test : (t : Bool) → is_exported objects o b e ≡ t
          → list_any (bytes_eq name) (if t then symbol_name b e ∷ [] else []) ≡ true → Lists o e b
      by_test true here is = record { exports = here; named = first (bytes_eq name (symbol_name b e)) is }
      by_test false here is = cc

  lists_one : (o e : ℕ) (b : List ℕ) → Lists o e b → list_any (bytes_eq name) (exported_at objects o b e) ≡ true
  lists_one o e b is = rw is.exports (or_left (bytes_eq name (symbol_name b e)) false is.named)

  some_listed : (o : ℕ) (b : List ℕ) (a n : ℕ)
      → list_any (bytes_eq name) (flat_map (exported_at objects o b) (range_with_len a n)) ≡ true
      → (e : ℕ) × Lists o e b
  some_listed o b a zero is = absurd (cc)
  some_listed o b a (suc n) is =
      elim (either (list_any (bytes_eq name) (exported_at objects o b a))
      (list_any (bytes_eq name) (flat_map (exported_at objects o b) (range_with_len (a + 1) n)))
      (sym (list_any-append (bytes_eq name) (exported_at objects o b a)
      (flat_map (exported_at objects o b) (range_with_len (a + 1) n))) ∙ is)) [
        | inl here ↦ (a, one_listed o a b here)
        | inr later ↦ some_listed o b (a + 1) n later
      ]

  lists_some : (o : ℕ) (b : List ℕ) (a n e : ℕ) → a ≤ e → e < a + n → Lists o e b
      → list_any (bytes_eq name) (flat_map (exported_at objects o b) (range_with_len a n)) ≡ true
  lists_some o b a zero e low high is = absurd (omega (arith, low, high))
  lists_some o b a (suc n) e low high is =
      list_any-append (bytes_eq name) (exported_at objects o b a)
      (flat_map (exported_at objects o b) (range_with_len (a + 1) n))
      ∙ elim (cases_lt a e) [
        | inl above ↦ or_right (list_any (bytes_eq name) (exported_at objects o b a))
            (list_any (bytes_eq name) (flat_map (exported_at objects o b) (range_with_len (a + 1) n)))
            (lists_some o b (a + 1) n e (omega (arith, above)) (omega (arith, high)) is)
        | inr at ↦ let same : e ≡ a = omega (arith, low, at) in
            or_left (list_any (bytes_eq name) (exported_at objects o b a))
            (list_any (bytes_eq name) (flat_map (exported_at objects o b) (range_with_len (a + 1) n)))
            (lists_one o a b (subst (λ m. Lists o m b) same is))
      ]

  object_listed : (o : ℕ) (b : List ℕ) → list_any (bytes_eq name) (exported_in objects o b) ≡ true
      → (e : ℕ) × Lists o e b
  unfolding exported_in
  object_listed o b is = some_listed o b 1 (symbol_count b - 1) is

  lists_object : (o : ℕ) (b : List ℕ) (e : ℕ) → 1 ≤ e → e < symbol_count b → Lists o e b
      → list_any (bytes_eq name) (exported_in objects o b) ≡ true
  unfolding exported_in
  lists_object o b e low high is = lists_some o b 1 (symbol_count b - 1) e low (omega (arith, low, high)) is

  any_listed : (more : List (List ℕ)) (o : ℕ) → drop o objects ≡ more → list_any (bytes_eq name)
      (flat_map_from (exported_in objects) o more) ≡ true → (q e : ℕ) × Lists q e (object_at objects q)
  any_listed [] o d is = absurd (cc)
  any_listed (b ∷ more) o d is =
      let at = dropped_is objects o [] b more d in
      elim (either (list_any (bytes_eq name) (exported_in objects o b))
      (list_any (bytes_eq name) (flat_map_from (exported_in objects) (o + 1) more))
      (sym (list_any-append (bytes_eq name) (exported_in objects o b)
      (flat_map_from (exported_in objects) (o + 1) more)) ∙ is)) [
        | inl here ↦ let found = object_listed o b here in (o, found.0, subst (Lists o found.0) (sym at.here) found.1)
        | inr later ↦ any_listed more (o + 1) at.rest later
      ]

  lists_any : (more : List (List ℕ)) (o q e : ℕ) → drop o objects ≡ more → o ≤ q → q < length objects → 1 ≤ e
      → e < symbol_count (object_at objects q)
      → Lists q e (object_at objects q) → list_any (bytes_eq name) (flat_map_from (exported_in objects) o more) ≡ true
  lists_any [] o q e d low high above below is = absurd (omega (arith, low, high, none_left objects o d))
    where
      none_left : (xs : List (List ℕ)) (n : ℕ) → drop n xs ≡ [] → length xs ≤ n
      none_left xs n e = let none : length (drop n xs) ≡ 0 = ap length e in omega (arith, none, length-drop n xs)
  lists_any (b ∷ more) o q e d low high above below is =
      let at = dropped_is objects o [] b more d in
      list_any-append (bytes_eq name) (exported_in objects o b) (flat_map_from (exported_in objects) (o + 1) more)
      ∙ elim (cases_lt o q) [
        | inl later ↦ or_right (list_any (bytes_eq name) (exported_in objects o b))
            (list_any (bytes_eq name) (flat_map_from (exported_in objects) (o + 1) more))
            (lists_any more (o + 1) q e at.rest (omega (arith, later)) high above below is)
        | inr same ↦ let is_o : q ≡ o = omega (arith, low, same) in
            let P : ℕ → Type 0 = λ m. Lists m e (object_at objects m) in
            let Q : ℕ → Type 0 = λ m. e < symbol_count (object_at objects m) in
            or_left (list_any (bytes_eq name) (exported_in objects o b))
            (list_any (bytes_eq name) (flat_map_from (exported_in objects) (o + 1) more))
            (lists_object o b e above (subst (λ c. e < symbol_count c) at.here (subst Q is_o below))
            (subst (Lists o e) at.here (subst P is_o is)))
      ]

-- ** the law

is_symbol_some : (found : Option SymbolRef) (o e : ℕ) → is_symbol found o e ≡ true
    → found ≡ Some (record { object = o; symbol = e })
is_symbol_some None o e h = cc
is_symbol_some (Some x) o e h =
    let tests = both (nat_eq x.object o) (nat_eq x.symbol e) h in
    let object : x.object ≡ o = same x.object o tests.0 in
    let symbol : x.symbol ≡ e = same x.symbol e tests.1 in
    (λ i. Some (record { object = object i; symbol = symbol i }))
  where
    same : (m n : ℕ) → nat_eq m n ≡ true → m ≡ n
    same m n h = grind (arith, nat_tests)

is_symbol_itself : (o e : ℕ) → is_symbol (Some (record { object = o; symbol = e })) o e ≡ true
is_symbol_itself o e = rw (same o, same e) refl
  where
    same : (n : ℕ) → nat_eq n n ≡ true
    same n = grind (arith, nat_tests)

module _ (objects : List (List ℕ)) (name : List ℕ) where
  to_definition : (o e : ℕ) → Lists objects name o e (object_at objects o)
      → is_exported_by objects (definition_of objects name) ≡ true
  to_definition o e is =
      let b = object_at objects o in
      let named : name ≡ symbol_name b e = (bytes_eq-Decides name (symbol_name b e)).0 is.named in
      let tests = both (not (same_binding Local (symbol_binding b e))
      && is_symbol (definition_of objects (symbol_name b e)) o e)
      (is_tls_symbol b e && is_visible (symbol_visibility b e)) is.exports in
      let its = both (not (same_binding Local (symbol_binding b e)))
      (is_symbol (definition_of objects (symbol_name b e)) o e) tests.0 in
      let found : definition_of objects name ≡ Some (record { object = o; symbol = e }) =
      ap (definition_of objects) named ∙ is_symbol_some (definition_of objects (symbol_name b e)) o e its.1 in
      ap (is_exported_by objects) found ∙ tests.1

  from_definition : (found : Option SymbolRef) → definition_of objects name ≡ found → is_exported_by objects found
      ≡ true → list_any (bytes_eq name) (flat_map_from (exported_in objects) 0 objects) ≡ true
  from_definition None is h = cc
  from_definition (Some x) is h =
      let b = object_at objects x.object in
      let d = definition_defines objects name x is in
      let named : bytes_eq name (symbol_name b x.symbol) ≡ true =
      (bytes_eq-Decides name (symbol_name b x.symbol)).1 d.named in
      let its : is_symbol (definition_of objects (symbol_name b x.symbol)) x.object x.symbol ≡ true =
      ap (λ f. is_symbol f x.object x.symbol) (ap (definition_of objects) (sym d.named) ∙ is)
      ∙ is_symbol_itself x.object x.symbol in
      let exports : is_exported objects x.object b x.symbol ≡ true = rw (d.shared, its) h in
      lists_any objects name objects 0 x.object x.symbol refl (omega arith) d.object d.above d.symbol
      (record { exports = exports; named = named })

pub exports_by_name : ExportsAreByName
unfolding exported_names
exports_by_name objects name =
    same_test (list_any (bytes_eq name) (flat_map_from (exported_in objects) 0 objects))
    (is_exported_by objects (definition_of objects name))
    (λ h. (let found = any_listed objects name objects 0 refl h in to_definition objects name found.0 found.1 found.2))
    (λ h. from_definition objects name (definition_of objects name) refl h)
