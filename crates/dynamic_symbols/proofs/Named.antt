-- Each name that symbols define has a definition that it binds to, and that has the name.
use Rattle.std.proofs.Common.{◌≡◌, ◌≢◌, ◌+◌, ◌-◌, ◌<◌, ◌≤◌, ◌∙◌, ◌&&◌, ℕ, Bool, true, false, not, List, [], ◌∷◌, Option}
use Rattle.std.proofs.Common.{Some, None, is_some, length, drop, map, inl, inr, refl, sym, ap, subst, arith}
use Rattle.std.specs.Prelude.{if◌then◌else◌}
use Rattle.std.specs.List.{All, AllPairs, cons_option, filter_map, find, flat_map, range_with_len}
use Rattle.std.specs.Str.{bytes_eq}
use Rattle.std.proofs.lemmas.Bool.{cases_lt}
use Rattle.std.proofs.lemmas.List.{length-drop}
use Rattle.std.proofs.lemmas.Slice.Eq.{bytes_eq-Decides}
use Rattle.elf_records.specs.declared.symbol.SymbolBinding.{SymbolBinding}
use Rattle.elf_records.specs.declared.symbol.SymbolBinding.TheVariants.{Local, Global, Weak}
use Rattle.elf_object.specs.Lent.{symbol_binding, symbol_name, symbol_place}
use Rattle.elf_object.specs.Parts.{symbol_count}
use Rattle.link_faults.specs.declared.symbol_ref.SymbolRef.{SymbolRef}
use Rattle.tls_symbols.specs.Bindings.{object_at}
use Rattle.tls_symbols.specs.Definitions.{defines, definition_of, first_from, first_in, found_or, is_defined, or_weak}
use Rattle.tls_symbols.specs.Definitions.{same_binding}
use Rattle.tls_symbols.proofs.Within.{dropped_is, find_nothing}
use Rattle.dynamic_symbols.specs.Laws.{IsShared, NamesAreDistinct, SymbolsAreShared, SymbolsHaveTheNames}
use Rattle.dynamic_symbols.specs.Names.{defined_at, defined_in, defined_names, defined_symbols, is_definition, name_of}
use Rattle.dynamic_symbols.proofs.Lists.{all_cons, all_distinct, all_first, all_flat_at, all_flat_range, all_nil}
use Rattle.dynamic_symbols.proofs.Lists.{all_rest, distinct_names}
use Rattle.tls_symbols.proofs.ExportLaw.{definition_defines}

-- ** the definition of a name

shares : (objects : List (List ℕ)) (name : List ℕ) (found : SymbolRef) → definition_of objects name ≡ Some found
    → IsShared objects found
shares objects name found is =
    let d = definition_defines objects name found is in
    record {
      within = record { object = d.object; symbol = d.symbol };
      above = d.above;
      shared = d.shared;
      defined = d.defined;
    }

-- ** a name that a symbol defines has one

find_some : (p : ℕ → Bool) (a n y : ℕ) → a ≤ y → y < a + n → p y ≡ true → is_some (find p (range_with_len a n)) ≡ true
find_some p a n y low high passes = by (find p (range_with_len a n)) refl
  where
    by : (found : Option ℕ) → find p (range_with_len a n) ≡ found → is_some found ≡ true
    by (Some x) e = refl
    by None e = absurd (find_nothing p a n e y low high passes)

found_left : (o : ℕ) (x : Option ℕ) (rest : Option SymbolRef) → is_some x ≡ true → is_some (found_or o x rest) ≡ true
found_left o (Some x) rest e = refl
found_left o None rest e = cc

found_right : (o : ℕ) (x : Option ℕ) (rest : Option SymbolRef) → is_some rest ≡ true
    → is_some (found_or o x rest) ≡ true
found_right o (Some x) rest e = refl
found_right o None rest e = e

weak_left : (strong weak : Option SymbolRef) → is_some strong ≡ true → is_some (or_weak strong weak) ≡ true
weak_left (Some x) weak e = refl
weak_left None weak e = cc

weak_right : (strong weak : Option SymbolRef) → is_some weak ≡ true → is_some (or_weak strong weak) ≡ true
weak_right (Some x) weak e = refl
weak_right None weak e = e

none_left : (xs : List (List ℕ)) (n : ℕ) → drop n xs ≡ [] → length xs ≤ n
none_left xs n e = let none : length (drop n xs) ≡ 0 = ap length e in omega (arith, none, length-drop n xs)

-- a definition is found in its object, and among the objects
found_in : (binding : SymbolBinding) (name b : List ℕ) (e : ℕ) → 1 ≤ e → e < symbol_count b
    → defines b binding name e ≡ true → is_some (first_in binding name b) ≡ true
unfolding first_in
found_in binding name b e above below defined =
    find_some (defines b binding name) 1 (symbol_count b - 1) e above (omega (arith, above, below)) defined

found_from : (objects : List (List ℕ)) (binding : SymbolBinding) (name : List ℕ) (more : List (List ℕ)) (o q : ℕ)
    → drop o objects ≡ more → o ≤ q → q < length objects
    → is_some (first_in binding name (object_at objects q)) ≡ true → is_some (first_from binding name o more) ≡ true
found_from objects binding name [] o q e low high there = absurd (omega (arith, low, high, none_left objects o e))
found_from objects binding name (b ∷ more) o q e low high there =
    let at = dropped_is objects o [] b more e in
    elim (cases_lt o q) [
      | inl later ↦ found_right o (first_in binding name b) (first_from binding name (o + 1) more)
          (found_from objects binding name more (o + 1) q at.rest (omega (arith, later)) high there)
      | inr same ↦ let is_o : q ≡ o = omega (arith, low, same) in
          let P : List ℕ → Type 0 = λ c. is_some (first_in binding name c) ≡ true in
          found_left o (first_in binding name b) (first_from binding name (o + 1) more)
          (subst P (ap (object_at objects) is_o ∙ at.here) there)
    ]

shared_definition : (t d : Bool) → (not t && d) ≡ true → (t ≡ false) × (d ≡ true)
shared_definition true d e = cc
shared_definition false d e = (refl, e)

module _ (objects : List (List ℕ)) (o e : ℕ) (within : o < length objects) (above : 1 ≤ e)
    (below : e < symbol_count (object_at objects o)) where
  has_definition : is_definition (object_at objects o) e ≡ true
      → is_some (definition_of objects (symbol_name (object_at objects o) e)) ≡ true
  unfolding definition_of
  has_definition is =
      let b = object_at objects o in
      let tests = shared_definition (same_binding Local (symbol_binding b e)) (is_defined (symbol_place b e)) is in
      by_binding (symbol_binding b e) refl tests.0 tests.1
    where
      itself : (n : List ℕ) → bytes_eq n n ≡ true
      itself n = (bytes_eq-Decides n n).1 refl

      all_three : (x y z : Bool) → x ≡ true → y ≡ true → z ≡ true → (x && (y && z)) ≡ true
      all_three x y z p q r = rw (p, q, r) refl

      by_binding : (y : SymbolBinding) → symbol_binding (object_at objects o) e ≡ y → same_binding Local y ≡ false
          → is_defined (symbol_place (object_at objects o) e) ≡ true
          → is_some (or_weak (first_from Global (symbol_name (object_at objects o) e) 0 objects)
          (first_from Weak (symbol_name (object_at objects o) e) 0 objects)) ≡ true
      by_binding Local y other defined = cc
      by_binding Global y other defined =
          let b = object_at objects o in
          let n = symbol_name b e in
          let test = all_three (same_binding Global (symbol_binding b e)) (is_defined (symbol_place b e)) (bytes_eq n n)
          (ap (same_binding Global) y) defined (itself n) in
          weak_left (first_from Global n 0 objects) (first_from Weak n 0 objects)
          (found_from objects Global n objects 0 o refl (omega arith) within
          (found_in Global n b e above below test))
      by_binding Weak y other defined =
          let b = object_at objects o in
          let n = symbol_name b e in
          let test = all_three (same_binding Weak (symbol_binding b e)) (is_defined (symbol_place b e)) (bytes_eq n n)
          (ap (same_binding Weak) y) defined (itself n) in
          weak_right (first_from Global n 0 objects) (first_from Weak n 0 objects)
          (found_from objects Weak n objects 0 o refl (omega arith) within (found_in Weak n b e above below test))

-- a name that has a definition
abbrev HasOne : List (List ℕ) → List ℕ → Type 0
HasOne objects name = is_some (definition_of objects name) ≡ true

names_have : (objects : List (List ℕ)) → All (HasOne objects) (defined_names objects)
unfolding defined_in defined_names
names_have objects = all_distinct (HasOne objects) (flat_map defined_in objects)
    (all_flat_at (HasOne objects) defined_in objects [] in_object)
  where
    at_symbol : (o e : ℕ) → o < length objects → 1 ≤ e → e < symbol_count (object_at objects o)
        → All (HasOne objects) (defined_at (object_at objects o) e)
    at_symbol o e within above below = by (is_definition (object_at objects o) e) refl
      where
        by : (t : Bool) → is_definition (object_at objects o) e ≡ t
            → All (HasOne objects) (if t then symbol_name (object_at objects o) e ∷ [] else [])
        by true is = all_cons (HasOne objects) (symbol_name (object_at objects o) e) []
            (has_definition objects o e within above below is) (all_nil (HasOne objects))
        by false is = all_nil (HasOne objects)

    in_object : (o : ℕ) → o < length objects → All (HasOne objects) (defined_in (object_at objects o))
    in_object o within = all_flat_range (HasOne objects) (defined_at (object_at objects o)) 1
        (symbol_count (object_at objects o) - 1)
        (λ e low high. at_symbol o e within low (omega (arith, low, high)))

-- ** the laws of defined symbols

bound_names : (objects names : List (List ℕ)) → All (HasOne objects) names
    → map (name_of objects) (filter_map (definition_of objects) names) ≡ names
bound_names objects [] all = refl
bound_names objects (x ∷ xs) all =
    by (definition_of objects x) refl (all_first (HasOne objects) x xs all)
    (bound_names objects xs (all_rest (HasOne objects) x xs all))
  where
    by : (found : Option SymbolRef) → definition_of objects x ≡ found → is_some found ≡ true
        → map (name_of objects) (filter_map (definition_of objects) xs) ≡ xs
        → map (name_of objects) (cons_option found (filter_map (definition_of objects) xs)) ≡ x ∷ xs
    by (Some found) is has rest =
        ap (λ n. n ∷ map (name_of objects) (filter_map (definition_of objects) xs))
        (sym (definition_defines objects x found is).named) ∙ ap (λ ys. x ∷ ys) rest
    by None is has rest = cc

pub bound_shared : (objects names : List (List ℕ)) → All (IsShared objects) (filter_map (definition_of objects) names)
bound_shared objects [] = all_nil (IsShared objects)
bound_shared objects (x ∷ xs) = by (definition_of objects x) refl (bound_shared objects xs)
  where
    by : (found : Option SymbolRef) → definition_of objects x ≡ found
        → All (IsShared objects) (filter_map (definition_of objects) xs)
        → All (IsShared objects) (cons_option found (filter_map (definition_of objects) xs))
    by (Some found) is rest =
        all_cons (IsShared objects) found (filter_map (definition_of objects) xs) (shares objects x found is) rest
    by None is rest = rest

pub symbols_shared : SymbolsAreShared
unfolding defined_symbols
symbols_shared objects = bound_shared objects (defined_names objects)

pub symbols_named : SymbolsHaveTheNames
unfolding defined_symbols
symbols_named objects = bound_names objects (defined_names objects) (names_have objects)

names_apart : (objects : List (List ℕ)) → AllPairs (λ x y. x ≢ y) (defined_names objects)
unfolding defined_names
names_apart objects = distinct_names (flat_map defined_in objects)

pub names_distinct : NamesAreDistinct
names_distinct objects = subst (AllPairs (λ x y. x ≢ y)) (sym (symbols_named objects)) (names_apart objects)
