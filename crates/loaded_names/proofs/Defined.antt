-- A name that has a definition is one of those that the image defines, each by its own definition.
use Rattle.std.proofs.Common.{◌≡◌, ◌+◌, ◌-◌, ◌<◌, ◌&&◌, ◌||◌, ◌∙◌, ℕ, zero, suc, Bool, true, false, not, List, [], ◌∷◌}
use Rattle.std.proofs.Common.{Option, Some, None, length, drop, filter, refl, sym, ap, subst, arith}
use Rattle.std.specs.Prelude.{cond, slice_index_or}
use Rattle.std.specs.List.{All, cons_option, filter_map, flat_map, list_any, range_with_len}
use Rattle.std.specs.Str.{bytes_eq}
use Rattle.std.proofs.lemmas.List.Folds.{list_any-append}
use Rattle.std.proofs.lemmas.List.FromFn.{length-range_with_len, get_or-range_with_len}
use Rattle.std.proofs.lemmas.Option.{same_Some}
use Rattle.std.proofs.lemmas.Slice.Eq.{bytes_eq-Decides}
use Rattle.elf_records.specs.declared.symbol.SymbolBinding.{SymbolBinding}
use Rattle.elf_records.specs.declared.symbol.SymbolBinding.TheVariants.{Global, Weak}
use Rattle.elf_object.specs.Lent.{symbol_binding, symbol_name, symbol_place}
use Rattle.elf_object.specs.Parts.{symbol_count}
use Rattle.link_faults.specs.declared.symbol_ref.SymbolRef.{SymbolRef}
use Rattle.tls_symbols.specs.Bindings.{object_at}
use Rattle.tls_symbols.specs.Definitions.{defines, definition_of, first_from, first_in, found_or, is_defined, or_weak}
use Rattle.tls_symbols.specs.Definitions.{same_binding}
use Rattle.tls_symbols.proofs.Within.{Dropped, dropped_is, find_found}
use Rattle.dynamic_symbols.specs.Laws.{IsShared}
use Rattle.dynamic_symbols.specs.Names.{defined_at, defined_in, defined_names, defined_symbols, distinct, name_of}
use Rattle.dynamic_symbols.proofs.Lists.{all_cons, all_nil}
use Rattle.dynamic_symbols.proofs.Named.{bound_shared}

both : (s t : Bool) → (s && t) ≡ true → (s ≡ true) × (t ≡ true)
both true true e = (refl, refl)
both true false e = absurd (cc)
both false t e = absurd (cc)

-- ** a definition has the name

module _ (objects : List (List ℕ)) (name : List ℕ) (binding : SymbolBinding) where
  named_in : (b : List ℕ) (e : ℕ) → first_in binding name b ≡ Some e → name ≡ symbol_name b e
  unfolding first_in
  named_in b e is =
      let found = find_found (defines b binding name) 1 (symbol_count b - 1) e is in
      let test = both (same_binding binding (symbol_binding b e)) _ found.passes in
      let rest = both (is_defined (symbol_place b e)) (bytes_eq name (symbol_name b e)) test.1 in
      (bytes_eq-Decides name (symbol_name b e)).0 rest.1

  named_from : (more : List (List ℕ)) (o : ℕ) (found : SymbolRef) → drop o objects ≡ more
      → first_from binding name o more ≡ Some found → name ≡ name_of objects found
  named_from [] o found left is = absurd (cc)
  named_from (b ∷ more) o found left is = of_symbol (first_in binding name b) refl (named_from more (o + 1) found) is
    where
      at : Dropped objects o [] b more
      at = dropped_is objects o [] b more left

      of_symbol : (x : Option ℕ) → first_in binding name b ≡ x
          → (drop (o + 1) objects ≡ more → first_from binding name (o + 1) more ≡ Some found
          → name ≡ name_of objects found)
          → found_or o x (first_from binding name (o + 1) more) ≡ Some found → name ≡ name_of objects found
      of_symbol (Some e) here rest is =
          subst (λ y. name ≡ name_of objects y) (same_Some _ _ is)
          (named_in b e here ∙ ap (λ c. symbol_name c e) (sym at.here))
      of_symbol None here rest is = rest at.rest is

pub definition_named : (objects : List (List ℕ)) (name : List ℕ) (found : SymbolRef)
    → definition_of objects name ≡ Some found → name ≡ name_of objects found
unfolding definition_of
definition_named objects name found is = of_strong (first_from Global name 0 objects) refl is
  where
    of_strong : (strong : Option SymbolRef) → first_from Global name 0 objects ≡ strong
        → or_weak strong (first_from Weak name 0 objects) ≡ Some found → name ≡ name_of objects found
    of_strong (Some x) here is = named_from objects name Global objects 0 found refl (here ∙ is)
    of_strong None here is = named_from objects name Weak objects 0 found refl is

-- it is a symbol that is defined for all objects
pub definition_shared : (objects : List (List ℕ)) (name : List ℕ) (found : SymbolRef)
    → definition_of objects name ≡ Some found → IsShared objects found
definition_shared objects name found is =
    let all : All (IsShared objects) (cons_option (Some found) []) =
    subst (λ d. All (IsShared objects) (cons_option d [])) is (bound_shared objects (name ∷ [])) in
    all 0 found (omega arith)

-- ** each symbol of the image is its name's definition

abbrev pub IsOwn : List (List ℕ) → SymbolRef → Type 0
IsOwn objects found = definition_of objects (name_of objects found) ≡ Some found

bound_own : (objects names : List (List ℕ)) → All (IsOwn objects) (filter_map (definition_of objects) names)
bound_own objects [] = all_nil (IsOwn objects)
bound_own objects (name ∷ names) = of_found (definition_of objects name) refl (bound_own objects names)
  where
    of_found : (found : Option SymbolRef) → definition_of objects name ≡ found
        → All (IsOwn objects) (filter_map (definition_of objects) names)
        → All (IsOwn objects) (cons_option found (filter_map (definition_of objects) names))
    of_found (Some found) is rest =
        all_cons (IsOwn objects) found (filter_map (definition_of objects) names)
        (ap (definition_of objects) (sym (definition_named objects name found is)) ∙ is) rest
    of_found None is rest = rest

pub symbols_own : (objects : List (List ℕ)) → All (IsOwn objects) (defined_symbols objects)
unfolding defined_symbols
symbols_own objects = bound_own objects (defined_names objects)

-- ** a name that has a definition is listed

or_true : (t : Bool) → (t || true) ≡ true
or_true true = refl
or_true false = refl

-- in joined lists
pub any_flat : {X Y : Type 0} (test : X → Bool) (f : Y → List X) (ys : List Y) (k : ℕ) (d : Y) → k < length ys
    → list_any test (f (slice_index_or ys k d)) ≡ true → list_any test (flat_map f ys) ≡ true
any_flat test f [] k d below is = absurd (omega (arith, below))
any_flat test f (y ∷ ys) zero d below is =
    list_any-append test (f y) (flat_map f ys) ∙ ap (λ t. t || list_any test (flat_map f ys)) is
any_flat test f (y ∷ ys) (suc k) d below is =
    list_any-append test (f y) (flat_map f ys)
    ∙ ap (λ t. list_any test (f y) || t) (any_flat test f ys k d (omega (arith, below)) is)
    ∙ or_true (list_any test (f y))

-- where others are left out
any_kept : (name other : List ℕ) (xs : List (List ℕ)) → bytes_eq name other ≡ false
    → list_any (bytes_eq name) xs ≡ true → list_any (bytes_eq name) (filter (λ y. not (bytes_eq other y)) xs) ≡ true
any_kept name other [] apart is = absurd (cc)
any_kept name other (x ∷ xs) apart is =
    of_tests (bytes_eq other x) refl (bytes_eq name x) refl is (any_kept name other xs apart)
  where
    kept : List (List ℕ)
    kept = filter (λ y. not (bytes_eq other y)) xs

    left_out : bytes_eq other x ≡ true → bytes_eq name x ≡ true → bytes_eq name other ≡ true
    left_out same is =
        let from : name ≡ x = (bytes_eq-Decides name x).0 is in
        let to : other ≡ x = (bytes_eq-Decides other x).0 same in
        (bytes_eq-Decides name other).1 (from ∙ sym to)

    of_tests : (s : Bool) → bytes_eq other x ≡ s → (t : Bool) → bytes_eq name x ≡ t
        → (t || list_any (bytes_eq name) xs) ≡ true
        → (list_any (bytes_eq name) xs ≡ true → list_any (bytes_eq name) kept ≡ true)
        → list_any (bytes_eq name) (cond (not s) (x ∷ kept) kept) ≡ true
    of_tests true same true here is rest = let bad = left_out same here in absurd (cc)
    of_tests true same false other is rest = rest is
    of_tests false apart true here is rest = rw here refl
    of_tests false apart false other is rest = rw other (rest is)

pub any_distinct : (name : List ℕ) (xs : List (List ℕ)) → list_any (bytes_eq name) xs ≡ true
    → list_any (bytes_eq name) (distinct xs) ≡ true
any_distinct name [] is = is
any_distinct name (x ∷ xs) is = of_test (bytes_eq name x) refl is (any_distinct name xs)
  where
    of_test : (t : Bool) → bytes_eq name x ≡ t → (t || list_any (bytes_eq name) xs) ≡ true
        → (list_any (bytes_eq name) xs ≡ true → list_any (bytes_eq name) (distinct xs) ≡ true)
        → (t || list_any (bytes_eq name) (filter (λ y. not (bytes_eq x y)) (distinct xs))) ≡ true
    of_test true here is rest = refl
    of_test false other is rest = any_kept name x (distinct xs) other (rest is)

pub definition_listed : (objects : List (List ℕ)) (name : List ℕ) (found : SymbolRef)
    → definition_of objects name ≡ Some found → list_any (bytes_eq name) (defined_names objects) ≡ true
unfolding defined_names defined_in
definition_listed objects name found is =
    any_distinct name (flat_map defined_in objects)
    (any_flat (bytes_eq name) defined_in objects found.object [] shares.within.object
    (any_flat (bytes_eq name) (defined_at b) (range_with_len 1 (symbol_count b - 1)) (found.symbol - 1) 0
    (omega (arith, inside, length-range_with_len 1 (symbol_count b - 1)))
    (ap (λ e. list_any (bytes_eq name) (defined_at b e))
    (get_or-range_with_len 1 (symbol_count b - 1) (found.symbol - 1) 0 inside ∙ number) ∙ at_symbol)))
  where
    shares : IsShared objects found
    shares = definition_shared objects name found is

    b : List ℕ
    b = object_at objects found.object

    inside : found.symbol - 1 < symbol_count b - 1
    inside = omega (arith, shares.above, shares.within.symbol)

    number : 1 + (found.symbol - 1) ≡ found.symbol
    number = omega (arith, shares.above)

    at_symbol : list_any (bytes_eq name) (defined_at b found.symbol) ≡ true
    at_symbol =
        let named = (bytes_eq-Decides name (name_of objects found)).1 (definition_named objects name found is) in
        rw (shares.shared, shares.defined, named) refl
