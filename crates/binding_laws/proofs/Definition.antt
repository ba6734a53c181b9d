-- The definition of a name, and which images export it.
use Rattle.std.proofs.Common.{◌≡◌, ◌≢◌, ◌+◌, ◌-◌, ◌<◌, ◌≤◌, ◌∙◌, ◌&&◌, ◌⊎◌, ℕ, Bool, true, List, [], ◌∷◌, Option}
use Rattle.std.proofs.Common.{Some, None, length, drop, inl, inr, refl, sym, ap, subst, arith}
use Rattle.std.specs.List.{find, range_with_len}
use Rattle.std.specs.Str.{bytes_eq}
use Rattle.std.proofs.lemmas.Bool.{cases_lt}
use Rattle.std.proofs.lemmas.List.{length-drop}
use Rattle.std.proofs.lemmas.Slice.Eq.{bytes_eq-Decides}
use Rattle.elf_records.specs.declared.symbol.SymbolBinding.{SymbolBinding}
use Rattle.elf_records.specs.declared.symbol.SymbolBinding.TheVariants.{Local, Global, Weak}
use Rattle.elf_object.specs.declared.symbol.SymbolPlace.{SymbolPlace}
use Rattle.elf_object.specs.declared.symbol.SymbolPlace.TheVariants.{Undefined, Absolute, InSection}
use Rattle.elf_object.specs.Lent.{symbol_binding, symbol_name, symbol_place}
use Rattle.elf_object.specs.Parts.{symbol_count}
use Rattle.link_faults.specs.declared.symbol_ref.SymbolRef.{SymbolRef}
use Rattle.tls_symbols.specs.Definitions.{defines, definition_of, first_from, first_in, found_or, is_defined, or_weak}
use Rattle.tls_symbols.specs.Definitions.{same_binding}
use Rattle.tls_symbols.proofs.ExportLaw.{both}
use Rattle.tls_symbols.proofs.Within.{Dropped, dropped_is, FoundAt, find_found, find_nothing}
use Rattle.binding_laws.specs.Bound.{Defines, IsBefore, IsDefinition, IsEmpty, IsFirst, bytes_of}

-- ** one symbol

same_is : (x y : SymbolBinding) → same_binding x y ≡ true → y ≡ x
same_is Local Local is = refl
same_is Global Global is = refl
same_is Weak Weak is = refl
same_is x y is = absurd cc

is_same : (x : SymbolBinding) → same_binding x x ≡ true
is_same Local = refl
is_same Global = refl
is_same Weak = refl

is_defined_there : (place : SymbolPlace) → is_defined place ≡ true → place ≢ Undefined
is_defined_there Undefined is = absurd cc
is_defined_there Absolute is = λ h. cc
is_defined_there (InSection s) is = λ h. cc

there_is_defined : (place : SymbolPlace) → place ≢ Undefined → is_defined place ≡ true
there_is_defined Undefined is = absurd (is refl)
there_is_defined Absolute is = refl
there_is_defined (InSection s) is = refl

abbrev ref : ℕ → ℕ → SymbolRef
ref o e = record { object = o; symbol = e }

same_symbol : (x y : SymbolRef) → x.object ≡ y.object → x.symbol ≡ y.symbol → x ≡ y
same_symbol x y object symbol =
    ap (λ (n : ℕ). ref n x.symbol) object ∙ ap (λ (n : ℕ). ref y.object n) symbol

module _ (objects : List (List ℕ)) (binding : SymbolBinding) (name : List ℕ) where
  test : ℕ → ℕ → Bool
  test o e = defines (bytes_of objects o) binding name e

  defines_if : (x : SymbolRef) → x.object < length objects → 1 ≤ x.symbol
      → x.symbol < symbol_count (bytes_of objects x.object)
      → defines (bytes_of objects x.object) binding name x.symbol ≡ true → Defines objects binding name x
  defines_if x object reserved symbol passes =
      let b = bytes_of objects x.object in
      let e = x.symbol in
      let first = both (same_binding binding (symbol_binding b e))
      (is_defined (symbol_place b e) && bytes_eq name (symbol_name b e)) passes in
      let rest = both (is_defined (symbol_place b e)) (bytes_eq name (symbol_name b e)) first.1 in
      record {
        object = object;
        reserved = omega (arith, reserved);
        symbol = symbol;
        bound = same_is binding (symbol_binding b e) first.0;
        defined = is_defined_there (symbol_place b e) rest.0;
        named = sym ((bytes_eq-Decides name (symbol_name b e)).0 rest.1);
      }

  passes_if : (x : SymbolRef) → Defines objects binding name x
      → defines (bytes_of objects x.object) binding name x.symbol ≡ true
  passes_if x d =
      let b = bytes_of objects x.object in
      let e = x.symbol in
      let same : same_binding binding (symbol_binding b e) ≡ true = subst (λ y. same_binding binding y ≡ true)
      (sym d.bound) (is_same binding) in
      let there = there_is_defined (symbol_place b e) d.defined in
      let named = (bytes_eq-Decides name (symbol_name b e)).1 (sym d.named) in
      rw (same, there, named) refl

  -- ** the first of the objects from number o on

  record FoundFrom (o : ℕ) (x : SymbolRef) : Type 0 where
    from : o ≤ x.object
    inside : x.object < length objects
    found : FoundAt (defines (bytes_of objects x.object) binding name) 1
        (symbol_count (bytes_of objects x.object) - 1) x.symbol
    earlier : (j : ℕ) → o ≤ j → j < x.object → first_in binding name (bytes_of objects j) ≡ None

  from_none : (more : List (List ℕ)) (o : ℕ) → drop o objects ≡ more → first_from binding name o more ≡ None
      → (j : ℕ) → o ≤ j → j < length objects → first_in binding name (bytes_of objects j) ≡ None
  from_none [] o e is j low high =
      let none : length (drop o objects) ≡ 0 = ap length e in
      let size = length-drop o objects in
      absurd (omega arith)
  from_none (b ∷ more) o e is j low high =
      by_symbol (λ h is above. from_none more (o + 1) h is j above high) (first_in binding name b) refl is
    where
      at : Dropped objects o [] b more
      at = dropped_is objects o [] b more e

      by_symbol : (drop (o + 1) objects ≡ more → first_from binding name (o + 1) more ≡ None → o + 1 ≤ j
          → first_in binding name (bytes_of objects j) ≡ None)
          → (found : Option ℕ) → first_in binding name b ≡ found
          → found_or o found (first_from binding name (o + 1) more) ≡ None
          → first_in binding name (bytes_of objects j) ≡ None
      by_symbol rest (Some x) here is = absurd cc
      by_symbol rest None here is = elim (cases_lt o j) [
        | inl above ↦ rest at.rest is (omega (arith, above))
        | inr past ↦
            let same : j ≡ o = omega (arith, low, past) in
            ap (λ (j : ℕ). first_in binding name (bytes_of objects j)) same ∙ ap (first_in binding name) at.here ∙ here
      ]

  from_found : (more : List (List ℕ)) (o : ℕ) (x : SymbolRef) → drop o objects ≡ more
      → first_from binding name o more ≡ Some x → FoundFrom o x
  unfolding first_in
  from_found [] o x e is = absurd cc
  from_found (b ∷ more) o x e is = by_symbol (λ h is. from_found more (o + 1) x h is) (first_in binding name b) refl is
    where
      at : Dropped objects o [] b more
      at = dropped_is objects o [] b more e

      here_found : (s : ℕ) → first_in binding name b ≡ Some s → FoundFrom o (ref o s)
      here_found s here = record {
        from = omega arith;
        inside = at.within;
        found = find_found (defines (bytes_of objects o) binding name) 1 (symbol_count (bytes_of objects o) - 1) s
            (subst (λ b. find (defines b binding name) (range_with_len 1 (symbol_count b - 1)) ≡ Some s)
            (sym at.here) here);
        earlier = λ j low high. absurd (omega (arith, low, high));
      }

      by_symbol : (drop (o + 1) objects ≡ more → first_from binding name (o + 1) more ≡ Some x → FoundFrom (o + 1) x)
          → (found : Option ℕ) → first_in binding name b ≡ found
          → found_or o found (first_from binding name (o + 1) more) ≡ Some x → FoundFrom o x
      by_symbol rest (Some s) here is =
          let same : ref o s ≡ x = cc in
          subst (FoundFrom o) same (here_found s here)
      by_symbol rest None here is =
          let later = rest at.rest is in
          record {
            from = omega (arith, later.from);
            inside = later.inside;
            found = later.found;
            earlier = λ j low high. elim (cases_lt o j) [
              | inl above ↦ later.earlier j (omega (arith, above)) high
              | inr past ↦
                  let same : j ≡ o = omega (arith, low, past) in
                  ap (λ (j : ℕ). first_in binding name (bytes_of objects j)) same ∙ ap
                  (first_in binding name) at.here ∙ here
            ];
          }

  -- ** each other comes later

  not_there : (y : SymbolRef) → Defines objects binding name y
      → first_in binding name (bytes_of objects y.object) ≡ None → ⊥
  unfolding first_in
  not_there y d none =
      let b = bytes_of objects y.object in
      find_nothing (defines b binding name) 1 (symbol_count b - 1) none y.symbol (omega (arith, d.reserved))
      (omega (arith, d.symbol, d.reserved)) (passes_if y d)

  passes_at : (x y : SymbolRef) → y.object ≡ x.object → Defines objects binding name y
      → defines (bytes_of objects x.object) binding name y.symbol ≡ true
  passes_at x y same d =
      subst (λ (o : ℕ). defines (bytes_of objects o) binding name y.symbol ≡ true) same (passes_if y d)

  in_one : (x y : SymbolRef) → FoundFrom 0 x → Defines objects binding name y → y.object ≡ x.object
      → (y ≡ x) ⊎ IsBefore x y
  in_one x y f d same = elim (cases_lt y.symbol x.symbol) [
    | inl less ↦ absurd (f.found.first y.symbol (omega (arith, d.reserved)) less (passes_at x y same d))
    | inr past ↦ elim (cases_lt x.symbol y.symbol) [
      | inl more ↦ inr (inr (sym same, more))
      | inr equal ↦ inl (same_symbol y x same (omega (arith, past, equal)))
    ]
  ]

  comes_later : (x y : SymbolRef) → FoundFrom 0 x → Defines objects binding name y → (y ≡ x) ⊎ IsBefore x y
  comes_later x y f d = elim (cases_lt y.object x.object) [
    | inl before ↦ absurd (not_there y d (f.earlier y.object (omega arith) before))
    | inr past ↦ elim (cases_lt x.object y.object) [
      | inl after ↦ inr (inl after)
      | inr equal ↦ in_one x y f d (omega (arith, past, equal))
    ]
  ]

  first_is : (x : SymbolRef) → first_from binding name 0 objects ≡ Some x → IsFirst (Defines objects binding name) x
  first_is x is =
      let f = from_found objects 0 x refl is in
      record {
        holds = defines_if x f.inside f.found.low (omega (arith, f.found.low, f.found.high)) f.found.passes;
        others = λ y d. comes_later x y f d;
      }

  none_is : first_from binding name 0 objects ≡ None → IsEmpty (Defines objects binding name)
  none_is is y d = not_there y d (from_none objects 0 refl is y.object (omega arith) d.object)

-- ** the definition of a name

pub definition_is : (objects : List (List ℕ)) (name : List ℕ) (x : SymbolRef) → definition_of objects name ≡ Some x
    → IsDefinition objects name x
unfolding definition_of
definition_is objects name x is = by_strong (first_from Global name 0 objects) refl is
  where
    by_strong : (strong : Option SymbolRef) → first_from Global name 0 objects ≡ strong
        → or_weak strong (first_from Weak name 0 objects) ≡ Some x → IsDefinition objects name x
    by_strong (Some y) here is = inl (first_is objects Global name x (here ∙ is))
    by_strong None here is = inr (none_is objects Global name here, first_is objects Weak name x is)

pub definition_none : (objects : List (List ℕ)) (name : List ℕ) → definition_of objects name ≡ None
    → IsEmpty (IsDefinition objects name)
unfolding definition_of
definition_none objects name is y = by_strong (first_from Global name 0 objects) refl is
  where
    by_strong : (strong : Option SymbolRef) → first_from Global name 0 objects ≡ strong
        → or_weak strong (first_from Weak name 0 objects) ≡ None → IsDefinition objects name y → ⊥
    by_strong (Some x) here is d = cc
    by_strong None here is (inl strong) = none_is objects Global name here y strong.holds
    by_strong None here is (inr weak) = none_is objects Weak name is y weak.1.holds

-- ** it is the only one

not_both : (x y : SymbolRef) → IsBefore x y → IsBefore y x → ⊥
not_both x y (inl a) (inl b) = omega (arith, a, b)
not_both x y (inl a) (inr b) = let same = b.0 in omega (arith, a, same)
not_both x y (inr a) (inl b) = let same = a.0 in omega (arith, b, same)
not_both x y (inr a) (inr b) = let less = a.1 in let more = b.1 in omega (arith, less, more)

first_only : (P : SymbolRef → Type 0) (x y : SymbolRef) → IsFirst P x → IsFirst P y → x ≡ y
first_only P x y a b = elim (b.others x a.holds) [
  | inl same ↦ same
  | inr after ↦ elim (a.others y b.holds) [
    | inl same ↦ sym same
    | inr before ↦ absurd (not_both x y before after)
  ]
]

pub definition_only : (objects : List (List ℕ)) (name : List ℕ) (x y : SymbolRef) → IsDefinition objects name x
    → IsDefinition objects name y → x ≡ y
definition_only objects name x y (inl a) (inl b) = first_only (Defines objects Global name) x y a b
definition_only objects name x y (inl a) (inr b) = absurd (b.0 x a.holds)
definition_only objects name x y (inr a) (inl b) = absurd (a.0 y b.holds)
definition_only objects name x y (inr a) (inr b) = first_only (Defines objects Weak name) x y a.1 b.1
