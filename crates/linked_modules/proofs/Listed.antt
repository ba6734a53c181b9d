-- Names among lists of names.
use Rattle.std.proofs.Common.{◌≡◌, ◌<◌, ◌||◌, ◌∙◌, ℕ, zero, suc, Bool, true, false, not, List, [], ◌∷◌, Option, Some}
use Rattle.std.proofs.Common.{None, length, filter, refl, sym, ap, subst, arith}
use Rattle.std.specs.Prelude.{◌&&◌, slice_index_or}
use Rattle.std.specs.List.{All, cons_option, filter_map, flat_map, list_any}
use Rattle.std.specs.Str.{bytes_eq}
use Rattle.std.proofs.lemmas.List.Elements.{All-head, All-tail}
use Rattle.std.proofs.lemmas.List.Folds.{list_any-append}
use Rattle.std.proofs.lemmas.Map.Views.{any-filter_same}
use Rattle.std.proofs.lemmas.Slice.Eq.{bytes_eq-Decides}
use Rattle.link_faults.specs.declared.symbol_ref.SymbolRef.{SymbolRef}
use Rattle.dynamic_symbols.specs.Names.{distinct}
use Rattle.tls_symbols.proofs.ExportLaw.{or_right}

-- ** tests

pub both : (s t : Bool) → (s && t) ≡ true → (s ≡ true) × (t ≡ true)
both true t e = (refl, e)
both false t e = absurd (cc)

-- ** one name

-- one of these lists has the name
abbrev pub IsAmong : List (List (List ℕ)) → List ℕ → Type 0
IsAmong lists name = list_any (λ names. list_any (bytes_eq name) names) lists ≡ true

-- what holds of all names holds of one that is among them
pub all_named : (P : List ℕ → Type 0) (name : List ℕ) (names : List (List ℕ)) → All P names
    → list_any (bytes_eq name) names ≡ true → P name
all_named P name [] all is = absurd (cc)
all_named P name (x ∷ xs) all is = of_test (bytes_eq name x) refl is (all_named P name xs (All-tail P x xs all))
  where
    of_test : (t : Bool) → bytes_eq name x ≡ t → (t || list_any (bytes_eq name) xs) ≡ true
        → (list_any (bytes_eq name) xs ≡ true → P name) → P name
    of_test true same is rest = subst P (sym ((bytes_eq-Decides name x).0 same)) (All-head P x xs all)
    of_test false other is rest = rest is

-- in joined lists
pub any_flat : {X Y : Type 0} (test : X → Bool) (f : Y → List X) (ys : List Y) (k : ℕ) (d : Y) → k < length ys
    → list_any test (f (slice_index_or ys k d)) ≡ true → list_any test (flat_map f ys) ≡ true
any_flat test f [] k d below is = absurd (omega (arith, below))
any_flat test f (y ∷ ys) zero d below is =
    list_any-append test (f y) (flat_map f ys) ∙ ap (λ t. t || list_any test (flat_map f ys)) is
any_flat test f (y ∷ ys) (suc k) d below is =
    list_any-append test (f y) (flat_map f ys)
    ∙ or_right (list_any test (f y)) (list_any test (flat_map f ys))
    (any_flat test f ys k d (omega (arith, below)) is)

-- where each name stands once
pub any_distinct : (name : List ℕ) (xs : List (List ℕ)) → list_any (bytes_eq name) xs ≡ true
    → list_any (bytes_eq name) (distinct xs) ≡ true
any_distinct name [] is = is
any_distinct name (x ∷ xs) is = of_test (bytes_eq name x) refl is (any_distinct name xs)
  where
    kept : List (List ℕ)
    kept = filter (λ y. not (bytes_eq x y)) (distinct xs)

    -- another name is kept
    other_kept : bytes_eq name x ≡ false → (t : Bool) → bytes_eq x name ≡ t → not t ≡ true
    other_kept other true same =
        let back = (bytes_eq-Decides name x).1 (sym ((bytes_eq-Decides x name).0 same)) in absurd (cc)
    other_kept other false apart = refl

    of_test : (t : Bool) → bytes_eq name x ≡ t → (t || list_any (bytes_eq name) xs) ≡ true
        → (list_any (bytes_eq name) xs ≡ true → list_any (bytes_eq name) (distinct xs) ≡ true)
        → (t || list_any (bytes_eq name) kept) ≡ true
    of_test true here is rest = refl
    of_test false other is rest =
        any-filter_same (bytes_eq name) (λ y. not (bytes_eq x y)) true
        (λ y same. ap (λ z. not (bytes_eq x z)) (sym ((bytes_eq-Decides name y).0 same))
        ∙ other_kept other (bytes_eq x name) refl)
        (distinct xs)
        ∙ rest is

-- what a listed name is bound to is among all that the names are bound to
pub any_bound : (test : SymbolRef → Bool) (bind : List ℕ → Option SymbolRef) (name : List ℕ) (found : SymbolRef)
    (names : List (List ℕ)) → bind name ≡ Some found → test found ≡ true → list_any (bytes_eq name) names ≡ true
    → list_any test (filter_map bind names) ≡ true
any_bound test bind name found [] is passes there = absurd (cc)
any_bound test bind name found (x ∷ xs) is passes there =
    of_test (bytes_eq name x) refl there (any_bound test bind name found xs is passes)
  where
    bound : List SymbolRef
    bound = filter_map bind xs

    behind : (first : Option SymbolRef) → list_any test bound ≡ true → list_any test (cons_option first bound) ≡ true
    behind None later = later
    behind (Some y) later = or_right (test y) (list_any test bound) later

    of_test : (t : Bool) → bytes_eq name x ≡ t → (t || list_any (bytes_eq name) xs) ≡ true
        → (list_any (bytes_eq name) xs ≡ true → list_any test bound ≡ true)
        → list_any test (cons_option (bind x) bound) ≡ true
    of_test true same there rest =
        let here : bind x ≡ Some found = ap bind (sym ((bytes_eq-Decides name x).0 same)) ∙ is in
        ap (λ first. list_any test (cons_option first bound)) here ∙ ap (λ t. t || list_any test bound) passes
    of_test false other there rest = behind (bind x) (rest there)
