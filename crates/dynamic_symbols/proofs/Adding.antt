-- Names that are added one by one, and the list that they come to.
use Rattle.std.proofs.Common.{◌≡◌, ◌+◌, ◌-◌, ◌<◌, ◌≤◌, ◌∙◌, ◌&&◌, ◌||◌, ℕ, Bool, true, false, not, cond, List, Option}
use Rattle.std.proofs.Common.{[], ◌∷◌, ◌++◌, drop, filter, map, refl, sym, ap, Bor, append_assoc, append-nil, length}
use Rattle.std.specs.Global.{Vec}
use Rattle.std.specs.Prelude.{if◌then◌else◌, slice_index_or}
use Rattle.std.specs.List.{cons_option, filter_map, flat_map, list_any, range_with_len}
use Rattle.std.specs.Str.{bytes_eq}
use Rattle.std.proofs.Math.ListN.{drop_of_length-le}
use Rattle.std.proofs.lemmas.Bool.{not-true}
use Rattle.std.proofs.lemmas.List.{get_or_default, map-append}
use Rattle.std.proofs.lemmas.List.Elements.{filter_map-append}
use Rattle.std.proofs.lemmas.List.Folds.{list_any-append}
use Rattle.std.proofs.lemmas.Slice.Eq.{bytes_eq-Decides}
use Rattle.indexmap.specs.IndexSet.{insert_key}
use Rattle.elf_object.specs.Lent.{symbol_name}
use Rattle.elf_object.specs.Parts.{symbol_count}
use Rattle.sequence_forms.specs.declared.places.Site.{Site}
use Rattle.link_faults.specs.declared.symbol_ref.SymbolRef.{SymbolRef}
use Rattle.tls_symbols.specs.Bindings.{object_at}
use Rattle.tls_symbols.specs.Definitions.{definition_of}
use Rattle.elf_object.proofs.Ranges.{range_first}
use Rattle.dynamic_symbols.specs.Names.{defined_at, distinct, imported_at, imported_in, is_definition, is_import}
use Rattle.dynamic_symbols.specs.Found.{with_name, with_names}
use Rattle.tls_symbols.proofs.Numbered.{same_names}
use Rattle.tls_symbols.specs.Definitions.{flat_map_from}

-- ** what a set of names that are lent keeps

any_now : (k : Bor (List ℕ)) (ks : List (Bor (List ℕ)))
    → list_any (bytes_eq k.now) (map (λ x. x.now) ks) ≡ list_any (same_names k) ks
any_now k [] = refl
any_now k (x ∷ xs) = ap (λ r. bytes_eq k.now x.now || r) (any_now k xs)

-- one more name
pub inserted : (ks : List (Bor (List ℕ))) (k : Bor (List ℕ))
    → map (λ x. x.now) (insert_key same_names ks k) ≡ with_name (map (λ x. x.now) ks) k.now
inserted ks k = by (list_any (same_names k) ks) (any_now k ks)
  where
    by : (b : Bool) → list_any (bytes_eq k.now) (map (λ x. x.now) ks) ≡ b
        → map (λ x. x.now) (if b then ks else ks ++ k ∷ []) ≡ with_name (map (λ x. x.now) ks) k.now
    by true e = rw e refl
    by false e = rw e (map-append (λ x. x.now) ks (k ∷ []))

-- ** names in their order

pub with_names-append : (names xs ys : List (List ℕ))
    → with_names names (xs ++ ys) ≡ with_names (with_names names xs) ys
with_names-append names [] ys = refl
with_names-append names (x ∷ xs) ys = with_names-append (with_name names x) xs ys

pub symmetric : (x y : List ℕ) → bytes_eq x y ≡ bytes_eq y x
symmetric x y = by (bytes_eq x y) refl (bytes_eq y x) refl
  where
    by : (s : Bool) → bytes_eq x y ≡ s → (t : Bool) → bytes_eq y x ≡ t → s ≡ t
    by true e true f = refl
    by false e false f = refl
    by true e false f = sym ((bytes_eq-Decides y x).1 (sym ((bytes_eq-Decides x y).0 e))) ∙ f
    by false e true f = sym e ∙ (bytes_eq-Decides x y).1 (sym ((bytes_eq-Decides y x).0 f))

-- two tests, one after the other
pub filter_twice : (P Q R : List ℕ → Bool) → ((y : List ℕ) → R y ≡ (Q y && P y)) → (ys : List (List ℕ))
    → filter R ys ≡ filter P (filter Q ys)
filter_twice P Q R h [] = refl
filter_twice P Q R h (y ∷ ys) =
    ap (λ b. cond b (y ∷ filter R ys) (filter R ys)) (h y)
    ∙ elim (Q y) as (λ b. cond (b && P y) (y ∷ filter R ys) (filter R ys)
    ≡ filter P (cond b (y ∷ filter Q ys) (filter Q ys))) [
      | true ↦ ap (λ r. cond (P y) (y ∷ r) r) (filter_twice P Q R h ys)
      | false ↦ filter_twice P Q R h ys
    ]

pub filter_all : (ys : List (List ℕ)) → filter (λ y. true) ys ≡ ys
filter_all [] = refl
filter_all (y ∷ ys) = ap (λ r. y ∷ r) (filter_all ys)

abbrev is_among : List (List ℕ) → List ℕ → Bool
is_among names name = list_any (bytes_eq name) names

-- what is equal to one that was seen was seen
pub new_unlike_seen : (seen : List (List ℕ)) (x : List ℕ) → is_among seen x ≡ true → (y : List ℕ)
    → not (is_among seen y) ≡ (not (bytes_eq x y) && not (is_among seen y))
new_unlike_seen seen x there y = by (bytes_eq x y) refl
  where
    by : (b : Bool) → bytes_eq x y ≡ b → not (is_among seen y) ≡ (not b && not (is_among seen y))
    by true e =
        let same : x ≡ y = (bytes_eq-Decides x y).0 e in
        let also : is_among seen y ≡ true = ap (is_among seen) (sym same) ∙ there in
        ap not also
    by false e = refl

pub neither : (a b : Bool) → not (a || (b || false)) ≡ (not b && not a)
neither true true = refl
neither true false = refl
neither false true = refl
neither false false = refl

-- what is none of some and not one more
pub new_past : (seen : List (List ℕ)) (x y : List ℕ)
    → not (is_among (seen ++ x ∷ []) y) ≡ (not (bytes_eq x y) && not (is_among seen y))
new_past seen x y =
    ap not (list_any-append (bytes_eq y) seen (x ∷ [])) ∙ neither (is_among seen y) (bytes_eq y x)
    ∙ ap (λ b. not b && not (is_among seen y)) (symmetric y x)

-- those of them that are none of these
abbrev unseen : List (List ℕ) → List (List ℕ) → List (List ℕ)
unseen seen ys = filter (λ y. not (is_among seen y)) ys

-- those that differ from one
abbrev unlike : List ℕ → List (List ℕ) → List (List ℕ)
unlike x ys = filter (λ y. not (bytes_eq x y)) ys

unseen-unlike : (seen : List (List ℕ)) (x : List ℕ) → is_among seen x ≡ true → (ys : List (List ℕ))
    → unseen seen ys ≡ unseen seen (unlike x ys)
unseen-unlike seen x there =
    filter_twice (λ y. not (is_among seen y)) (λ y. not (bytes_eq x y)) (λ y. not (is_among seen y))
    (new_unlike_seen seen x there)

unseen-one_more : (seen : List (List ℕ)) (x : List ℕ) (ys : List (List ℕ))
    → unseen (seen ++ x ∷ []) ys ≡ unseen seen (unlike x ys)
unseen-one_more seen x =
    filter_twice (λ y. not (is_among seen y)) (λ y. not (bytes_eq x y)) (λ y. not (is_among (seen ++ x ∷ []) y))
    (new_past seen x)

-- those that stand there, and each other one once
with_names-distinct : (seen xs : List (List ℕ)) → with_names seen xs ≡ seen ++ unseen seen (distinct xs)
with_names-distinct seen [] = sym (append-nil seen)
with_names-distinct seen (x ∷ xs) = by (is_among seen x) refl (λ s. with_names-distinct s xs)
  where
    by : (b : Bool) → is_among seen x ≡ b → ((s : List (List ℕ)) → with_names s xs ≡ s ++ unseen s (distinct xs))
        → with_names (if b then seen else seen ++ x ∷ []) xs ≡ seen
        ++ cond (not b) (x ∷ unseen seen (unlike x (distinct xs))) (unseen seen (unlike x (distinct xs)))
    by true e more = more seen ∙ ap (λ r. seen ++ r) (unseen-unlike seen x e (distinct xs))
    by false e more =
        more (seen ++ x ∷ []) ∙ append_assoc seen (x ∷ []) (unseen (seen ++ x ∷ []) (distinct xs))
        ∙ ap (λ r. seen ++ x ∷ r) (unseen-one_more seen x (distinct xs))

-- so names that are added to none come to each once
pub added : (xs : List (List ℕ)) → with_names [] xs ≡ distinct xs
added xs = with_names-distinct [] xs ∙ filter_all (distinct xs)

-- ** steps of the walks

-- a symbol that defines its name, and one that does not
module _ (b : List ℕ) (seen : List (List ℕ)) (a : ℕ) (below : a < symbol_count b) where
  pub define_here : is_definition b a ≡ true
      → with_names (with_name seen (symbol_name b a))
      (flat_map (defined_at b) (range_with_len (a + 1) (symbol_count b - (a + 1))))
      ≡ with_names seen (flat_map (defined_at b) (range_with_len a (symbol_count b - a)))
  define_here here = rw (range_first a (symbol_count b) below, here) refl

  pub define_later : is_definition b a ≡ false
      → with_names seen (flat_map (defined_at b) (range_with_len (a + 1) (symbol_count b - (a + 1))))
      ≡ with_names seen (flat_map (defined_at b) (range_with_len a (symbol_count b - a)))
  define_later other = rw (range_first a (symbol_count b) below, other) refl

-- the names of one element, and of those behind it
module _ {X : Type 0} (f : X → List (List ℕ)) (seen : List (List ℕ)) (x : X) (xs : List X) (i : ℕ)
    (here : drop i xs ≡ x ∷ drop (i + 1) xs) where
  pub walk : with_names (with_names seen (f x)) (flat_map f (drop (i + 1) xs))
      ≡ with_names seen (flat_map f (drop i xs))
  walk = sym (with_names-append seen (f x) (flat_map f (drop (i + 1) xs)))
      ∙ ap (λ ys. with_names seen (flat_map f ys)) (sym here)

  pub walk_one : (name : List ℕ) → f x ≡ name ∷ []
      → with_names (with_name seen name) (flat_map f (drop (i + 1) xs)) ≡ with_names seen (flat_map f (drop i xs))
  walk_one name one = ap (λ ys. with_names (with_names seen ys) (flat_map f (drop (i + 1) xs))) (sym one) ∙ walk

  pub walk_none : f x ≡ [] → with_names seen (flat_map f (drop (i + 1) xs)) ≡ with_names seen (flat_map f (drop i xs))
  walk_none none = ap (λ ys. with_names (with_names seen ys) (flat_map f (drop (i + 1) xs))) (sym none) ∙ walk

-- what is left of a list behind its end
pub ended : {X : Type 0} (f : X → List (List ℕ)) (seen : List (List ℕ)) (xs : List X) (i : ℕ) → length xs ≤ i
    → seen ≡ with_names seen (flat_map f (drop i xs))
ended f seen xs i past = sym (ap (λ ys. with_names seen (flat_map f ys)) (drop_of_length-le xs past))

-- the sites of one object, and of those behind it
module _ (objects : List (List ℕ)) (startup : List (List (List ℕ))) (seen : List (List ℕ)) (sites : List (Vec Site))
    (i : ℕ) where
  pub walk_from : (own : Vec Site) → drop i sites ≡ own ∷ drop (i + 1) sites
      → with_names (with_names seen (imported_in objects startup i own.items))
      (flat_map_from (imported_in objects startup) (i + 1) (map (λ v. v.items) (drop (i + 1) sites)))
      ≡ with_names seen (flat_map_from (imported_in objects startup) i (map (λ v. v.items) (drop i sites)))
  walk_from own here =
      sym (with_names-append seen (imported_in objects startup i own.items)
      (flat_map_from (imported_in objects startup) (i + 1) (map (λ v. v.items) (drop (i + 1) sites))))
      ∙ ap (λ vs. with_names seen (flat_map_from (imported_in objects startup) i (map (λ v. v.items) vs))) (sym here)

  pub ended_from : length sites ≤ i → seen ≡ with_names seen
      (flat_map_from (imported_in objects startup) i (map (λ v. v.items) (drop i sites)))
  ended_from past = sym
      (ap (λ vs. with_names seen (flat_map_from (imported_in objects startup) i (map (λ v. v.items) vs)))
      (drop_of_length-le sites past))

-- ** what is read at a place

pub object_is : (objects : List (List ℕ)) (i : ℕ) (b : List ℕ) → b ≡ slice_index_or objects i b → i < length objects
    → object_at objects i ≡ b
object_is objects i b is below = get_or_default objects i [] b below ∙ sym is

-- ** a definition for each name

-- one more name, which may be new
module _ (ks new : List (Bor (List ℕ))) (k : Bor (List ℕ)) (name : List ℕ) (keys : new ≡ insert_key same_names ks k)
    (named : k.now ≡ name) where
  pub inserted_name : map (λ x. x.now) new ≡ with_name (map (λ x. x.now) ks) name
  inserted_name = ap (map (λ x. x.now)) keys ∙ inserted ks k ∙ ap (with_name (map (λ x. x.now) ks)) named

  -- where it is new, what it binds to
  pub bound_new : (objects : List (List ℕ)) (symbols : List SymbolRef) (found : Option SymbolRef)
      → symbols ≡ filter_map (definition_of objects) (map (λ x. x.now) ks) → true ≡ not (list_any (same_names k) ks)
      → found ≡ definition_of objects name
      → symbols ++ cons_option found [] ≡ filter_map (definition_of objects) (map (λ x. x.now) new)
  bound_new objects symbols found bound fresh is =
      let other : list_any (same_names k) ks ≡ false = not-true (list_any (same_names k) ks) (sym fresh) in
      rw (
        keys,
        other,
        bound,
        is,
        sym named,
        map-append (λ x. x.now) ks (k ∷ []),
        filter_map-append (definition_of objects) (map (λ x. x.now) ks) (k.now ∷ []),
      ) refl

-- ** the names of sites

pub imports_one : (objects : List (List ℕ)) (startup : List (List (List ℕ))) (o : ℕ) (site : Site)
    → is_import objects startup o site ≡ true
    → imported_at objects startup o site ≡ symbol_name (object_at objects o) site.symbol ∷ []
imports_one objects startup o site is = rw is refl

pub imports_none : (objects : List (List ℕ)) (startup : List (List (List ℕ))) (o : ℕ) (site : Site)
    → is_import objects startup o site ≡ false
    → imported_at objects startup o site ≡ []
imports_none objects startup o site is = rw is refl
