-- Needs that are added one by one, and the entries that they come to.
use Rattle.std.proofs.Common.{◌≡◌, ◌∙◌, ◌&&◌, ◌||◌, Bool, true, false, not, cond, List, [], ◌∷◌, ◌++◌, filter}
use Rattle.std.proofs.Common.{if◌then◌else◌, refl, sym, ap, subst, append_assoc, append-nil}
use Rattle.std.proofs.lemmas.List.Folds.{list_any-append}
use Rattle.std.specs.Cmp.{IsEquivalence}
use Rattle.std.specs.List.{flat_map, list_any}
use Rattle.got_pairs.specs.declared.need.Group.{Group}
use Rattle.got_pairs.specs.declared.need.Need.{Need}
use Rattle.got_pairs.specs.contracts.need.NeedEq.TheImpl.Laws.{laws-law}
use Rattle.got_pairs.specs.Needs.{by_group, distinct, entries, groups, of_group, same_need}
use Rattle.got_pairs.specs.Plans.{is_among, with_need, with_needs}
use Rattle.got_pairs.proofs.Starts.{eq_same}

pub equivalence : IsEquivalence same_need
equivalence = subst IsEquivalence eq_same laws-law

-- two tests, one after the other
filter_twice : (P Q R : Need → Bool) → ((y : Need) → R y ≡ (Q y && P y)) → (ys : List Need)
    → filter R ys ≡ filter P (filter Q ys)
filter_twice P Q R h [] = refl
filter_twice P Q R h (y ∷ ys) =
    ap (λ b. cond b (y ∷ filter R ys) (filter R ys)) (h y)
    ∙ elim (Q y) as (λ b. cond (b && P y) (y ∷ filter R ys) (filter R ys)
    ≡ filter P (cond b (y ∷ filter Q ys) (filter Q ys))) [
      | true ↦ ap (λ r. cond (P y) (y ∷ r) r) (filter_twice P Q R h ys)
      | false ↦ filter_twice P Q R h ys
    ]

filter_all : (ys : List Need) → filter (λ y. true) ys ≡ ys
filter_all [] = refl
filter_all (y ∷ ys) = ap (λ r. y ∷ r) (filter_all ys)

-- what is equal to one that was seen was seen
new_unlike_seen : (seen : List Need) (x : Need) → is_among seen x ≡ true → (y : Need)
    → not (is_among seen y) ≡ (not (same_need x y) && not (is_among seen y))
new_unlike_seen seen x there y = by (same_need x y) refl
  where
    by : (b : Bool) → same_need x y ≡ b → not (is_among seen y) ≡ (not (same_need x y) && not (is_among seen y))
    by true e =
        let alike : is_among seen x ≡ is_among seen y =
        ap (λ p. list_any p seen) (λ i z. equivalence.congr x y z e i) in
        rw (e, sym alike ∙ there) refl
    by false e = rw e refl

neither : (a b : Bool) → not (a || (b || false)) ≡ (not b && not a)
neither true true = refl
neither true false = refl
neither false true = refl
neither false false = refl

-- what is none of some and not one more
new_past : (seen : List Need) (x y : Need)
    → not (is_among (seen ++ x ∷ []) y) ≡ (not (same_need x y) && not (is_among seen y))
new_past seen x y =
    ap not (list_any-append (same_need y) seen (x ∷ [])) ∙ neither (is_among seen y) (same_need y x)
    ∙ ap (λ b. not b && not (is_among seen y)) (equivalence.symm y x)

-- those of them that are none of these
abbrev unseen : List Need → List Need → List Need
unseen seen ys = filter (λ y. not (is_among seen y)) ys

-- those that differ from one
abbrev unlike : Need → List Need → List Need
unlike x ys = filter (λ y. not (same_need x y)) ys

unseen-unlike : (seen : List Need) (x : Need) → is_among seen x ≡ true → (ys : List Need)
    → unseen seen ys ≡ unseen seen (unlike x ys)
unseen-unlike seen x there =
    filter_twice (λ y. not (is_among seen y)) (λ y. not (same_need x y)) (λ y. not (is_among seen y))
    (new_unlike_seen seen x there)

unseen-one_more : (seen : List Need) (x : Need) (ys : List Need)
    → unseen (seen ++ x ∷ []) ys ≡ unseen seen (unlike x ys)
unseen-one_more seen x =
    filter_twice (λ y. not (is_among seen y)) (λ y. not (same_need x y)) (λ y. not (is_among (seen ++ x ∷ []) y))
    (new_past seen x)

pub with_needs-append : (entries xs ys : List Need)
    → with_needs entries (xs ++ ys) ≡ with_needs (with_needs entries xs) ys
with_needs-append entries [] ys = refl
with_needs-append entries (x ∷ xs) ys = with_needs-append (with_need entries x) xs ys

-- those that stand there, and each other one once
pub with_needs-distinct : (seen xs : List Need) → with_needs seen xs ≡ seen ++ unseen seen (distinct xs)
with_needs-distinct seen [] = sym (append-nil seen)
with_needs-distinct seen (x ∷ xs) = by (is_among seen x) refl (λ s. with_needs-distinct s xs)
  where
    by : (b : Bool) → is_among seen x ≡ b → ((s : List Need) → with_needs s xs ≡ s ++ unseen s (distinct xs))
        → with_needs (if b then seen else seen ++ x ∷ []) xs ≡ seen
        ++ cond (not b) (x ∷ unseen seen (unlike x (distinct xs))) (unseen seen (unlike x (distinct xs)))
    by true e more = more seen ∙ ap (λ r. seen ++ r) (unseen-unlike seen x e (distinct xs))
    by false e more =
        more (seen ++ x ∷ []) ∙ append_assoc seen (x ∷ []) (unseen (seen ++ x ∷ []) (distinct xs))
        ∙ ap (λ r. seen ++ x ∷ r) (unseen-one_more seen x (distinct xs))

-- the needs of each group, added group by group
abbrev pub with_groups : List Need → List Group → List Need → List Need
with_groups entries [] needs = entries
with_groups entries (g ∷ gs) needs = with_groups (with_needs entries (of_group g needs)) gs needs

with_groups-flat : (entries : List Need) (gs : List Group) (needs : List Need)
    → with_needs entries (flat_map (λ g. of_group g needs) gs) ≡ with_groups entries gs needs
with_groups-flat entries [] needs = refl
with_groups-flat entries (g ∷ gs) needs =
    with_needs-append entries (of_group g needs) (flat_map (λ h. of_group h needs) gs)
    ∙ with_groups-flat (with_needs entries (of_group g needs)) gs needs

-- so the groups, one after another, give the entries
pub group_by_group : (needs : List Need) → with_groups [] groups needs ≡ entries needs
unfolding entries
group_by_group needs = sym (with_groups-flat [] groups needs) ∙ with_needs-distinct [] (by_group needs)
    ∙ filter_all (distinct (by_group needs))
