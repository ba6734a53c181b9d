-- Each need has an entry, which lies in the table; and the table is small.
use Rattle.std.proofs.Common.{◌≡◌, ◌∙◌, ◌+◌, ◌*◌, ◌<◌, ◌≤◌, ◌||◌, ℕ, zero, suc, Bool, true, false, not, cond, List, []}
use Rattle.std.proofs.Common.{◌∷◌, ◌++◌, Option, Some, None, filter, length, if◌then◌else◌, refl, sym, ap, arith}
use Rattle.std.proofs.lemmas.List.Folds.{list_any-append}
use Rattle.std.proofs.lemmas.Map.Views.{any-filter_same}
use Rattle.std.specs.List.{All, flat_map, list_any, slice_index_or}
use Rattle.std.specs.Option.{IfSome, IsSome}
use Rattle.got_pairs.specs.declared.need.Group.{Group}
use Rattle.got_pairs.specs.declared.need.Group.TheVariants as group
use Rattle.got_pairs.specs.declared.need.Need.{Need}
use Rattle.got_pairs.specs.declared.need.Need.TheVariants.{ModulePair, SymbolPair, Descriptor, SymbolWord}
use Rattle.got_pairs.specs.declared.need.Need.TheVariants.{AddressWord, RuntimeWord}
use Rattle.got_pairs.specs.Needs.{by_group, distinct, entries, group_of, groups, of_group, same_group, same_need}
use Rattle.got_pairs.specs.Needs.{size_of, start_from, start_of, total_size}
use Rattle.got_pairs.specs.Plans.{is_among}
use Rattle.got_pairs.proofs.Distinct.{equivalence}

-- equal needs are of one group and one size
same_sort : (x y : Need) → same_need x y ≡ true → (group_of x ≡ group_of y) × (size_of x ≡ size_of y)
same_sort ModulePair ModulePair e = (refl, refl)
same_sort (SymbolPair x) (SymbolPair y) e = (refl, refl)
same_sort (Descriptor x) (Descriptor y) e = (refl, refl)
same_sort (SymbolWord x) (SymbolWord y) e = (refl, refl)
same_sort (AddressWord s p) (AddressWord t q) e = (refl, refl)
same_sort RuntimeWord RuntimeWord e = (refl, refl)
same_sort x y e = cc

-- ** each need has an entry

module _ (n : Need) where
  among_first : (x : Need) (xs : List Need) → same_need n x ≡ true → is_among (x ∷ xs) n ≡ true
  among_first x xs e = rw e refl

  among_later : (x : Need) (xs : List Need) → is_among xs n ≡ true → is_among (x ∷ xs) n ≡ true
  among_later x xs e = either (same_need n x) (is_among xs n) e
    where
      either : (a b : Bool) → b ≡ true → (a || b) ≡ true
      either true b e = refl
      either false b e = e

  among_left : (xs ys : List Need) → is_among xs n ≡ true → is_among (xs ++ ys) n ≡ true
  among_left xs ys e = list_any-append (same_need n) xs ys ∙ ap (λ a. a || is_among ys n) e

  among_right : (xs ys : List Need) → is_among ys n ≡ true → is_among (xs ++ ys) n ≡ true
  among_right xs ys e = list_any-append (same_need n) xs ys ∙ either (is_among xs n) (is_among ys n) e
    where
      either : (a b : Bool) → b ≡ true → (a || b) ≡ true
      either true b e = refl
      either false b e = e

  among_of_group : (g : Group) (xs : List Need) → same_group g (group_of n) ≡ true → is_among xs n ≡ true
      → is_among (of_group g xs) n ≡ true
  among_of_group g xs own e =
      any-filter_same (same_need n) (λ y. same_group g (group_of y)) true
      (λ k s. ap (same_group g) (sym (same_sort n k s).0) ∙ own) xs ∙ e

  among_distinct : (xs : List Need) → is_among xs n ≡ true → is_among (distinct xs) n ≡ true
  among_distinct [] e = e
  among_distinct (x ∷ xs) e = by (same_need n x) refl (among_distinct xs)
    where
      by : (b : Bool) → same_need n x ≡ b → (is_among xs n ≡ true → is_among (distinct xs) n ≡ true)
          → is_among (distinct (x ∷ xs)) n ≡ true
      by true s rest = among_first x _ s
      by false s rest =
          let later : is_among xs n ≡ true = ap (λ b. b || is_among xs n) (sym s) ∙ e in
          let other : (k : Need) → same_need n k ≡ true
          → not (same_need x k) ≡ true =
          λ k same. ap not (equivalence.symm x k ∙ sym (equivalence.congr n k x same) ∙ s) in
          among_later x _ (any-filter_same (same_need n) (λ k. not (same_need x k)) true other (distinct xs)
          ∙ rest later)

  start_among : (at : ℕ) (ks : List Need) → is_among ks n ≡ true → IsSome (start_from at ks n)
  start_among at [] e = e
  start_among at (k ∷ ks) e = by (same_need n k) refl (start_among (at + size_of k) ks)
    where
      by : (b : Bool) → same_need n k ≡ b → (is_among ks n ≡ true → IsSome (start_from (at + size_of k) ks n))
          → IsSome (if b then Some at else start_from (at + size_of k) ks n)
      by true same rest = refl
      by false same rest = rest (ap (λ b. b || is_among ks n) (sym same) ∙ e)

-- the groups leave no need out
among_groups : (n : Need) (xs : List Need) (gs : List Group) → list_any (λ g. same_group g (group_of n)) gs ≡ true
    → is_among xs n ≡ true → is_among (flat_map (λ g. of_group g xs) gs) n ≡ true
among_groups n xs [] own e = own
among_groups n xs (g ∷ gs) own e = by (same_group g (group_of n)) refl (among_groups n xs gs)
  where
    by : (b : Bool) → same_group g (group_of n) ≡ b
        → (list_any (λ h. same_group h (group_of n)) gs ≡ true → is_among xs n ≡ true
        → is_among (flat_map (λ h. of_group h xs) gs) n ≡ true)
        → is_among (of_group g xs ++ flat_map (λ h. of_group h xs) gs) n ≡ true
    by true here more = among_left n (of_group g xs) (flat_map (λ h. of_group h xs) gs) (among_of_group n g xs here e)
    by false here more =
        let later : list_any (λ h. same_group h (group_of n)) gs ≡ true =
        ap (λ b. b || list_any (λ h. same_group h (group_of n)) gs) (sym here) ∙ own in
        among_right n (of_group g xs) (flat_map (λ h. of_group h xs) gs) (more later e)

own_group : (n : Need) → list_any (λ g. same_group g (group_of n)) groups ≡ true
own_group ModulePair = refl
own_group n = refl

among_at : (xs : List Need) (k : ℕ) (d : Need) → k < length xs → is_among xs (slice_index_or xs k d) ≡ true
among_at [] k d h = absurd (omega arith)
among_at (x ∷ xs) zero d h = among_first x x xs (equivalence.refl x)
among_at (x ∷ xs) (suc k) d h = among_later (slice_index_or xs k d) x xs (among_at xs k d (omega arith))

pub served : (needs : List Need) → All (λ need. IsSome (start_of (entries needs) need)) needs
unfolding entries
served needs = λ k d h.
    let n = slice_index_or needs k d in
    start_among n 0 (entries needs)
    (among_distinct n (by_group needs) (among_groups n needs groups (own_group n) (among_at needs k d h)))

-- ** an entry lies in the table

starts_within : (n : Need) (at : ℕ) (ks : List Need) (s : ℕ) → start_from at ks n ≡ Some s
    → s + size_of n ≤ at + total_size ks
starts_within n at [] s e = cc
starts_within n at (k ∷ ks) s e = by (same_need n k) refl (starts_within n (at + size_of k) ks s)
  where
    by : (b : Bool) → same_need n k ≡ b
        → (start_from (at + size_of k) ks n ≡ Some s → s + size_of n ≤ at + size_of k + total_size ks)
        → s + size_of n ≤ at + (size_of k + total_size ks)
    by true same rest =
        let first : Some at ≡ Some s = ap (λ b. if b then Some at else start_from (at + size_of k) ks n) (sym same)
        ∙ e in
        let here : at ≡ s = cc in
        omega (arith, (same_sort n k same).1)
    by false same rest =
        let later : start_from (at + size_of k) ks n ≡ Some s =
        ap (λ b. if b then Some at else start_from (at + size_of k) ks n) (sym same) ∙ e in
        omega (arith, rest later)

pub within : (ks : List Need) (n : Need) (o : Option ℕ) → o ≡ start_of ks n
    → IfSome o (λ s. s + size_of n ≤ total_size ks)
within ks n None e = tt
within ks n (Some s) e = omega (arith, starts_within n 0 ks s (sym e))

-- ** the table is small

total-append : (xs ys : List Need) → total_size (xs ++ ys) ≡ total_size xs + total_size ys
total-append [] ys = omega arith
total-append (x ∷ xs) ys = omega (arith, total-append xs ys)

total-filter : (p : Need → Bool) (xs : List Need) → total_size (filter p xs) ≤ total_size xs
total-filter p [] = omega arith
total-filter p (x ∷ xs) =
    elim (p x) as (λ b. total_size (cond b (x ∷ filter p xs) (filter p xs)) ≤ size_of x + total_size xs) [
      | true ↦ omega (arith, total-filter p xs)
      | false ↦ omega (arith, total-filter p xs)
    ]

total-distinct : (xs : List Need) → total_size (distinct xs) ≤ total_size xs
total-distinct [] = omega arith
total-distinct (x ∷ xs) = omega (arith, total-distinct xs, total-filter (λ y. not (same_need x y)) (distinct xs))

six : List Need → ℕ
six xs =
    total_size (of_group group.ModulePair xs) + total_size (of_group group.SymbolPairs xs)
    + total_size (of_group group.Descriptors xs)
    + total_size (of_group group.SymbolWords xs) + total_size (of_group group.AddressWords xs)
    + total_size (of_group group.RuntimeWord xs)

six-total : (xs : List Need) → six xs ≡ total_size xs
unfolding six
six-total [] = omega arith
six-total (ModulePair ∷ xs) = omega (arith, six-total xs)
six-total (x ∷ xs) = omega (arith, six-total xs)

total-by_group : (xs : List Need) → total_size (by_group xs) ≡ six xs
unfolding six
total-by_group xs = simp total-append (omega arith)

total-length : (xs : List Need) → total_size xs ≤ 16 * length xs
total-length [] = omega arith
total-length (ModulePair ∷ xs) = omega (arith, total-length xs)
total-length (x ∷ xs) = omega (arith, total-length xs)

pub small : (needs : List Need) → total_size (entries needs) ≤ 16 * length needs
unfolding entries
small needs = omega (arith, total-distinct (by_group needs), total-by_group needs, six-total needs, total-length needs)
