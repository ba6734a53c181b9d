-- The entries of a table are no more than the needs, the run time's word aside.
use Rattle.std.proofs.Common.{◌≡◌, ◌+◌, ◌*◌, ◌≤◌, ℕ, Bool, true, false, cond, not, List, [], ◌∷◌, ◌++◌, filter, length}
use Rattle.std.proofs.Common.{◌∙◌, ap, length-append, refl, arith}
use Rattle.std.proofs.lemmas.List.Elements.{filter-append}
use Rattle.got_pairs.specs.declared.need.Group.TheVariants as group
use Rattle.got_pairs.specs.declared.need.Need.{Need}
use Rattle.got_pairs.specs.declared.need.Need.TheVariants.{RuntimeWord}
use Rattle.got_pairs.specs.Needs.{by_group, distinct, entries, of_group, same_need, total_size}

-- those that are not the run time's word, and how many they are
abbrev not_runtime : List Need → List Need
not_runtime xs = filter (λ y. not (same_need RuntimeWord y)) xs

abbrev pub others : List Need → ℕ
others xs = length (not_runtime xs)

-- in two lists are those of the first and those of the second
pub others-append : (xs ys : List Need) → others (xs ++ ys) ≡ others xs + others ys
others-append xs ys =
    ap length (filter-append (λ y. not (same_need RuntimeWord y)) xs ys)
    ∙ length-append (not_runtime xs) (not_runtime ys)

length-filter-le : (p : Need → Bool) (xs : List Need) → length (filter p xs) ≤ length xs
length-filter-le p [] = omega arith
length-filter-le p (x ∷ xs) =
    elim (p x) as (λ b. length (cond b (x ∷ filter p xs) (filter p xs)) ≤ length (x ∷ xs)) [
      | true ↦ omega (arith, length-filter-le p xs)
      | false ↦ omega (arith, length-filter-le p xs)
    ]

-- they are no more than all
pub others-le : (xs : List Need) → others xs ≤ length xs
others-le xs = length-filter-le (λ y. not (same_need RuntimeWord y)) xs

-- ** each once

others-filter : (p : Need → Bool) (xs : List Need) → others (filter p xs) ≤ others xs
others-filter p [] = omega arith
others-filter p (x ∷ xs) =
    elim (p x) as (λ b. others (cond b (x ∷ filter p xs) (filter p xs)) ≤ others (x ∷ xs)) [
      | true ↦ omega (arith, others-append (x ∷ []) (filter p xs), others-append (x ∷ []) xs, others-filter p xs)
      | false ↦ omega (arith, others-append (x ∷ []) xs, others-filter p xs)
    ]

others-distinct : (xs : List Need) → others (distinct xs) ≤ others xs
others-distinct [] = omega arith
others-distinct (x ∷ xs) =
    let rest = filter (λ y. not (same_need x y)) (distinct xs) in
    let fewer = others-filter (λ y. not (same_need x y)) (distinct xs) in
    omega (arith, others-append (x ∷ []) rest, others-append (x ∷ []) xs, fewer, others-distinct xs)

one_more : (x : Need) (xs : List Need) → others (x ∷ []) ≡ 1 → length (distinct xs) ≤ others xs + 1
    → length (distinct (x ∷ xs)) ≤ others (x ∷ xs) + 1
one_more x xs one h =
    omega (arith, one, h, others-append (x ∷ []) xs, length-filter-le (λ y. not (same_need x y)) (distinct xs))

-- of these needs each stands once, and the run time's word once more
length-distinct : (xs : List Need) → length (distinct xs) ≤ others xs + 1
length-distinct [] = omega arith
length-distinct (RuntimeWord ∷ xs) = omega (arith, others-distinct xs)
length-distinct (x ∷ xs) = one_more x xs refl (length-distinct xs)

-- ** group by group

-- counted group by group
unfoldable six : List Need → ℕ
six xs =
    others (of_group group.ModulePair xs) + others (of_group group.SymbolPairs xs)
    + others (of_group group.Descriptors xs) + others (of_group group.SymbolWords xs)
    + others (of_group group.AddressWords xs) + others (of_group group.RuntimeWord xs)

six-others : (xs : List Need) → six xs ≡ others xs
unfolding six
six-others [] = omega arith
six-others (RuntimeWord ∷ xs) = omega (arith, six-others xs)
six-others (x ∷ xs) = omega (arith, six-others xs)

others-by_group : (xs : List Need) → others (by_group xs) ≡ six xs
unfolding six
others-by_group xs = simp others-append (omega arith)

-- ** the table

-- an entry for each need, and one for the run time's word
pub length-entries : (needs : List Need) → length (entries needs) ≤ others needs + 1
unfolding entries
length-entries needs = omega (arith, length-distinct (by_group needs), others-by_group needs, six-others needs)

-- an entry has at most two words
pub total_size-le : (xs : List Need) → total_size xs ≤ 16 * length xs
total_size-le [] = omega arith
total_size-le (RuntimeWord ∷ xs) = omega (arith, total_size-le xs)
total_size-le (x ∷ xs) = omega (arith, total_size-le xs)
