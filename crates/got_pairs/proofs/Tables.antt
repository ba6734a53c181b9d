-- The laws of the table of any needs.
use Rattle.std.proofs.Common.{◌≡◌, ◌≢◌, ◌∙◌, ◌≤◌, ℕ, Bool, true, false, not, cond, List, [], ◌∷◌, ◌++◌}
use Rattle.std.proofs.Common.{Option, Some, None, IsSome, filter, refl, sym, ap, arith}
use Rattle.std.specs.List.{All, AllPairs, Contains, flat_map, slice_index_or}
use Rattle.std.proofs.lemmas.List.Elements.{All-append, All-cons, All-contains, All-contains_itself, All-filter}
use Rattle.std.proofs.lemmas.List.Elements.{All-head}
use Rattle.std.proofs.lemmas.List.Elements.{All-nil, All-tail, filter_passes}
use Rattle.std.proofs.lemmas.List.Kept.{AllPairs-cons, AllPairs-filter}
use Rattle.got_pairs.specs.declared.need.Group.{Group}
use Rattle.got_pairs.specs.declared.need.Group.TheVariants as group
use Rattle.got_pairs.specs.declared.need.Need.{Need}
use Rattle.got_pairs.specs.Laws.{EntriesAreNeeded, EntriesDiffer, GroupsStandInOrder, NeedsHaveEntries, rank}
use Rattle.got_pairs.specs.Needs.{by_group, distinct, entries, group_of, groups, of_group, same_group, same_need}
use Rattle.got_pairs.specs.Needs.{start_of}
use Rattle.got_pairs.proofs.Distinct.{equivalence}
use Rattle.got_pairs.proofs.Served.{served}

-- ** each need has one

found_start : (found : Option ℕ) → IsSome found → (at : ℕ) × (found ≡ Some at)
found_start None some = absurd (cc)
found_start (Some at) some = (at, refl)

pub needs_have_entries : NeedsHaveEntries
needs_have_entries needs need has =
    found_start (start_of (entries needs) need)
    (All-contains (λ n. IsSome (start_of (entries needs) n)) needs need (served needs) has)

-- ** what holds of all needs holds of all entries

module _ (P : Need → Type 0) where
  all_distinct : (xs : List Need) → All P xs → All P (distinct xs)
  all_distinct [] all = all
  all_distinct (x ∷ xs) all =
      let rest = filter (λ y. not (same_need x y)) (distinct xs) in
      All-cons P x rest (All-head P x xs all)
      (All-filter (λ y. not (same_need x y)) P (distinct xs) (all_distinct xs (All-tail P x xs all)))

  all_groups : (gs : List Group) (xs : List Need) → All P xs → All P (flat_map (λ g. of_group g xs) gs)
  all_groups [] xs all = All-nil P
  all_groups (g ∷ gs) xs all =
      All-append P (of_group g xs) (flat_map (λ h. of_group h xs) gs)
      (All-filter (λ y. same_group g (group_of y)) P xs all) (all_groups gs xs all)

pub entries_are_needed : EntriesAreNeeded
unfolding entries
entries_are_needed needs entry has =
    All-contains (Contains needs) (entries needs) entry
    (all_distinct (Contains needs) (by_group needs)
    (all_groups (Contains needs) groups needs (All-contains_itself needs))) has

-- ** they differ

unlike : (x y : Need) → not (same_need x y) ≡ true → x ≢ y
unlike x y e same =
    let yes : same_need x y ≡ true = ap (same_need x) (sym same) ∙ equivalence.refl x in
    let no : not (same_need x y) ≡ false = ap not yes in
    cc

distinct_differ : (xs : List Need) → AllPairs (λ x y. x ≢ y) (distinct xs)
distinct_differ [] = λ i j d less below. absurd (omega (arith, below))
distinct_differ (x ∷ xs) =
    let rest = filter (λ y. not (same_need x y)) (distinct xs) in
    AllPairs-cons (λ a b. a ≢ b) x rest
    (λ k d below. unlike x (slice_index_or rest k d) (filter_passes (λ y. not (same_need x y)) (distinct xs) k d below))
    (AllPairs-filter (λ a b. a ≢ b) (λ y. not (same_need x y)) (distinct xs) (distinct_differ xs))

pub entries_differ : EntriesDiffer
unfolding entries
entries_differ needs = distinct_differ (by_group needs)

-- ** groups in order

-- each entry is of this group or a later one, and no entry stands behind one of a later group
abbrev Rising : ℕ → List Need → Type 0
Rising n [] = Unit {0}
Rising n (x ∷ xs) = (n ≤ rank (group_of x)) × Rising (rank (group_of x)) xs

from_later : (m n : ℕ) (xs : List Need) → m ≤ n → Rising n xs → Rising m xs
from_later m n [] low rising = tt
from_later m n (x ∷ xs) low rising = let first = rising.0 in (omega (arith, low, first), rising.1)

filter_rising : (p : Need → Bool) (n : ℕ) (xs : List Need) → Rising n xs → Rising n (filter p xs)
filter_rising p n [] rising = tt
filter_rising p n (x ∷ xs) rising =
    elim (p x) as (λ b. Rising n (cond b (x ∷ filter p xs) (filter p xs))) [
      | true ↦ (rising.0, filter_rising p (rank (group_of x)) xs rising.1)
      | false ↦ from_later n (rank (group_of x)) (filter p xs) rising.0
          (filter_rising p (rank (group_of x)) xs rising.1)
    ]

distinct_rising : (n : ℕ) (xs : List Need) → Rising n xs → Rising n (distinct xs)
distinct_rising n [] rising = tt
distinct_rising n (x ∷ xs) rising = (
  rising.0,
  filter_rising (λ y. not (same_need x y)) (rank (group_of x)) (distinct xs)
      (distinct_rising (rank (group_of x)) xs rising.1),
)

same_rank : (g h : Group) → same_group g h ≡ true → rank h ≡ rank g
same_rank group.ModulePair group.ModulePair e = refl
same_rank group.SymbolPairs group.SymbolPairs e = refl
same_rank group.Descriptors group.Descriptors e = refl
same_rank group.SymbolWords group.SymbolWords e = refl
same_rank group.AddressWords group.AddressWords e = refl
same_rank group.RuntimeWord group.RuntimeWord e = refl
same_rank g h e = absurd (cc)

-- those of one group, in front of later ones
group_first : (g : Group) (needs rest : List Need) (n : ℕ) → n ≤ rank g → Rising (rank g) rest
    → Rising n (of_group g needs ++ rest)
group_first g [] rest n low rising = from_later n (rank g) rest low rising
group_first g (x ∷ needs) rest n low rising =
    of_test (same_group g (group_of x)) refl (λ m small. group_first g needs rest m small rising)
  where
    of_test : (t : Bool) → same_group g (group_of x) ≡ t
        → ((m : ℕ) → m ≤ rank g → Rising m (of_group g needs ++ rest))
        → Rising n (cond t (x ∷ of_group g needs) (of_group g needs) ++ rest)
    of_test true e more =
        let same = same_rank g (group_of x) e in
        (omega (arith, same, low), more (rank (group_of x)) (omega (arith, same)))
    of_test false e more = more n low

groups_rising : (needs : List Need) → Rising 0 (by_group needs)
groups_rising needs =
    group_first group.ModulePair needs _ 0 (omega arith)
    (group_first group.SymbolPairs needs _ 0 (omega arith)
    (group_first group.Descriptors needs _ 1 (omega arith)
    (group_first group.SymbolWords needs _ 2 (omega arith)
    (group_first group.AddressWords needs _ 3 (omega arith)
    (group_first group.RuntimeWord needs [] 4 (omega arith) tt)))))

all_behind : (n : ℕ) (xs : List Need) → Rising n xs → All (λ y. n ≤ rank (group_of y)) xs
all_behind n [] rising = All-nil (λ y. n ≤ rank (group_of y))
all_behind n (x ∷ xs) rising =
    All-cons (λ y. n ≤ rank (group_of y)) x xs rising.0
    (all_behind n xs (from_later n (rank (group_of x)) xs rising.0 rising.1))

pairs_rising : (n : ℕ) (xs : List Need) → Rising n xs → AllPairs (λ x y. rank (group_of x) ≤ rank (group_of y)) xs
pairs_rising n [] rising = λ i j d less below. absurd (omega (arith, below))
pairs_rising n (x ∷ xs) rising =
    AllPairs-cons (λ a b. rank (group_of a) ≤ rank (group_of b)) x xs
    (all_behind (rank (group_of x)) xs rising.1) (pairs_rising (rank (group_of x)) xs rising.1)

pub groups_stand_in_order : GroupsStandInOrder
unfolding entries
groups_stand_in_order needs = pairs_rising 0 (entries needs) (distinct_rising 0 (by_group needs) (groups_rising needs))
