-- What holds of all elements of lists that are joined, and lists of names that are distinct.
use Rattle.std.proofs.Common.{◌≡◌, ◌≢◌, ◌+◌, ◌<◌, ◌≤◌, ℕ, zero, suc, true, not, List, [], ◌∷◌, ◌++◌, length, filter}
use Rattle.std.proofs.Common.{arith}
use Rattle.std.specs.Prelude.{slice_index_or}
use Rattle.std.specs.List.{All, AllPairs, flat_map, range_with_len}
use Rattle.std.specs.Str.{bytes_eq}
use Rattle.std.proofs.lemmas.List.Elements.{All-filter, filter_passes}
use Rattle.std.proofs.lemmas.List.Kept.{AllPairs-cons, AllPairs-filter}
use Rattle.std.proofs.lemmas.Slice.Eq.{bytes_eq-Decides}
use Rattle.dynamic_symbols.specs.Names.{distinct}

-- ** what holds of all

module _ {X : Type 0} (P : X → Type 0) where
  pub all_nil : All P []
  all_nil = λ k d h. absurd (omega (arith, h))

  pub all_cons : (x : X) (xs : List X) → P x → All P xs → All P (x ∷ xs)
  all_cons x xs here rest = by
    where
      by : (k : ℕ) (d : X) → k < length (x ∷ xs) → P (slice_index_or (x ∷ xs) k d)
      by zero d h = here
      by (suc k) d h = rest k d (omega (arith, h))

  pub all_first : (x : X) (xs : List X) → All P (x ∷ xs) → P x
  all_first x xs all = all 0 x (omega arith)

  pub all_rest : (x : X) (xs : List X) → All P (x ∷ xs) → All P xs
  all_rest x xs all = λ k d h. all (suc k) d (omega (arith, h))

  pub all_append : (xs ys : List X) → All P xs → All P ys → All P (xs ++ ys)
  all_append [] ys first next = next
  all_append (x ∷ xs) ys first next =
      all_cons x (xs ++ ys) (all_first x xs first) (all_append xs ys (all_rest x xs first) next)

  -- of all lists that are joined
  pub all_flat : {Y : Type 0} (f : Y → List X) (ys : List Y) → ((y : Y) → All P (f y)) → All P (flat_map f ys)
  all_flat f [] each = all_nil
  all_flat f (y ∷ ys) each = all_append (f y) (flat_map f ys) (each y) (all_flat f ys each)

  -- the same, by their places
  pub all_flat_at : {Y : Type 0} (f : Y → List X) (ys : List Y) (d : Y)
      → ((k : ℕ) → k < length ys → All P (f (slice_index_or ys k d))) → All P (flat_map f ys)
  all_flat_at f [] d each = all_nil
  all_flat_at f (y ∷ ys) d each =
      all_append (f y) (flat_map f ys) (each 0 (omega arith))
      (all_flat_at f ys d (λ k h. each (suc k) (omega (arith, h))))

  -- the same, by numbers that rise
  pub all_flat_range : (f : ℕ → List X) (a n : ℕ) → ((e : ℕ) → a ≤ e → e < a + n → All P (f e))
      → All P (flat_map f (range_with_len a n))
  all_flat_range f a zero each = all_nil
  all_flat_range f a (suc n) each =
      all_append (f a) (flat_map f (range_with_len (a + 1) n)) (each a (omega arith) (omega arith))
      (all_flat_range f (a + 1) n (λ e low high. each e (omega (arith, low)) (omega (arith, high))))

-- ** distinct names

differs : (x y : List ℕ) → not (bytes_eq x y) ≡ true → x ≢ y
differs x y other = λ same. (let equal : bytes_eq x y ≡ true = (bytes_eq-Decides x y).1 same in cc)

pub all_distinct : (P : List ℕ → Type 0) (xs : List (List ℕ)) → All P xs → All P (distinct xs)
all_distinct P [] all = all
all_distinct P (x ∷ xs) all =
    all_cons P x (filter (λ y. not (bytes_eq x y)) (distinct xs)) (all_first P x xs all)
    (All-filter (λ y. not (bytes_eq x y)) P (distinct xs) (all_distinct P xs (all_rest P x xs all)))

pub distinct_names : (xs : List (List ℕ)) → AllPairs (λ x y. x ≢ y) (distinct xs)
distinct_names [] = λ i j d less within. absurd (omega (arith, less, within))
distinct_names (x ∷ xs) =
    AllPairs-cons (λ y z. y ≢ z) x (filter (λ y. not (bytes_eq x y)) (distinct xs))
    (λ k d h. differs x (slice_index_or (filter (λ y. not (bytes_eq x y)) (distinct xs)) k d)
    (filter_passes (λ y. not (bytes_eq x y)) (distinct xs) k d h))
    (AllPairs-filter (λ y z. y ≢ z) (λ y. not (bytes_eq x y)) (distinct xs) (distinct_names xs))
