-- A stable sort by a number gives the elements in its order.
use Rattle.std.proofs.Common.{◌≡◌, ◌∙◌, ◌<◌, ◌≤◌, ◌&&◌, ℕ, suc, Bool, true, false, not, cond, List, [], ◌∷◌, filter}
use Rattle.std.proofs.Common.{length, get_or, if◌then◌else◌, refl, sym, ap, arith}
use Rattle.std.specs.Prelude.{◌==◌, nat_eq, nat_le, nat_lt}
use Rattle.std.specs.declared.cmp.Ordering.TheVariants.{Less, Equal, Greater}
use Rattle.std.specs.Fn.{Called, ComputesKey}
use Rattle.std.specs.List.Sorted.{IsNonDecreasingBy, IsSortedByKey, IsStableByKey, ties}
use Rattle.std.specs.Ordering.{is_lt, nat_cmp}
use Rattle.std.proofs.lemmas.Bool.Decides.{nat_tests}
use Rattle.std.proofs.lemmas.Fn.{always_returns_same}
use Rattle.std.proofs.lemmas.List.Sorted.{IsNonDecreasingBy-from_sort}
use Rattle.link_needs.specs.Needs.{inserted, sorted_by}
use denote.Param.Members.{Mut}
use denote.Ref.{Bor}

-- what `cmp` answers of numbers
less_is : (m n : ℕ) → is_lt (nat_cmp m n) ≡ nat_lt m n
less_is m n = by (nat_lt m n) (m == n)
  where
    by : (a b : Bool) → is_lt (cond a Less (cond b Equal Greater)) ≡ a
    by true b = refl
    by false true = refl
    by false false = refl

-- numbers of which neither is less are equal
tied : (m n : ℕ) → (not (nat_lt m n) && not (nat_lt n m)) ≡ nat_eq m n
tied m n = grind (arith, nat_tests)

module _ {X : Type 0} (number : X → ℕ) where
  -- ** lists that rise

  -- n is at most the number of each
  abbrev AtLeast : ℕ → List X → Type 0
  AtLeast n [] = Unit {0}
  AtLeast n (y ∷ ys) = (n ≤ number y) × AtLeast n ys

  -- the number of each is at most that of each later one
  abbrev Rises : List X → Type 0
  Rises [] = Unit {0}
  Rises (x ∷ xs) = AtLeast (number x) xs × Rises xs

  at_least : (n : ℕ) (xs : List X) → ((k : ℕ) (d : X) → k < length xs → n ≤ number (get_or xs k d)) → AtLeast n xs
  at_least n [] h = tt
  at_least n (y ∷ ys) h = (h 0 y (omega arith), at_least n ys (λ k d below. h (suc k) d (omega arith)))

  rises : (xs : List X) → IsNonDecreasingBy number xs → Rises xs
  rises [] h = tt
  rises (x ∷ xs) h = (
    at_least (number x) xs (λ k d below. h 0 (suc k) d (omega arith) (omega arith)),
    rises xs (λ i j d order below. h (suc i) (suc j) d (omega arith) (omega arith)),
  )

  lower : (m n : ℕ) (xs : List X) → m ≤ n → AtLeast n xs → AtLeast m xs
  lower m n [] less h = tt
  lower m n (y ∷ ys) less h = (omega (arith, h.0), lower m n ys less h.1)

  inserted_above : (n : ℕ) (x : X) (xs : List X) → n ≤ number x → AtLeast n xs → AtLeast n (inserted number x xs)
  inserted_above n x [] own h = (own, tt)
  inserted_above n x (y ∷ ys) own h =
      elim (nat_le (number x) (number y)) as (λ b. AtLeast n (if b then x ∷ (y ∷ ys) else y ∷ inserted number x ys)) [
        | true ↦ (own, h)
        | false ↦ (h.0, inserted_above n x ys own h.1)
      ]

  -- an element that is put in its place
  inserted_rises : (x : X) (xs : List X) → Rises xs → Rises (inserted number x xs)
  inserted_rises x [] h = (tt, tt)
  inserted_rises x (y ∷ ys) h = by (nat_le (number x) (number y)) refl (inserted_rises x ys h.1)
    where
      by : (b : Bool) → nat_le (number x) (number y) ≡ b → Rises (inserted number x ys)
          → Rises (if b then x ∷ (y ∷ ys) else y ∷ inserted number x ys)
      by true e more =
          let less : number x ≤ number y = grind (arith, nat_tests) in
          ((less, lower (number x) (number y) ys less h.0), h)
      by false e more =
          let less : number y ≤ number x = grind (arith, nat_tests) in
          (inserted_above (number y) x ys less h.0, more)

  sorted_rises : (xs : List X) → Rises (sorted_by number xs)
  sorted_rises [] = tt
  sorted_rises (x ∷ xs) = inserted_rises x (sorted_by number xs) (sorted_rises xs)

  -- ** the elements of one number, in their order

  -- those of number n
  abbrev of_number : ℕ → List X → List X
  of_number n xs = filter (λ y. nat_eq n (number y)) xs

  -- two of different numbers may change places
  swapped : (n : ℕ) (x y : X) (xs : List X) → number y < number x
      → of_number n (y ∷ (x ∷ xs)) ≡ of_number n (x ∷ (y ∷ xs))
  swapped n x y xs less = by (nat_eq n (number x)) (nat_eq n (number y)) refl refl
    where
      by : (p q : Bool) → nat_eq n (number x) ≡ p → nat_eq n (number y) ≡ q
          → cond q (y ∷ cond p (x ∷ of_number n xs) (of_number n xs)) (cond p (x ∷ of_number n xs) (of_number n xs))
          ≡ cond p (x ∷ cond q (y ∷ of_number n xs) (of_number n xs)) (cond q (y ∷ of_number n xs) (of_number n xs))
      by true true a b = let both : number x ≡ number y = grind (arith, nat_tests) in absurd (omega arith)
      by true false a b = refl
      by false true a b = refl
      by false false a b = refl

  -- so an element is put past those of lower numbers
  inserted_keeps : (n : ℕ) (x : X) (xs : List X) → of_number n (inserted number x xs) ≡ of_number n (x ∷ xs)
  inserted_keeps n x [] = refl
  inserted_keeps n x (y ∷ ys) = by (nat_le (number x) (number y)) refl (inserted_keeps n x ys)
    where
      by : (b : Bool) → nat_le (number x) (number y) ≡ b → of_number n (inserted number x ys) ≡ of_number n (x ∷ ys)
          → of_number n (if b then x ∷ (y ∷ ys) else y ∷ inserted number x ys) ≡ of_number n (x ∷ (y ∷ ys))
      by true e more = refl
      by false e more =
          let less : number y < number x = grind (arith, nat_tests) in
          ap (λ r. cond (nat_eq n (number y)) (y ∷ r) r) more ∙ swapped n x y ys less

  sorted_keeps : (n : ℕ) (xs : List X) → of_number n (sorted_by number xs) ≡ of_number n xs
  sorted_keeps n [] = refl
  sorted_keeps n (x ∷ xs) =
      inserted_keeps n x (sorted_by number xs) ∙ ap (λ r. cond (nat_eq n (number x)) (x ∷ r) r) (sorted_keeps n xs)

  -- ** one list alone has both

  -- none has a number below all
  none_below : (n : ℕ) (xs : List X) → AtLeast (suc n) xs → of_number n xs ≡ []
  none_below n [] h = refl
  none_below n (x ∷ xs) h =
      let other : nat_eq n (number x) ≡ false = grind (arith, nat_tests, h.0) in
      rw other (none_below n xs h.1)

  -- the first has its own number
  own_number : (x : X) (xs : List X) → of_number (number x) (x ∷ xs) ≡ x ∷ of_number (number x) xs
  own_number x xs = let own : nat_eq (number x) (number x) ≡ true = grind (arith, nat_tests) in rw own refl

  abbrev head_or : X → List X → X
  head_or d [] = d
  head_or d (x ∷ xs) = x

  abbrev tail_of : List X → List X
  tail_of [] = []
  tail_of (x ∷ xs) = xs

  not_none : (x : X) (xs : List X) → x ∷ xs ≡ [] → ⊥
  not_none x xs e = let long : suc (length xs) ≡ 0 = ap length e in absurd (omega arith)

  -- of each number of an element they have the same
  abbrev SameNumbers : List X → List X → Type 0
  SameNumbers ys zs = (x : X) → of_number (number x) ys ≡ of_number (number x) zs

  -- so neither begins below the other
  no_lower : (y z : X) (ys zs : List X) → Rises (z ∷ zs) → SameNumbers (y ∷ ys) (z ∷ zs) → number y < number z → ⊥
  no_lower y z ys zs up same less =
      let none : of_number (number y) (z ∷ zs) ≡ [] =
      none_below (number y) (z ∷ zs) (less, lower (suc (number y)) (number z) zs less up.0) in
      not_none y (of_number (number y) ys) (sym (own_number y ys) ∙ (same y ∙ none))

  -- the first of both is one
  first_same : (y z : X) (ys zs : List X) → Rises (y ∷ ys) → Rises (z ∷ zs) → SameNumbers (y ∷ ys) (z ∷ zs) → y ≡ z
  first_same y z ys zs up other same =
      let low : number y < number z → ⊥ = no_lower y z ys zs other same in
      let high : number z < number y → ⊥ = no_lower z y zs ys up (λ n. sym (same n)) in
      let equal : number y ≡ number z = grind arith in
      ap (head_or y) (
      sym (own_number y ys) ∙ (same y ∙ (ap (λ n. of_number n (z ∷ zs)) equal ∙ own_number z zs)))

  -- and without it they are alike again
  rest_same : (y z : X) (ys zs : List X) → y ≡ z → SameNumbers (y ∷ ys) (z ∷ zs) → SameNumbers ys zs
  rest_same y z ys zs first same w =
      by (nat_eq (number w) (number z)) (ap (λ x. of_number (number w) (x ∷ ys)) (sym first) ∙ same w)
    where
      by : (b : Bool)
          → cond b (z ∷ of_number (number w) ys) (of_number (number w) ys)
          ≡ cond b (z ∷ of_number (number w) zs) (of_number (number w) zs)
          → of_number (number w) ys ≡ of_number (number w) zs
      by true e = ap tail_of e
      by false e = e

  -- a list that rises is told by the elements of each number
  one_order : (ys zs : List X) → Rises ys → Rises zs → SameNumbers ys zs → ys ≡ zs
  one_order [] [] up other same = refl
  one_order [] (z ∷ zs) up other same = absurd (not_none z (of_number (number z) zs) (sym (same z ∙ own_number z zs)))
  one_order (y ∷ ys) [] up other same = absurd (not_none y (of_number (number y) ys) (sym (own_number y ys) ∙ same y))
  one_order (y ∷ ys) (z ∷ zs) up other same =
      let first = first_same y z ys zs up other same in
      ap (λ x. x ∷ ys) first ∙ ap (λ r. z ∷ r) (one_order ys zs up.1 other.1 (rest_same y z ys zs first same))

  -- ** what a sort promises

  -- elements tie that have one number
  ties_are : (x y : X) → ties (λ a b. is_lt (nat_cmp (number a) (number b))) x y ≡ nat_eq (number x) (number y)
  ties_are x y =
      (λ i. not (less_is (number x) (number y) i) && not (less_is (number y) (number x) i)) ∙ tied (number x) (number y)

  of_ties : (x : X) (xs : List X)
      → filter (ties (λ a b. is_lt (nat_cmp (number a) (number b))) x) xs ≡ of_number (number x) xs
  of_ties x xs = ap (λ test. filter test xs) (λ i y. ties_are x y i)

  stays : (xs sorted : List X) → IsStableByKey number nat_cmp xs sorted → SameNumbers sorted (sorted_by number xs)
  stays xs sorted stable x = sym (of_ties x sorted) ∙ (stable x ∙ (of_ties x xs ∙ sym (sorted_keeps (number x) xs)))

  -- sorted rises by number, and the elements of one number stand as they do in xs
  pub sorted_is : (xs sorted : List X) → IsSortedByKey number nat_cmp sorted → IsStableByKey number nat_cmp xs sorted
      → sorted ≡ sorted_by number xs
  sorted_is xs sorted up stable =
      one_order sorted (sorted_by number xs) (rises sorted (IsNonDecreasingBy-from_sort number sorted up))
      (sorted_rises xs) (stays xs sorted stable)

  -- from the clauses `sorted` and `stable` of `sort_by_key`, where each call gives number of the element
  pub sorted_by_key : {F : Type 0} {g : Mut F (Bor X × Unit {0}) ℕ} {f : F} (xs sorted : List X)
      → ((key : X → ℕ) → ComputesKey g key f → IsSortedByKey key nat_cmp sorted)
      → ((key : X → ℕ) → ComputesKey g key f → IsStableByKey key nat_cmp xs sorted)
      → ((a : Bor X × Unit {0}) (r : ℕ) (f' : F) → Called g f a r f' → (r ≡ number a.0.now) × (f' ≡ f))
      → sorted ≡ sorted_by number xs
  sorted_by_key {g = g} {f = f} xs sorted up stable gives =
      let computes : ComputesKey g number f = always_returns_same g (λ a r. r ≡ number a.0.now) f gives in
      sorted_is xs sorted (up number computes) (stable number computes)
