-- A list in order whose elements differ rises.
use Rattle.std.proofs.Common.{◌≡◌, ◌≢◌, ◌<◌, ◌≤◌, ◌⊎◌, ◌∙◌, ℕ, List, length, get_or, refl, sym, ap, subst, inl, inr}
use Rattle.std.proofs.Common.{arith}
use Rattle.std.specs.List.{AllPairs, swap}
use Rattle.std.specs.List.Sorted.{IsPermutation, IsNonDecreasingBy}
use Rattle.std.proofs.lemmas.List.Edits.{swapped_from_swap, length-swap}
use Rattle.std.proofs.lemmas.List.Sorted.{IsPermutation-keeps}

same_or_not : (m n : ℕ) → (m ≡ n) ⊎ (m ≡ n → ⊥)
same_or_not m n = grind arith

below_or_above : (m n : ℕ) → (m ≡ n → ⊥) → (m < n) ⊎ (n < m)
below_or_above m n h = grind arith

module _ {X : Type 0} (R : X → X → Type 0) (turned : (x y : X) → R x y → R y x) where
  -- of two elements, wherever they stand
  either_way : (l : List X) (d : X) → AllPairs R l → (m n : ℕ) → m < length l → n < length l → (m ≡ n → ⊥)
      → R (get_or l m d) (get_or l n d)
  either_way l d all m n a b apart = elim (below_or_above m n apart) [
    | inl less ↦ all m n d less b
    | inr more ↦ turned _ _ (all n m d more a)
  ]

  -- where element m of a list with two swapped stood
  stood : (l : List X) (i j : ℕ) (d : X) → i < length l → j < length l → (m : ℕ) → m < length l
      → (n : ℕ) × (n < length l) × (get_or (swap l i j) m d ≡ get_or l n d)
      × (((m ≡ i) × (n ≡ j)) ⊎ (((m ≡ i → ⊥) × (m ≡ j) × (n ≡ i)) ⊎ ((m ≡ i → ⊥) × (m ≡ j → ⊥) × (n ≡ m))))
  stood l i j d a b m inside =
      let swapped = swapped_from_swap l (swap l i j) i j d a b refl in
      elim (same_or_not m i) [
        | inl at ↦ (j, b, ap (λ k. get_or (swap l i j) k d) at ∙ swapped.0, inl (at, refl))
        | inr off ↦ elim (same_or_not m j) [
          | inl at ↦ (i, a, ap (λ k. get_or (swap l i j) k d) at ∙ swapped.1, inr (inl (off, at, refl)))
          | inr free ↦ (m, inside, swapped.2 m off free, inr (inr (off, free, refl)))
        ]
      ]

  other_places : (i j m n s t : ℕ) → m < n
      → (((m ≡ i) × (s ≡ j)) ⊎ (((m ≡ i → ⊥) × (m ≡ j) × (s ≡ i)) ⊎ ((m ≡ i → ⊥) × (m ≡ j → ⊥) × (s ≡ m))))
      → (((n ≡ i) × (t ≡ j)) ⊎ (((n ≡ i → ⊥) × (n ≡ j) × (t ≡ i)) ⊎ ((n ≡ i → ⊥) × (n ≡ j → ⊥) × (t ≡ n))))
      → s ≡ t → ⊥
  other_places i j m n s t less (inl a) (inl b) same = omega (arith, a.0, a.1, b.0, b.1)
  other_places i j m n s t less (inl a) (inr (inl b)) same = b.0 (omega (arith, a.0, a.1, b.1, b.2))
  other_places i j m n s t less (inl a) (inr (inr b)) same = b.1 (omega (arith, a.0, a.1, b.2))
  other_places i j m n s t less (inr (inl a)) (inl b) same = a.0 (omega (arith, a.1, a.2, b.0, b.1))
  other_places i j m n s t less (inr (inl a)) (inr (inl b)) same = omega (arith, a.1, b.1)
  other_places i j m n s t less (inr (inl a)) (inr (inr b)) same = b.0 (omega (arith, a.2, b.2))
  other_places i j m n s t less (inr (inr a)) (inl b) same = a.1 (omega (arith, a.2, b.1))
  other_places i j m n s t less (inr (inr a)) (inr (inl b)) same = a.0 (omega (arith, a.2, b.2))
  other_places i j m n s t less (inr (inr a)) (inr (inr b)) same = omega (arith, a.2, b.2)

  -- a swap keeps what holds of all pairs
  pairs_of_swap : (l : List X) (i j : ℕ) → i < length l → j < length l → AllPairs R l → AllPairs R (swap l i j)
  pairs_of_swap l i j a b all m n d less inside =
      let short : n < length l = omega (arith, length-swap l i j) in
      let p = stood l i j d a b m (omega arith) in
      let q = stood l i j d a b n short in
      let P : X → Type 0 = λ x. R x (get_or (swap l i j) n d) in
      let Q : X → Type 0 = λ y. R (get_or l p.0 d) y in
      subst P (sym p.2) (subst Q (sym q.2)
      (either_way l d all p.0 q.0 p.1 q.1 (other_places i j m n p.0 q.0 less p.3 q.3)))

  -- so does any other order
  pub pairs_of_permutation : (xs ys : List X) → IsPermutation xs ys → AllPairs R xs → AllPairs R ys
  pairs_of_permutation xs ys moved all = IsPermutation-keeps xs (AllPairs R) all pairs_of_swap ys moved

-- in order and apart, they rise
pub rises : {X : Type 0} (key : X → ℕ) (xs : List X) → IsNonDecreasingBy key xs → AllPairs (λ x y. key x ≢ key y) xs
    → AllPairs (λ x y. key x < key y) xs
rises key xs order apart i j d less inside =
    less_of (key (get_or xs i d)) (key (get_or xs j d)) (order i j d (omega arith) inside) (apart i j d less inside)
  where
    less_of : (m n : ℕ) → m ≤ n → m ≢ n → m < n
    less_of m n h apart = grind arith
