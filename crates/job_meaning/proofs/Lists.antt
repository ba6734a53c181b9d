-- Lists of bytes in which a few bytes are taken from another list.
use Rattle.std.proofs.Common.{◌≡◌, ℕ, zero, suc, ◌+◌, ◌<◌, ◌≤◌, ◌⊎◌, inl, inr, Bool, true, false, List, [], ◌∷◌, ◌++◌}
use Rattle.std.proofs.Common.{length, take, drop, Option, Some, refl, ap, arith}
use Rattle.std.specs.List.{slice_get}

-- n bytes from byte k on from ys, the others from xs
abbrev pub spliced : ℕ → ℕ → List ℕ → List ℕ → List ℕ
spliced k n [] ys = []
spliced (suc k) n (x ∷ xs) [] = x ∷ xs
spliced (suc k) n (x ∷ xs) (y ∷ ys) = x ∷ spliced k n xs ys
spliced zero zero (x ∷ xs) ys = x ∷ xs
spliced zero (suc n) (x ∷ xs) [] = x ∷ xs
spliced zero (suc n) (x ∷ xs) (y ∷ ys) = y ∷ spliced zero n xs ys

pub spliced-is : (k n : ℕ) (xs ys : List ℕ) → k + n ≤ length xs → k + n ≤ length ys
    → spliced k n xs ys ≡ take k xs ++ (take n (drop k ys) ++ drop n (drop k xs))
spliced-is zero zero [] ys h g = refl
spliced-is zero zero (x ∷ xs) ys h g = refl
spliced-is zero (suc n) [] ys h g = absurd (omega arith)
spliced-is zero (suc n) (x ∷ xs) [] h g = absurd (omega arith)
spliced-is zero (suc n) (x ∷ xs) (y ∷ ys) h g =
    ap (λ (l : List ℕ). y ∷ l) (spliced-is zero n xs ys (omega arith) (omega arith))
spliced-is (suc k) n [] ys h g = absurd (omega arith)
spliced-is (suc k) n (x ∷ xs) [] h g = absurd (omega arith)
spliced-is (suc k) n (x ∷ xs) (y ∷ ys) h g =
    ap (λ (l : List ℕ). x ∷ l) (spliced-is k n xs ys (omega arith) (omega arith))

pub parts-are : (k n : ℕ) (xs : List ℕ) → take k xs ++ (take n (drop k xs) ++ drop n (drop k xs)) ≡ xs
parts-are zero zero xs = refl
parts-are zero (suc n) [] = refl
parts-are zero (suc n) (x ∷ xs) = ap (λ (l : List ℕ). x ∷ l) (parts-are zero n xs)
parts-are (suc k) zero [] = refl
parts-are (suc k) (suc n) [] = refl
parts-are (suc k) n (x ∷ xs) = ap (λ (l : List ℕ). x ∷ l) (parts-are k n xs)

pub spliced-length : (k n : ℕ) (xs ys : List ℕ) → length (spliced k n xs ys) ≡ length xs
spliced-length k n [] ys = refl
spliced-length (suc k) n (x ∷ xs) [] = refl
spliced-length (suc k) n (x ∷ xs) (y ∷ ys) = ap suc (spliced-length k n xs ys)
spliced-length zero zero (x ∷ xs) ys = refl
spliced-length zero (suc n) (x ∷ xs) [] = refl
spliced-length zero (suc n) (x ∷ xs) (y ∷ ys) = ap suc (spliced-length zero n xs ys)

-- what is as in ys stays so
pub spliced-keeps : (k n : ℕ) (xs ys : List ℕ) (i : ℕ) → slice_get xs i ≡ slice_get ys i
    → slice_get (spliced k n xs ys) i ≡ slice_get ys i
spliced-keeps k n [] ys i e = e
spliced-keeps (suc k) n (x ∷ xs) [] i e = e
spliced-keeps (suc k) n (x ∷ xs) (y ∷ ys) zero e = e
spliced-keeps (suc k) n (x ∷ xs) (y ∷ ys) (suc i) e = spliced-keeps k n xs ys i e
spliced-keeps zero zero (x ∷ xs) ys i e = e
spliced-keeps zero (suc n) (x ∷ xs) [] i e = e
spliced-keeps zero (suc n) (x ∷ xs) (y ∷ ys) zero e = refl
spliced-keeps zero (suc n) (x ∷ xs) (y ∷ ys) (suc i) e = spliced-keeps zero n xs ys i e

pub spliced-takes : (k n : ℕ) (xs ys : List ℕ) (i : ℕ) → k ≤ i → i < k + n → k + n ≤ length xs → k + n ≤ length ys
    → slice_get (spliced k n xs ys) i ≡ slice_get ys i
spliced-takes k n [] ys i low high h g = absurd (omega arith)
spliced-takes k n (x ∷ xs) [] i low high h g = absurd (omega arith)
spliced-takes (suc k) n (x ∷ xs) (y ∷ ys) zero low high h g = absurd (omega arith)
spliced-takes (suc k) n (x ∷ xs) (y ∷ ys) (suc i) low high h g =
    spliced-takes k n xs ys i (omega arith) (omega arith) (omega arith) (omega arith)
spliced-takes zero zero (x ∷ xs) (y ∷ ys) i low high h g = absurd (omega arith)
spliced-takes zero (suc n) (x ∷ xs) (y ∷ ys) zero low high h g = refl
spliced-takes zero (suc n) (x ∷ xs) (y ∷ ys) (suc i) low high h g =
    spliced-takes zero n xs ys i (omega arith) (omega arith) (omega arith) (omega arith)

some-is : {A : Type 0} (a b : A) → ◌≡◌ {A = Option A} (Some a) (Some b) → a ≡ b
some-is a b e = cc

-- lists that agree byte by byte up to n
pub same-take : (n : ℕ) (xs ys : List ℕ) → n ≤ length xs → n ≤ length ys
    → ((i : ℕ) → i < n → slice_get xs i ≡ slice_get ys i) → take n xs ≡ take n ys
same-take zero xs ys h g same = refl
same-take (suc n) [] ys h g same = absurd (omega arith)
same-take (suc n) (x ∷ xs) [] h g same = absurd (omega arith)
same-take (suc n) (x ∷ xs) (y ∷ ys) h g same =
    let first : x ≡ y = some-is x y (same 0 (omega arith)) in
    let rest : take n xs ≡ take n ys =
    same-take n xs ys (omega arith) (omega arith) (λ i below. same (suc i) (omega arith)) in
    rw (first, rest) refl

-- the first bytes, cut in two
pub take-cut : (k n : ℕ) (xs : List ℕ) → k ≤ n → take k xs ++ drop k (take n xs) ≡ take n xs
take-cut zero n xs h = refl
take-cut (suc k) zero xs h = absurd (omega arith)
take-cut (suc k) (suc n) [] h = refl
take-cut (suc k) (suc n) (x ∷ xs) h = ap (λ (l : List ℕ). x ∷ l) (take-cut k n xs (omega arith))

-- of two lists that go on in one way
pub get-tails : (xs ys tail : List ℕ) (i : ℕ) → length xs ≡ length ys → length xs ≤ i
    → slice_get (xs ++ tail) i ≡ slice_get (ys ++ tail) i
get-tails [] [] tail i e h = refl
get-tails [] (y ∷ ys) tail i e h = absurd (omega arith)
get-tails (x ∷ xs) [] tail i e h = absurd (omega arith)
get-tails (x ∷ xs) (y ∷ ys) tail zero e h = absurd (omega arith)
get-tails (x ∷ xs) (y ∷ ys) tail (suc i) e h = get-tails xs ys tail i (omega arith) (omega arith)

pub get-front : (xs tail : List ℕ) (i : ℕ) → i < length xs → slice_get (xs ++ tail) i ≡ slice_get xs i
get-front [] tail i h = absurd (omega arith)
get-front (x ∷ xs) tail zero h = refl
get-front (x ∷ xs) tail (suc i) h = get-front xs tail i (omega arith)

-- the first place below n where a test fails, if there is one
pub record FirstFalse (f : ℕ → Bool) (n : ℕ) : Type 0 where
  pub at : ℕ
  pub below : at < n
  pub fails : f at ≡ false
  pub before : (k : ℕ) → k < at → f k ≡ true

pub first_false : (f : ℕ → Bool) (n : ℕ) → FirstFalse f n ⊎ ((k : ℕ) → k < n → f k ≡ true)
first_false f zero = inr (λ k below. absurd (omega arith))
first_false f (suc n) =
    (elim (f 0) as (λ b. f 0 ≡ b → FirstFalse f (suc n) ⊎ ((k : ℕ) → k < suc n → f k ≡ true)) [
      | false ↦ λ e. inl (record { at = 0; below = omega arith; fails = e; before = λ k low. absurd (omega arith) })
      | true ↦ λ e. (elim (first_false (λ k. f (suc k)) n) as
          (λ r. FirstFalse f (suc n) ⊎ ((k : ℕ) → k < suc n → f k ≡ true)) [
            | inl h ↦ inl (record {
              at = suc h.at;
              below = omega (arith, h.below);
              fails = h.fails;
              before = λ k low. all_below f h.at e h.before k low;
            })
            | inr h ↦ inr (λ k low. all_below f n e h k low)
          ])
    ]) refl
  where
    all_below : (f : ℕ → Bool) (n : ℕ) → f 0 ≡ true → ((k : ℕ) → k < n → f (suc k) ≡ true) → (k : ℕ) → k < suc n
        → f k ≡ true
    all_below f n zeroth rest zero low = zeroth
    all_below f n zeroth rest (suc k) low = rest k (omega arith)
