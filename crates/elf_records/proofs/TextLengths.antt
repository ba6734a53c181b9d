-- How many bytes a text has up to its first zero byte, and what its front tells of that.
use Rattle.std.proofs.Common.{◌≡◌, ◌==◌, ◌+◌, ◌<◌, ◌≤◌, ◌⊎◌, ℕ, zero, suc, Bool, true, false, cond, ltb, unwrap_or, not}
use Rattle.std.proofs.Common.{Some, None, List, [], ◌∷◌, length, length-take, take, inl, inr, refl, ap, arith}
use Rattle.std.specs.List.{position_or_len, before_first}
use Rattle.std.proofs.lemmas.Grind.{common_steps}
use Rattle.std.proofs.lemmas.List.Folds.{length-prefix_len}

-- the first zero byte in the front of a text is that of the text, or it lies behind the front
pub front_len : (n : ℕ) (xs : List ℕ)
    → (position_or_len (λ byte. byte == 0) (take n xs) ≡ position_or_len (λ byte. byte == 0) xs)
    ⊎ ((position_or_len (λ byte. byte == 0) (take n xs) ≡ n) × (n ≤ position_or_len (λ byte. byte == 0) xs))
front_len zero xs = inr (refl, omega arith)
front_len (suc n) [] = inl refl
front_len (suc n) (x ∷ xs) =
    by_first (not (x == 0)) (position_or_len (λ byte. byte == 0) (take n xs)) (position_or_len (λ byte. byte == 0) xs)
    (front_len n xs)
  where
    by_first : (more : Bool) (front all : ℕ) → (front ≡ all) ⊎ ((front ≡ n) × (n ≤ all))
        → (cond more (1 + front) 0 ≡ cond more (1 + all) 0)
        ⊎ ((cond more (1 + front) 0 ≡ suc n) × (suc n ≤ cond more (1 + all) 0))
    by_first true front all (inl same) = inl (ap (λ k. 1 + k) same)
    by_first true front all (inr far) = inr (omega arith, omega arith)
    by_first false front all h = inl refl

-- a text has as many bytes as come before its first zero byte
pub length-text : (xs : List ℕ) → length (before_first (λ byte. byte == 0) xs) ≡ position_or_len (λ byte. byte == 0) xs
length-text xs = length-prefix_len (λ (byte : ℕ). not (byte == 0)) xs

-- a text whose front of n + 1 bytes has none of zero is longer than n
pub longer_than : (n : ℕ) (xs : List ℕ) → n < position_or_len (λ byte. byte == 0) (take (n + 1) xs)
    → n < length (before_first (λ byte. byte == 0) xs)
longer_than n xs h = elim (front_len (n + 1) xs) [
  | inl same ↦ omega (arith, length-text xs)
  | inr far ↦ omega (arith, length-text xs, far.1)
]

-- one whose front has such a byte ends there
pub ends_in_front : (n : ℕ) (xs : List ℕ) → position_or_len (λ byte. byte == 0) (take (n + 1) xs) ≤ n
    → position_or_len (λ byte. byte == 0) (take (n + 1) xs) ≡ position_or_len (λ byte. byte == 0) xs
ends_in_front n xs h = elim (front_len (n + 1) xs) [
  | inl same ↦ same
  | inr far ↦ absurd (omega (arith, far.0))
]

-- the first place at which a test passes, or the length
pub first_or_length : (a n : ℕ) → a ≤ n → unwrap_or (cond (ltb a n) (Some a) None) n ≡ a
first_or_length a n h = grind (arith, common_steps)

-- the text of a table from an offset on, in terms of the bytes from there
pub is_short : (limit : ℕ) (xs : List ℕ) → position_or_len (λ byte. byte == 0) (take (limit + 1) xs) ≤ limit
    → (take (position_or_len (λ byte. byte == 0) (take (limit + 1) xs)) xs ≡ before_first (λ byte. byte == 0) xs)
    × (length (take (position_or_len (λ byte. byte == 0) (take (limit + 1) xs)) xs) ≤ limit)
is_short limit xs h = (
  ap (λ k. take k xs) (ends_in_front limit xs h),
  omega (arith, length-take (position_or_len (λ byte. byte == 0) (take (limit + 1) xs)) xs),
)
