-- The first of some numbers that passes a test, and what holds of a list.
use Rattle.std.proofs.Common.{◌≡◌, ◌+◌, ◌-◌, ◌<◌, ◌≤◌, ℕ, suc, Bool, true, false, List, ◌∷◌, Some, None, refl, subst}
use Rattle.std.proofs.Common.{arith}
use Rattle.std.specs.List.{All, find, range_with_len}
use Rattle.elf_object.proofs.Ranges.{range_first, range_none}

pub find_here : (P : ℕ → Bool) (a n : ℕ) → a < n → P a ≡ true → find P (range_with_len a (n - a)) ≡ Some a
find_here P a n h here = rw (range_first a n h, here) refl

pub find_later : (P : ℕ → Bool) (a n : ℕ) → a < n → P a ≡ false
    → find P (range_with_len a (n - a)) ≡ find P (range_with_len (a + 1) (n - (a + 1)))
find_later P a n h other = rw (range_first a n h, other) refl

pub find_none : (P : ℕ → Bool) (a n : ℕ) → n ≤ a → find P (range_with_len a (n - a)) ≡ None
find_none P a n h = rw (range_none a n h) refl

-- what holds of all holds of the rest
pub rest_all : {X : Type 0} (P : X → Type 0) (x : X) (xs : List X) → All P (x ∷ xs) → All P xs
rest_all P x xs all = λ k d h. all (suc k) d (omega arith)

-- what holds of all holds of the first
pub first_all : {X : Type 0} (P : X → Type 0) (x : X) (xs all : List X) → all ≡ x ∷ xs → All P all → P x
first_all P x xs all first holds = (subst (All P) first holds) 0 x (omega arith)

pub rest_all_of : {X : Type 0} (P : X → Type 0) (x : X) (xs all : List X) → all ≡ x ∷ xs → All P all → All P xs
rest_all_of P x xs all first holds = rest_all P x xs (subst (All P) first holds)
