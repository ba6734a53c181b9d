-- Sums over the numbers of sections, one by one.
use Rattle.std.proofs.Common.{◌≡◌, ◌+◌, ◌-◌, ◌<◌, ◌∙◌, ℕ, ap, arith}
use Rattle.std.specs.Prelude.{sum_by}
use Rattle.std.specs.List.{range_with_len}
use Rattle.std.proofs.lemmas.List.Sums.{sum_by-cons}
use Rattle.elf_object.proofs.Ranges.{range_first}

-- the sum over a and on is that at a and that over the later ones
sum_first : (f : ℕ → ℕ) (a n : ℕ) → a < n
    → sum_by f (range_with_len a (n - a)) ≡ f a + sum_by f (range_with_len (a + 1) (n - (a + 1)))
sum_first f a n h = ap (sum_by f) (range_first a n h) ∙ sum_by-cons f a (range_with_len (a + 1) (n - (a + 1)))

-- what is counted and what is left stays the whole
pub sum_kept : (f : ℕ → ℕ) (a n count here total : ℕ) → a < n → here ≡ f a
    → count + sum_by f (range_with_len a (n - a)) ≡ total
    → count + here + sum_by f (range_with_len (a + 1) (n - (a + 1))) ≡ total
sum_kept f a n count here total h is kept = omega (arith, sum_first f a n h, is, kept)
