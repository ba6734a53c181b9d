-- Sections found by object and number.
use Rattle.std.proofs.Common.{ℕ, ◌+◌, ◌<◌, List, length, slice_index, take, arith}
use Rattle.std.specs.Prelude.{sum}
use Rattle.std.proofs.lemmas.List.Sums.{sum_by_more_le}

-- the sections of an object and of those before it are among all
pub fits_before : (counts : List ℕ) (o s : ℕ) → o < length counts → s < slice_index counts o
    → sum (take o counts) + s < sum counts
fits_before counts o s l h = omega (arith, sum_by_more_le (λ x. x) counts o 0 l)
