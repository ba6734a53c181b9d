-- Sums that stop at a limit.
use Rattle.std.proofs.Common.{◌≡◌, ◌+◌, ℕ, min, arith}

-- two sums that stop at one number do so with one more part
pub capped_more : (x y z most : ℕ) → min (x + 0) most ≡ min y most → min (x + z) most ≡ min (y + z) most
capped_more x y z most e = omega arith
