-- Numbers one by one: the first of them, or none.
use Rattle.std.proofs.Common.{◌≡◌, ◌+◌, ◌-◌, ◌<◌, ◌≤◌, ℕ, suc, [], ◌∷◌, ap, arith}
use Rattle.std.specs.List.{range_with_len}

pub range_first : (a n : ℕ) → a < n → range_with_len a (n - a) ≡ a ∷ range_with_len (a + 1) (n - (a + 1))
range_first a n h = let some : n - a ≡ suc (n - (a + 1)) = omega arith in ap (range_with_len a) some

pub range_none : (a n : ℕ) → n ≤ a → range_with_len a (n - a) ≡ []
range_none a n h = let none : n - a ≡ 0 = omega arith in ap (range_with_len a) none
