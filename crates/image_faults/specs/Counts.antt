-- Numbers below n that pass a test: how many lead, how many there are, and the last one.
use Rattle.std.specs.Prelude.{ℕ, zero, suc, Bool, nat_lt, if◌then◌else◌}

-- how many numbers, from 0 on, pass before the first that does not; n where all below n pass
unfoldable pub leading : (ℕ → Bool) → ℕ → ℕ
leading p zero = 0
leading p (suc n) = if nat_lt (leading p n) n then leading p n else (if p n then suc n else n)

-- how many numbers below n pass
unfoldable pub how_many : (ℕ → Bool) → ℕ → ℕ
how_many p zero = 0
how_many p (suc n) = if p n then suc (how_many p n) else how_many p n

-- the number after the last one below n that passes; 0 if none does
unfoldable pub behind_last : (ℕ → Bool) → ℕ → ℕ
behind_last p zero = 0
behind_last p (suc n) = if p n then suc n else behind_last p n
