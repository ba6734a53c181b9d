-- The first number that passes a test.
use Rattle.std.specs.Prelude.{◌==◌, ℕ, zero, suc, Bool, Option, Some, None, nat_lt, if◌then◌else◌}

-- the lowest number below n that passes p; 0 where there is none
unfoldable pub first_below : (ℕ → Bool) → ℕ → ℕ
first_below p zero = 0
first_below p (suc n) =
    let earlier = first_below p n in
    if nat_lt 0 earlier then earlier else (if p n then n else 0)

-- the number of a section, where 0 stands for none (gABI, SHN_UNDEF)
abbrev pub nonzero : ℕ → Option ℕ
nonzero n = if n == 0 then None else Some n
