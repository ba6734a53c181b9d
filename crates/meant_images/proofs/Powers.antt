-- Alignments are from 1 to 4,096.
use Rattle.std.proofs.Common.{◌<◌, ◌≤◌, ◌^◌, ℕ, zero, suc, subst, sym, arith}
use Rattle.std.proofs.Math.Pow.{pow_mono}
use Rattle.elf_records.specs.Alignments.{IsAlignment}

positive : (k : ℕ) → 0 < 2 ^ k
positive zero = omega arith
positive (suc k) = omega (arith, positive k)

limited : (k : ℕ) → k ≤ 12 → 2 ^ k ≤ 4096
limited k few = let more : 2 ^ k ≤ 2 ^ 12 = pow_mono few in omega (arith, more)

pub power_low : (n : ℕ) → IsAlignment n → 0 < n
power_low n power = subst (λ (m : ℕ). 0 < m) (sym power.2) (positive power.0)

pub power_high : (n : ℕ) → IsAlignment n → n ≤ 4096
power_high n power = subst (λ (m : ℕ). m ≤ 4096) (sym power.2) (limited power.0 power.1)
