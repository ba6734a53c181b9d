-- A number with one bit set is a power of two.
use Rattle.std.proofs.Common.{◌≡◌, ◌+◌, ◌-◌, ◌*◌, ◌/◌, ◌%◌, ◌^◌, ◌<◌, ◌≤◌, ◌⊎◌, ◌∙◌, ℕ, zero, suc, inl, inr, sym, ap}
use Rattle.std.proofs.Common.{arith}
use Rattle.std.specs.Prelude.{count_ones}
use Rattle.elf_records.specs.Alignments.{IsAlignment}
use Rattle.std.proofs.Math.Nat.{pow-suc, mul-suc}
use Rattle.std.proofs.lemmas.Nat.{ones_le_self, pow-add}
use Rattle.std.specs.Int.Count.{ones_step}

odd_or_even : (n : ℕ) → (n % 2 ≡ 0) ⊎ (n % 2 ≡ 1)
odd_or_even n = grind arith

-- a number of no bits
no_bits : (w n : ℕ) → n < 2 ^ w → count_ones n ≡ 0 → n ≡ 0
no_bits zero n h none = omega arith
no_bits (suc w) n h none =
    let step = ones_step n in
    let half = pow-suc 2 w in
    let rest = no_bits w (n / 2) (omega (arith, half)) (omega arith) in
    omega arith

-- one of w bits
pub power_below : (w n : ℕ) → n < 2 ^ w → count_ones n ≡ 1 → (k : ℕ) × (k < w) × (n ≡ 2 ^ k)
power_below zero n h one = absurd (omega (arith, ones_le_self n))
power_below (suc w) n h one = elim (odd_or_even n) [
  | inr odd ↦
      let step = ones_step n in
      let rest = no_bits w (n / 2) (omega (arith, pow-suc 2 w)) (omega arith) in
      (0, omega arith, omega arith)
  | inl even ↦
      let step = ones_step n in
      let rest = power_below w (n / 2) (omega (arith, pow-suc 2 w)) (omega arith) in
      (suc rest.0, omega (arith, rest.1), omega (arith, rest.2, pow-suc 2 rest.0))
]

-- and a power of two has one bit
pub bits_of_power : (k : ℕ) → count_ones (2 ^ k) ≡ 1
bits_of_power zero =
    let none = ones_le_self 0 in
    let step : count_ones 1 ≡ 1 + count_ones 0 = ones_step 1 in
    omega arith
bits_of_power (suc k) =
    let twice = pow-suc 2 k in
    let half : 2 ^ suc k / 2 ≡ 2 ^ k = omega arith in
    let step = ones_step (2 ^ suc k) in
    let rest : count_ones (2 ^ suc k / 2) ≡ 1 = ap count_ones half ∙ bits_of_power k in
    omega arith

pub pow_above : (k : ℕ) → 0 < 2 ^ k
pow_above zero = omega arith
pow_above (suc k) = let rest = pow_above k in let step = pow-suc 2 k in omega arith

-- an alignment is a power of two of at most 4,096
pub alignment_of : (n : ℕ) → n ≤ 4096 → count_ones n ≡ 1 → IsAlignment n
alignment_of n small one = let found = power_below 13 n (omega arith) one in (found.0, omega (arith, found.1), found.2)

powers : (k : ℕ) → k ≤ 12 → 2 ^ k ≤ 4096
powers k h =
    let more : 2 ^ (k + (12 - k)) ≡ 2 ^ k * 2 ^ (12 - k) = pow-add 2 k (12 - k) in
    let all : k + (12 - k) ≡ 12 = omega arith in
    let whole : 2 ^ k * 2 ^ (12 - k) ≡ 4096 = sym more ∙ ap (λ m. 2 ^ m) all in
    at_most (2 ^ k) (2 ^ (12 - k)) (pow_above (12 - k)) whole
  where
    at_most : (a b : ℕ) → 0 < b → a * b ≡ 4096 → a ≤ 4096
    at_most a zero h e = absurd (omega arith)
    at_most a (suc b) h e = let step : a * suc b ≡ a * b + a = mul-suc a b in omega arith

pub alignment_small : (n : ℕ) → IsAlignment n → n ≤ 4096
alignment_small n power = rw power.2 (powers power.0 power.1)

pub alignment_bits : (n : ℕ) → IsAlignment n → count_ones n ≡ 1
alignment_bits n power = rw power.2 (bits_of_power power.0)
