-- Numbers modulo 2^64 and modulo those of a width.
use Rattle.std.proofs.Common.{◌≡◌, ℕ, ◌+◌, ◌-◌, ◌%◌, ◌^◌, ◌<◌, arith}
use Rattle.amd64_subset.specs.declared.instr.Width.{Width}
use Rattle.amd64_subset.specs.declared.instr.Width.TheVariants.{Long, Quad}
use Rattle.guest_arithmetic.specs.Arithmetic.{span_of}

pub low_again : (width : Width) (n : ℕ) → n % 2 ^ 64 % span_of width ≡ n % span_of width
low_again Long n = omega arith
low_again Quad n = omega arith

pub low_difference : (width : Width) (a b : ℕ) → b < span_of width
    → (a + (2 ^ 64 - b)) % 2 ^ 64 % span_of width ≡ (a + (span_of width - b)) % span_of width
low_difference Long a b below = omega arith
low_difference Quad a b below = omega arith
