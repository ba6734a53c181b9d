-- Plain numbers keep the laws.
use Rattle.std.proofs.Common.{◌≡◌, ℕ, suc, zero, ◌%◌, ◌^◌, ◌<◌, List, [], ◌∷◌, map, refl, ap, arith}
use Rattle.guest_arithmetic.specs.Values.{IsLawful, number_from, digit}
use Rattle.guest_arithmetic.specs.Plain.{plain_operations}

same_list : (ns : List ℕ) → map (λ n. n) ns ≡ ns
same_list [] = refl
same_list (n ∷ ns) = ap (λ rest. n ∷ rest) (same_list ns)

small : (n w : ℕ) → n < 2 ^ 64 → w ≡ n → w ≡ n % 2 ^ 64
small n w below same = omega arith

-- byte k of a number, k below 8, is byte k of the number modulo 2^64
low_digit : (n k : ℕ) → k < 8 → digit (n % 2 ^ 64) k ≡ digit n k
low_digit n zero below = omega arith
low_digit n (suc zero) below = omega arith
low_digit n (suc (suc zero)) below = omega arith
low_digit n (suc (suc (suc zero))) below = omega arith
low_digit n (suc (suc (suc (suc zero)))) below = omega arith
low_digit n (suc (suc (suc (suc (suc zero))))) below = omega arith
low_digit n (suc (suc (suc (suc (suc (suc zero)))))) below = omega arith
low_digit n (suc (suc (suc (suc (suc (suc (suc zero))))))) below = omega arith
low_digit n (suc (suc (suc (suc (suc (suc (suc (suc k)))))))) below = absurd (omega arith)

pub plain_laws : IsLawful plain_operations
unfolding plain_operations
plain_laws = record {
  number_of-word = λ n. refl;
  number_of-only = λ w n below used. small n w below (cc);
  truth_of-flag = λ b. refl;
  truth_of-only = λ f b used. cc;
  truth_of-unsettled = λ f b used. cc;
  code-byte = λ n below. refl;
  code-only = λ b n below coded. cc;
  joined-bytes = λ ns short. ap (λ bytes. number_from bytes % 2 ^ 64) (same_list ns);
  byte_of-word = λ n k below. low_digit n k below;
}
