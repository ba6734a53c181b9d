-- Any memory: bytes that can be read one by one are read together.
use Rattle.std.proofs.Common.{◌≡◌, ◌∙◌, ◌+◌, ◌%◌, ◌^◌, ◌<◌, ◌≤◌, ◌++◌, ℕ, zero, suc, List, [], ◌∷◌, length, take, Some}
use Rattle.std.proofs.Common.{Ok, refl, ap, arith}
use Rattle.std.specs.Prelude.{slice_get, ok_or}
use Rattle.guest_arithmetic.specs.Values.{digit, number_from}
use Rattle.guest_machine.specs.Access.{Accesses, Refused, bytes_at, code_at, next_place}

next_small : (place : ℕ) → place + 1 < 2 ^ 64 → next_place place ≡ place + 1
next_small place h = omega (arith, h)

module _ {M : Type 0} (acc : Accesses M ℕ) (memory : M) where
  pub bytes_there : (bytes : List ℕ) (place : ℕ) → place + length bytes < 2 ^ 64
      → ((k : ℕ) → k < length bytes → acc.byte memory (place + k) ≡ ok_or (slice_get bytes k) Refused)
      → bytes_at acc memory place (length bytes) ≡ Ok bytes
  bytes_there [] place small there = refl
  bytes_there (b ∷ bytes) place small there =
      let first : acc.byte memory place ≡ Ok b = ap (acc.byte memory) (omega arith) ∙ there 0 (omega arith) in
      let next = next_small place (omega (arith, small)) in
      let rest = bytes_there bytes (next_place place) (omega (arith, next, small))
      (λ k below. ap (acc.byte memory) (omega (arith, next)) ∙ there (suc k) (omega (arith, below))) in
      rw (first, rest) refl

  -- code, of which so many bytes are known; behind them may stand any
  pub code_there : (bytes : List ℕ) (n size place : ℕ) → n ≤ length bytes → n ≤ size → place + n < 2 ^ 64
      → ((k : ℕ) → k < n → acc.code memory (place + k) ≡ slice_get bytes k)
      → (tail : List ℕ) × (code_at acc memory place size ≡ take n bytes ++ tail)
  code_there bytes zero size place long fits small there = (code_at acc memory place size, refl)
  code_there [] (suc n) size place long fits small there = absurd (omega (arith, long))
  code_there (b ∷ bytes) (suc n) zero place long fits small there = absurd (omega (arith, fits))
  code_there (b ∷ bytes) (suc n) (suc size) place long fits small there =
      let first : acc.code memory place ≡ Some b = ap (acc.code memory) (omega arith) ∙ there 0 (omega arith) in
      let next = next_small place (omega (arith, small)) in
      let rest = code_there bytes n size (next_place place) (omega (arith, long)) (omega (arith, fits))
      (omega (arith, next, small))
      (λ k below. ap (acc.code memory) (omega (arith, next)) ∙ there (suc k) (omega (arith, below))) in
      (rest.0, rw (first, rest.1) refl)

-- ** the eight bytes of a word

abbrev pub digits : ℕ → List ℕ
digits n =
    digit n 0 ∷ digit n 1 ∷ digit n 2 ∷ digit n 3 ∷ digit n 4 ∷ digit n 5 ∷ digit n 6 ∷ digit n 7 ∷ []

pub digits_spell : (n : ℕ) → n < 2 ^ 64 → number_from (digits n) ≡ n
digits_spell n below = omega (arith, below)

pub digits_spell_word : (n : ℕ) → n < 2 ^ 64 → number_from (digits n) % 2 ^ 64 ≡ n
digits_spell_word n below = omega arith

pub digit_there : (n k : ℕ) → k < 8 → slice_get (digits n) k ≡ Some (digit n k)
digit_there n zero below = refl
digit_there n (suc zero) below = refl
digit_there n (suc (suc zero)) below = refl
digit_there n (suc (suc (suc zero))) below = refl
digit_there n (suc (suc (suc (suc zero)))) below = refl
digit_there n (suc (suc (suc (suc (suc zero))))) below = refl
digit_there n (suc (suc (suc (suc (suc (suc zero)))))) below = refl
digit_there n (suc (suc (suc (suc (suc (suc (suc zero))))))) below = refl
digit_there n (suc (suc (suc (suc (suc (suc (suc (suc k)))))))) below = absurd (omega (arith, below))
