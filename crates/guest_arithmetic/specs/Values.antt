-- Words, flags and bytes as one record of operations, and the laws that it keeps.
use Rattle.std.specs.Prelude.{◌≡◌, ℕ, ◌+◌, ◌*◌, ◌/◌, ◌%◌, ◌^◌, ◌<◌, ◌≤◌, Bool, List, [], ◌∷◌, length, map, Option, Some}
use Rattle.std.specs.Prelude.{Result, Ok}
use Rattle.guest_arithmetic.specs.declared.cause.Cause.{Cause}

-- byte k of a number; byte 0 is the lowest
abbrev pub digit : ℕ → ℕ → ℕ
digit number k = number / 2 ^ (8 * k) % 256

-- the number that bytes hold, the lowest first (Intel's manual, volume 1, section 1.3.1)
abbrev pub number_from : List ℕ → ℕ
number_from [] = 0
number_from (byte ∷ bytes) = byte + 256 * number_from bytes

pub record Operations (W F B : Type 0) : Type 0 where
  -- a number as a word, modulo 2^64
  pub word : ℕ → W
  -- the number that a word holds, or the cause why it has none
  pub number_of : W → Result ℕ Cause
  -- the word of which nothing is known
  pub unknown : W
  pub flag : Bool → F
  -- the value of a flag, or the cause why it can't be used
  pub truth_of : F → Result Bool Cause
  -- the flag after an operation that leaves it undefined
  pub unsettled : F → F
  -- the address that a word and an offset field give: the word, the field's value, the field's place
  pub moved : W → ℕ → ℕ → Result ℕ Cause
  -- the number of an offset field that is not added to a base
  pub misused : ℕ → Result ℕ Cause
  -- a number as a byte
  pub byte : ℕ → B
  -- a byte as a byte of code, if it may be fetched
  pub code : B → Option ℕ
  -- the word that bytes hold, the lowest first
  pub joined : List B → W
  -- byte k of a word; byte 0 is the lowest
  pub byte_of : W → ℕ → B

-- Unmarked values behave as plain numbers do, and only they may be used.
pub record IsLawful {W F B : Type 0} (ops : Operations W F B) : Type 0 where
  pub number_of-word : (n : ℕ) → ops.number_of (ops.word n) ≡ Ok (n % 2 ^ 64)
  pub number_of-only : (w : W) (n : ℕ) → n < 2 ^ 64 → ops.number_of w ≡ Ok n → w ≡ ops.word n
  pub truth_of-flag : (b : Bool) → ops.truth_of (ops.flag b) ≡ Ok b
  pub truth_of-only : (f : F) (b : Bool) → ops.truth_of f ≡ Ok b → f ≡ ops.flag b
  -- a flag that was left undefined has its old value or can't be used
  pub truth_of-unsettled : (f : F) (b : Bool) → ops.truth_of (ops.unsettled f) ≡ Ok b → f ≡ ops.flag b
  pub code-byte : (n : ℕ) → n < 256 → ops.code (ops.byte n) ≡ Some n
  pub code-only : (b : B) (n : ℕ) → n < 256 → ops.code b ≡ Some n → b ≡ ops.byte n
  pub joined-bytes : (ns : List ℕ) → length ns ≤ 8 → ops.joined (map ops.byte ns) ≡ ops.word (number_from ns)
  pub byte_of-word : (n k : ℕ) → k < 8 → ops.byte_of (ops.word n) k ≡ ops.byte (digit n k)
