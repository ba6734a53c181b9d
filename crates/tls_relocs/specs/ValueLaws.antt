-- The laws of `Values`: a field has the table's width, and reads as the value.
use Rattle.std.proofs.Common.{◌≡◌, ◌^◌, ◌<◌, ◌≤◌, ◌%◌, ◌-◌, ◌⊎◌, inl, inr, ℕ, ℤ, pos, negsuc, Some, arith, FitsSigned}
use Rattle.std.proofs.Common.{IsSome, ◌↔◌, refl}
use Rattle.std.specs.Int.{w32, cast_signed, cast_unsigned, FitsUnsignedBits}
use Rattle.std.proofs.Math.Facts.{to_z-of_z}
use Rattle.std.proofs.Math.Nat.{mod-eq_of_lt}
use Rattle.std.proofs.lemmas.Bool.{cases_lt, lt-ltb, le-ltb}
use Rattle.tls_relocs.specs.declared.fields.Field.TheVariants.{Word32}
use Rattle.tls_relocs.specs.Values.{signed_field, unsigned_field}

-- a signed field, read in two's complement, is the value
pub signed_again : (z : ℤ) (w : ℕ) → signed_field z ≡ Some (Word32 w) → cast_signed w32 w ≡ z
signed_again (pos n) w same = positive (cases_lt n (2 ^ 31))
  where
    positive : (n < 2 ^ 31) ⊎ (2 ^ 31 ≤ n) → cast_signed w32 w ≡ pos n
    positive (inl small) =
        let yes = lt-ltb n (2 ^ 31) small in
        let field = rw yes at same in
        let whole : n % 2 ^ 32 ≡ n = mod-eq_of_lt (omega arith) in
        let fits : FitsSigned w32 (pos n) = record { sfits = small } in
        let bits : w ≡ n = cc in
        rw bits (to_z-of_z fits)
    positive (inr large) = let no = le-ltb n (2 ^ 31) large in let field = rw no at same in cc
signed_again (negsuc n) w same = negative (cases_lt n (2 ^ 31))
  where
    negative : (n < 2 ^ 31) ⊎ (2 ^ 31 ≤ n) → cast_signed w32 w ≡ negsuc n
    negative (inl small) =
        let yes = lt-ltb n (2 ^ 31) small in
        let field = rw yes at same in
        let whole : n % 2 ^ 32 ≡ n = mod-eq_of_lt (omega arith) in
        let fits : FitsSigned w32 (negsuc n) = record { sfits = small } in
        let bits : w ≡ 2 ^ 32 - 1 - n % 2 ^ 32 = cc in
        let same_bits : w ≡ cast_unsigned w32 (negsuc n) = omega arith in
        rw same_bits (to_z-of_z fits)
    negative (inr large) = let no = le-ltb n (2 ^ 31) large in let field = rw no at same in cc

-- an unsigned field is the value
pub unsigned_again : (z : ℤ) (w : ℕ) → unsigned_field z ≡ Some (Word32 w) → pos w ≡ z
unsigned_again (pos n) w same = positive (cases_lt n (2 ^ 32))
  where
    positive : (n < 2 ^ 32) ⊎ (2 ^ 32 ≤ n) → pos w ≡ pos n
    positive (inl small) =
        let yes = lt-ltb n (2 ^ 32) small in
        let field = rw yes at same in
        let whole : n % 2 ^ 32 ≡ n = mod-eq_of_lt small in
        cc
    positive (inr large) = let no = le-ltb n (2 ^ 32) large in let field = rw no at same in cc
unsigned_again (negsuc n) w same = cc

-- a signed field holds exactly the numbers from -2^31 to 2^31 - 1
pub signed_fits : (z : ℤ) → IsSome (signed_field z) ↔ FitsSigned w32 z
signed_fits (pos n) = within (cases_lt n (2 ^ 31))
  where
    within : (n < 2 ^ 31) ⊎ (2 ^ 31 ≤ n) → IsSome (signed_field (pos n)) ↔ FitsSigned w32 (pos n)
    within (inl small) = let yes = lt-ltb n (2 ^ 31) small in rw yes (λ _. record { sfits = small }, λ _. refl)
    within (inr large) =
        let no = le-ltb n (2 ^ 31) large in rw no (λ some. cc, λ fits. absurd (omega (arith, fits.sfits)))
signed_fits (negsuc n) = within (cases_lt n (2 ^ 31))
  where
    within : (n < 2 ^ 31) ⊎ (2 ^ 31 ≤ n) → IsSome (signed_field (negsuc n)) ↔ FitsSigned w32 (negsuc n)
    within (inl small) = let yes = lt-ltb n (2 ^ 31) small in rw yes (λ _. record { sfits = small }, λ _. refl)
    within (inr large) =
        let no = le-ltb n (2 ^ 31) large in rw no (λ some. cc, λ fits. absurd (omega (arith, fits.sfits)))

-- an unsigned field holds exactly the numbers from 0 to 2^32 - 1
pub unsigned_fits : (z : ℤ) → IsSome (unsigned_field z) ↔ FitsUnsignedBits 32 z
unsigned_fits (pos n) = within (cases_lt n (2 ^ 32))
  where
    within : (n < 2 ^ 32) ⊎ (2 ^ 32 ≤ n) → IsSome (unsigned_field (pos n)) ↔ FitsUnsignedBits 32 (pos n)
    within (inl small) = let yes = lt-ltb n (2 ^ 32) small in rw yes (λ _. small, λ _. refl)
    within (inr large) =
        let no = le-ltb n (2 ^ 32) large in rw no (λ some. cc, λ fits. absurd (omega (arith, fits)))
unsigned_fits (negsuc n) = (λ some. cc, λ fits. absurd fits)
