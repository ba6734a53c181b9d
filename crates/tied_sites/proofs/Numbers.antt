-- What a processor reads in a field of four bytes that holds how far one number is from another.
use Rattle.std.proofs.Common.{◌≡◌, ◌+◌, ◌-◌, ◌%◌, ◌^◌, ◌<◌, ◌∙◌, ℕ, ℤ, pos, negsuc, Some, length}
use Rattle.std.proofs.Common.{Option, refl, arith}
use Rattle.std.specs.Prelude.{◌+ℤ◌}
use Rattle.std.proofs.lemmas.Bool.{lt-ltb}
use Rattle.std.proofs.lemmas.Int.{ints}
use Rattle.amd64_subset.specs.Spelling.{field_of}
use Rattle.tls_relocs.specs.declared.fields.Field.{Field}
use Rattle.tls_relocs.specs.declared.fields.Field.TheVariants.{Word32}
use Rattle.tls_relocs.specs.Fields.{field_bytes}
use Rattle.tls_relocs.specs.Values.{signed_field}
use Rattle.tied_fields.proofs.Numbers.{field_is, field_long}

-- a field with four bytes, which are read as this number
pub record Holds (value : Option Field) (n : ℕ) : Type 0 where
  pub field : Field
  pub is : value ≡ Some field
  pub four : length (field_bytes field) ≡ 4
  pub number : field_of (field_bytes field) ≡ n

-- the difference of two small numbers, read modulo 2^64
pub less_held : (z : ℤ) (a b : ℕ) → z +ℤ pos b ≡ pos a → a < 2 ^ 31 → b < 2 ^ 31
    → Holds (signed_field z) ((a + (2 ^ 64 - b)) % 2 ^ 64)
less_held (pos n) a b e small low =
    let sum : n + b ≡ a = omega (arith, ints, e) in
    let yes = lt-ltb n (2 ^ 31) (omega (arith, sum, small)) in
    let is : signed_field (pos n) ≡ Some (Word32 (n % 2 ^ 32)) = rw yes refl in
    let value : n % 2 ^ 64 ≡ (a + (2 ^ 64 - b)) % 2 ^ 64 = omega (arith, sum, small, low) in
    record {
      field = Word32 (n % 2 ^ 32);
      is = is;
      four = field_long (pos n) (Word32 (n % 2 ^ 32)) is;
      number = field_is (pos n) (Word32 (n % 2 ^ 32)) is ∙ value;
    }
less_held (negsuc n) a b e small low =
    let sum : n + 1 + a ≡ b = omega (arith, ints, e) in
    let yes = lt-ltb n (2 ^ 31) (omega (arith, sum, low)) in
    let is : signed_field (negsuc n) ≡ Some (Word32 (2 ^ 32 - 1 - n % 2 ^ 32)) = rw yes refl in
    let value : 2 ^ 64 - 1 - n % 2 ^ 64 ≡ (a + (2 ^ 64 - b)) % 2 ^ 64 = omega (arith, sum, small, low) in
    record {
      field = Word32 (2 ^ 32 - 1 - n % 2 ^ 32);
      is = is;
      four = field_long (negsuc n) (Word32 (2 ^ 32 - 1 - n % 2 ^ 32)) is;
      number = field_is (negsuc n) (Word32 (2 ^ 32 - 1 - n % 2 ^ 32)) is ∙ value;
    }
