-- A field of four bytes is read as the whole number that was stored in it, modulo 2^64; and sums with it.
use Rattle.std.proofs.Common.{◌≡◌, ◌∙◌, ◌+◌, ◌-◌, ◌%◌, ◌^◌, ◌<◌, ◌≤◌, ◌⊎◌, inl, inr, ℕ, ℤ, pos, negsuc, suc, Bool}
use Rattle.std.proofs.Common.{true, false, Some, None, length, ap, arith, if◌then◌else◌}
use Rattle.std.specs.Prelude.{◌+ℤ◌, ◌-ℤ◌}
use Rattle.std.proofs.lemmas.Bool.{cases_lt, lt-ltb, le-ltb}
use Rattle.std.proofs.lemmas.Int.{ints}
use Rattle.std.proofs.lemmas.Nat.{from_le_bytes-to_le_bytes_4}
use Rattle.amd64_subset.specs.Spelling.{field_of}
use Rattle.amd64_words.specs.Number.{signed_long_of, signed_of}
use Rattle.elf_records.specs.Fields.{bytes_of}
use Rattle.elf_records.specs.Laws.{length-bytes_of}
use Rattle.guest_operands.specs.Use.{plus}
use Rattle.tls_relocs.specs.declared.fields.Field.{Field}
use Rattle.tls_relocs.specs.declared.fields.Field.TheVariants.{Word32}
use Rattle.tls_relocs.specs.Fields.{field_bytes}
use Rattle.tls_relocs.specs.Values.{fits_signed, modulo, signed_field}

-- ** what is read

-- the number in the field, where it fits
small : (z : ℤ) (w : ℕ) → signed_field z ≡ Some (Word32 w) → w < 2 ^ 32
small (pos n) w e = of_size (cases_lt n (2 ^ 31))
  where
    of_size : (n < 2 ^ 31) ⊎ (2 ^ 31 ≤ n) → w < 2 ^ 32
    of_size (inl low) =
        let here = rw (lt-ltb n (2 ^ 31) low) at e in
        let is : n % 2 ^ 32 ≡ w = cc in omega (arith, is)
    of_size (inr high) = let here = rw (le-ltb n (2 ^ 31) high) at e in cc
small (negsuc n) w e = of_size (cases_lt n (2 ^ 31))
  where
    of_size : (n < 2 ^ 31) ⊎ (2 ^ 31 ≤ n) → w < 2 ^ 32
    of_size (inl low) =
        let here = rw (lt-ltb n (2 ^ 31) low) at e in
        let is : 2 ^ 32 - 1 - n % 2 ^ 32 ≡ w = cc in omega (arith, is)
    of_size (inr high) = let here = rw (le-ltb n (2 ^ 31) high) at e in cc

extended : (z : ℤ) (w : ℕ) → signed_field z ≡ Some (Word32 w) → signed_long_of w ≡ modulo (2 ^ 64) z
extended (pos n) w e = of_size (cases_lt n (2 ^ 31))
  where
    of_size : (n < 2 ^ 31) ⊎ (2 ^ 31 ≤ n) → signed_long_of w ≡ n % 2 ^ 64
    of_size (inl low) =
        let here = rw (lt-ltb n (2 ^ 31) low) at e in
        let same : w ≡ n = (let is : n % 2 ^ 32 ≡ w = cc in omega (arith, is, low)) in
        rw (same, lt-ltb n 0x8000_0000 (omega (arith, low))) (omega (arith, low))
    of_size (inr high) = let here = rw (le-ltb n (2 ^ 31) high) at e in cc
extended (negsuc n) w e = of_size (cases_lt n (2 ^ 31))
  where
    of_size : (n < 2 ^ 31) ⊎ (2 ^ 31 ≤ n) → signed_long_of w ≡ 2 ^ 64 - 1 - n % 2 ^ 64
    of_size (inl low) =
        let here = rw (lt-ltb n (2 ^ 31) low) at e in
        let same : w ≡ 2 ^ 32 - 1 - n = (let is : 2 ^ 32 - 1 - n % 2 ^ 32 ≡ w = cc in omega (arith, is, low)) in
        rw (same, le-ltb (2 ^ 32 - 1 - n) 0x8000_0000 (omega (arith, low))) (omega (arith, low))
    of_size (inr high) = let here = rw (le-ltb n (2 ^ 31) high) at e in cc

-- it has four bytes
pub is_word : (z : ℤ) (f : Field) → signed_field z ≡ Some f → (w : ℕ) × (f ≡ Word32 w)
is_word z f e = of_test (fits_signed z) e
  where
    of_test : (t : Bool) → (if t then Some (Word32 (modulo (2 ^ 32) z)) else None) ≡ Some f → (w : ℕ) × (f ≡ Word32 w)
    of_test true h = (modulo (2 ^ 32) z, cc)
    of_test false h = absurd (cc)

pub field_long : (z : ℤ) (f : Field) → signed_field z ≡ Some f → length (field_bytes f) ≡ 4
field_long z f e = let word = is_word z f e in ap (λ g. length (field_bytes g)) word.1 ∙ length-bytes_of 4 word.0

pub field_is : (z : ℤ) (f : Field) → signed_field z ≡ Some f → field_of (field_bytes f) ≡ modulo (2 ^ 64) z
unfolding signed_of bytes_of
field_is z f e =
    let word = is_word z f e in
    let same : signed_field z ≡ Some (Word32 word.0) = e ∙ ap Some word.1 in
    ap (λ g. field_of (field_bytes g)) word.1
    ∙ ap signed_long_of (from_le_bytes-to_le_bytes_4 word.0 (small z word.0 same))
    ∙ extended z word.0 same

-- ** sums

-- where a block begins b below its base, a number less b is added to that base
pub moved : (start base b : ℕ) (z : ℤ) → start + b ≡ base
    → (start + modulo (2 ^ 64) z) % 2 ^ 64 ≡ (base + modulo (2 ^ 64) (z -ℤ pos b)) % 2 ^ 64
moved start base b (pos n) far = elim (cases_lt n b) [
  | inl high ↦
      let less : pos n -ℤ pos b ≡ negsuc (b - n - 1) = omega (arith, ints, high) in rw less (omega (arith, far, high))
  | inr low ↦ let less : pos n -ℤ pos b ≡ pos (n - b) = omega (arith, ints, low) in rw less (omega (arith, far, low))
]
moved start base b (negsuc n) far =
    let less : negsuc n -ℤ pos b ≡ negsuc (n + b) = omega (arith, ints) in rw less (omega (arith, far))

-- a distance from a field at p, less how far its instruction goes on, leads from there to g, wherever both are moved
pub reaches : (g p bias s : ℕ)
    → plus (plus (p + bias) (suc s)) (modulo (2 ^ 64) ((pos g +ℤ negsuc s) -ℤ pos p)) ≡ (g + bias) % 2 ^ 64
reaches g p bias s = elim (cases_lt g (suc s + p)) [
  | inl high ↦
      let far : (pos g +ℤ negsuc s) -ℤ pos p ≡ negsuc (suc s + p - g - 1) = omega (arith, ints, high) in
      rw far (omega (arith, high))
  | inr low ↦
      let far : (pos g +ℤ negsuc s) -ℤ pos p ≡ pos (g - (suc s + p)) = omega (arith, ints, low) in
      rw far (omega (arith, low))
]
