-- A sum of small numbers and a narrow addend fits a field of any form.
use Rattle.std.proofs.Common.{◌≡◌, ◌+◌, ◌<◌, ◌^◌, ℕ, ℤ, pos, negsuc, Bool, true, false, not, IsNone}
use Rattle.std.proofs.Common.{refl, ap, arith}
use Rattle.std.specs.Prelude.{◌+ℤ◌, ◌-ℤ◌, nat_lt}
use Rattle.std.proofs.lemmas.Bool.{lt-ltb}
use Rattle.std.proofs.lemmas.Bool.Decides.{nat_tests}
use Rattle.std.proofs.lemmas.Int.{ints}
use Rattle.elf_records.specs.declared.relocation.RelocationKind.{RelocationKind}
use Rattle.elf_records.specs.declared.relocation.RelocationKind.TheVariants.{Absolute32}
use Rattle.elf_records.specs.declared.relocation_row.FieldForm.{FieldForm}
use Rattle.elf_records.specs.declared.relocation_row.FieldForm.TheVariants.{NoField, Signed32, Unsigned32, Wrapped64}
use Rattle.elf_records.specs.declared.relocation_row.FieldValue.{FieldValue}
use Rattle.elf_records.specs.declared.relocation_row.FieldValue.TheVariants.{NoValue, Address, Distance, EntryDistance}
use Rattle.elf_records.specs.declared.relocation_row.FieldValue.TheVariants.{SegmentOffset, ThreadOffset}
use Rattle.elf_records.specs.declared.relocation_row.FieldValue.TheVariants.{DescriptorDistance}
use Rattle.elf_records.specs.RelocationRows.{row}
use Rattle.tls_relocs.specs.Values.{fits_signed, fits_unsigned, formed, held, word32}
use Rattle.elf_object.specs.Noted.{is_far}

-- the numbers of a relocation: its symbol's, its place, and the entry or what is subtracted
pub record AreSmall (s p g : ℕ) : Type 0 where
  pub symbol : s < 2 ^ 28
  pub place : p < 2 ^ 28
  pub other : g < 2 ^ 28

narrow : (n : ℕ) → not (nat_lt n (2 ^ 30)) ≡ false → n < 2 ^ 30
narrow n h = grind (arith, nat_tests)

-- ** with a sign

signed_sum : (z a : ℤ) (x y : ℕ) → z +ℤ pos y ≡ pos x +ℤ a → is_far Signed32 a ≡ false → x < 2 ^ 28 → y < 2 ^ 28
    → fits_signed z ≡ true
signed_sum (pos m) (pos n) x y e near low small =
    let sum : m + y ≡ x + n = omega (arith, ints, e) in
    lt-ltb m (2 ^ 31) (omega (arith, sum, narrow n near, low))
signed_sum (pos m) (negsuc n) x y e near low small =
    let sum : m + y + n + 1 ≡ x = omega (arith, ints, e) in
    lt-ltb m (2 ^ 31) (omega (arith, sum, low))
signed_sum (negsuc m) (pos n) x y e near low small =
    let sum : m + 1 + x + n ≡ y = omega (arith, ints, e) in
    lt-ltb m (2 ^ 31) (omega (arith, sum, small))
signed_sum (negsuc m) (negsuc n) x y e near low small =
    let sum : m + x ≡ y + n = omega (arith, ints, e) in
    lt-ltb m (2 ^ 31) (omega (arith, sum, narrow n near, small))

module _ (s : ℕ) (a : ℤ) (p g : ℕ) (small : AreSmall s p g) where
  signed_held : (value : FieldValue) → is_far Signed32 a ≡ false → fits_signed (held value s a p g) ≡ true
  signed_held NoValue near = refl
  signed_held Address near =
      signed_sum (pos s +ℤ a) a s 0 (omega (arith, ints)) near small.symbol (omega arith)
  signed_held Distance near =
      signed_sum ((pos s +ℤ a) -ℤ pos p) a s p (omega (arith, ints)) near small.symbol small.place
  signed_held EntryDistance near =
      signed_sum ((pos g +ℤ a) -ℤ pos p) a g p (omega (arith, ints)) near small.other small.place
  signed_held SegmentOffset near =
      signed_sum ((pos s +ℤ a) -ℤ pos g) a s g (omega (arith, ints)) near small.symbol small.other
  signed_held ThreadOffset near =
      signed_sum ((pos s +ℤ a) -ℤ pos g) a s g (omega (arith, ints)) near small.symbol small.other
  signed_held DescriptorDistance near =
      signed_sum ((pos g +ℤ a) -ℤ pos p) a g p (omega (arith, ints)) near small.other small.place

-- ** without one

unsigned_sum : (z a : ℤ) (s : ℕ) → z ≡ pos s +ℤ a → is_far Unsigned32 a ≡ false → s < 2 ^ 28
    → fits_unsigned z ≡ true
unsigned_sum z (negsuc n) s e near low = absurd (cc)
unsigned_sum (pos m) (pos n) s e near low =
    let sum : m ≡ s + n = omega (arith, ints, e) in
    lt-ltb m (2 ^ 32) (omega (arith, sum, narrow n near, low))
unsigned_sum (negsuc m) (pos n) s e near low = absurd (omega (arith, ints, e))

-- only an address goes there
pub unsigned_address : (kind : RelocationKind) → (row kind).form ≡ Unsigned32 → (row kind).value ≡ Address
unsigned_address Absolute32 e = refl
unsigned_address kind e = absurd (cc)

-- ** any

fitting : (fits : Bool) (z : ℤ) → fits ≡ true → IsNone (word32 fits z) → ⊥
fitting true z e none = cc
fitting false z e none = cc

pub narrow_fits : (form : FieldForm) (value : FieldValue) (s : ℕ) (a : ℤ) (p g : ℕ)
    → (form ≡ Unsigned32 → value ≡ Address) → ((form ≡ NoField → ⊥) → AreSmall s p g) → is_far form a ≡ false
    → IsNone (formed form (held value s a p g)) → ⊥
narrow_fits NoField value s a p g address small near none = cc
narrow_fits Wrapped64 value s a p g address small near none = cc
narrow_fits Signed32 value s a p g address small near none =
    let z = held value s a p g in
    fitting (fits_signed z) z (signed_held s a p g (small (λ h. cc)) value near) none
narrow_fits Unsigned32 value s a p g address small near none =
    let e = address refl in
    let z = held value s a p g in
    let sum : z ≡ pos s +ℤ a = ap (λ v. held v s a p g) e in
    fitting (fits_unsigned z) z (unsigned_sum z a s sum near (small (λ h. cc)).symbol) none
