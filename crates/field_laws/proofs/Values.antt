-- What each form of field holds is the only answer for a number.
use Rattle.std.proofs.Common.{◌≡◌, ◌↔◌, ◌+◌, ◌/◌, ◌^◌, inl, inr, ℕ, ℤ, pos, negsuc, Option, Some, None, Bool, true}
use Rattle.std.proofs.Common.{false, refl, ap, subst, arith}
use Rattle.std.proofs.lemmas.Bool.{ltb-true, ltb-false}
use Rattle.std.proofs.lemmas.Int.{ints}
use Rattle.tls_relocs.specs.declared.fields.Field.{Field}
use Rattle.tls_relocs.specs.declared.fields.Field.TheVariants.{Empty, Word32, Word64}
use Rattle.tls_relocs.specs.Values.{modulo, fits_signed, fits_unsigned, word32, signed_field, unsigned_field}
use Rattle.tls_relocs.specs.Values.{wrapped_field}
use Rattle.field_laws.specs.Table.{Range, Each, Signed, Unsigned, IsIn, IsModulo, Has}

-- what may be stored of a number
abbrev pub Holds : ℕ → Range → ℤ → Option Field → Type 0
Holds bytes range x (Some field) = IsIn range x × Has field bytes x
Holds bytes range x None = IsIn range x → ⊥

modulo_32 : (x : ℤ) → IsModulo 4294967296 (modulo (2 ^ 32) x) x
modulo_32 (pos n) = record { below = omega arith; times = n / 4294967296; same = inl (omega (arith, ints)) }
modulo_32 (negsuc n) = record { below = omega arith; times = n / 4294967296 + 1; same = inr (omega (arith, ints)) }

only_32 : (x : ℤ) (w : ℕ) → IsModulo 4294967296 w x → modulo (2 ^ 32) x ≡ w
only_32 (pos n) w is = omega (arith, ints, is.below, is.same)
only_32 (negsuc n) w is = omega (arith, ints, is.below, is.same)

modulo_64 : (x : ℤ) → IsModulo 18446744073709551616 (modulo (2 ^ 64) x) x
modulo_64 (pos n) = record { below = omega arith; times = n / 18446744073709551616; same = inl (omega (arith, ints)) }
modulo_64 (negsuc n) =
    record { below = omega arith; times = n / 18446744073709551616 + 1; same = inr (omega (arith, ints)) }

only_64 : (x : ℤ) (w : ℕ) → IsModulo 18446744073709551616 w x → modulo (2 ^ 64) x ≡ w
only_64 (pos n) w is = omega (arith, ints, is.below, is.same)
only_64 (negsuc n) w is = omega (arith, ints, is.below, is.same)

-- a word of 4 bytes is the answer where the number fits
word32_in : (x : ℤ) (range : Range) → IsIn range x → Holds 4 range x (Some (Word32 (modulo (2 ^ 32) x)))
word32_in x range fits = (fits, (refl, modulo_32 x))

word32_only : (x : ℤ) (range : Range) (answer : Option Field) → IsIn range x → Holds 4 range x answer
    → Some (Word32 (modulo (2 ^ 32) x)) ≡ answer
word32_only x range (Some (Word32 w)) fits holds = ap (λ w. Some (Word32 w)) (only_32 x w holds.1.1)
word32_only x range (Some Empty) fits holds = absurd (omega (arith, holds.1))
word32_only x range (Some (Word64 w)) fits holds = absurd (omega (arith, holds.1.0))
word32_only x range None fits holds = absurd (holds fits)

-- where it does not, none is
nothing_only : (x : ℤ) (bytes : ℕ) (range : Range) (answer : Option Field) → (IsIn range x → ⊥)
    → Holds bytes range x answer
    → None ≡ answer
nothing_only x bytes range None out holds = refl
nothing_only x bytes range (Some field) out holds = absurd (out holds.0)

-- a test that decides whether a number fits
record Decides (test : Bool) (range : Range) (x : ℤ) : Type 0 where
  yes : test ≡ true → IsIn range x
  no : test ≡ false → IsIn range x → ⊥

word32_is : (test : Bool) (range : Range) (x : ℤ) (answer : Option Field) → Decides test range x
    → (word32 test x ≡ answer) ↔ Holds 4 range x answer
word32_is true range x answer decides = (
  λ is. subst (Holds 4 range x) is (word32_in x range (decides.yes refl)),
  word32_only x range answer
      (decides.yes refl),
)
word32_is false range x answer decides =
    (λ is. subst (Holds 4 range x) is (decides.no refl), nothing_only x 4 range answer (decides.no refl))

signed_decides : (x : ℤ) → Decides (fits_signed x) Signed x
signed_decides (pos n) = record {
  yes = λ is. let small = ltb-true n (2 ^ 31) is in (omega (arith, ints), omega (arith, ints));
  no = λ is fits. let large = ltb-false n (2 ^ 31) is in omega (arith, ints);
}
signed_decides (negsuc n) = record {
  yes = λ is. let small = ltb-true n (2 ^ 31) is in (omega (arith, ints), omega (arith, ints));
  no = λ is fits. let large = ltb-false n (2 ^ 31) is in omega (arith, ints);
}

unsigned_decides : (x : ℤ) → Decides (fits_unsigned x) Unsigned x
unsigned_decides (pos n) = record {
  yes = λ is. let small = ltb-true n (2 ^ 32) is in (omega (arith, ints), omega (arith, ints));
  no = λ is fits. let large = ltb-false n (2 ^ 32) is in omega (arith, ints);
}
unsigned_decides (negsuc n) = record { yes = λ is. absurd cc; no = λ is fits. omega (arith, ints) }

pub signed_is : (x : ℤ) (answer : Option Field) → (signed_field x ≡ answer) ↔ Holds 4 Signed x answer
signed_is x answer = word32_is (fits_signed x) Signed x answer (signed_decides x)

pub unsigned_is : (x : ℤ) (answer : Option Field) → (unsigned_field x ≡ answer) ↔ Holds 4 Unsigned x answer
unsigned_is x answer = word32_is (fits_unsigned x) Unsigned x answer (unsigned_decides x)

word64_only : (x : ℤ) (answer : Option Field) → Holds 8 Each x answer → wrapped_field x ≡ answer
word64_only x (Some (Word64 w)) holds = ap (λ w. Some (Word64 w)) (only_64 x w holds.1.1)
word64_only x (Some Empty) holds = absurd (omega (arith, holds.1))
word64_only x (Some (Word32 w)) holds = absurd (omega (arith, holds.1.0))
word64_only x None holds = absurd (holds tt)

pub wrapped_is : (x : ℤ) (answer : Option Field) → (wrapped_field x ≡ answer) ↔ Holds 8 Each x answer
wrapped_is x answer = (λ is. subst (Holds 8 Each x) is (tt, (refl, modulo_64 x)), word64_only x answer)

empty_only : (x : ℤ) (answer : Option Field) → Holds 0 Each x answer → Some Empty ≡ answer
empty_only x (Some Empty) holds = refl
empty_only x (Some (Word32 w)) holds = absurd (omega (arith, holds.1.0))
empty_only x (Some (Word64 w)) holds = absurd (omega (arith, holds.1.0))
empty_only x None holds = absurd (holds tt)

pub empty_is : (x : ℤ) (answer : Option Field) → (Some Empty ≡ answer) ↔ Holds 0 Each x answer
empty_is x answer = (λ is. subst (Holds 0 Each x) is (tt, refl), empty_only x answer)
