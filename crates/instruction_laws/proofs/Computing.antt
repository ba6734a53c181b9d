-- Sums, differences and bitwise results have the manual's properties, and nothing else has them.
use Rattle.std.proofs.Common.{◌≡◌, ◌↔◌, ◌⊎◌, inl, inr, ℕ, ◌+◌, ◌-◌, ◌*◌, ◌/◌, ◌%◌, ◌^◌, ◌<◌, ◌≤◌, leb, ℤ, pos, bit_and}
use Rattle.std.proofs.Common.{bit_or, bit_xor, subst, ⊎_elim, arith}
use Rattle.std.specs.Prelude.{◌+ℤ◌, ◌-ℤ◌, ◌<ℤ◌, nat_le, nat_lt}
use Rattle.std.specs.Bool.{Decides}
use Rattle.std.proofs.lemmas.Bool.{cases_lt, leb-true, le-leb}
use Rattle.std.proofs.lemmas.Bool.Decides.{Decides-eqb, Decides-ltb, Decides-like, Decides-or}
use Rattle.std.proofs.lemmas.Int.{ints}
use Rattle.std.proofs.lemmas.Nat.{and_le_l, or_lt, xor_lt}
use Rattle.std.proofs.lemmas.Nat.Bits.{bit_at_and, bit_at_or, bit_at_xor, bit_at-lt, same_from_bits}
use Rattle.amd64_subset.specs.declared.instr.Arithmetic.{Arithmetic}
use Rattle.amd64_subset.specs.declared.instr.Arithmetic.TheVariants.{Add, Or, And, Sub, Xor, Compare}
use Rattle.amd64_subset.specs.declared.instr.Width.{Width}
use Rattle.amd64_subset.specs.declared.instr.Width.TheVariants.{Long, Quad}
use Rattle.guest_arithmetic.specs.declared.effect.Effect.{Effect}
use Rattle.guest_arithmetic.specs.Arithmetic.{span_of, half_of, biased, is_negative, sum_overflows}
use Rattle.guest_arithmetic.specs.Arithmetic.{difference_overflows, sum_effect, difference_effect, logic_effect}
use Rattle.guest_arithmetic.specs.Arithmetic.{compute_effect}
use Rattle.instruction_laws.specs.Words.{words, IsOutside, IsSigned, IsCut, IsSet, Shows}
use Rattle.instruction_laws.specs.Results.{TellsOfResult, IsSum, IsDifference, IsBitwise, Both, Either, One, Computes}
use Rattle.instruction_laws.proofs.Words.{only_cut, same_shown, same_effect, same_told, signed_of}

-- ** tests

pub decides_le : (a b : ℕ) → Decides (leb a b) (a ≤ b)
decides_le a b = (leb-true a b, le-leb a b)

-- the top bit of a word is its sign
pub decides_negative : (width : Width) (word : ℕ) (x : ℤ) → IsSigned width word x
    → Decides (is_negative width word) (x <ℤ pos 0)
decides_negative Long word x is = Decides-like _ (λ high. omega (arith, ints, high, is.same, is.least, is.greatest))
    (λ negative. omega (arith, ints, negative, is.same, is.least, is.greatest)) (decides_le (half_of Long) word)
decides_negative Quad word x is = Decides-like _ (λ high. omega (arith, ints, high, is.same, is.least, is.greatest))
    (λ negative. omega (arith, ints, negative, is.same, is.least, is.greatest)) (decides_le (half_of Quad) word)

-- ** an effect whose ZF and SF are by its result

pub tells : (width : Width) (effect : Effect) → effect.number < words width
    → Shows effect.changes.zero (effect.number ≡ 0)
    → ((x : ℤ) → IsSigned width effect.number x → Shows effect.changes.sign (x <ℤ pos 0)) → TellsOfResult width effect
tells width effect below zero sign = let it = signed_of width effect.number below in
    record { result = it.0; signed = it.1; zero = zero; sign = sign it.0 it.1 }

-- ** sums

sum_outside : (width : Width) (a b : ℕ) (x y : ℤ) → IsSigned width a x → IsSigned width b y
    → Decides (sum_overflows width a b) (IsOutside width (x +ℤ y))
unfolding sum_overflows
sum_outside Long a b x y p q = Decides-or _ _
    (Decides-like _ (λ small. omega (arith, ints, small, p.same, p.least, p.greatest, q.same, q.least, q.greatest))
    (λ small. omega (arith, ints, small, p.same, p.least, p.greatest, q.same, q.least, q.greatest))
    (Decides-ltb (biased Long a + biased Long b) (half_of Long)))
    (Decides-like _ (λ large. omega (arith, ints, large, p.same, p.least, p.greatest, q.same, q.least, q.greatest))
    (λ large. omega (arith, ints, large, p.same, p.least, p.greatest, q.same, q.least, q.greatest))
    (decides_le (3 * half_of Long) (biased Long a + biased Long b)))
sum_outside Quad a b x y p q = Decides-or _ _
    (Decides-like _ (λ small. omega (arith, ints, small, p.same, p.least, p.greatest, q.same, q.least, q.greatest))
    (λ small. omega (arith, ints, small, p.same, p.least, p.greatest, q.same, q.least, q.greatest))
    (Decides-ltb (biased Quad a + biased Quad b) (half_of Quad)))
    (Decides-like _ (λ large. omega (arith, ints, large, p.same, p.least, p.greatest, q.same, q.least, q.greatest))
    (λ large. omega (arith, ints, large, p.same, p.least, p.greatest, q.same, q.least, q.greatest))
    (decides_le (3 * half_of Quad) (biased Quad a + biased Quad b)))

sum_cut : (width : Width) (a b : ℕ) → IsCut width ((a + b) % span_of width) (pos a +ℤ pos b)
sum_cut Long a b = record { below = omega arith; more = 0; less = (a + b) / 4294967296; same = omega (arith, ints) }
sum_cut Quad a b = record {
  below = omega arith;
  more = 0;
  less = (a + b) / 18446744073709551616;
  same = omega
      (arith, ints);
}

carries : (width : Width) (a b : ℕ) → Decides (nat_le (span_of width) (a + b)) (words width ≤ a + b)
carries Long a b = decides_le 4294967296 (a + b)
carries Quad a b = decides_le 18446744073709551616 (a + b)

is_sum : (width : Width) (a b : ℕ) (x y : ℤ) → IsSigned width a x → IsSigned width b y
    → IsSum width a b x y (sum_effect width a b)
unfolding sum_effect
is_sum width a b x y p q = record {
  number = sum_cut width a b;
  tells = tells width (sum_effect width a b) (sum_cut width a b).below (Decides-eqb _ 0) (decides_negative width _);
  carry = carries width a b;
  overflow = sum_outside width a b x y p q;
}

only_sum : (width : Width) (a b : ℕ) (x y : ℤ) (e f : Effect) → IsSum width a b x y e → IsSum width a b x y f → e ≡ f
only_sum width a b x y e f p q =
    let number = only_cut width _ e.number f.number p.number q.number in
    let told = same_told width e f number p.tells q.tells in
    same_effect e f number told.0 told.1 (same_shown _ _ _ _ (λ is. is) (λ is. is) p.carry q.carry)
    (same_shown _ _ _ _ (λ is. is) (λ is. is) p.overflow q.overflow)

-- ** differences

pub difference_outside : (width : Width) (a b : ℕ) (x y : ℤ) → IsSigned width a x → IsSigned width b y
    → Decides (difference_overflows width a b) (IsOutside width (x -ℤ y))
unfolding difference_overflows
difference_outside Long a b x y p q = Decides-or _ _
    (Decides-like _ (λ small. omega (arith, ints, small, p.same, p.least, p.greatest, q.same, q.least, q.greatest))
    (λ small. omega (arith, ints, small, p.same, p.least, p.greatest, q.same, q.least, q.greatest))
    (Decides-ltb (biased Long a + half_of Long) (biased Long b)))
    (Decides-like _ (λ large. omega (arith, ints, large, p.same, p.least, p.greatest, q.same, q.least, q.greatest))
    (λ large. omega (arith, ints, large, p.same, p.least, p.greatest, q.same, q.least, q.greatest))
    (decides_le (biased Long b + half_of Long) (biased Long a)))
difference_outside Quad a b x y p q = Decides-or _ _
    (Decides-like _ (λ small. omega (arith, ints, small, p.same, p.least, p.greatest, q.same, q.least, q.greatest))
    (λ small. omega (arith, ints, small, p.same, p.least, p.greatest, q.same, q.least, q.greatest))
    (Decides-ltb (biased Quad a + half_of Quad) (biased Quad b)))
    (Decides-like _ (λ large. omega (arith, ints, large, p.same, p.least, p.greatest, q.same, q.least, q.greatest))
    (λ large. omega (arith, ints, large, p.same, p.least, p.greatest, q.same, q.least, q.greatest))
    (decides_le (biased Quad b + half_of Quad) (biased Quad a)))

pub difference_cut : (width : Width) (a b : ℕ) → a < words width → b < words width
    → IsCut width ((a + (span_of width - b)) % span_of width) (pos a -ℤ pos b)
difference_cut Long a b p q =
    record { below = omega arith; more = 1; less = (a + (4294967296 - b)) / 4294967296; same = omega (arith, ints) }
difference_cut Quad a b p q =
    record {
      below = omega arith;
      more = 1;
      less = (a + (18446744073709551616 - b)) / 18446744073709551616;
      same =
          omega (arith, ints);
    }

pub borrows : (a b : ℕ) → Decides (nat_lt a b) ((pos a -ℤ pos b) <ℤ pos 0)
borrows a b = Decides-like _ (λ below. omega (arith, ints)) (λ below. omega (arith, ints)) (Decides-ltb a b)

is_difference : (width : Width) (a b : ℕ) (x y : ℤ) → IsSigned width a x → IsSigned width b y
    → IsDifference width a b x y (difference_effect width a b)
unfolding difference_effect
is_difference width a b x y p q = let cut = difference_cut width a b p.below q.below in record {
  number = cut;
  tells = tells width (difference_effect width a b) cut.below (Decides-eqb _ 0) (decides_negative width _);
  carry = borrows a b;
  overflow = difference_outside width a b x y p q;
}

only_difference : (width : Width) (a b : ℕ) (x y : ℤ) (e f : Effect) → IsDifference width a b x y e
    → IsDifference width a b x y f → e ≡ f
only_difference width a b x y e f p q =
    let number = only_cut width _ e.number f.number p.number q.number in
    let told = same_told width e f number p.tells q.tells in
    same_effect e f number told.0 told.1 (same_shown _ _ _ _ (λ is. is) (λ is. is) p.carry q.carry)
    (same_shown _ _ _ _ (λ is. is) (λ is. is) p.overflow q.overflow)

-- ** bit for bit

is_bitwise : (bit : Type 0 → Type 0 → Type 0) (width : Width) (a b word : ℕ) → word < words width
    → ((k : ℕ) → IsSet k word ↔ bit (IsSet k a) (IsSet k b)) → IsBitwise bit width a b (logic_effect width word)
unfolding logic_effect
is_bitwise bit width a b word below bits = record {
  bits = bits;
  tells = tells width (logic_effect width word) below (Decides-eqb _ 0) (decides_negative width _);
  carry = (λ is. cc, λ never. absurd never);
  overflow = (λ is. cc, λ never. absurd never);
}

same_bit : (v w k : ℕ) → (IsSet k v → IsSet k w) → (IsSet k w → IsSet k v) → v / 2 ^ k % 2 ≡ w / 2 ^ k % 2
same_bit v w k to from = ⊎_elim
    (λ low. ⊎_elim (λ low'. omega arith) (λ high'. omega (arith, from (omega (arith, bit_at-lt w k))))
    (cases_lt (w / 2 ^ k % 2) 1))
    (λ high. omega (arith, to (omega (arith, bit_at-lt v k)), bit_at-lt v k))
    (cases_lt (v / 2 ^ k % 2) 1)

only_bitwise : (bit : Type 0 → Type 0 → Type 0) (width : Width) (a b : ℕ) (e f : Effect) → IsBitwise bit width a b e
    → IsBitwise bit width a b f → e ≡ f
only_bitwise bit width a b e f p q =
    let number = same_from_bits e.number f.number (λ k. same_bit e.number f.number k
    (λ is. (q.bits k).1 ((p.bits k).0 is)) (λ is. (p.bits k).1 ((q.bits k).0 is))) in
    let told = same_told width e f number p.tells q.tells in
    same_effect e f number told.0 told.1 (same_shown _ _ _ _ (λ is. is) (λ is. is) p.carry q.carry)
    (same_shown _ _ _ _ (λ is. is) (λ is. is) p.overflow q.overflow)

-- a bit is 1 or not
one_of_two : (n : ℕ) → n < 2 → (n ≡ 1) ⊎ (n ≡ 1 → ⊥)
one_of_two n below = ⊎_elim (λ low. inr (λ is. omega (arith, low, is))) (λ high. inl (omega arith)) (cases_lt n 1)

and_bits : (a b k : ℕ) → IsSet k (bit_and a b) ↔ Both (IsSet k a) (IsSet k b)
and_bits a b k = (
  λ is. (
    omega (arith, is, bit_at_and a b k, bit_at-lt a k, bit_at-lt b k),
    omega
        (arith, is, bit_at_and a b k, bit_at-lt a k, bit_at-lt b k),
  ),
  λ both. omega (arith, both.0, both.1, bit_at_and a b k),
)

or_bits : (a b k : ℕ) → IsSet k (bit_or a b) ↔ Either (IsSet k a) (IsSet k b)
or_bits a b k = (
  λ is. ⊎_elim inl (λ no. inr (omega (arith, is, no, bit_at_or a b k, bit_at-lt a k, bit_at-lt b k)))
      (one_of_two (a / 2 ^ k % 2) (bit_at-lt a k)),
  λ either. ⊎_elim (λ here. omega (arith, here, bit_at_or a b k, bit_at-lt b k))
      (λ here. omega (arith, here, bit_at_or a b k, bit_at-lt a k)) either,
)

xor_bits : (a b k : ℕ) → IsSet k (bit_xor a b) ↔ One (IsSet k a) (IsSet k b)
xor_bits a b k = (
  λ is. ⊎_elim (λ here. inl (here, λ other. omega (arith, is, here, other, bit_at_xor a b k)))
      (λ no. inr (no, omega (arith, is, no, bit_at_xor a b k, bit_at-lt a k, bit_at-lt b k)))
      (one_of_two (a / 2 ^ k % 2) (bit_at-lt a k)),
  λ one. ⊎_elim (λ here. omega (arith, here.0, here.1, bit_at_xor a b k, bit_at-lt b k))
      (λ here. omega (arith, here.0, here.1, bit_at_xor a b k, bit_at-lt a k)) one,
)

and_below : (width : Width) (a b : ℕ) → a < words width → bit_and a b < words width
and_below Long a b below = omega (arith, and_le_l a b)
and_below Quad a b below = omega (arith, and_le_l a b)

or_below : (width : Width) (a b : ℕ) → a < words width → b < words width → bit_or a b < words width
or_below Long a b p q = or_lt 32 a b p q
or_below Quad a b p q = or_lt 64 a b p q

xor_below : (width : Width) (a b : ℕ) → a < words width → b < words width → bit_xor a b < words width
xor_below Long a b p q = xor_lt 32 a b p q
xor_below Quad a b p q = xor_lt 64 a b p q

-- ** each operation

computed : (kind : Arithmetic) (width : Width) (a b : ℕ) (x y : ℤ) → IsSigned width a x → IsSigned width b y
    → Computes kind width a b x y (compute_effect kind width a b)
unfolding compute_effect
computed Add width a b x y p q = is_sum width a b x y p q
computed Or width a b x y p q = is_bitwise Either width a b (bit_or a b) (or_below width a b p.below q.below)
    (or_bits a b)
computed And width a b x y p q = is_bitwise Both width a b (bit_and a b) (and_below width a b p.below) (and_bits a b)
computed Sub width a b x y p q = is_difference width a b x y p q
computed Xor width a b x y p q = is_bitwise One width a b (bit_xor a b) (xor_below width a b p.below q.below)
    (xor_bits a b)
computed Compare width a b x y p q = is_difference width a b x y p q

only_computed : (kind : Arithmetic) (width : Width) (a b : ℕ) (x y : ℤ) (e f : Effect) → Computes kind width a b x y e
    → Computes kind width a b x y f → e ≡ f
only_computed Add width a b x y e f p q = only_sum width a b x y e f p q
only_computed Or width a b x y e f p q = only_bitwise Either width a b e f p q
only_computed And width a b x y e f p q = only_bitwise Both width a b e f p q
only_computed Sub width a b x y e f p q = only_difference width a b x y e f p q
only_computed Xor width a b x y e f p q = only_bitwise One width a b e f p q
only_computed Compare width a b x y e f p q = only_difference width a b x y e f p q

pub computes : (kind : Arithmetic) (width : Width) (a b : ℕ) (x y : ℤ) → IsSigned width a x → IsSigned width b y
    → (effect : Effect) → (compute_effect kind width a b ≡ effect) ↔ Computes kind width a b x y effect
computes kind width a b x y p q effect = let here = computed kind width a b x y p q in
    (λ is. subst (Computes kind width a b x y) is here, only_computed kind width a b x y _ effect here)
