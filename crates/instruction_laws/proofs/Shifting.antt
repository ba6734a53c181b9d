-- Shifts have the manual's properties, and nothing else has them.
use Rattle.std.proofs.Common.{◌≡◌, ◌↔◌, ◌⊎◌, inl, inr, ℕ, zero, suc, ◌+◌, ◌-◌, ◌*◌, ◌/◌, ◌%◌, ◌^◌, ◌<◌, ◌≤◌, ℤ, pos}
use Rattle.std.proofs.Common.{negsuc, neg_ℤ, ◌*ℤ◌, Bool, true, false, refl, ap, sym, subst, subst₂, ⊎_elim, arith, ◌∙◌}
use Rattle.std.proofs.Common.{suc-mul, add-mul, pow-suc, pow_pos, pow-add, pow_mono}
use Rattle.std.specs.Prelude.{◌+ℤ◌, ◌<ℤ◌, ◌==◌, if◌then◌else◌}
use Rattle.std.specs.Bool.{Decides}
use Rattle.std.proofs.lemmas.Bool.{false≢true, cases_lt, eq-eqb, ne_eqb, lt-leb, le-leb}
use Rattle.std.proofs.lemmas.Bool.Decides.{Decides-eqb, Decides-like}
use Rattle.std.proofs.lemmas.Int.{ints}
use Rattle.std.proofs.lemmas.Nat.{shl-shr, shr-shr, shr_split, shr_le, shr_below, mod_below, mod-pow-add}
use Rattle.std.proofs.lemmas.Nat.{same_from_place}
use Rattle.std.proofs.lemmas.Nat.Bits.{ones_shr, bit_at-lt}
use lib.IntN.{pos-*ℤ-pos, negsuc-*ℤ-pos}
use Rattle.amd64_subset.specs.declared.instr.Shift.{Shift}
use Rattle.amd64_subset.specs.declared.instr.Shift.TheVariants.{Left, Right, RightSigned}
use Rattle.amd64_subset.specs.declared.instr.Width.{Width}
use Rattle.amd64_subset.specs.declared.instr.Width.TheVariants.{Long, Quad}
use Rattle.guest_arithmetic.specs.declared.effect.Change.{Change}
use Rattle.guest_arithmetic.specs.declared.effect.Change.TheVariants.{Set, Unsettled, Kept}
use Rattle.guest_arithmetic.specs.declared.effect.Effect.{Effect}
use Rattle.guest_arithmetic.specs.Arithmetic.{span_of, half_of, by_result, differ, shifted, bit_out, shift_overflows}
use Rattle.guest_arithmetic.specs.Arithmetic.{shift_effect}
use Rattle.instruction_laws.specs.Words.{words, half, counts, IsOutside, IsSigned, Shows, IsUndefined}
use Rattle.instruction_laws.specs.Results.{IsUntouched, IsShiftedLeft, IsShiftedRight, IsShiftedSigned, Shifts}
use Rattle.instruction_laws.proofs.Words.{low_half, only_cut, same_shown, same_undefined, same_kept, same_effect}
use Rattle.instruction_laws.proofs.Words.{same_told}
use Rattle.instruction_laws.proofs.Computing.{decides_le, decides_negative, tells}
use Rattle.instruction_laws.proofs.Multiplying.{Signed, Upward, Downward, by_sign, pos_cut}

-- ** a flag by the count

once_shows : (P : Type 0) (count : ℕ) (c d : Change) → count ≡ 1 → Shows c P → Shows (if count == 1 then c else d) P
once_shows P count c d is shows = subst (λ (t : Bool). Shows (if t then c else d) P) (sym (eq-eqb count 1 is)) shows

more_undefined : (count : ℕ) (c : Change) → 1 < count → IsUndefined (if count == 1 then c else Unsettled)
more_undefined count c more =
    subst (λ (t : Bool). IsUndefined (if t then c else Unsettled))
    (sym (ne_eqb count 1 (λ is. omega (arith, more, is)))) tt

-- a flag that is shown for a count of 1, and undefined for more
same_by_count : (P : Type 0) (count : ℕ) (c d : Change) → 0 < count → (count ≡ 1 → Shows c P) →
    (1 < count → IsUndefined c)
    → (count ≡ 1 → Shows d P) → (1 < count → IsUndefined d) → c ≡ d
same_by_count P count c d some p p' q q' = ⊎_elim
    (λ low. let one : count ≡ 1 = omega arith in same_shown P P c d (λ is. is) (λ is. is) (p one) (q one))
    (λ high. same_undefined c d (p' high) (q' high))
    (cases_lt count 2)

-- what a shift by more than 0 does
abbrev moved : Shift → Width → ℕ → ℕ → Effect
moved shift width a count =
    by_result width (shifted shift width a count) (Set (bit_out shift width a count))
    (if count == 1 then Set (shift_overflows shift width a) else Unsettled)

moved_is : (shift : Shift) (width : Width) (a less : ℕ)
    → shift_effect shift width a (suc less) ≡ moved shift width a (suc less)
unfolding shift_effect
moved_is shift width a less = ap (λ (t : Bool). if t then record {
  number = a;
  changes = record { zero = Kept; sign = Kept; carry = Kept; overflow = Kept };
} else moved shift width a (suc less)) (ne_eqb (suc less) 0 (λ is. omega (arith, is)))

-- ** to the left

-- the bit next to the result, of the whole product
left_out : (a count bits : ℕ) → count ≤ bits → a * 2 ^ count / 2 ^ bits ≡ a / 2 ^ (bits - count)
left_out a count bits within =
    let parts : bits ≡ count + (bits - count) = omega arith in
    ap (λ k. a * 2 ^ count / 2 ^ k) parts ∙ sym (shr-shr (a * 2 ^ count) count (bits - count))
    ∙ ap (λ n. n / 2 ^ (bits - count)) (shl-shr a count)

left_carry : (width : Width) (a count : ℕ) → count < counts width
    → Decides (bit_out Left width a count) (a * 2 ^ count / words width % 2 ≡ 1)
unfolding bit_out
left_carry Long a count within = subst (λ (n : ℕ). Decides (n % 2 == 1) (a * 2 ^ count / 2 ^ 32 % 2 ≡ 1))
    (left_out a count 32 (omega arith)) (Decides-eqb (a * 2 ^ count / 2 ^ 32 % 2) 1)
left_carry Quad a count within = subst (λ (n : ℕ). Decides (n % 2 == 1) (a * 2 ^ count / 2 ^ 64 % 2 ≡ 1))
    (left_out a count 64 (omega arith)) (Decides-eqb (a * 2 ^ count / 2 ^ 64 % 2) 1)

pub decides_differ : (s t : Bool) (P Q : Type 0) → Decides s P → Decides t Q
    → Decides (differ s t) ((P × (Q → ⊥)) ⊎ ((P → ⊥) × Q))
decides_differ true true P Q p q = (
  λ is. cc,
  λ either. ⊎_elim (λ here. absurd (here.1 (q.0 refl)))
      (λ here. absurd (here.0 (p.0 refl))) either,
)
decides_differ true false P Q p q = (λ is. inl (p.0 refl, λ it. false≢true (q.1 it)), λ either. refl)
decides_differ false true P Q p q = (λ is. inr (λ it. false≢true (p.1 it), q.0 refl), λ either. refl)
decides_differ false false P Q p q = (
  λ is. absurd (cc),
  λ either. ⊎_elim (λ here. p.1 here.0) (λ here. q.1 here.1)
      either,
)

left_overflow : (width : Width) (a : ℕ) (x : ℤ) → IsSigned width a x
    → Decides (shift_overflows Left width a) (IsOutside width (x +ℤ x))
unfolding shift_overflows shifted bit_out
left_overflow Long a x is = Decides-like _
    (λ either. ⊎_elim (λ here. inr (omega (arith, ints, here.0, here.1, is.same, is.least, is.greatest, is.below)))
    (λ here. inl (omega (arith, ints, here.0, here.1, is.same, is.least, is.greatest, is.below))) either)
    (λ outside. ⊎_elim (λ small. inr (
      λ up. omega (arith, ints, up, small, is.same, is.least, is.greatest, is.below),
      omega (arith, ints, small, is.same, is.least, is.greatest, is.below),
    ))
    (λ large. inl (
      omega (arith, ints, large, is.same, is.least, is.greatest, is.below),
      λ up. omega
          (arith, ints, up, large, is.same, is.least, is.greatest, is.below),
    )) outside)
    (decides_differ _ _ _ _ (decides_le (half_of Long) (a * 2 ^ 1 % span_of Long)) (Decides-eqb (a / 2 ^ 31 % 2) 1))
left_overflow Quad a x is = Decides-like _
    (λ either. ⊎_elim (λ here. inr (omega (arith, ints, here.0, here.1, is.same, is.least, is.greatest, is.below)))
    (λ here. inl (omega (arith, ints, here.0, here.1, is.same, is.least, is.greatest, is.below))) either)
    (λ outside. ⊎_elim (λ small. inr (
      λ up. omega (arith, ints, up, small, is.same, is.least, is.greatest, is.below),
      omega (arith, ints, small, is.same, is.least, is.greatest, is.below),
    ))
    (λ large. inl (
      omega (arith, ints, large, is.same, is.least, is.greatest, is.below),
      λ up. omega
          (arith, ints, up, large, is.same, is.least, is.greatest, is.below),
    )) outside)
    (decides_differ _ _ _ _ (decides_le (half_of Quad) (a * 2 ^ 1 % span_of Quad)) (Decides-eqb (a / 2 ^ 63 % 2) 1))

is_left : (width : Width) (a : ℕ) (x : ℤ) (less : ℕ) → IsSigned width a x → suc less < counts width
    → IsShiftedLeft width a x (suc less) (moved Left width a (suc less))
unfolding shifted
is_left width a x less is within = let cut = pos_cut width (a * 2 ^ suc less) (a * 2 ^ suc less) 0 0 refl in record {
  number = cut;
  tells = tells width (moved Left width a (suc less)) cut.below (Decides-eqb _ 0) (decides_negative width _);
  carry = left_carry width a (suc less) within;
  once = λ one. once_shows _ (suc less) _ _ one (left_overflow width a x is);
  more = λ more. more_undefined (suc less) _ more;
}

only_left : (width : Width) (a : ℕ) (x : ℤ) (less : ℕ) (e f : Effect) → IsShiftedLeft width a x (suc less) e
    → IsShiftedLeft width a x (suc less) f → e ≡ f
only_left width a x less e f p q =
    let number = only_cut width _ e.number f.number p.number q.number in
    let told = same_told width e f number p.tells q.tells in
    same_effect e f number told.0 told.1 (same_shown _ _ _ _ (λ is. is) (λ is. is) p.carry q.carry)
    (same_by_count _ (suc less) _ _ (omega arith) p.once p.more q.once q.more)

-- ** to the right

-- the rest by the bit that leaves last
half_rest : (bit power low : ℕ) → bit < 2 → low < power
    → (bit ≡ 1) ↔ (2 * power ≤ (bit * power + low) + (bit * power + low))
half_rest zero power low small below = (λ is. absurd (omega (arith, is)), λ half. absurd (omega (arith, half, below)))
half_rest (suc zero) power low small below = (λ is. omega arith, λ half. refl)
half_rest (suc (suc bit)) power low small below = absurd (omega arith)

double : (less : ℕ) → 2 ^ suc less ≡ 2 * 2 ^ less
double less = omega (arith, pow-suc 2 less)

rest_parts : (a less : ℕ) → a % 2 ^ suc less ≡ (a / 2 ^ less % 2) * 2 ^ less + a % 2 ^ less
rest_parts a less = let e : suc less ≡ 1 + less = omega arith in ap (λ k. a % 2 ^ k) e ∙ mod-pow-add a 1 less

right_out : (a less : ℕ) → (a / 2 ^ less % 2 ≡ 1) ↔ (2 ^ suc less ≤ a % 2 ^ suc less + a % 2 ^ suc less)
right_out a less = subst₂ (λ (whole rest : ℕ). (a / 2 ^ less % 2 ≡ 1) ↔ (whole ≤ rest + rest))
    (sym (double less)) (sym (rest_parts a less))
    (half_rest (a / 2 ^ less % 2) (2 ^ less) (a % 2 ^ less) (bit_at-lt a less) (mod_below a (2 ^ less) (pow_pos less)))

before : (less : ℕ) → suc less - 1 ≡ less
before less = omega arith

right_test : (a less : ℕ) → Decides (a / 2 ^ (suc less - 1) % 2 == 1)
    (2 ^ suc less ≤ a % 2 ^ suc less + a % 2 ^ suc less)
right_test a less = subst (λ (k : ℕ). Decides (a / 2 ^ k % 2 == 1) (2 ^ suc less ≤ a % 2 ^ suc less + a % 2 ^ suc less))
    (sym (before less))
    (Decides-like _ (right_out a less).0 (right_out a less).1 (Decides-eqb (a / 2 ^ less % 2) 1))

right_carry : (width : Width) (a less : ℕ)
    → Decides (bit_out Right width a (suc less)) (2 ^ suc less ≤ a % 2 ^ suc less + a % 2 ^ suc less)
unfolding bit_out
right_carry width a less = right_test a less

signed_carry : (width : Width) (a less : ℕ)
    → Decides (bit_out RightSigned width a (suc less)) (2 ^ suc less ≤ a % 2 ^ suc less + a % 2 ^ suc less)
unfolding bit_out
signed_carry width a less = right_test a less

right_overflow : (width : Width) (a : ℕ) (x : ℤ) → IsSigned width a x → Decides (shift_overflows Right width a)
    (x <ℤ pos 0)
unfolding shift_overflows
right_overflow width a x is = decides_negative width a x is

is_right : (width : Width) (a : ℕ) (x : ℤ) (less : ℕ) → IsSigned width a x
    → IsShiftedRight width a x (suc less) (moved Right width a (suc less))
unfolding shifted
is_right width a x less is = record {
  rest = a % 2 ^ suc less;
  small = mod_below a (2 ^ suc less) (pow_pos (suc less));
  number = shr_split a (suc less);
  tells = tells width (moved Right width a (suc less)) (omega (arith, shr_le a (suc less), is.below))
      (Decides-eqb _ 0) (decides_negative width _);
  carry = right_carry width a less;
  once = λ one. once_shows _ (suc less) _ _ one (right_overflow width a x is);
  more = λ more. more_undefined (suc less) _ more;
}

only_right : (width : Width) (a : ℕ) (x : ℤ) (less : ℕ) (e f : Effect) → IsShiftedRight width a x (suc less) e
    → IsShiftedRight width a x (suc less) f → e ≡ f
only_right width a x less e f p q =
    let parts = same_from_place e.number p.rest f.number q.rest (2 ^ suc less) p.small q.small
    (p.number ∙ sym q.number) in
    let told = same_told width e f parts.0 p.tells q.tells in
    let rest = parts.1 in
    same_effect e f parts.0 told.0 told.1
    (same_shown _ _ _ _ (subst (λ (r : ℕ). 2 ^ suc less ≤ r + r) rest)
    (subst (λ (r : ℕ). 2 ^ suc less ≤ r + r) (sym rest)) p.carry q.carry)
    (same_by_count _ (suc less) _ _ (omega arith) p.once p.more q.once q.more)

-- ** to the right, signed

-- a negative product
negative_product : (a power : ℕ) → (negsuc a *ℤ pos power) +ℤ pos (a * power + power) ≡ pos 0
negative_product a power = rw (negsuc-*ℤ-pos a power, suc-mul a power) (cancels (a * power + power))
  where
    cancels : (n : ℕ) → neg_ℤ (pos n) +ℤ pos n ≡ pos 0
    cancels zero = refl
    cancels (suc n) = omega (arith, ints)

-- a division that leaves a rest has one result
one_floor : (power : ℕ) (p q : ℤ) (r s : ℕ) → r < power → s < power → p *ℤ pos power +ℤ pos r ≡ q *ℤ pos power +ℤ pos s
    → (p ≡ q) × (r ≡ s)
one_floor power (pos a) (pos b) r s small small' same =
    let parts = same_from_place a r b s power small small'
    (omega (arith, ints, same, pos-*ℤ-pos a power, pos-*ℤ-pos b power)) in
    (ap pos parts.0, parts.1)
one_floor power (pos a) (negsuc b) r s small small' same =
    absurd (omega (arith, ints, same, pos-*ℤ-pos a power, negative_product b power, small'))
one_floor power (negsuc a) (pos b) r s small small' same =
    absurd (omega (arith, ints, same, pos-*ℤ-pos b power, negative_product a power, small))
one_floor power (negsuc a) (negsuc b) r s small small' same =
    let parts = same_from_place a (power - 1 - r) b (power - 1 - s) power (omega arith) (omega arith)
    (omega (arith, ints, same, negative_product a power, negative_product b power, small, small')) in
    (ap negsuc parts.0, omega (arith, parts.1, small, small'))

-- the word of an integer
one_word : (width : Width) (v w : ℕ) (x : ℤ) → IsSigned width v x → IsSigned width w x → v ≡ w
one_word Long v w x p q = omega (arith, ints, p.same, p.below, q.same, q.below, p.least, p.greatest)
one_word Quad v w x p q = omega (arith, ints, p.same, p.below, q.same, q.below, p.least, p.greatest)

only_right_signed : (width : Width) (a : ℕ) (x : ℤ) (less : ℕ) (e f : Effect) → IsShiftedSigned width a x (suc less) e
    → IsShiftedSigned width a x (suc less) f → e ≡ f
only_right_signed width a x less e f p q =
    let parts = one_floor (2 ^ suc less) p.tells.result q.tells.result p.rest q.rest p.small q.small
    (p.number ∙ sym q.number) in
    let number = one_word width e.number f.number q.tells.result
    (subst (λ (z : ℤ). IsSigned width e.number z) parts.0 p.tells.signed) q.tells.signed in
    let told = same_told width e f number p.tells q.tells in
    same_effect e f number told.0 told.1
    (same_shown _ _ _ _ (subst (λ (r : ℕ). 2 ^ suc less ≤ r + r) parts.1)
    (subst (λ (r : ℕ). 2 ^ suc less ≤ r + r) (sym parts.1)) p.carry q.carry)
    (same_by_count _ (suc less) _ _ (omega arith) p.once p.more q.once q.more)

-- what the result is: a word, as a signed integer whose product with the power and whose rest give x
record IsFloor (width : Width) (a : ℕ) (x : ℤ) (count : ℕ) (word : ℕ) : Type 0 where
  result : ℤ
  signed : IsSigned width word result
  number : result *ℤ pos (2 ^ count) +ℤ pos (a % 2 ^ count) ≡ x

upward_floor : (width : Width) (a count : ℕ) → a < half width → IsFloor width a (pos a) count (a / 2 ^ count)
upward_floor width a count low = record {
  result = pos (a / 2 ^ count);
  signed = low_half width (a / 2 ^ count) (omega (arith, shr_le a count));
  number = ap (λ (z : ℤ). z +ℤ pos (a % 2 ^ count)) (pos-*ℤ-pos (a / 2 ^ count) (2 ^ count)) ∙ ap pos
      (shr_split a count);
}

downward_signed : (width : Width) (word n : ℕ) → word + suc n ≡ words width → suc n ≤ half width
    → IsSigned width word (negsuc n)
downward_signed Long word n is small =
    record {
      below = omega arith;
      same = inr (omega (arith, ints));
      least = omega (arith, ints);
      greatest = omega
          (arith, ints);
    }
downward_signed Quad word n is small =
    record {
      below = omega arith;
      same = inr (omega (arith, ints));
      least = omega (arith, ints);
      greatest = omega
          (arith, ints);
    }

-- q is the quotient of a by the power, and there are `whole` powers in all
downward_number : (q m power whole rest a n all : ℕ) → suc m + q ≡ whole → whole * power ≡ all → q * power + rest ≡ a
    → a + suc n ≡ all → negsuc m *ℤ pos power +ℤ pos rest ≡ negsuc n
downward_number q m power whole rest a n all parts is split negative =
    let sums : suc m * power + q * power ≡ all = sym (add-mul (suc m) q power) ∙ ap (λ k. k * power) parts ∙ is in
    omega (arith, ints, negative_product m power, sums, suc-mul m power, split, negative)

-- a sign that is shifted in
downward_floor : (width : Width) (bits : ℕ) (a less n : ℕ) → words width ≡ 2 ^ bits → suc less < bits
    → 2 ^ (bits - suc less) ≤ half width → a + suc n ≡ words width → suc n ≤ half width
    → IsFloor width a (negsuc n) (suc less)
    (a / 2 ^ suc less + (words width - 1 - (words width - 1) / 2 ^ suc less))
downward_floor width bits a less n all within small negative size =
    let count = suc less in
    let whole = 2 ^ (bits - count) in
    let parts : bits - count + count ≡ bits = omega arith in
    let power : whole * 2 ^ count ≡ words width = sym (pow-add 2 (bits - count) count) ∙ ap (λ k. 2 ^ k) parts ∙ sym
    all in
    let below : a / 2 ^ count < whole = shr_below a (bits - count) count (subst (λ (k : ℕ). a < 2 ^ k) (sym parts)
    (subst (λ (k : ℕ). a < k) all (omega (arith, negative)))) in
    let ones : (words width - 1) / 2 ^ count ≡ whole - 1 = ap (λ k. (k - 1) / 2 ^ count) all ∙ ones_shr bits count
    (omega arith) in
    let m = whole - a / 2 ^ count - 1 in
    let split = shr_split a count in
    let number : (a / 2 ^ count + (words width - 1 - (words width - 1) / 2 ^ count)) + suc m ≡ words width =
    omega (arith, ones, below, small, negative, size) in
    record {
      result = negsuc m;
      signed = downward_signed width _ m number (omega (arith, below, small));
      number = downward_number (a / 2 ^ count) m (2 ^ count) whole (a % 2 ^ count) a n (words width)
          (omega (arith, below)) power split negative;
    }

floor_at : (width : Width) (a less : ℕ) {x : ℤ} → Signed width a x → suc less < counts width
    → IsFloor width a x (suc less) (shifted RightSigned width a (suc less))
unfolding shifted
floor_at Long a less (Upward low) within = subst (λ (t : Bool). IsFloor Long a (pos a) (suc less)
    (if t then a / 2 ^ suc less + (span_of Long - 1 - (span_of Long - 1) / 2 ^ suc less) else a / 2 ^ suc less))
    (sym (lt-leb (half_of Long) a low)) (upward_floor Long a (suc less) low)
floor_at Long a less (Downward n is size) within = subst (λ (t : Bool). IsFloor Long a (negsuc n) (suc less)
    (if t then a / 2 ^ suc less + (span_of Long - 1 - (span_of Long - 1) / 2 ^ suc less) else a / 2 ^ suc less))
    (sym (le-leb (half_of Long) a (omega (arith, is, size))))
    (downward_floor Long 32 a less n refl within (pow_mono {j = 31} (omega arith)) is size)
floor_at Quad a less (Upward low) within = subst (λ (t : Bool). IsFloor Quad a (pos a) (suc less)
    (if t then a / 2 ^ suc less + (span_of Quad - 1 - (span_of Quad - 1) / 2 ^ suc less) else a / 2 ^ suc less))
    (sym (lt-leb (half_of Quad) a low)) (upward_floor Quad a (suc less) low)
floor_at Quad a less (Downward n is size) within = subst (λ (t : Bool). IsFloor Quad a (negsuc n) (suc less)
    (if t then a / 2 ^ suc less + (span_of Quad - 1 - (span_of Quad - 1) / 2 ^ suc less) else a / 2 ^ suc less))
    (sym (le-leb (half_of Quad) a (omega (arith, is, size))))
    (downward_floor Quad 64 a less n refl within (pow_mono {j = 63} (omega arith)) is size)

signed_overflow : (width : Width) (a : ℕ) → Decides (shift_overflows RightSigned width a) ⊥
unfolding shift_overflows
signed_overflow width a = (λ is. cc, λ never. absurd never)

is_right_signed : (width : Width) (a : ℕ) (x : ℤ) (less : ℕ) → IsFloor width a x (suc less)
    (shifted RightSigned width a (suc less))
    → IsShiftedSigned width a x (suc less) (moved RightSigned width a (suc less))
is_right_signed width a x less floor = record {
  rest = a % 2 ^ suc less;
  small = mod_below a (2 ^ suc less) (pow_pos (suc less));
  tells = record {
    result = floor.result;
    signed = floor.signed;
    zero = Decides-eqb _ 0;
    sign = decides_negative width _ floor.result floor.signed;
  };
  number = floor.number;
  carry = signed_carry width a less;
  once = λ one. once_shows _ (suc less) _ _ one (signed_overflow width a);
  more = λ more. more_undefined (suc less) _ more;
}

-- ** a count of 0

is_untouched : (shift : Shift) (width : Width) (a : ℕ) → IsUntouched a (shift_effect shift width a 0)
unfolding shift_effect
is_untouched shift width a = record { number = refl; zero = tt; sign = tt; carry = tt; overflow = tt }

only_untouched : (a : ℕ) (e f : Effect) → IsUntouched a e → IsUntouched a f → e ≡ f
only_untouched a e f p q = same_effect e f (p.number ∙ sym q.number) (same_kept _ _ p.zero q.zero)
    (same_kept _ _ p.sign q.sign) (same_kept _ _ p.carry q.carry) (same_kept _ _ p.overflow q.overflow)

-- ** the law

is_shifted : (shift : Shift) (width : Width) (a : ℕ) (x : ℤ) (count : ℕ) → IsSigned width a x → count < counts width
    → Shifts shift width a x count (shift_effect shift width a count)
is_shifted shift width a x zero is within = is_untouched shift width a
is_shifted Left width a x (suc less) is within =
    subst (IsShiftedLeft width a x (suc less)) (sym (moved_is Left width a less)) (is_left width a x less is within)
is_shifted Right width a x (suc less) is within =
    subst (IsShiftedRight width a x (suc less)) (sym (moved_is Right width a less)) (is_right width a x less is)
is_shifted RightSigned width a x (suc less) is within =
    subst (IsShiftedSigned width a x (suc less)) (sym (moved_is RightSigned width a less))
    (is_right_signed width a x less (floor_at width a less (by_sign width a x is) within))

only_shifted : (shift : Shift) (width : Width) (a : ℕ) (x : ℤ) (count : ℕ) (e f : Effect) → Shifts shift width a x
    count e
    → Shifts shift width a x count f → e ≡ f
only_shifted shift width a x zero e f p q = only_untouched a e f p q
only_shifted Left width a x (suc less) e f p q = only_left width a x less e f p q
only_shifted Right width a x (suc less) e f p q = only_right width a x less e f p q
only_shifted RightSigned width a x (suc less) e f p q = only_right_signed width a x less e f p q

pub shifts : (shift : Shift) (width : Width) (a : ℕ) (x : ℤ) (count : ℕ) → IsSigned width a x → count < counts width
    → (effect : Effect) → (shift_effect shift width a count ≡ effect) ↔ Shifts shift width a x count effect
shifts shift width a x count p within effect = let here = is_shifted shift width a x count p within in
    (λ is. subst (Shifts shift width a x count) is here, only_shifted shift width a x count _ effect here)
