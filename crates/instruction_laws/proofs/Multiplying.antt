-- Products have the manual's properties, and nothing else has them.
use Rattle.std.proofs.Common.{◌≡◌, ◌↔◌, inl, inr, ℕ, zero, suc, ◌+◌, ◌-◌, ◌*◌, ◌/◌, ◌%◌, ◌<◌, ◌≤◌, not, ℤ, pos, negsuc}
use Rattle.std.proofs.Common.{neg_ℤ, ◌*ℤ◌, Bool, true, false, cond, refl, ap, sym, subst, subst₂, arith, ◌∙◌, mul_comm}
use Rattle.std.proofs.Common.{mul-add}
use Rattle.std.specs.Prelude.{◌+ℤ◌, nat_le, nat_lt, if◌then◌else◌}
use Rattle.std.specs.Bool.{Decides}
use Rattle.std.proofs.lemmas.Bool.{le-leb, lt-leb}
use Rattle.std.proofs.lemmas.Bool.Decides.{Decides-ltb, Decides-like, Decides-not}
use Rattle.std.proofs.lemmas.Int.{ints}
use lib.IntN.{pos-*ℤ-pos, pos-*ℤ-negsuc, negsuc-*ℤ-pos, negsuc-*ℤ-negsuc}
use Rattle.amd64_subset.specs.declared.instr.Width.{Width}
use Rattle.amd64_subset.specs.declared.instr.Width.TheVariants.{Long, Quad}
use Rattle.guest_arithmetic.specs.declared.effect.Effect.{Effect}
use Rattle.guest_arithmetic.specs.Arithmetic.{span_of, half_of, is_negative, differ, magnitude, product_fits}
use Rattle.guest_arithmetic.specs.Arithmetic.{product_effect}
use Rattle.instruction_laws.specs.Words.{words, half, IsOutside, IsSigned, IsCut}
use Rattle.instruction_laws.specs.Results.{IsProduct}
use Rattle.instruction_laws.proofs.Words.{only_cut, same_shown, same_undefined, same_effect}
use Rattle.instruction_laws.proofs.Computing.{decides_le}

-- ** a word by its sign

-- a word of the lower half, or of the upper one
pub data Signed (width : Width) (word : ℕ) : ℤ → Type 0 where
  Upward : word < half width → Signed width word (pos word)
  Downward : (n : ℕ) → word + suc n ≡ words width → suc n ≤ half width → Signed width word (negsuc n)

pub by_sign : (width : Width) (word : ℕ) (x : ℤ) → IsSigned width word x → Signed width word x
by_sign Long word (pos n) is = let e : n ≡ word = omega (arith, ints, is.same, is.greatest, is.below) in
    subst (λ (n : ℕ). Signed Long word (pos n)) (sym e) (Upward (omega (arith, ints, e, is.greatest)))
by_sign Long word (negsuc n) is = Downward n (omega (arith, ints, is.same)) (omega (arith, ints, is.least))
by_sign Quad word (pos n) is = let e : n ≡ word = omega (arith, ints, is.same, is.greatest, is.below) in
    subst (λ (n : ℕ). Signed Quad word (pos n)) (sym e) (Upward (omega (arith, ints, e, is.greatest)))
by_sign Quad word (negsuc n) is = Downward n (omega (arith, ints, is.same)) (omega (arith, ints, is.least))

-- ** the product, cut

pub cut_of : (width : Width) (n : ℕ) (x : ℤ) (more less : ℕ)
    → x +ℤ pos (more * words width) ≡ pos (n + less * words width)
    → IsCut width (n % span_of width) x
cut_of Long n x more less same =
    record { below = omega arith; more = more; less = less + n / 4294967296; same = omega (arith, ints, same) }
cut_of Quad n x more less same =
    record {
      below = omega arith;
      more = more;
      less = less + n / 18446744073709551616;
      same = omega
          (arith, ints, same);
    }

-- the parts of a product
rest_of : (a b c whole : ℕ) → b + c ≡ whole → a * b + a * c ≡ a * whole
rest_of a b c whole is = sym (mul-add a b c) ∙ ap (λ n. a * n) is

-- of a number, and of one that is negative
pub pos_cut : (width : Width) (n s : ℕ) (more less : ℕ) → s + more * words width ≡ n + less * words width
    → IsCut width (n % span_of width) (pos s)
pos_cut Long n s more less same = cut_of Long n (pos s) more less (omega (arith, ints, same))
pos_cut Quad n s more less same = cut_of Quad n (pos s) more less (omega (arith, ints, same))

neg_cut : (width : Width) (n s more : ℕ) → n + s ≡ more * words width → IsCut width (n % span_of width) (neg_ℤ (pos s))
neg_cut Long n zero more same = cut_of Long n (pos 0) more 0 (omega (arith, ints, same))
neg_cut Long n (suc s) more same = cut_of Long n (negsuc s) more 0 (omega (arith, ints, same))
neg_cut Quad n zero more same = cut_of Quad n (pos 0) more 0 (omega (arith, ints, same))
neg_cut Quad n (suc s) more same = cut_of Quad n (negsuc s) more 0 (omega (arith, ints, same))

product_cut : (width : Width) (a b : ℕ) {x y : ℤ} → Signed width a x → Signed width b y
    → IsCut width (a * b % span_of width) (x *ℤ y)
product_cut width a b (Upward p) (Upward q) =
    subst (IsCut width (a * b % span_of width)) (sym (pos-*ℤ-pos a b)) (pos_cut width (a * b) (a * b) 0 0 refl)
product_cut width a b (Upward p) (Downward n q r) =
    subst (IsCut width (a * b % span_of width)) (sym (pos-*ℤ-negsuc a n))
    (neg_cut width (a * b) (a * suc n) a (rest_of a b (suc n) (words width) q))
product_cut width a b (Downward m p r) (Upward q) =
    subst (IsCut width (a * b % span_of width)) (sym (negsuc-*ℤ-pos m b))
    (neg_cut width (a * b) (suc m * b) b
    (omega (arith, rest_of b a (suc m) (words width) p, mul_comm a b, mul_comm (suc m) b)))
product_cut width a b (Downward m p r) (Downward n q s) =
    subst (IsCut width (a * b % span_of width)) (sym (negsuc-*ℤ-negsuc m n))
    (pos_cut width (a * b) (suc m * suc n) a (suc n)
    (omega (
      arith,
      rest_of a b (suc n) (words width) q,
      rest_of (suc n) a (suc m) (words width) p,
      mul_comm a (suc n),
      mul_comm (suc m) (suc n),
    )))

-- ** whether it was cut

-- a word's sign and size
record HasSize (width : Width) (word : ℕ) (sign : Bool) (size : ℕ) : Type 0 where
  negative : is_negative width word ≡ sign
  value : magnitude width word ≡ size

sized : (width : Width) (word size : ℕ) (sign : Bool) → is_negative width word ≡ sign
    → cond sign (span_of width - word) word ≡ size → HasSize width word sign size
sized width word size sign negative value = record {
  negative = negative;
  value = ap (λ s. cond s (span_of width - word) word) negative ∙ value;
}

upward_size : (width : Width) (word : ℕ) → word < half width → HasSize width word false word
upward_size Long word low = sized Long word word false (lt-leb (half_of Long) word low) refl
upward_size Quad word low = sized Quad word word false (lt-leb (half_of Quad) word low) refl

downward_size : (width : Width) (word n : ℕ) → word + suc n ≡ words width → suc n ≤ half width
    → HasSize width word true (suc n)
downward_size Long word n is small =
    sized Long word (suc n) true (le-leb (half_of Long) word (omega (arith, is, small))) (omega (arith, is))
downward_size Quad word n is small =
    sized Quad word (suc n) true (le-leb (half_of Quad) word (omega (arith, is, small))) (omega (arith, is))

fits_is : (width : Width) (a b : ℕ) (s t : Bool) (m n : ℕ) → HasSize width a s m → HasSize width b t n
    → product_fits width a b
    ≡ (if differ s t then nat_le (m * n) (half_of width) else nat_lt (m * n) (half_of width))
unfolding product_fits
fits_is width a b s t m n p q = λ i.
    if differ (p.negative i) (q.negative i)
    then nat_le (p.value i * q.value i) (half_of width)
    else nat_lt (p.value i * q.value i) (half_of width)

-- a product of this size, upward or downward, does not fit
above_half : (width : Width) (n : ℕ) → Decides (not (nat_lt n (half_of width))) (IsOutside width (pos n))
above_half Long n = Decides-like _ (λ no. inr (omega (arith, ints, no))) (λ outside. omega (arith, ints, outside))
    (Decides-not _ (Decides-ltb n (half_of Long)))
above_half Quad n = Decides-like _ (λ no. inr (omega (arith, ints, no))) (λ outside. omega (arith, ints, outside))
    (Decides-not _ (Decides-ltb n (half_of Quad)))

below_half : (width : Width) (n : ℕ) → Decides (not (nat_le n (half_of width))) (IsOutside width (neg_ℤ (pos n)))
below_half Long zero = Decides-like _ (λ no. absurd (no (omega arith))) (λ outside. omega (arith, ints, outside))
    (Decides-not _ (decides_le 0 (half_of Long)))
below_half Long (suc n) = Decides-like _ (λ no. inl (omega (arith, ints, no))) (λ outside. omega (arith, ints, outside))
    (Decides-not _ (decides_le (suc n) (half_of Long)))
below_half Quad zero = Decides-like _ (λ no. absurd (no (omega arith))) (λ outside. omega (arith, ints, outside))
    (Decides-not _ (decides_le 0 (half_of Quad)))
below_half Quad (suc n) = Decides-like _ (λ no. inl (omega (arith, ints, no))) (λ outside. omega (arith, ints, outside))
    (Decides-not _ (decides_le (suc n) (half_of Quad)))

-- by another name of the test and of the product
moved : (width : Width) (test other : Bool) (x y : ℤ) → test ≡ other → x ≡ y → Decides (not other) (IsOutside width y)
    → Decides (not test) (IsOutside width x)
moved width test other x y same is decides =
    subst₂ (λ (t : Bool) (x : ℤ). Decides (not t) (IsOutside width x)) (sym same) (sym is) decides

product_outside : (width : Width) (a b : ℕ) {x y : ℤ} → Signed width a x → Signed width b y
    → Decides (not (product_fits width a b)) (IsOutside width (x *ℤ y))
product_outside width a b (Upward p) (Upward q) =
    moved width _ _ _ _ (fits_is width a b false false a b (upward_size width a p) (upward_size width b q))
    (pos-*ℤ-pos a b) (above_half width (a * b))
product_outside width a b (Upward p) (Downward n q r) =
    moved width _ _ _ _ (fits_is width a b false true a (suc n) (upward_size width a p) (downward_size width b n q r))
    (pos-*ℤ-negsuc a n) (below_half width (a * suc n))
product_outside width a b (Downward m p r) (Upward q) =
    moved width _ _ _ _ (fits_is width a b true false (suc m) b (downward_size width a m p r) (upward_size width b q))
    (negsuc-*ℤ-pos m b) (below_half width (suc m * b))
product_outside width a b (Downward m p r) (Downward n q s) =
    moved width _ _ _ _ (fits_is width a b true true (suc m) (suc n) (downward_size width a m p r)
    (downward_size width b n q s))
    (negsuc-*ℤ-negsuc m n) (above_half width (suc m * suc n))

-- ** the law

is_product : (width : Width) (a b : ℕ) (x y : ℤ) → Signed width a x → Signed width b y
    → IsProduct width x y (product_effect width a b)
unfolding product_effect
is_product width a b x y p q = record {
  number = product_cut width a b p q;
  zero = tt;
  sign = tt;
  carry = product_outside width a b p q;
  overflow = product_outside width a b p q;
}

only_product : (width : Width) (x y : ℤ) (e f : Effect) → IsProduct width x y e → IsProduct width x y f → e ≡ f
only_product width x y e f p q =
    same_effect e f (only_cut width (x *ℤ y) e.number f.number p.number q.number)
    (same_undefined _ _ p.zero q.zero) (same_undefined _ _ p.sign q.sign)
    (same_shown _ _ _ _ (λ is. is) (λ is. is) p.carry q.carry)
    (same_shown _ _ _ _ (λ is. is) (λ is. is) p.overflow q.overflow)

pub multiplies : (width : Width) (a b : ℕ) (x y : ℤ) → IsSigned width a x → IsSigned width b y
    → (effect : Effect) → (product_effect width a b ≡ effect) ↔ IsProduct width x y effect
multiplies width a b x y p q effect = let here = is_product width a b x y (by_sign width a x p) (by_sign width b y q) in
    (λ is. subst (IsProduct width x y) is here, only_product width x y _ effect here)
