-- Flags and conditions.
use Rattle.std.proofs.Common.{◌≡◌, ◌↔◌, ◌⊎◌, inl, inr, ℕ, ◌+◌, ◌-◌, ◌%◌, ◌<◌, ◌≤◌, ◌||◌, not, ℤ, pos, Bool, true, false}
use Rattle.std.proofs.Common.{Ok, refl, ap, sym, subst, ⊎_elim, arith, ◌∙◌}
use Rattle.std.specs.Prelude.{◌≢◌, ◌+ℤ◌, ◌-ℤ◌, ◌≤ℤ◌, ◌<ℤ◌}
use Rattle.std.specs.Bool.{Decides}
use Rattle.std.proofs.lemmas.Bool.{false≢true, cases_lt}
use Rattle.std.proofs.lemmas.Bool.Decides.{Decides-eqb, Decides-ltb, Decides-like, Decides-not, Decides-or}
use Rattle.std.proofs.lemmas.Bool.Decides.{same_from_decides}
use Rattle.std.proofs.lemmas.Int.{ints, by_lt_z}
use Rattle.amd64_subset.specs.declared.instr.Arithmetic.TheVariants.{Compare}
use Rattle.amd64_subset.specs.declared.instr.Condition.{Condition}
use Rattle.amd64_subset.specs.declared.instr.Condition.TheVariants.{Overflow, NotOverflow, Below, NotBelow, Equal}
use Rattle.amd64_subset.specs.declared.instr.Condition.TheVariants.{NotEqual, BelowOrEqual, Above, Sign, NotSign, Less}
use Rattle.amd64_subset.specs.declared.instr.Condition.TheVariants.{NotLess, LessOrEqual, Greater}
use Rattle.amd64_subset.specs.declared.instr.Width.{Width}
use Rattle.amd64_subset.specs.declared.instr.Width.TheVariants.{Long, Quad}
use Rattle.guest_arithmetic.specs.declared.effect.Change.{Change}
use Rattle.guest_arithmetic.specs.declared.effect.Change.TheVariants.{Set, Unsettled, Kept}
use Rattle.guest_arithmetic.specs.declared.effect.Changes.{Changes}
use Rattle.guest_arithmetic.specs.declared.flags.Flags.{Flags}
use Rattle.guest_arithmetic.specs.Arithmetic.{differ, span_of, difference_effect, compute_effect}
use Rattle.guest_arithmetic.specs.Flags.{changed, with_changes, condition_of, is_less, is_less_or_equal}
use Rattle.guest_arithmetic.specs.Flags.{is_below_or_equal}
use Rattle.guest_arithmetic.specs.Plain.{plain_operations}
use Rattle.instruction_laws.specs.Words.{half, IsTooSmall, IsTooLarge, IsOutside, IsSigned, IsCut}
use Rattle.instruction_laws.specs.Results.{One}
use Rattle.instruction_laws.specs.Conditions.{Becomes, Become, Compares, Holds, IsTaken}
use Rattle.instruction_laws.proofs.Words.{signed_of}
use Rattle.instruction_laws.proofs.Computing.{decides_negative, difference_cut, difference_outside}
use Rattle.instruction_laws.proofs.Shifting.{decides_differ}

-- ** flags

becomes : (change : Change) (flag : Bool) → Becomes change flag (changed plain_operations change flag)
unfolding plain_operations
becomes (Set truth) flag = refl
becomes Unsettled flag = refl
becomes Kept flag = refl

only_becomes : (change : Change) (before one other : Bool) → Becomes change before one → Becomes change before other
    → one ≡ other
only_becomes (Set truth) before one other p q = cc
only_becomes Unsettled before one other p q = cc
only_becomes Kept before one other p q = cc

become : (changes : Changes) (flags : Flags Bool) → Become changes flags (with_changes plain_operations changes flags)
unfolding with_changes
become changes flags = record {
  zero = becomes changes.zero flags.zero;
  sign = becomes changes.sign flags.sign;
  carry = becomes changes.carry flags.carry;
  overflow = becomes changes.overflow flags.overflow;
}

only_become : (changes : Changes) (before one other : Flags Bool) → Become changes before one → Become changes before
    other
    → one ≡ other
only_become changes before one other p q = λ i. record {
  zero = only_becomes changes.zero before.zero one.zero other.zero p.zero q.zero i;
  sign = only_becomes changes.sign before.sign one.sign other.sign p.sign q.sign i;
  carry = only_becomes changes.carry before.carry one.carry other.carry p.carry q.carry i;
  overflow = only_becomes changes.overflow before.overflow one.overflow other.overflow p.overflow q.overflow i;
}

pub change : (changes : Changes) (before after : Flags Bool)
    → (with_changes plain_operations changes before ≡ after) ↔ Become changes before after
change changes before after = let here = become changes before in
    (λ is. subst (Become changes before) is here, only_become changes before _ after here)

-- ** conditions

-- a condition is this test of the flags, and the test decides P
taken_by : (condition : Condition) (flags : Flags Bool) (test : Bool) (P : Type 0)
    → condition_of plain_operations condition flags ≡ Ok test → Decides test P → IsTaken condition flags P
taken_by condition flags test P is decides truth = (
  λ same. let e : test ≡ truth = cc in subst (λ (t : Bool). Decides t P) e decides,
  λ other. is ∙ ap Ok (same_from_decides {P = P} test truth decides other),
)

abbrev pub test_of : Condition → Flags Bool → Bool
test_of Overflow flags = flags.overflow
test_of NotOverflow flags = not flags.overflow
test_of Below flags = flags.carry
test_of NotBelow flags = not flags.carry
test_of Equal flags = flags.zero
test_of NotEqual flags = not flags.zero
test_of BelowOrEqual flags = flags.carry || flags.zero
test_of Above flags = not (flags.carry || flags.zero)
test_of Sign flags = flags.sign
test_of NotSign flags = not flags.sign
test_of Less flags = differ flags.sign flags.overflow
test_of NotLess flags = not (differ flags.sign flags.overflow)
test_of LessOrEqual flags = flags.zero || differ flags.sign flags.overflow
test_of Greater flags = not (flags.zero || differ flags.sign flags.overflow)

pub tested : (condition : Condition) (flags : Flags Bool) → condition_of plain_operations condition flags ≡ Ok
    (test_of condition flags)
unfolding condition_of is_less is_less_or_equal is_below_or_equal plain_operations
tested Overflow flags = refl
tested NotOverflow flags = refl
tested Below flags = refl
tested NotBelow flags = refl
tested Equal flags = refl
tested NotEqual flags = refl
tested BelowOrEqual flags = refl
tested Above flags = refl
tested Sign flags = refl
tested NotSign flags = refl
tested Less flags = refl
tested NotLess flags = refl
tested LessOrEqual flags = refl
tested Greater flags = refl

-- a test that decides this decides that too
decides_true : (b : Bool) → Decides b (b ≡ true)
decides_true b = (λ is. is, λ is. is)

decides_false : (b : Bool) → Decides (not b) (b ≡ false)
decides_false true = (λ is. absurd (false≢true is), λ is. absurd (false≢true (sym is)))
decides_false false = (λ is. refl, λ is. refl)

decides_unlike : (s t : Bool) → Decides (differ s t) (s ≢ t)
decides_unlike true true = (λ is. absurd (false≢true is), λ unlike. absurd (unlike refl))
decides_unlike true false = (λ is same. false≢true (sym same), λ unlike. refl)
decides_unlike false true = (λ is same. false≢true same, λ unlike. refl)
decides_unlike false false = (λ is. absurd (false≢true is), λ unlike. absurd (unlike refl))

decides_alike : (s t : Bool) → Decides (not (differ s t)) (s ≡ t)
decides_alike true true = (λ is. refl, λ same. refl)
decides_alike true false = (λ is. absurd (false≢true is), λ same. absurd (false≢true (sym same)))
decides_alike false true = (λ is. absurd (false≢true is), λ same. absurd (false≢true same))
decides_alike false false = (λ is. refl, λ same. refl)

-- neither of two
decides_neither : (s t : Bool) (P Q : Type 0) → Decides (not s) P → Decides (not t) Q → Decides (not (s || t)) (P × Q)
decides_neither true t P Q p q = (λ is. absurd (false≢true is), λ both. absurd (false≢true (p.1 both.0)))
decides_neither false t P Q p q = (λ is. (p.0 refl, q.0 is), λ both. q.1 both.1)

pub holds : (condition : Condition) (flags : Flags Bool) → Decides (test_of condition flags) (Holds condition flags)
holds Overflow flags = decides_true flags.overflow
holds NotOverflow flags = decides_false flags.overflow
holds Below flags = decides_true flags.carry
holds NotBelow flags = decides_false flags.carry
holds Equal flags = decides_true flags.zero
holds NotEqual flags = decides_false flags.zero
holds BelowOrEqual flags = Decides-or _ _ (decides_true flags.carry) (decides_true flags.zero)
holds Above flags = decides_neither _ _ _ _ (decides_false flags.carry) (decides_false flags.zero)
holds Sign flags = decides_true flags.sign
holds NotSign flags = decides_false flags.sign
holds Less flags = decides_unlike flags.sign flags.overflow
holds NotLess flags = decides_alike flags.sign flags.overflow
holds LessOrEqual flags = Decides-or _ _ (decides_true flags.zero) (decides_unlike flags.sign flags.overflow)
holds Greater flags = decides_neither _ _ _ _ (decides_false flags.zero) (decides_alike flags.sign flags.overflow)

pub conditions : (condition : Condition) (flags : Flags Bool) → IsTaken condition flags (Holds condition flags)
conditions condition flags =
    taken_by condition flags (test_of condition flags) (Holds condition flags) (tested condition flags)
    (holds condition flags)

-- ** after a comparison

not_less : (x y : ℤ) → (x <ℤ y → ⊥) → y ≤ℤ x
not_less x y never = by_lt_z x y (λ low. absurd (never low)) (λ high. high)

not_at_most : (x y : ℤ) → (x ≤ℤ y → ⊥) → y <ℤ x
not_at_most x y never = by_lt_z y x (λ low. low) (λ high. absurd (never high))

record HasCompared (width : Width) (a b : ℕ) (x y : ℤ) (flags : Flags Bool) : Type 0 where
  left : IsSigned width a x
  right : IsSigned width b y
  zero : Decides flags.zero (a ≡ b)
  carry : Decides flags.carry (a < b)
  overflow : Decides flags.overflow (IsOutside width (x -ℤ y))
  less : Decides (differ flags.sign flags.overflow) (x <ℤ y)
  sign : Decides flags.sign (One (x <ℤ y) (IsOutside width (x -ℤ y)))

same_words : (width : Width) (a b : ℕ) (x y : ℤ) → IsSigned width a x → IsSigned width b y → (a ≡ b) ↔ (x ≡ y)
same_words Long a b x y p q = (
  λ is. omega (arith, ints, is, p.same, p.least, p.greatest, q.same, q.least, q.greatest),
  λ is. omega (arith, ints, is, p.same, p.below, q.same, q.below),
)
same_words Quad a b x y p q = (
  λ is. omega (arith, ints, is, p.same, p.least, p.greatest, q.same, q.least, q.greatest),
  λ is. omega (arith, ints, is, p.same, p.below, q.same, q.below),
)

is_at_most : (width : Width) (a b : ℕ) (x y : ℤ) (flags : Flags Bool) → HasCompared width a b x y flags
    → Decides (flags.carry || flags.zero) (a ≤ b)
is_at_most width a b x y flags it = Decides-like _
    (λ either. ⊎_elim (λ low. omega arith) (λ same. omega arith) either)
    (λ is. ⊎_elim (λ low. inl low) (λ high. inr (omega arith)) (cases_lt a b))
    (Decides-or _ _ it.carry it.zero)

is_signed_at_most : (width : Width) (a b : ℕ) (x y : ℤ) (flags : Flags Bool) → HasCompared width a b x y flags
    → Decides (flags.zero || differ flags.sign flags.overflow) (x ≤ℤ y)
is_signed_at_most width a b x y flags it = let same = same_words width a b x y it.left it.right in Decides-like _
    (λ either. ⊎_elim (λ is. omega (arith, ints, same.0 is)) (λ low. omega (arith, ints)) either)
    (λ is. by_lt_z x y (λ low. inr low) (λ high. inl (same.1 (omega (arith, ints, is, high)))))
    (Decides-or _ _ it.zero it.less)

compares : (condition : Condition) (width : Width) (a b : ℕ) (x y : ℤ) (flags : Flags Bool) → HasCompared width a b x
    y flags
    → Decides (test_of condition flags) (Compares condition width a b x y)
compares Overflow width a b x y flags it = it.overflow
compares NotOverflow width a b x y flags it = Decides-not _ it.overflow
compares Below width a b x y flags it = it.carry
compares NotBelow width a b x y flags it =
    Decides-like _ (λ no. omega (arith, no)) (λ is low. omega (arith, is, low)) (Decides-not _ it.carry)
compares Equal width a b x y flags it = it.zero
compares NotEqual width a b x y flags it = Decides-not _ it.zero
compares BelowOrEqual width a b x y flags it = is_at_most width a b x y flags it
compares Above width a b x y flags it = Decides-like _ (λ no. omega (arith, no)) (λ is low. omega (arith, is, low))
    (Decides-not _ (is_at_most width a b x y flags it))
compares Sign width a b x y flags it = it.sign
compares NotSign width a b x y flags it = Decides-not _ it.sign
compares Less width a b x y flags it = it.less
compares NotLess width a b x y flags it = Decides-like _ (λ no. not_less x y no)
    (λ is low. omega (arith, ints, is, low)) (Decides-not _ it.less)
compares LessOrEqual width a b x y flags it = is_signed_at_most width a b x y flags it
compares Greater width a b x y flags it = Decides-like _ (λ no. not_at_most x y no)
    (λ is low. omega (arith, ints, is, low)) (Decides-not _ (is_signed_at_most width a b x y flags it))

-- the sign of the difference is wrong exactly where the difference is outside
decides_sign : (s o : Bool) (P Q : Type 0) → Decides (differ s o) P → Decides o Q → Decides s (One P Q)
decides_sign true true P Q p q = (λ is. inr (λ it. false≢true (p.1 it), q.0 refl), λ one. refl)
decides_sign true false P Q p q = (λ is. inl (p.0 refl, λ it. false≢true (q.1 it)), λ one. refl)
decides_sign false true P Q p q = (
  λ is. absurd (false≢true is),
  λ one. absurd (⊎_elim (λ here. here.1 (q.0 refl)) (λ here. here.0 (p.0 refl)) one),
)
decides_sign false false P Q p q = (
  λ is. absurd (false≢true is),
  λ one. ⊎_elim (λ here. p.1 here.0) (λ here. q.1 here.1) one,
)

-- a word that is a difference, cut, and is z as a signed integer
record IsResult (width : Width) (a b : ℕ) (x y z : ℤ) (word : ℕ) : Type 0 where
  left : IsSigned width a x
  right : IsSigned width b y
  cut : IsCut width word (pos a -ℤ pos b)
  signed : IsSigned width word z

zero_same : (width : Width) (a b word : ℕ) (x y z : ℤ) → IsResult width a b x y z word → (word ≡ 0) ↔ (a ≡ b)
zero_same Long a b word x y z it = (
  λ is. omega (arith, ints, is, it.cut.same, it.left.below, it.right.below),
  λ is. omega (arith, ints, is, it.cut.same, it.cut.below),
)
zero_same Quad a b word x y z it = (
  λ is. omega (arith, ints, is, it.cut.same, it.left.below, it.right.below),
  λ is. omega (arith, ints, is, it.cut.same, it.cut.below),
)

-- where the difference is outside, the sign is the other one
inside : (width : Width) (a b word : ℕ) (x y z : ℤ) → IsResult width a b x y z word → pos 0 ≤ℤ
    ((x -ℤ y) +ℤ pos (half width))
    → (x -ℤ y) <ℤ pos (half width) → z ≡ x -ℤ y
inside Long a b word x y z it small large = omega (
  arith,
  ints,
  small,
  large,
  it.cut.same,
  it.left.same,
  it.left.below,
  it.left.least,
  it.left.greatest,
  it.right.same,
  it.right.below,
  it.right.least,
  it.right.greatest,
  it.signed.same,
  it.signed.below,
  it.signed.least,
  it.signed.greatest,
)
inside Quad a b word x y z it small large = omega (
  arith,
  ints,
  small,
  large,
  it.cut.same,
  it.left.same,
  it.left.below,
  it.left.least,
  it.left.greatest,
  it.right.same,
  it.right.below,
  it.right.least,
  it.right.greatest,
  it.signed.same,
  it.signed.below,
  it.signed.least,
  it.signed.greatest,
)

large_is_negative : (width : Width) (a b word : ℕ) (x y z : ℤ) → IsResult width a b x y z word → IsTooLarge width
    (x -ℤ y)
    → z <ℤ pos 0
large_is_negative Long a b word x y z it large = omega (
  arith,
  ints,
  large,
  it.cut.same,
  it.left.same,
  it.left.below,
  it.left.least,
  it.left.greatest,
  it.right.same,
  it.right.below,
  it.right.least,
  it.right.greatest,
  it.signed.same,
  it.signed.below,
  it.signed.least,
  it.signed.greatest,
)
large_is_negative Quad a b word x y z it large = omega (
  arith,
  ints,
  large,
  it.cut.same,
  it.left.same,
  it.left.below,
  it.left.least,
  it.left.greatest,
  it.right.same,
  it.right.below,
  it.right.least,
  it.right.greatest,
  it.signed.same,
  it.signed.below,
  it.signed.least,
  it.signed.greatest,
)

small_is_not : (width : Width) (a b word : ℕ) (x y z : ℤ) → IsResult width a b x y z word → IsTooSmall width (x -ℤ y)
    → z <ℤ pos 0 → ⊥
small_is_not Long a b word x y z it small negative = omega (
  arith,
  ints,
  small,
  negative,
  it.cut.same,
  it.left.same,
  it.left.below,
  it.left.least,
  it.left.greatest,
  it.right.same,
  it.right.below,
  it.right.least,
  it.right.greatest,
  it.signed.same,
  it.signed.below,
  it.signed.least,
  it.signed.greatest,
)
small_is_not Quad a b word x y z it small negative = omega (
  arith,
  ints,
  small,
  negative,
  it.cut.same,
  it.left.same,
  it.left.below,
  it.left.least,
  it.left.greatest,
  it.right.same,
  it.right.below,
  it.right.least,
  it.right.greatest,
  it.signed.same,
  it.signed.below,
  it.signed.least,
  it.signed.greatest,
)

small_is_less : (width : Width) (a b word : ℕ) (x y z : ℤ) → IsResult width a b x y z word → IsTooSmall width (x -ℤ y)
    → x <ℤ y
small_is_less Long a b word x y z it small = omega (
  arith,
  ints,
  small,
  it.cut.same,
  it.left.same,
  it.left.below,
  it.left.least,
  it.left.greatest,
  it.right.same,
  it.right.below,
  it.right.least,
  it.right.greatest,
  it.signed.same,
  it.signed.below,
  it.signed.least,
  it.signed.greatest,
)
small_is_less Quad a b word x y z it small = omega (
  arith,
  ints,
  small,
  it.cut.same,
  it.left.same,
  it.left.below,
  it.left.least,
  it.left.greatest,
  it.right.same,
  it.right.below,
  it.right.least,
  it.right.greatest,
  it.signed.same,
  it.signed.below,
  it.signed.least,
  it.signed.greatest,
)

large_is_not_less : (width : Width) (a b word : ℕ) (x y z : ℤ) → IsResult width a b x y z word → IsTooLarge width
    (x -ℤ y)
    → x <ℤ y → ⊥
large_is_not_less Long a b word x y z it large less = omega (
  arith,
  ints,
  large,
  less,
  it.cut.same,
  it.left.same,
  it.left.below,
  it.left.least,
  it.left.greatest,
  it.right.same,
  it.right.below,
  it.right.least,
  it.right.greatest,
  it.signed.same,
  it.signed.below,
  it.signed.least,
  it.signed.greatest,
)
large_is_not_less Quad a b word x y z it large less = omega (
  arith,
  ints,
  large,
  less,
  it.cut.same,
  it.left.same,
  it.left.below,
  it.left.least,
  it.left.greatest,
  it.right.same,
  it.right.below,
  it.right.least,
  it.right.greatest,
  it.signed.same,
  it.signed.below,
  it.signed.least,
  it.signed.greatest,
)

same_inside : (width : Width) (a b word : ℕ) (x y z : ℤ) → IsResult width a b x y z word
    → (IsOutside width (x -ℤ y) → ⊥) → z ≡ x -ℤ y
same_inside width a b word x y z it not_out = inside width a b word x y z it
    (not_less _ _ (λ small. not_out (inl small))) (not_at_most _ _ (λ large. not_out (inr large)))

less_by : (width : Width) (a b word : ℕ) (x y z : ℤ) → IsResult width a b x y z word → (o : Bool)
    → Decides o (IsOutside width (x -ℤ y)) → x <ℤ y
    → ((z <ℤ pos 0) × (IsOutside width (x -ℤ y) → ⊥)) ⊎ ((z <ℤ pos 0 → ⊥) × IsOutside width (x -ℤ y))
less_by width a b word x y z it true outside less = let out = outside.0 refl in
    inr (
      ⊎_elim (λ small. small_is_not width a b word x y z it small)
          (λ large. absurd (large_is_not_less width a b word x y z it large less)) out,
      out,
    )
less_by width a b word x y z it false outside less = let not_out = λ (out : IsOutside width (x -ℤ y)). false≢true
    (outside.1 out) in
    let same = same_inside width a b word x y z it not_out in
    inl (omega (arith, ints, same, less), not_out)

decides_less : (width : Width) (a b word : ℕ) (x y z : ℤ) → IsResult width a b x y z word → (s o : Bool)
    → Decides s (z <ℤ pos 0) → Decides o (IsOutside width (x -ℤ y)) → Decides (differ s o) (x <ℤ y)
decides_less width a b word x y z it s o sign outside = Decides-like _
    (λ either. ⊎_elim
    (λ here. let same = same_inside width a b word x y z it here.1 in
    let negative = here.0 in omega (arith, ints, same, negative))
    (λ here. ⊎_elim (λ small. small_is_less width a b word x y z it small)
    (λ large. absurd (here.0 (large_is_negative width a b word x y z it large))) here.1) either)
    (less_by width a b word x y z it o outside)
    (decides_differ s o _ _ sign outside)

compared : (width : Width) (a b : ℕ) (x y : ℤ) (before : Flags Bool) → IsSigned width a x → IsSigned width b y
    → HasCompared width a b x y (with_changes plain_operations (compute_effect Compare width a b).changes before)
unfolding with_changes compute_effect difference_effect plain_operations
compared width a b x y before p q =
    let word = (a + (span_of width - b)) % span_of width in
    let cut = difference_cut width a b p.below q.below in
    let signed = signed_of width word cut.below in
    let it : IsResult width a b x y signed.0 word = record { left = p; right = q; cut = cut; signed = signed.1 } in
    let same = zero_same width a b word x y signed.0 it in
    let outside = difference_outside width a b x y p q in
    let less = decides_less width a b word x y signed.0 it _ _ (decides_negative width word signed.0 signed.1) outside
    in
    record {
      left = p;
      right = q;
      zero = Decides-like _ same.0 same.1 (Decides-eqb word 0);
      carry = Decides-ltb a b;
      overflow = outside;
      less = less;
      sign = decides_sign _ _ _ _ less outside;
    }

pub comparisons : (condition : Condition) (width : Width) (a b : ℕ) (x y : ℤ) (before : Flags Bool)
    → IsSigned width a x → IsSigned width b y
    → IsTaken condition (with_changes plain_operations (compute_effect Compare width a b).changes before)
    (Compares condition width a b x y)
comparisons condition width a b x y before p q =
    let flags = with_changes plain_operations (compute_effect Compare width a b).changes before in
    taken_by condition flags (test_of condition flags) (Compares condition width a b x y) (tested condition flags)
    (compares condition width a b x y flags (compared width a b x y before p q))
