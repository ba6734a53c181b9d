-- Words, cut integers and flags: each exists, and only once.
use Rattle.std.proofs.Common.{◌≡◌, inl, inr, ℕ, ◌-◌, ◌<◌, ◌≤◌, ℤ, pos, negsuc, refl, ap, sym, subst, ⊎_elim, arith}
use Rattle.std.specs.Prelude.{◌<ℤ◌}
use Rattle.std.proofs.lemmas.Bool.{cases_lt}
use Rattle.std.proofs.lemmas.Bool.Decides.{same_from_decides, Decides-like}
use Rattle.std.proofs.lemmas.Int.{ints}
use Rattle.amd64_subset.specs.declared.instr.Width.{Width}
use Rattle.amd64_subset.specs.declared.instr.Width.TheVariants.{Long, Quad}
use Rattle.guest_arithmetic.specs.declared.effect.Change.{Change}
use Rattle.guest_arithmetic.specs.declared.effect.Change.TheVariants.{Set, Unsettled, Kept}
use Rattle.guest_arithmetic.specs.declared.effect.Effect.{Effect}
use Rattle.instruction_laws.specs.Words.{words, half, IsSigned, IsCut, Shows, IsUndefined, IsLeftAlone}
use Rattle.instruction_laws.specs.Results.{TellsOfResult}

-- ** words

pub low_half : (width : Width) (word : ℕ) → word < half width → IsSigned width word (pos word)
low_half Long word low = record {
  below = omega arith;
  same = inl refl;
  least = omega (arith, ints);
  greatest = omega
      (arith, ints);
}
low_half Quad word low = record {
  below = omega arith;
  same = inl refl;
  least = omega (arith, ints);
  greatest = omega
      (arith, ints);
}

pub high_half : (width : Width) (word : ℕ) → word < words width → half width ≤ word
    → IsSigned width word (negsuc (words width - 1 - word))
high_half Long word below high = record {
  below = below;
  same = inr (omega (arith, ints));
  least = omega
      (arith, ints);
  greatest = omega (arith, ints);
}
high_half Quad word below high = record {
  below = below;
  same = inr (omega (arith, ints));
  least = omega
      (arith, ints);
  greatest = omega (arith, ints);
}

pub signed_of : (width : Width) (word : ℕ) → word < words width → (x : ℤ) × IsSigned width word x
signed_of width word below = ⊎_elim
    (λ low. (pos word, low_half width word low))
    (λ high. (negsuc (words width - 1 - word), high_half width word below high))
    (cases_lt word (half width))

pub only_signed : (width : Width) (word : ℕ) (x y : ℤ) → IsSigned width word x → IsSigned width word y → y ≡ x
only_signed Long word x y p q = omega (arith, ints, p.same, p.least, p.greatest, q.same, q.least, q.greatest)
only_signed Quad word x y p q = omega (arith, ints, p.same, p.least, p.greatest, q.same, q.least, q.greatest)

pub are_signed : (width : Width) (word : ℕ) → word < words width
    → (x : ℤ) × (IsSigned width word x) × ((y : ℤ) → IsSigned width word y → y ≡ x)
are_signed width word below = let it = signed_of width word below in
    (it.0, it.1, λ y is. only_signed width word it.0 y it.1 is)

pub only_cut : (width : Width) (x : ℤ) (v w : ℕ) → IsCut width v x → IsCut width w x → v ≡ w
only_cut Long x v w p q = omega (arith, ints, p.below, p.same, q.below, q.same)
only_cut Quad x v w p q = omega (arith, ints, p.below, p.same, q.below, q.same)

-- ** flags

pub same_shown : (P Q : Type 0) (c d : Change) → (P → Q) → (Q → P) → Shows c P → Shows d Q → c ≡ d
same_shown P Q (Set s) (Set t) to from p q = ap Set
    (same_from_decides {P = Q} s t (Decides-like {P = P} {Q = Q} s to from p) q)
same_shown P Q (Set s) Unsettled to from p q = absurd q
same_shown P Q (Set s) Kept to from p q = absurd q
same_shown P Q Unsettled d to from p q = absurd p
same_shown P Q Kept d to from p q = absurd p

pub same_undefined : (c d : Change) → IsUndefined c → IsUndefined d → c ≡ d
same_undefined Unsettled Unsettled p q = refl
same_undefined Unsettled (Set t) p q = absurd q
same_undefined Unsettled Kept p q = absurd q
same_undefined (Set s) d p q = absurd p
same_undefined Kept d p q = absurd p

pub same_kept : (c d : Change) → IsLeftAlone c → IsLeftAlone d → c ≡ d
same_kept Kept Kept p q = refl
same_kept Kept (Set t) p q = absurd q
same_kept Kept Unsettled p q = absurd q
same_kept (Set s) d p q = absurd p
same_kept Unsettled d p q = absurd p

-- ** effects

pub same_effect : (e f : Effect) → e.number ≡ f.number → e.changes.zero ≡ f.changes.zero → e.changes.sign ≡
    f.changes.sign
    → e.changes.carry ≡ f.changes.carry → e.changes.overflow ≡ f.changes.overflow → e ≡ f
same_effect e f number zero sign carry overflow = λ i. record {
  number = number i;
  changes = record { zero = zero i; sign = sign i; carry = carry i; overflow = overflow i };
}

pub same_told : (width : Width) (e f : Effect) → e.number ≡ f.number → TellsOfResult width e → TellsOfResult width f
    → (e.changes.zero ≡ f.changes.zero) × (e.changes.sign ≡ f.changes.sign)
same_told width e f same p q =
    let at = subst (λ (n : ℕ). IsSigned width n p.result) same p.signed in
    let result : q.result ≡ p.result = only_signed width f.number p.result q.result at q.signed in (
      same_shown (e.number ≡ 0) (f.number ≡ 0) e.changes.zero f.changes.zero (λ is. cc) (λ is. cc) p.zero q.zero,
      (same_shown (p.result <ℤ pos 0) (q.result <ℤ pos 0) e.changes.sign f.changes.sign
          (subst (λ (z : ℤ). z <ℤ pos 0) (sym result)) (subst (λ (z : ℤ). z <ℤ pos 0) result) p.sign q.sign),
    )
