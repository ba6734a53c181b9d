-- The walk over the bytes of an instruction finds the hindrance that is defined.
use Rattle.std.proofs.Common.{◌≡◌, ℕ, zero, suc, ◌+◌, ◌-◌, ◌^◌, ◌<◌, ◌≤◌, Bool, true, false, List, length, take, Option}
use Rattle.std.proofs.Common.{Some, None, refl, sym, ap, ◌∙◌, arith}
use Rattle.std.specs.Prelude.{if◌then◌else◌, is_some, min}
use Rattle.std.specs.Option.{option_or}
use Rattle.amd64_subset.specs.declared.instr.Decoded.{Decoded}
use Rattle.amd64_subset.specs.Beginning.{begins_of}
use Rattle.guest_arithmetic.specs.declared.cause.Cause.{Cause}
use Rattle.guest_arithmetic.specs.Values.{Operations}
use Rattle.guest_operands.specs.declared.state.State.{State}
use Rattle.guest_operands.specs.Use.{plus}
use Rattle.job_meaning.specs.Reading.{completed, place_at}
use Rattle.job_meaning.proofs.Fetch.{place-is}
use Rattle.whole_meaning.specs.declared.marks.Mark.{Mark}
use Rattle.whole_meaning.specs.declared.marks.Mark.TheVariants.{Usual, Offset, Address, Inside}
use Rattle.whole_meaning.specs.Reading.{first_hindrance, hindered, hindrance_of}
use Rattle.meant_steps.specs.Walks.{end_of, first_from, is_usual}
use Rattle.meant_steps.proofs.Begun.{begun, ended, stays-none}

-- ** walks

or-none : (o : Option Cause) → option_or o None ≡ o
or-none None = refl
or-none (Some why) = refl

or-some : (o other : Option Cause) → is_some o ≡ true → option_or o other ≡ o
or-some None other e = absurd cc
or-some (Some why) other e = refl

is-none : (o : Option Cause) → is_some o ≡ false → o ≡ None
is-none None e = refl
is-none (Some why) e = absurd cc

module _ (f : ℕ → Option Cause) where
  steps : (k n m : ℕ) → n ≡ suc m → first_from f k n ≡ option_or (f k) (first_from f (k + 1) m)
  steps k n m e = rw e refl

  step : (k end : ℕ) → k < end → first_from f k (end - k) ≡ option_or (f k) (first_from f (k + 1) (end - (k + 1)))
  step k end low = steps k (end - k) (end - (k + 1)) (omega arith)

  pub found : (k end : ℕ) (why : Option Cause) → k < end → why ≡ f k → is_some why ≡ true
      → first_from f k (end - k) ≡ why
  found k end why low is some =
      let some : is_some (f k) ≡ true = ap is_some (sym is) ∙ some in
      step k end low ∙ (or-some (f k) (first_from f (k + 1) (end - (k + 1))) some ∙ sym is)

  pub missed : (k end : ℕ) (why : Option Cause) → k < end → why ≡ f k → is_some why ≡ false
      → first_from f k (end - k) ≡ first_from f (k + 1) (end - (k + 1))
  missed k end why low is none =
      let none : f k ≡ None = sym is ∙ is-none why none in
      step k end low ∙ ap (λ (o : Option Cause). option_or o (first_from f (k + 1) (end - (k + 1)))) none

  -- where no answer is, none is found
  pub nowhere : (k n : ℕ) → ((j : ℕ) → k ≤ j → j < k + n → f j ≡ None) → first_from f k n ≡ None
  nowhere k zero none = refl
  nowhere k (suc n) none =
      let here : f k ≡ None = none k (omega arith) (omega arith) in
      rw here (nowhere (k + 1) n (λ j low high. none j (omega arith) (omega arith)))

  -- what has no answer may be left out in front
  pub skipped : (n k count : ℕ) → n + k ≤ count → ((j : ℕ) → k ≤ j → j < k + n → f j ≡ None)
      → first_from f k (count - k) ≡ first_from f (k + n) (count - (k + n))
  skipped zero k count within none = let e : k + 0 ≡ k = omega arith in rw e refl
  skipped (suc n) k count within none =
      let here : f k ≡ None = none k (omega arith) (omega arith) in
      let next : k + 1 + n ≡ k + suc n = omega arith in
      missed k count None (omega arith) (sym here) refl
      ∙ (skipped n (k + 1) count (omega arith) (λ j low high. none j (omega arith) (omega arith)) ∙ rw next refl)

-- where two agree, and behind the one has no answer, the one finds what the other does
pub cut : (f g : ℕ → Option Cause) (n t k : ℕ) → n ≤ t → ((j : ℕ) → k ≤ j → j < k + n → f j ≡ g j)
    → ((j : ℕ) → k + n ≤ j → j < k + t → f j ≡ None) → first_from f k t ≡ first_from g k n
cut f g zero t k low same none = nowhere f k t (λ j high below. none j (omega arith) below)
cut f g (suc n) zero k low same none = absurd (omega arith)
cut f g (suc n) (suc t) k low same none =
    let here : f k ≡ g k = same k (omega arith) (omega arith) in
    let rest = cut f g n t (k + 1) (omega arith) (λ j high below. same j (omega arith) (omega arith))
    (λ j high below. none j (omega arith) (omega arith)) in
    rw (here, rest) refl

-- ** places and marks

pub place-at : (k place : ℕ) → place < 2 ^ 64 → place_at place k ≡ plus place k
place-at zero place low = omega arith
place-at (suc k) place low = place-is k place

-- whether the mark so far behind a place is a usual one
abbrev pub usual-at : (ℕ → Mark) → ℕ → ℕ → Bool
usual-at mark k place = is_usual (mark (plus place k))

usual-is : (m : Mark) → is_usual m ≡ true → m ≡ Usual
usual-is Usual e = refl
usual-is (Offset number byte) e = absurd cc
usual-is (Address number addend byte) e = absurd cc
usual-is Inside e = absurd cc

if-same : {A : Type 0} (b : Bool) (x : A) → (if b then x else x) ≡ x
if-same true x = refl
if-same false x = refl

module _ {W F B : Type 0} (ops : Operations W F B) (mark : ℕ → Mark) (state : State W F) (bytes : List ℕ) where
  -- why byte j of the instruction that the bytes spell may not be read
  abbrev pub answer : ℕ → Option Cause
  answer j = hindrance_of ops mark state (completed bytes) j (mark (plus state.place j))

  abbrev pub asked : ℕ → Option Cause
  asked = hindered ops mark state bytes

  -- ** the definition as a walk

  pub walk-is : (k n : ℕ) → first_hindrance ops mark state bytes k n ≡ first_from asked k (suc n)
  walk-is k zero = sym (or-none (asked k))
  walk-is k (suc n) = ap (λ (o : Option Cause). option_or (asked k) o) (walk-is (k + 1) n)

  pub walk-from : (k : ℕ) → k ≤ length bytes
      → first_hindrance ops mark state bytes k (length bytes - k) ≡ first_from asked k (length bytes + 1 - k)
  walk-from k low = let e : suc (length bytes - k) ≡ length bytes + 1 - k = omega arith in
      walk-is k (length bytes - k) ∙ ap (first_from asked k) e

  -- ** single bytes

  module _ (low : state.place < 2 ^ 64) where
    pub asked-is : (j : ℕ) → begins_of (take j bytes) ≡ true → asked j ≡ answer j
    asked-is j begins = rw (begins, place-at j state.place low) refl

    pub asked-none : (j : ℕ) → begins_of (take j bytes) ≡ false → asked j ≡ None
    asked-none j none = rw none refl

    pub usual-none : (j : ℕ) → is_usual (mark (plus state.place j)) ≡ true → asked j ≡ None
    usual-none j usual =
        let is : mark (place_at state.place j) ≡ Usual =
        ap mark (place-at j state.place low) ∙ usual-is (mark (plus state.place j)) usual in
        rw is (if-same (begins_of (take j bytes)) None)

    -- ** the whole walk

    -- where all are usual, nothing hinders
    pub all-usual : ((j : ℕ) → j < length bytes + 1 → is_usual (mark (plus state.place j)) ≡ true)
        → first_hindrance ops mark state bytes 0 (length bytes) ≡ None
    all-usual usual = walk-is 0 (length bytes)
        ∙ nowhere asked 0 (suc (length bytes)) (λ j at below. usual-none j (usual j (omega arith)))

    -- the usual ones in front are left out
    pub from-marked : (k : ℕ) → k ≤ length bytes → ((j : ℕ) → j < k → is_usual (mark (plus state.place j)) ≡ true)
        → first_hindrance ops mark state bytes 0 (length bytes)
        ≡ first_hindrance ops mark state bytes k (length bytes - k)
    from-marked k within usual =
        let e : suc (length bytes) ≡ length bytes + 1 - 0 = omega arith in
        let at : 0 + k ≡ k = omega arith in
        walk-is 0 (length bytes) ∙ (ap (first_from asked 0) e
        ∙ (skipped asked k 0 (length bytes + 1) (omega arith) (λ j above below. usual-none j (usual j (omega arith)))
        ∙ (ap (λ (n : ℕ). first_from asked n (length bytes + 1 - n)) at ∙ sym (walk-from k within))))

    -- where the bytes in front begin nothing, nothing is read
    pub from-none : (k : ℕ) → k ≤ length bytes → begins_of (take k bytes) ≡ false
        → first_hindrance ops mark state bytes k (length bytes - k) ≡ None
    from-none k within none = walk-from k within
        ∙ nowhere asked k (length bytes + 1 - k) (λ j above below. asked-none j (stays-none bytes k j above none))

    -- byte k is read and is no usual one: from there on the instruction's own bytes alone are read
    module _ (k : ℕ) (within : k ≤ length bytes) (begins : begins_of (take k bytes) ≡ true)
        (marked : is_usual (mark (plus state.place k)) ≡ false) where
      stopped : (m : Mark) → is_usual m ≡ false → is_some (hindrance_of ops mark state None k m) ≡ true
      stopped Usual e = absurd cc
      stopped (Offset number byte) e = refl
      stopped (Address number addend byte) e = refl
      stopped Inside e = refl

      none-spelled : (o : Option Decoded) → completed bytes ≡ o → o ≡ None → is_some (asked k) ≡ true
      none-spelled o is none =
          rw (asked-is k begins, is, none) (stopped (mark (plus state.place k)) marked)

      at-none : completed bytes ≡ None
          → first_from answer k (k + 1 - k) ≡ first_from asked k (length bytes + 1 - k)
      at-none none =
          let some = none-spelled None none refl in
          let is : answer k ≡ asked k = sym (asked-is k begins) in
          found answer k (k + 1) (asked k) (omega arith) (sym is) some
          ∙ sym (found asked k (length bytes + 1) (asked k) (omega arith) refl some)

      at-some : (it : Decoded) → completed bytes ≡ Some it
          → first_from answer k (min it.len (length bytes + 1) - k) ≡ first_from asked k (length bytes + 1 - k)
      at-some it is = sym (cut asked answer (min it.len (length bytes + 1) - k) (length bytes + 1 - k) k (omega arith)
          (λ j above below. asked-is j (begun bytes it is j (omega arith) (omega arith)))
          (λ j above below. asked-none j (ended bytes it is j (omega arith) (omega arith))))

      at-end : (o : Option Decoded) → completed bytes ≡ o
          → first_from answer k (min (end_of o k) (length bytes + 1) - k) ≡ first_from asked k (length bytes + 1 - k)
      at-end None is = let e : min (k + 1) (length bytes + 1) ≡ k + 1 = omega arith in rw e (at-none is)
      at-end (Some it) is = at-some it is

      pub from-begun : first_from answer k (min (end_of (completed bytes) k) (length bytes + 1) - k)
          ≡ first_hindrance ops mark state bytes k (length bytes - k)
      from-begun = at-end (completed bytes) refl ∙ sym (walk-from k within)

      -- the same of what code finds
      pub begun-at : (it : Option Decoded) (end : ℕ) → it ≡ completed bytes → end ≡ min (end_of it k) (length bytes + 1)
          → first_from (λ j. hindrance_of ops mark state it j (mark (plus state.place j))) k (end - k)
          ≡ first_hindrance ops mark state bytes k (length bytes - k)
      begun-at it end is end-is = rw (end-is, is) from-begun
