-- Where ranges are, as tests that compute: what is found in some ranges lies where they all do, and nothing is found
-- where none of them is.
use Rattle.std.proofs.Common.{◌≡◌, ◌+◌, ◌-◌, ◌<◌, ◌≤◌, ◌&&◌, ◌||◌, ◌⊎◌, ℕ, Bool, true, false, not, List, [], ◌∷◌, Some}
use Rattle.std.proofs.Common.{None, length, refl, inl, inr, arith}
use Rattle.std.specs.Prelude.{nat_le, nat_lt}
use Rattle.std.specs.List.{list_all}
use Rattle.std.proofs.lemmas.Bool.{and_cases, and_parts, and_right, cases_Bool, false_from_ne_true, le-ltb, leb-false}
use Rattle.std.proofs.lemmas.Bool.{leb-true, ltb-false, ltb-true, or_cases, not-true}
use Rattle.guest_operands.specs.declared.space.Access.{Access}
use Rattle.guest_machine.specs.Ranges.{Range, allows, byte_in, grants, holds}

-- all of a range lies from one place on and before another
abbrev pub lies_within : {B : Type 0} → ℕ → ℕ → Range B → Bool
lies_within low high range = nat_le low range.start && nat_le (range.start + length range.bytes) high

-- of a range that allows the access nothing does
abbrev pub lies_apart : {B : Type 0} → Access → ℕ → ℕ → Range B → Bool
lies_apart access low high range =
    not (allows access range) || (nat_le (range.start + length range.bytes) low || nat_le high range.start)

pub held_within : {B : Type 0} (low high : ℕ) (range : Range B) (place : ℕ) → lies_within low high range ≡ true
    → holds range place ≡ true → (low ≤ place) × (place < high)
held_within low high range place e h =
    let within = and_parts (nat_le low range.start) (nat_le (range.start + length range.bytes) high) e in
    let here = and_parts (nat_le range.start place) (nat_lt (place - range.start) (length range.bytes)) h in
    let a = leb-true low range.start within.0 in
    let b = leb-true (range.start + length range.bytes) high within.1 in
    let c = leb-true range.start place here.0 in
    let d = ltb-true (place - range.start) (length range.bytes) here.1 in
    (omega (arith, a, c), omega (arith, b, c, d))

pub found_within : {B : Type 0} (access : Access) (low high place : ℕ) (byte : B) (ranges : List (Range B))
    → list_all (lies_within low high) ranges ≡ true → byte_in access ranges place ≡ Some byte
    → (low ≤ place) × (place < high)
found_within access low high place byte [] e f = absurd cc
found_within access low high place byte (range ∷ ranges) e f =
    let all = and_parts (lies_within low high range) (list_all (lies_within low high) ranges) e in
    elim (cases_Bool (grants access range place)) [
      | inl here ↦
          held_within low high range place all.0 (and_parts (allows access range) (holds range place) here).1
      | inr other ↦
          let later : byte_in access ranges place ≡ Some byte = rw other at f in
          found_within access low high place byte ranges all.1 later
    ]

-- a place between is in no range that allows the access
not_granted : {B : Type 0} (access : Access) (low high place : ℕ) (range : Range B)
    → lies_apart access low high range ≡ true → low ≤ place → place < high → grants access range place ≡ true → ⊥
not_granted access low high place range e above below g =
    let parts = and_parts (allows access range) (holds range place) g in
    let here = and_parts (nat_le range.start place) (nat_lt (place - range.start) (length range.bytes)) parts.1 in
    let c = leb-true range.start place here.0 in
    let d = ltb-true (place - range.start) (length range.bytes) here.1 in
    elim (or_cases (not (allows access range)) _ e) [
      | inl never ↦ let no : allows access range ≡ false = not-true _ never in absurd cc
      | inr apart ↦ elim (or_cases (nat_le (range.start + length range.bytes) low) (nat_le high range.start) apart) [
        | inl before ↦
            let a = leb-true (range.start + length range.bytes) low before in
            absurd (omega (arith, a, c, d, above))
        | inr behind ↦ let a = leb-true high range.start behind in absurd (omega (arith, a, c, below))
      ]
    ]

pub none_found : {B : Type 0} (access : Access) (low high place : ℕ) (ranges : List (Range B))
    → list_all (lies_apart access low high) ranges ≡ true → low ≤ place → place < high
    → byte_in access ranges place ≡ None
none_found access low high place [] e above below = refl
none_found access low high place (range ∷ ranges) e above below =
    let all = and_parts (lies_apart access low high range) (list_all (lies_apart access low high) ranges) e in
    let other : grants access range place ≡ false =
    false_from_ne_true _ (not_granted access low high place range all.0 above below) in
    rw other (none_found access low high place ranges all.1 above below)

-- a place is from one place on and before another, as a test
abbrev pub is_between : ℕ → ℕ → ℕ → Bool
is_between low high place = nat_le low place && nat_lt place high

pub between : (low high place : ℕ) → is_between low high place ≡ true → (low ≤ place) × (place < high)
between low high place e =
    let parts = and_parts (nat_le low place) (nat_lt place high) e in
    (leb-true low place parts.0, ltb-true place high parts.1)

pub not_between : (low high place : ℕ) → is_between low high place ≡ false → (place < low) ⊎ (high ≤ place)
not_between low high place e = elim (and_cases (nat_le low place) (nat_lt place high) e) [
  | inl low' ↦ inl (leb-false low place low')
  | inr high' ↦ inr (ltb-false place high high')
]

pub above_between : (low high place : ℕ) → high ≤ place → is_between low high place ≡ false
above_between low high place above = and_right (nat_le low place) (nat_lt place high) (le-ltb place high above)
