-- Lists of ranges: which of them holds a place.
use Rattle.std.proofs.Common.{if◌then◌else◌, ◌≡◌, ◌∙◌, ◌+◌, ◌-◌, ◌<◌, ◌≤◌, ◌++◌, ◌&&◌, ℕ, zero, suc, Bool, true, false}
use Rattle.std.proofs.Common.{List, [], ◌∷◌, All, length, Option, Some, refl, sym, arith}
use Rattle.std.specs.Prelude.{nat_le, nat_lt, slice_get}
use Rattle.std.specs.Option.{option_or}
use Rattle.std.proofs.lemmas.Bool.{and_parts, lt-leb, ltb-true, le-ltb}
use Rattle.guest_operands.specs.declared.space.Access.{Access}
use Rattle.guest_machine.specs.Ranges.{Range, allows, byte_in, grants, holds}

pub some_there : {B : Type 0} (bytes : List B) (k : ℕ) → k < length bytes → (b : B) × (slice_get bytes k ≡ Some b)
some_there [] k low = absurd (omega (arith, low))
some_there (b ∷ bytes) zero low = (b, refl)
some_there (b ∷ bytes) (suc k) low = some_there bytes k (omega (arith, low))

-- what is not found in the first ranges is sought behind them
pub found_behind : {B : Type 0} (access : Access) (xs ys : List (Range B)) (place : ℕ)
    → byte_in access (xs ++ ys) place ≡ option_or (byte_in access xs place) (byte_in access ys place)
found_behind access [] ys place = refl
found_behind {B} access (range ∷ xs) ys place =
    of_grant (grants access range place) refl (found_behind access xs ys place)
  where
    first_of : (o rest : Option B) (b : B) → o ≡ Some b → o ≡ option_or o rest
    first_of o rest b e = rw e refl

    of_grant : (b : Bool) → grants access range place ≡ b
        → byte_in access (xs ++ ys) place ≡ option_or (byte_in access xs place) (byte_in access ys place)
        → (if b then slice_get range.bytes (place - range.start) else byte_in access (xs ++ ys) place)
        ≡ option_or (if b then slice_get range.bytes (place - range.start) else byte_in access xs place)
        (byte_in access ys place)
    of_grant false e rest = rest
    of_grant true e rest =
        let held = and_parts (allows access range) (holds range place) e in
        let there = some_there range.bytes (place - range.start)
        (ltb-true (place - range.start) (length range.bytes) (and_parts _ _ held.1).1) in
        first_of (slice_get range.bytes (place - range.start)) (byte_in access ys place) there.0 there.1

-- ** ranges that do not hold the place

and_false : (a b : Bool) → b ≡ false → (a && b) ≡ false
and_false a b e = rw e (of_first a)
  where
    of_first : (a : Bool) → (a && false) ≡ false
    of_first true = refl
    of_first false = refl

pub passed : {B : Type 0} (access : Access) (range : Range B) (ranges : List (Range B)) (place : ℕ)
    → holds range place ≡ false → byte_in access (range ∷ ranges) place ≡ byte_in access ranges place
passed access range ranges place e = rw (and_false (allows access range) (holds range place) e) refl

pub all_passed : {B : Type 0} (access : Access) (ranges more : List (Range B)) (place : ℕ)
    → All (λ (r : Range B). holds r place ≡ false) ranges
    → byte_in access (ranges ++ more) place ≡ byte_in access more place
all_passed access [] more place all = refl
all_passed access (range ∷ ranges) more place all =
    passed access range (ranges ++ more) place (all zero range (omega arith))
    ∙ all_passed access ranges more place (λ k d low. all (suc k) d (omega (arith, low)))

pub below_range : {B : Type 0} (range : Range B) (place : ℕ) → place < range.start → holds range place ≡ false
below_range range place low = rw (below place range.start low) refl
  where
    below : (place start : ℕ) → place < start → nat_le start place ≡ false
    below place start low = lt-leb start place low

pub behind_range : {B : Type 0} (range : Range B) (place : ℕ) → range.start + length range.bytes ≤ place
    → holds range place ≡ false
behind_range range place high =
    and_false (nat_le range.start place) (nat_lt (place - range.start) (length range.bytes))
    (far range.start (length range.bytes) place high)
  where
    far : (start n place : ℕ) → start + n ≤ place → nat_lt (place - start) n ≡ false
    far start n place high = le-ltb (place - start) n (omega (arith, high))

-- a range of the same start and length holds the same places
pub same_holds : (start start' n n' place : ℕ) → start ≡ start' → n ≡ n'
    → (nat_le start place && nat_lt (place - start) n) ≡ true
    → (nat_le start' place && nat_lt (place - start') n') ≡ true
same_holds start start' n n' place e f h = rw (sym e, sym f) h
