-- What writes, pushes and cuts add to the places at which files differ.
use Rattle.std.proofs.Common.{◌≡◌, ◌+◌, ◌++◌, ◌≤◌, ℕ, zero, suc, List, [], ◌∷◌, length, take, refl, ap, arith}
use Rattle.std.specs.Prelude.{slice_set, ◌==◌, if◌then◌else◌}
use Rattle.std.proofs.lemmas.Bool.Decides.{nat_tests}
use Rattle.input_changes.specs.Differing.{differing}

-- one place
same : (x : ℕ) → ◌≡◌ {A = ℕ} (if x == x then 0 else 1) 0
same x = grind (arith, nat_tests)

few : (x y : ℕ) → (if x == y then 0 else 1) ≤ 1
few x y = grind (arith, nat_tests)

across : (x y z : ℕ) → (if x == z then 0 else 1) ≤ (if x == y then 0 else 1) + (if y == z then 0 else 1)
across x y z = grind (arith, nat_tests)

pub differing_self : (a : List ℕ) → differing a a ≡ 0
unfolding differing
differing_self [] = refl
differing_self (x ∷ a) = omega (arith, same x, differing_self a)

pub differing_across : (a b c : List ℕ) → length a ≤ length b → differing a c ≤ differing a b + differing b c
unfolding differing
differing_across [] b c h = omega arith
differing_across (x ∷ a) [] c h = omega arith
differing_across (x ∷ a) (y ∷ b) [] h = omega arith
differing_across (x ∷ a) (y ∷ b) (z ∷ c) h = omega (arith, across x y z, differing_across a b c (omega arith))

pub differing_set : (a b : List ℕ) (i v : ℕ) → differing a (slice_set b i v) ≤ differing a b + 1
unfolding differing
differing_set [] b i v = omega arith
differing_set (x ∷ a) [] i v = omega arith
differing_set (x ∷ a) (y ∷ b) zero v = omega (arith, few x v)
differing_set (x ∷ a) (y ∷ b) (suc i) v = omega (arith, differing_set a b i v)

pub differing_append : (a b c : List ℕ) → length a ≤ length b → differing a (b ++ c) ≡ differing a b
unfolding differing
differing_append [] b c h = refl
differing_append (x ∷ a) [] c h = absurd (omega arith)
differing_append (x ∷ a) (y ∷ b) c h = ap (λ n. (if x == y then 0 else 1) + n) (differing_append a b c (omega arith))

pub differing_take : (a : List ℕ) (n : ℕ) → differing a (take n a) ≡ 0
unfolding differing
differing_take [] n = refl
differing_take (x ∷ a) zero = refl
differing_take (x ∷ a) (suc n) = omega (arith, same x, differing_take a n)

-- what a vector has once its slice was written
pub differing_written : (a b c rest : List ℕ) (n k : ℕ) → n ≡ length c → length a ≤ length b → differing a b ≡ 0
    → differing b c ≤ k
    → differing a (take n (c ++ rest)) ≤ k
differing_written a b c rest n k long h same_front near =
    let e : take n (c ++ rest) ≡ c = rw long (take_front c rest) in
    rw e (omega (arith, differing_across a b c h))
  where
    take_front : (xs ys : List ℕ) → take (length xs) (xs ++ ys) ≡ xs
    take_front [] ys = refl
    take_front (x ∷ xs) ys = ap (λ zs. x ∷ zs) (take_front xs ys)
