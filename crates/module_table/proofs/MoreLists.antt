-- A test over a list with one element written.
use Rattle.std.proofs.Common.{◌≡◌, ℕ, zero, suc, ◌+◌, ◌<◌, ◌≤◌, Bool, true, false, List, [], ◌∷◌, length, get_or, refl}
use Rattle.std.proofs.Common.{ap, arith}
use Rattle.std.proofs.Math.ListN.{set}
use Rattle.std.specs.Prelude.{◌||◌, count_by, cond}
use Rattle.std.specs.List.{list_any}
use Rattle.std.proofs.lemmas.List.{get_or-set_same, length-set}
use Rattle.std.proofs.lemmas.List.Folds.{list_any_at}
use Rattle.std.proofs.lemmas.List.Sums.{count_by-le-length, sum_by-cons}

pub list_any-set_alike : {X : Type 0} (p : X → Bool) (xs : List X) (i : ℕ) (y d : X) → p y ≡ p (get_or xs i d)
    → list_any p (set xs i y) ≡ list_any p xs
list_any-set_alike p [] i y d e = refl
list_any-set_alike p (x ∷ xs) zero y d e = rw e refl
list_any-set_alike p (x ∷ xs) (suc i) y d e = ap (λ b. p x || b) (list_any-set_alike p xs i y d e)

pub list_any-set_here : {X : Type 0} (p : X → Bool) (xs : List X) (i : ℕ) (y : X) → i < length xs → p y ≡ true
    → list_any p (set xs i y) ≡ true
list_any-set_here p xs i y l t =
    let within : i < length (set xs i y) = rw length-set l in
    list_any_at p (set xs i y) i y within (rw get_or-set_same t)

-- an element that fails is not counted
pub count_by-fails : {X : Type 0} (p : X → Bool) (xs : List X) (i : ℕ) (d : X) → i < length xs
    → p (get_or xs i d) ≡ false → count_by p xs + 1 ≤ length xs
count_by-fails p [] i d l f = absurd (omega arith)
count_by-fails p (x ∷ xs) zero d l f =
    let here : count_by p (x ∷ xs) ≡ 0 + count_by p xs = rw (sum_by-cons (λ y. cond (p y) 1 0) x xs, f) refl in
    omega (arith, count_by-le-length p xs)
count_by-fails p (x ∷ xs) (suc i) d l f =
    let least : count_by p xs + 1 ≤ length xs = count_by-fails p xs i d (omega arith) f in
    let here : count_by p (x ∷ xs) ≡ cond (p x) 1 0 + count_by p xs = sum_by-cons (λ y. cond (p y) 1 0) x xs in
    let small : cond (p x) 1 0 ≤ 1 = elim (p x) as (λ b. cond b 1 0 ≤ 1) [ true ↦ omega arith | false ↦ omega arith ] in
    omega arith

-- the first element and a later one that fail are not counted
pub count_by-fails_twice : {X : Type 0} (p : X → Bool) (xs : List X) (i : ℕ) (d : X) → 1 ≤ i → i < length xs
    → p (get_or xs 0 d) ≡ false → p (get_or xs i d) ≡ false → count_by p xs + 2 ≤ length xs
count_by-fails_twice p [] i d low l first f = absurd (omega arith)
count_by-fails_twice p (x ∷ xs) zero d low l first f = absurd (omega arith)
count_by-fails_twice p (x ∷ xs) (suc i) d low l first f =
    let rest : count_by p xs + 1 ≤ length xs = count_by-fails p xs i d (omega arith) f in
    let here : count_by p (x ∷ xs) ≡ 0 + count_by p xs = rw (sum_by-cons (λ y. cond (p y) 1 0) x xs, first) refl in
    omega arith
