-- What is found first is the one that there is.
use Rattle.std.proofs.Common.{◌≡◌, ℕ, zero, suc, Bool, true, false, List, [], ◌∷◌, Some, refl, arith, if◌then◌else◌}
use Rattle.std.specs.Prelude.{slice_get}
use Rattle.std.specs.List.{find}

pub find_only : {X : Type 0} (p : X → Bool) (xs : List X) (i : ℕ) (x : X) → slice_get xs i ≡ Some x → p x ≡ true
    → ((j : ℕ) (y : X) → slice_get xs j ≡ Some y → p y ≡ true → j ≡ i) → find p xs ≡ Some x
find_only p [] i x is passes only = cc
find_only p (y ∷ ys) zero x is passes only = let same : p y ≡ true = cc in rw same is
find_only p (y ∷ ys) (suc i) x is passes only =
    of_test (p y) refl
    (find_only p ys i x is passes (λ j z there holds. let e = only (suc j) z there holds in omega (arith, e)))
  where
    of_test : (t : Bool) → p y ≡ t → find p ys ≡ Some x → (if t then Some y else find p ys) ≡ Some x
    of_test true e rest = absurd (let no = only 0 y refl e in omega (arith, no))
    of_test false e rest = rest
