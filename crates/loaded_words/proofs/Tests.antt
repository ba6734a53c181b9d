-- What a search gives where nothing is to be found.
use Rattle.std.proofs.Common.{◌≡◌, ◌+◌, ◌<◌, ◌≤◌, suc, Bool, true, false, List, [], ◌∷◌, Some, None, refl, arith}
use Rattle.std.proofs.Common.{if◌then◌else◌}
use Rattle.std.specs.List.{Contains, find}

pub none_found : {X : Type 0} (p : X → Bool) (xs : List X) → ((x : X) → Contains xs x → p x ≡ true → ⊥)
    → find p xs ≡ None
none_found p [] none = refl
none_found p (y ∷ ys) none =
    of_test (p y) refl (none_found p ys (λ x has. none x (suc has.0, (let lt = has.1 in omega arith), has.2)))
  where
    of_test : (t : Bool) → p y ≡ t → find p ys ≡ None → (if t then Some y else find p ys) ≡ None
    of_test true here rest = absurd (none y (0, omega arith, refl) here)
    of_test false here rest = rest
