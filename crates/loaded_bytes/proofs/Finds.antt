-- What a search finds passes its test and is among the elements; where it finds nothing none passes.
use Rattle.std.proofs.Common.{◌≡◌, ◌<◌, ℕ, zero, suc, Bool, true, false, List, [], ◌∷◌, Some, None, length, refl}
use Rattle.std.proofs.Common.{ap, subst, arith, if◌then◌else◌, ◌∙◌}
use Rattle.std.specs.Prelude.{slice_index_or}
use Rattle.std.specs.List.{Contains, find}
use Rattle.std.proofs.lemmas.Option.{same_Some}

module _ {X : Type 0} (p : X → Bool) where
  pub record IsFound (xs : List X) (x : X) : Type 0 where
    pub passes : p x ≡ true
    pub among : Contains xs x

  pub found_is : (xs : List X) (x : X) → find p xs ≡ Some x → IsFound xs x
  found_is [] x e = cc
  found_is (y ∷ ys) x e = of_test (p y) refl e (found_is ys x)
    where
      of_test : (t : Bool) → p y ≡ t → (if t then Some y else find p ys) ≡ Some x → (find p ys ≡ Some x → IsFound ys x)
          → IsFound (y ∷ ys) x
      of_test true here e rest =
          let same : y ≡ x = same_Some y x e in
          record { passes = subst (λ z. p z ≡ true) same here; among = (0, omega arith, same) }
      of_test false here e rest =
          let found = rest e in
          record {
            passes = found.passes;
            among = (suc found.among.0, (let lt = found.among.1 in omega arith), found.among.2);
          }

  pub none_passes : (xs : List X) (x : X) → find p xs ≡ None → Contains xs x → p x ≡ true → ⊥
  none_passes [] x e has passes = omega (arith, has.1)
  none_passes (y ∷ ys) x e has passes =
      of_test (p y) refl e has.0 has.1 has.2 (λ none there. none_passes ys x none there passes)
    where
      of_test : (t : Bool) → p y ≡ t → (if t then Some y else find p ys) ≡ None → (i : ℕ) → i < length (y ∷ ys)
          → slice_index_or (y ∷ ys) i x ≡ x → (find p ys ≡ None → Contains ys x → ⊥) → ⊥
      of_test true here e i below at rest = cc
      of_test false here e zero below at rest =
          let same : p y ≡ true = ap p at ∙ passes in cc
      of_test false here e (suc i) below at rest = rest e (i, omega (arith, below), at)

  pub none_found : (xs : List X) → ((x : X) → Contains xs x → p x ≡ true → ⊥) → find p xs ≡ None
  none_found [] none = refl
  none_found (y ∷ ys) none =
      of_test (p y) refl
      (none_found ys (λ x has. none x (suc has.0, (let lt = has.1 in omega arith), has.2)))
    where
      of_test : (t : Bool) → p y ≡ t → find p ys ≡ None → (if t then Some y else find p ys) ≡ None
      of_test true here rest = absurd (none y (0, omega arith, refl) here)
      of_test false here rest = rest
