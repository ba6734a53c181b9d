-- The symbol beside the first name that passes a test.
use Rattle.std.proofs.Common.{◌≡◌, ◌+◌, ◌∙◌, ℕ, suc, Bool, true, false, List, [], ◌∷◌, Option, Some, refl, ap, arith}
use Rattle.std.specs.Prelude.{cond, option_and_then, slice_get}
use Rattle.std.specs.List.{position_from}

-- names and symbols stand beside each other, from number 0 on
abbrev pub first_named : {X : Type 0} → (List ℕ → Bool) → List (List ℕ) → List X → Option X
first_named test names symbols = option_and_then (slice_get symbols) (position_from test 0 names)

module _ {X : Type 0} (test : List ℕ → Bool) where
  -- names that are numbered from one later on name symbols before which one more stands
  pub one_later : (names : List (List ℕ)) (i : ℕ) (x : X) (xs : List X)
      → option_and_then (slice_get (x ∷ xs)) (position_from test (suc i) names)
      ≡ option_and_then (slice_get xs) (position_from test i names)
  one_later [] i x xs = refl
  one_later (name ∷ names) i x xs =
      let next : suc i + 1 ≡ suc (i + 1) = omega arith in
      of_test (test name)
      (ap (λ n. option_and_then (slice_get (x ∷ xs)) (position_from test n names)) next
      ∙ one_later names (i + 1) x xs)
    where
      of_test : (t : Bool)
          → option_and_then (slice_get (x ∷ xs)) (position_from test (suc i + 1) names)
          ≡ option_and_then (slice_get xs) (position_from test (i + 1) names)
          → option_and_then (slice_get (x ∷ xs)) (cond t (Some (suc i)) (position_from test (suc i + 1) names))
          ≡ option_and_then (slice_get xs) (cond t (Some i) (position_from test (i + 1) names))
      of_test true rest = refl
      of_test false rest = rest

  pub first_here : (name : List ℕ) (names : List (List ℕ)) (x : X) (xs : List X) → test name ≡ true
      → first_named test (name ∷ names) (x ∷ xs) ≡ Some x
  first_here name names x xs passes = rw passes refl

  pub first_behind : (name : List ℕ) (names : List (List ℕ)) (x : X) (xs : List X) → test name ≡ false
      → first_named test (name ∷ names) (x ∷ xs) ≡ first_named test names xs
  first_behind name names x xs fails = rw fails (one_later names 0 x xs)
