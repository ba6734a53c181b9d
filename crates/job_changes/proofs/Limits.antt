-- Lines that get a limit, one after another.
use Rattle.std.proofs.Common.{◌≡◌, ◌≢◌, ◌∙◌, ◌+◌, ◌<◌, ◌≤◌, ◌⊎◌, ◌||◌, ℕ, Bool, true, false, Some, List, [], take}
use Rattle.std.proofs.Common.{length, refl, sym, ap, subst, arith, inl, inr}
use Rattle.std.specs.Prelude.{IfSome, IsSomeAnd, slice_index_or, unwrap_or}
use Rattle.std.specs.List.{list_any}
use Rattle.std.proofs.lemmas.Bool.{cases_eq}
use Rattle.std.proofs.lemmas.List.Folds.{list_any_more}
use Rattle.job_changes.specs.Fuel.{AsksBeyond, AsksWithin, IsBeyond, IsLimited, IsWithin, fuel_in, has_fuel, words_of}

pub within_or_more : (more : Bool) (most : ℕ) (line word : List ℕ) → fuel_in (words_of line) ≡ Some word
    → (more ≡ false → IsWithin most word)
    → (Some more ≡ Some true) ⊎ AsksWithin most line
within_or_more true most line word is within = inl refl
within_or_more false most line word is within = inr (subst (λ o. IfSome o (IsWithin most)) (sym is) (within refl))

pub more_is_beyond : (more : Bool) (most : ℕ) (line word : List ℕ) → fuel_in (words_of line) ≡ Some word
    → (more ≡ true → IsBeyond most word)
    → Some more ≡ Some true → AsksBeyond most line
more_is_beyond more most line word is beyond e =
    subst (λ o. IsSomeAnd o (IsBeyond most)) (sym is) (beyond (ap (λ o. unwrap_or o false) e))

-- lines at first, before a step and after it
module _ (most : ℕ) (first now next : List (List ℕ)) (n : ℕ) where
  pub front_more : ((k : ℕ) → k < n → IsLimited most (slice_index_or first k []) (slice_index_or now k []))
      → ((k : ℕ) → n ≤ k → slice_index_or now k [] ≡ slice_index_or first k [])
      → IsLimited most (slice_index_or now n []) (slice_index_or next n [])
      → ((k : ℕ) → k ≢ n → slice_index_or next k [] ≡ slice_index_or now k [])
      → (k : ℕ) → k < n + 1 → IsLimited most (slice_index_or first k []) (slice_index_or next k [])
  front_more front rest here others k low = at (cases_eq k n)
    where
      at : (k ≡ n) ⊎ (k ≢ n) → IsLimited most (slice_index_or first k []) (slice_index_or next k [])
      at (inl e) =
          subst (λ j. IsLimited most (slice_index_or first j []) (slice_index_or next j [])) (sym e)
          (subst (λ line. IsLimited most line (slice_index_or next n [])) (rest n (omega arith)) here)
      at (inr differs) =
          subst (λ line. IsLimited most (slice_index_or first k []) line) (sym (others k differs))
          (front k (omega arith))

  pub rest_less : ((k : ℕ) → n ≤ k → slice_index_or now k [] ≡ slice_index_or first k [])
      → ((k : ℕ) → k ≢ n → slice_index_or next k [] ≡ slice_index_or now k [])
      → (k : ℕ) → n + 1 ≤ k → slice_index_or next k [] ≡ slice_index_or first k []
  rest_less rest others k high = others k (omega arith) ∙ rest k (omega arith)

pub then_said : (was is gives : Bool) → gives ≡ true → is ≡ true → is ≡ (was || gives)
then_said true is gives g e = e
then_said false is gives g e = e ∙ sym g

pub else_said : (was is gives : Bool) → gives ≡ false → is ≡ was → is ≡ (was || gives)
else_said true is gives g e = e
else_said false is gives g e = e ∙ sym g

pub said_more : (first now : List (List ℕ)) (n : ℕ) (was is gives : Bool) → n < length first
    → was ≡ list_any has_fuel (take n first)
    → gives ≡ has_fuel (slice_index_or now n []) → slice_index_or now n [] ≡ slice_index_or first n []
    → is ≡ (was || gives)
    → is ≡ list_any has_fuel (take (n + 1) first)
said_more first now n was is gives low before here same e =
    e ∙ ap (λ b. b || gives) before ∙ ap (λ b. list_any has_fuel (take n first) || b) (here ∙ ap has_fuel same)
    ∙ sym (list_any_more has_fuel first n [] low)
