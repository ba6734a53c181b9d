-- A thread's entry, as it is found by its number.
use Rattle.std.proofs.Common.{◌≡◌, ◌∙◌, ◌-◌, ℕ, zero, suc, List, [], ◌∷◌, true, nat_lt, get_or, map, refl, arith}
use Rattle.std.specs.Prelude.{slice_get}
use Rattle.std.specs.Option.{option_map_or}
use Rattle.job_text.specs.Numbering.{at_number}
use Rattle.job_text.specs.Threads.{of_thread}

module _ {V X : Type 0} (view : V → List X) where
  at_index : (all : List V) (i : ℕ) → get_or (map view all) i [] ≡ option_map_or view (slice_get all i) []
  at_index [] i = refl
  at_index (v ∷ all) zero = refl
  at_index (v ∷ all) (suc i) = at_index all i

  pub entry_at : (all : List V) (thread : ℕ)
      → of_thread (map view all) thread ≡ option_map_or view (at_number all thread) []
  entry_at all zero = refl
  entry_at all (suc i) =
      let positive : nat_lt 0 (suc i) ≡ true = grind arith in
      let index : suc i - 1 ≡ i = omega arith in
      rw (positive, index) (at_index all i)
