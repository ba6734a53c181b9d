-- Lists of threads with another thread in a place, and unclean lines, which stay.
use Rattle.std.proofs.Common.{◌≡◌, ◌⊎◌, ◌∙◌, ℕ, zero, suc, List, [], ◌∷◌, Option, Some, None, refl, subst, inl, inr}
use Rattle.std.specs.Prelude.{slice_get, slice_set}
use Rattle.module_table.specs.declared.events.Event.{Event}
use Rattle.thread_blocks.specs.Held.{Held}
use Rattle.thread_blocks.specs.JobWorlds.{Shared, shared_order, shared_turn, with_data, without_data}
use Rattle.thread_blocks.specs.SpaceLaws.{FoundAlike}
use Rattle.thread_blocks.specs.Turns.{Thread, Turns, at_number, turn}
use Rattle.thread_blocks.specs.TurnsAlike.{HasUnclean}
use Rattle.thread_blocks.proofs.Turns.{turn-sticky}
use Rattle.thread_blocks.proofs.Orders.{get-set, get-set_same}
use Rattle.order_laws.specs.Worlds.{IsSomeUnclean}

-- ** lists with another element in a place

-- lists that are related place by place, with related elements in one place
pub found_set : {X X' : Type 0} (R : ℕ → X → X' → Type 0) (xs : List X) (ys : List X') (i : ℕ) (u : X) (u' : X')
    → ((j : ℕ) → FoundAlike (R j) (slice_get xs j) (slice_get ys j)) → R i u u'
    → (j : ℕ) → FoundAlike (R j) (slice_get (slice_set xs i u) j) (slice_get (slice_set ys i u') j)
found_set R [] [] i u u' all r j = all j
found_set R [] (y ∷ ys) i u u' all r j = absurd (all zero)
found_set R (x ∷ xs) [] i u u' all r j = absurd (all zero)
found_set R (x ∷ xs) (y ∷ ys) zero u u' all r zero = r
found_set R (x ∷ xs) (y ∷ ys) zero u u' all r (suc j) = all (suc j)
found_set R (x ∷ xs) (y ∷ ys) (suc i) u u' all r zero = all zero
found_set R (x ∷ xs) (y ∷ ys) (suc i) u u' all r (suc j) =
    found_set (λ k. R (suc k)) xs ys i u u' (λ k. all (suc k)) r j

-- places where there is an element are places where there was one
pub within_set : {X : Type 0} (P : ℕ → Type 0) (xs : List X) (i : ℕ) (u : X)
    → ((j : ℕ) (t : X) → slice_get xs j ≡ Some t → P j)
    → (j : ℕ) (t : X) → slice_get (slice_set xs i u) j ≡ Some t → P j
within_set P [] i u all j t found = all j t found
within_set P (x ∷ xs) zero u all zero t found = all zero x refl
within_set P (x ∷ xs) zero u all (suc j) t found = all (suc j) t found
within_set P (x ∷ xs) (suc i) u all zero t found = all zero t found
within_set P (x ∷ xs) (suc i) u all (suc j) t found =
    within_set (λ k. P (suc k)) xs i u (λ k s f. all (suc k) s f) j t found

-- ** an unclean line stays, of whichever thread it is

module _ {W F B L : Type 0} (x : ℕ → Turns (Held W F B) L Event) (event : ℕ → L → List Event → Option Event) where
  some_sticky : (w : Shared W F B L) (j : ℕ) (u : Thread (Held W F B) L Event) → slice_get w.threads j ≡ Some u
      → IsSomeUnclean w
      → IsSomeUnclean (shared_turn x event w (suc j) (Some u))
  some_sticky w j u found h =
      let new = without_data (turn (x (suc j)) (with_data w.shared u) w.events) in
      (elim (get-set w.threads h.number j new)
      as (λ (o : (j ≡ h.number) ⊎ (slice_get (slice_set w.threads j new) h.number ≡ slice_get w.threads h.number)).
      IsSomeUnclean (shared_turn x event w (suc j) (Some u))) [
        | inl here ↦
            let same : slice_get w.threads h.number ≡ Some u =
            subst (λ (n : ℕ). slice_get w.threads n ≡ Some u) here found in
            let is : h.thread ≡ u = let there = h.there in cc in
            record {
              number = j;
              thread = new;
              there = get-set_same w.threads j u new found;
              unclean = turn-sticky (x (suc j)) (with_data w.shared u) w.events
                  (subst (λ (t : Thread (Held W F B) L Event). HasUnclean t.said) is h.unclean);
            }
        | inr other ↦ record { number = h.number; thread = h.thread; there = other ∙ h.there; unclean = h.unclean }
      ])

  turn_sticky : (w : Shared W F B L) (i : ℕ) → IsSomeUnclean w
      → IsSomeUnclean (shared_turn x event w i (at_number w.threads i))
  turn_sticky w zero h = h
  turn_sticky w (suc j) h =
      (elim (slice_get w.threads j)
      as (λ (o : Option (Thread (Held W F B) L Event)). slice_get w.threads j ≡ o
      → IsSomeUnclean (shared_turn x event w (suc j) o)) [
        | None ↦ λ e. h
        | Some u ↦ λ e. some_sticky w j u e h
      ]) refl

  pub order_sticky : (order : List ℕ) (w : Shared W F B L) → IsSomeUnclean w
      → IsSomeUnclean (shared_order x event order w)
  order_sticky [] w h = h
  order_sticky (i ∷ order) w h =
      order_sticky order (shared_turn x event w i (at_number w.threads i)) (turn_sticky w i h)
