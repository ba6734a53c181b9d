-- What is found of an instance among what a thread keeps: its block, and its data.
use Rattle.std.proofs.Common.{◌≡◌, ◌∙◌, ◌==◌, ◌||◌, ◌++◌, ℕ, Bool, true, false, List, [], ◌∷◌, Option, Some, None, refl}
use Rattle.std.proofs.Common.{sym, ap, inl, inr}
use Rattle.std.specs.Prelude.{if◌then◌else◌, All}
use Rattle.std.specs.List.{flat_map, list_any}
use Rattle.std.specs.Option.{option_or}
use Rattle.std.proofs.lemmas.Bool.{cases_eq, eq-eqb, eqb-true, ne_eqb}
use Rattle.std.proofs.lemmas.List.Elements.{All-head, All-tail, All-weaker}
use Rattle.guest_machine.specs.Ranges.{Range}
use Rattle.loaded_modules.specs.declared.instance.Instance.{Instance}
use Rattle.loaded_modules.specs.Images.{JobImages}
use Rattle.module_data.specs.Pieces.{Piece, data_of}
use Rattle.module_table.specs.Laws.{HaveOwnNumbers}
use Rattle.module_table.specs.Past.{Past}
use Rattle.thread_blocks.specs.Held.{Owned, block_bytes, block_with, data_bytes, data_with}
use Rattle.thread_blocks.specs.JobWorlds.{blocks_in}
use Rattle.thread_blocks.specs.JobLoads.{job_loads}
use Rattle.thread_space.specs.Kept.{blocks_of, live_in, owned_of, shared_of}
use Rattle.thread_space.specs.Live.{IsLive}
use Rattle.thread_space.proofs.Live.{all_live, live_any, none_live, same_number}
use Rattle.thread_space.proofs.Owners.{data-append, data_behind, no_block_bytes, shared_no_blocks}
use Rattle.thread_vector.specs.Vectors.{Vector, held}
use Rattle.thread_vector.proofs.Stepping.{held_none}

-- ** blocks

module _ (thread : ℕ) (h : ℕ → Option (List ℕ)) (n : ℕ) (ys : List (Owned ℕ)) (none : block_bytes n ys ≡ None) where
  block_step : (x : Instance) (o : Option (List ℕ)) (rest : List (Owned ℕ)) (b any : Bool) → h x.number ≡ o
      → (x.number == n) ≡ b
      → block_bytes n (rest ++ ys) ≡ (if any then h n else None)
      → block_bytes n ((block_with thread x o ++ rest) ++ ys) ≡ (if b || any then h n else None)
  block_step x None rest false any at is found = found
  block_step x None rest true true at is found = found
  block_step x None rest true false at is found = found ∙ sym at ∙ ap h (eqb-true x.number n is)
  block_step x (Some bytes) rest false any at is found = rw is found
  block_step x (Some bytes) rest true any at is found = rw is (sym at ∙ ap h (eqb-true x.number n is))

  -- the block of a number is what its thread holds, if an instance of these has the number
  block_found : (xs : List Instance)
      → block_bytes n (flat_map (λ (x : Instance). block_with thread x (h x.number)) xs ++ ys)
      ≡ (if list_any (λ (x : Instance). x.number == n) xs then h n else None)
  block_found [] = none
  block_found (x ∷ xs) =
      block_step x (h x.number) (flat_map (λ (x : Instance). block_with thread x (h x.number)) xs) (x.number == n)
      (list_any (λ (x : Instance). x.number == n) xs) refl refl (block_found xs)

-- the block of an instance that a thread keeps is the one that it holds
pub bytes_held : (v : Vector) (ys : List (Owned ℕ)) (n : ℕ) → blocks_in ys ≡ []
    → block_bytes n (blocks_of v ++ ys) ≡ held v n
unfolding blocks_of
bytes_held v ys n none =
    block_found v.thread (held v) n ys (no_block_bytes n ys none) (live_in v.images v.past)
    ∙ by_any (list_any (λ (x : Instance). x.number == n) (live_in v.images v.past)) refl
  where
    by_any : (b : Bool) → list_any (λ (x : Instance). x.number == n) (live_in v.images v.past) ≡ b
        → (if b then held v n else None) ≡ held v n
    by_any true e = refl
    by_any false e = sym (held_none v n (none_live v.images v.past n e))

pub bytes_kept : (v : Vector) (d : List Piece) (n : ℕ) → block_bytes n (owned_of v d) ≡ held v n
bytes_kept v d n = bytes_held v (shared_of v.images v.past d) n (shared_no_blocks v.images v.past d)

-- ** data

module _ (shared : Instance → Option (Range ℕ)) (g : Instance → Option (List ℕ)) where
  data_other : (n : ℕ) (y : Instance) (o : Option (Range ℕ)) (r : Option (List ℕ)) → (y.number == n) ≡ false
      → data_bytes n (data_with y o r) ≡ None
  data_other n y None r apart = refl
  data_other n y (Some range) None apart = refl
  data_other n y (Some range) (Some bytes) apart = rw apart refl

  once_more : (o : Option (List ℕ)) (any : Bool) → option_or o (if any then o else None) ≡ o
  once_more None true = refl
  once_more None false = refl
  once_more (Some bytes) any = refl

  module _ (x : Instance) where
    -- of an instance that shares its number with no other
    data_found : (xs : List Instance) → All (λ y. y.number ≡ x.number → y ≡ x) xs
        → data_bytes x.number (flat_map (λ y. data_with y (shared y) (g y)) xs)
        ≡ (if list_any (λ (y : Instance). y.number == x.number) xs
        then data_bytes x.number (data_with x (shared x) (g x)) else None)
    data_found [] own = refl
    data_found (y ∷ xs) own =
        let rest = data_found xs (All-tail (λ y. y.number ≡ x.number → y ≡ x) y xs own) in
        let any = list_any (λ (y : Instance). y.number == x.number) xs in
        data-append x.number (data_with y (shared y) (g y)) (flat_map (λ y. data_with y (shared y) (g y)) xs)
        ∙ rw rest (elim (cases_eq y.number x.number) [
          | inl same ↦
              rw (All-head (λ y. y.number ≡ x.number → y ≡ x) y xs own same, eq-eqb x.number x.number refl)
              (once_more (data_bytes x.number (data_with x (shared x) (g x))) any)
          | inr apart ↦ rw (
            ne_eqb y.number x.number apart,
            data_other x.number y (shared y) (g y) (ne_eqb y.number x.number apart),
          ) refl
        ])

    found_again : (o : Option (Range ℕ)) (r : Option (List ℕ))
        → data_with x o (data_bytes x.number (data_with x o r)) ≡ data_with x o r
    found_again None r = refl
    found_again (Some range) None = refl
    found_again (Some range) (Some bytes) = rw (eq-eqb x.number x.number refl) refl

    data_alone : (m : JobImages) (p : Past) → HaveOwnNumbers p → IsLive m p x
        → data_bytes x.number (flat_map (λ y. data_with y (shared y) (g y)) (live_in m p))
        ≡ data_bytes x.number (data_with x (shared x) (g x))
    data_alone m p own live =
        rw (
          data_found (live_in m p)
              (All-weaker (IsLive m p) (λ y. y.number ≡ x.number → y ≡ x)
              (λ y here same. same_number m p x y own live here same) (live_in m p) (all_live m p)),
          live_any m p x live,
        ) refl

    -- the data of a live instance, where those of all that are live stand
    pub data_kept : (m : JobImages) (p : Past) → HaveOwnNumbers p → IsLive m p x
        → data_with x (shared x) (data_bytes x.number (flat_map (λ y. data_with y (shared y) (g y)) (live_in m p)))
        ≡ data_with x (shared x) (g x)
    data_kept m p own live = rw (data_alone m p own live) (found_again (shared x) (g x))

-- the data of a live instance that a thread keeps
pub data_held : (v : Vector) (d : List Piece) (x : Instance) (range : Range ℕ) → HaveOwnNumbers v.past
    → IsLive v.images v.past x
    → (job_loads v.images).shared x ≡ Some range → data_bytes x.number (owned_of v d) ≡ data_of d x.number x.image
unfolding shared_of
data_held v d x range own live has =
    data_behind v x.number (shared_of v.images v.past d)
    ∙ data_alone (λ y. (job_loads v.images).shared y) (λ y. data_of d y.number y.image) x v.images v.past own live
    ∙ ap (λ o. data_bytes x.number (data_with x o (data_of d x.number x.image))) has
    ∙ by_bytes (data_of d x.number x.image)
  where
    by_bytes : (bytes : Option (List ℕ)) → data_bytes x.number (data_with x (Some range) bytes) ≡ bytes
    by_bytes None = refl
    by_bytes (Some bytes) = rw (eq-eqb x.number x.number refl) refl
