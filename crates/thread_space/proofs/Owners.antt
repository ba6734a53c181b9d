-- Ranges with their owners: blocks and data apart.
use Rattle.std.proofs.Common.{◌≡◌, ◌∙◌, ◌++◌, ℕ, Bool, List, [], ◌∷◌, Option, Some, None, refl, ap, inl, inr}
use Rattle.std.proofs.Common.{append-nil}
use Rattle.std.specs.Prelude.{not, option_map}
use Rattle.std.specs.List.{filter, flat_map}
use Rattle.std.specs.Option.{option_or}
use Rattle.std.proofs.lemmas.Bool.{cases_Bool}
use Rattle.std.proofs.lemmas.List.Elements.{filter-append}
use Rattle.std.proofs.lemmas.List.Folds.{find-append}
use Rattle.guest_machine.specs.Ranges.{Range}
use Rattle.loaded_modules.specs.declared.instance.Instance.{Instance}
use Rattle.loaded_modules.specs.Images.{JobImages}
use Rattle.module_data.specs.Pieces.{Piece}
use Rattle.module_table.specs.Past.{Past}
use Rattle.thread_blocks.specs.Held.{Owned, block_bytes, block_with, data_bytes, data_with, is_block, is_block_of}
use Rattle.thread_blocks.specs.Held.{is_data_of, owned, owners_of, ranges_in}
use Rattle.thread_blocks.specs.JobWorlds.{blocks_in, data_in as data_among}
use Rattle.thread_space.specs.Kept.{blocks_of, live_in, owned_of, shared_of}
use Rattle.thread_vector.specs.Vectors.{Vector, held}

-- ranges and their owners, put together again
pub owned_again : {B : Type 0} (xs : List (Owned B)) → owned (owners_of xs) (ranges_in xs) ≡ xs
owned_again [] = refl
owned_again (x ∷ xs) = ap (λ ys. x ∷ ys) (owned_again xs)

-- ** what is filtered of many

module _ {X Y : Type 0} (p : Y → Bool) (made : X → List Y) where
  all_pass : ((x : X) → filter p (made x) ≡ made x) → (xs : List X) → filter p (flat_map made xs) ≡ flat_map made xs
  all_pass each [] = refl
  all_pass each (x ∷ xs) = filter-append p (made x) (flat_map made xs) ∙ rw (each x, all_pass each xs) refl

  none_passes : ((x : X) → filter p (made x) ≡ []) → (xs : List X) → filter p (flat_map made xs) ≡ []
  none_passes each [] = refl
  none_passes each (x ∷ xs) = filter-append p (made x) (flat_map made xs) ∙ rw (each x, none_passes each xs) refl

-- ** blocks and data

block_is_block : (thread : ℕ) (x : Instance) (bytes : Option (List ℕ))
    → blocks_in (block_with thread x bytes) ≡ block_with thread x bytes
block_is_block thread x None = refl
block_is_block thread x (Some bytes) = refl

block_no_data : (thread : ℕ) (x : Instance) (bytes : Option (List ℕ)) → data_among (block_with thread x bytes) ≡ []
block_no_data thread x None = refl
block_no_data thread x (Some bytes) = refl

data_is_data : (x : Instance) (range : Option (Range ℕ)) (bytes : Option (List ℕ))
    → data_among (data_with x range bytes) ≡ data_with x range bytes
data_is_data x None bytes = refl
data_is_data x (Some range) None = refl
data_is_data x (Some range) (Some bytes) = refl

data_no_block : (x : Instance) (range : Option (Range ℕ)) (bytes : Option (List ℕ))
    → blocks_in (data_with x range bytes) ≡ []
data_no_block x None bytes = refl
data_no_block x (Some range) None = refl
data_no_block x (Some range) (Some bytes) = refl

module _ (v : Vector) where
  pub blocks_are_blocks : blocks_in (blocks_of v) ≡ blocks_of v
  unfolding blocks_of
  blocks_are_blocks =
      all_pass (λ y. is_block y.owner.kind) (λ (x : Instance). block_with v.thread x (held v x.number))
      (λ x. block_is_block v.thread x (held v x.number)) (live_in v.images v.past)

  pub blocks_no_data : data_among (blocks_of v) ≡ []
  unfolding blocks_of
  blocks_no_data =
      none_passes (λ y. not (is_block y.owner.kind)) (λ (x : Instance). block_with v.thread x (held v x.number))
      (λ x. block_no_data v.thread x (held v x.number)) (live_in v.images v.past)

-- data of instances, whatever they are
module _ (shared : Instance → Option (Range ℕ)) (g : Instance → Option (List ℕ)) (xs : List Instance) where
  pub some_data : data_among (flat_map (λ y. data_with y (shared y) (g y)) xs)
      ≡ flat_map (λ y. data_with y (shared y) (g y)) xs
  some_data =
      all_pass (λ y. not (is_block y.owner.kind)) (λ (y : Instance). data_with y (shared y) (g y))
      (λ y. data_is_data y (shared y) (g y)) xs

  pub no_blocks : blocks_in (flat_map (λ y. data_with y (shared y) (g y)) xs) ≡ []
  no_blocks =
      none_passes (λ y. is_block y.owner.kind) (λ (y : Instance). data_with y (shared y) (g y))
      (λ y. data_no_block y (shared y) (g y)) xs

module _ (m : JobImages) (p : Past) (d : List Piece) where
  pub shared_is_data : data_among (shared_of m p d) ≡ shared_of m p d
  unfolding shared_of
  shared_is_data = some_data _ _ (live_in m p)

  pub shared_no_blocks : blocks_in (shared_of m p d) ≡ []
  unfolding shared_of
  shared_no_blocks = no_blocks _ _ (live_in m p)

module _ (v : Vector) (d : List Piece) where
  pub blocks_of_owned : blocks_in (owned_of v d) ≡ blocks_of v
  blocks_of_owned =
      filter-append (λ y. is_block y.owner.kind) (blocks_of v) (shared_of v.images v.past d)
      ∙ rw (blocks_are_blocks v, shared_no_blocks v.images v.past d) (append-nil (blocks_of v))

  pub data_of_owned : data_among (owned_of v d) ≡ shared_of v.images v.past d
  data_of_owned =
      filter-append (λ y. not (is_block y.owner.kind)) (blocks_of v) (shared_of v.images v.past d)
      ∙ rw (blocks_no_data v, shared_is_data v.images v.past d) refl

-- ** where nothing is found

cons_not : {Y : Type 0} (y : Y) (ys : List Y) → y ∷ ys ≡ [] → ⊥
cons_not y ys e = cc

pub no_block_bytes : (n : ℕ) (ys : List (Owned ℕ)) → blocks_in ys ≡ [] → block_bytes n ys ≡ None
no_block_bytes n [] none = refl
no_block_bytes n (y ∷ ys) none = elim (cases_Bool (is_block y.owner.kind)) [
  | inl block ↦ absurd (cons_not y (blocks_in ys) (rw block at none))
  | inr other ↦ rw other (no_block_bytes n ys (rw other at none))
]

pub no_data_bytes : (n : ℕ) (ys : List (Owned ℕ)) → data_among ys ≡ [] → data_bytes n ys ≡ None
no_data_bytes n [] none = refl
no_data_bytes n (y ∷ ys) none = elim (cases_Bool (is_block y.owner.kind)) [
  | inl block ↦ rw block (no_data_bytes n ys (rw block at none))
  | inr other ↦ absurd (cons_not y (data_among ys) (rw other at none))
]

-- ** one list behind another

map_or : (o r : Option (Owned ℕ))
    → option_map (λ y. y.range.bytes) (option_or o r)
    ≡ option_or (option_map (λ y. y.range.bytes) o) (option_map (λ y. y.range.bytes) r)
map_or None r = refl
map_or (Some y) r = refl

pub data-append : (n : ℕ) (xs ys : List (Owned ℕ))
    → data_bytes n (xs ++ ys) ≡ option_or (data_bytes n xs) (data_bytes n ys)
data-append n xs ys = ap (option_map (λ y. y.range.bytes)) (find-append (λ y. is_data_of n y.owner) xs ys) ∙ map_or _ _

-- behind blocks
pub data_behind : (v : Vector) (n : ℕ) (ys : List (Owned ℕ)) → data_bytes n (blocks_of v ++ ys) ≡ data_bytes n ys
data_behind v n ys = data-append n (blocks_of v) ys ∙ rw (no_data_bytes n (blocks_of v) (blocks_no_data v)) refl
