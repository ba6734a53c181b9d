-- Ranges with their owners: blocks and data apart.
use Rattle.std.proofs.Common.{◌≡◌, ◌∙◌, ◌++◌, ℕ, Bool, false, List, [], ◌∷◌, Option, Some, None, refl, ap, inl, inr}
use Rattle.std.proofs.Common.{append-nil}
use Rattle.std.specs.Prelude.{not}
use Rattle.std.specs.List.{filter, flat_map}
use Rattle.std.specs.Option.{option_or}
use Rattle.std.proofs.lemmas.Bool.{cases_Bool}
use Rattle.std.proofs.lemmas.List.Elements.{filter-append}
use Rattle.guest_operands.specs.Ranges.{Range}
use Rattle.loaded_modules.specs.declared.instance.Instance.{Instance}
use Rattle.thread_blocks.specs.Held.{Owned, block_after, block_bytes, block_with, data_after, data_bytes, data_with}
use Rattle.thread_blocks.specs.Held.{fresh_data, fresh_if, held_of, is_block, owned, owners_of, ranges_in}
use Rattle.thread_blocks.specs.Instances.{Loads}
use Rattle.thread_blocks.specs.JobWorlds.{blocks_in, data_in}

module _ {B : Type 0} where
  -- ranges and their owners, put together again
  pub owned_again : (xs : List (Owned B)) → owned (owners_of xs) (ranges_in xs) ≡ xs
  owned_again [] = refl
  owned_again (x ∷ xs) = ap (λ ys. x ∷ ys) (owned_again xs)

  -- ** blocks are no data

  pub blocks_twice : (xs : List (Owned B)) → blocks_in (blocks_in xs) ≡ blocks_in xs
  blocks_twice [] = refl
  blocks_twice (x ∷ xs) = elim (cases_Bool (is_block x.owner.kind)) [
    | inl block ↦ rw (block, block) (ap (λ ys. x ∷ ys) (blocks_twice xs))
    | inr other ↦ rw other (blocks_twice xs)
  ]

  pub data_of_blocks : (xs : List (Owned B)) → data_in (blocks_in xs) ≡ []
  data_of_blocks [] = refl
  data_of_blocks (x ∷ xs) = elim (cases_Bool (is_block x.owner.kind)) [
    | inl block ↦ rw (block, block) (data_of_blocks xs)
    | inr other ↦ rw other (data_of_blocks xs)
  ]

  pub data_twice : (xs : List (Owned B)) → data_in (data_in xs) ≡ data_in xs
  data_twice [] = refl
  data_twice (x ∷ xs) = elim (cases_Bool (is_block x.owner.kind)) [
    | inl block ↦ rw block (data_twice xs)
    | inr other ↦ rw (other, other) (ap (λ ys. x ∷ ys) (data_twice xs))
  ]

  pub blocks_of_data : (xs : List (Owned B)) → blocks_in (data_in xs) ≡ []
  blocks_of_data [] = refl
  blocks_of_data (x ∷ xs) = elim (cases_Bool (is_block x.owner.kind)) [
    | inl block ↦ rw block (blocks_of_data xs)
    | inr other ↦ rw (other, other) (blocks_of_data xs)
  ]

  -- blocks, and data behind them
  module _ (xs ys : List (Owned B)) (blocks : blocks_in xs ≡ xs) (no_data : data_in xs ≡ [])
      (are_data : data_in ys ≡ ys)
      (no_blocks : blocks_in ys ≡ []) where
    pub blocks_before : blocks_in (xs ++ ys) ≡ xs
    blocks_before = filter-append (λ y. is_block y.owner.kind) xs ys ∙ rw (blocks, no_blocks) (append-nil xs)

    pub data_behind : data_in (xs ++ ys) ≡ ys
    data_behind = filter-append (λ y. not (is_block y.owner.kind)) xs ys ∙ rw (no_data, are_data) refl

-- ** what is filtered of many

module _ {X Y : Type 0} (p : Y → Bool) (made : X → List Y) where
  all_pass : ((x : X) → filter p (made x) ≡ made x) → (xs : List X) → filter p (flat_map made xs) ≡ flat_map made xs
  all_pass each [] = refl
  all_pass each (x ∷ xs) = filter-append p (made x) (flat_map made xs) ∙ rw (each x, all_pass each xs) refl

  none_passes : ((x : X) → filter p (made x) ≡ []) → (xs : List X) → filter p (flat_map made xs) ≡ []
  none_passes each [] = refl
  none_passes each (x ∷ xs) = filter-append p (made x) (flat_map made xs) ∙ rw (each x, none_passes each xs) refl

none_made : {X Y : Type 0} (made : X → List Y) → ((x : X) → made x ≡ []) → (xs : List X) → flat_map made xs ≡ []
none_made made each [] = refl
none_made made each (x ∷ xs) = rw (each x, none_made made each xs) refl

-- ** what is held at first

module _ {B : Type 0} (l : Loads B) (thread : ℕ) where
  block_is_block : (x : Instance) (bytes : Option (List B))
      → blocks_in (block_with thread x bytes) ≡ block_with thread x bytes
  block_is_block x None = refl
  block_is_block x (Some bytes) = refl

  block_no_data : (x : Instance) (bytes : Option (List B)) → data_in (block_with thread x bytes) ≡ []
  block_no_data x None = refl
  block_no_data x (Some bytes) = refl

  data_is_data : (x : Instance) (range : Option (Range B)) (bytes : Option (List B))
      → data_in (data_with x range bytes) ≡ data_with x range bytes
  data_is_data x None bytes = refl
  data_is_data x (Some range) None = refl
  data_is_data x (Some range) (Some bytes) = refl

  data_no_block : (x : Instance) (range : Option (Range B)) (bytes : Option (List B))
      → blocks_in (data_with x range bytes) ≡ []
  data_no_block x None bytes = refl
  data_no_block x (Some range) None = refl
  data_no_block x (Some range) (Some bytes) = refl

  module _ (reaches loads : Instance → Bool) (xs : List (Owned B)) (live : List Instance) where
    pub after_are_data : data_in (flat_map (data_after l loads xs) live) ≡ flat_map (data_after l loads xs) live
    after_are_data = all_pass (λ y. not (is_block y.owner.kind)) (data_after l loads xs)
        (λ x. data_is_data x (l.shared x) (option_or (fresh_data (l.shared x) (loads x)) (data_bytes x.number xs))) live

    pub after_no_blocks : blocks_in (flat_map (data_after l loads xs) live) ≡ []
    after_no_blocks = none_passes (λ y. is_block y.owner.kind) (data_after l loads xs)
        (λ x. data_no_block x (l.shared x)
        (option_or (fresh_data (l.shared x) (loads x)) (data_bytes x.number xs))) live

    blocks_after : blocks_in (flat_map (block_after l thread reaches xs) live)
        ≡ flat_map (block_after l thread reaches xs) live
    blocks_after = all_pass (λ y. is_block y.owner.kind) (block_after l thread reaches xs)
        (λ x. block_is_block x (option_or (block_bytes x.number xs) (fresh_if (reaches x) (l.block x)))) live

    no_data_after : data_in (flat_map (block_after l thread reaches xs) live) ≡ []
    no_data_after = none_passes (λ y. not (is_block y.owner.kind)) (block_after l thread reaches xs)
        (λ x. block_no_data x (option_or (block_bytes x.number xs) (fresh_if (reaches x) (l.block x)))) live

  -- where nothing was held and nothing is loaded there is no data
  none_fresh : (x : Instance) (range : Option (Range B))
      → data_with x range (option_or (fresh_data range false) None) ≡ []
  none_fresh x None = refl
  none_fresh x (Some range) = refl

  module _ (reaches loads : Instance → Bool) (none : (x : Instance) → loads x ≡ false) (live : List Instance) where
    no_data_first : flat_map (data_after l loads []) live ≡ []
    no_data_first = none_made (data_after l loads []) (λ x. rw (none x) (none_fresh x (l.shared x))) live

    pub first_blocks : blocks_in (held_of l thread reaches loads live []) ≡ held_of l thread reaches loads live []
    first_blocks = rw (no_data_first, append-nil (flat_map (block_after l thread reaches []) live))
        (blocks_after reaches loads [] live)

    pub first_no_data : data_in (held_of l thread reaches loads live []) ≡ []
    first_no_data = rw (no_data_first, append-nil (flat_map (block_after l thread reaches []) live))
        (no_data_after reaches loads [] live)
