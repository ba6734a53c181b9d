-- A thread that holds blocks alone, and looks, which leave it so where no image has data.
use Rattle.std.proofs.Common.{◌≡◌, ◌++◌, ◌==◌, Bool, true, false, ℕ, List, [], ◌∷◌, Option, Some, None, refl, ap}
use Rattle.std.specs.Prelude.{if◌then◌else◌, is_some}
use Rattle.std.specs.List.{flat_map}
use Rattle.guest_machine.specs.Ranges.{Range, grants, with_byte}
use Rattle.guest_operands.specs.declared.space.Access.TheVariants.{Write}
use Rattle.loaded_modules.specs.declared.instance.Instance.{Instance}
use Rattle.module_table.specs.declared.events.Event.{Event}
use Rattle.thread_blocks.specs.Held.{Held, Owned, Owner, block_after, block_with, data_after, data_with, held_of}
use Rattle.thread_blocks.specs.Held.{is_block, loaded, loaded_at, looked, looked_at, owned, owned_by, owners_of}
use Rattle.thread_blocks.specs.Held.{ranges_in, reached, reached_at}
use Rattle.thread_blocks.specs.Instances.{Loads, instances}
use Rattle.thread_blocks.specs.JobWorlds.{blocks_in, data_in}

-- ** ranges that are all blocks

module _ {B : Type 0} where
  -- each range has an owner, and is the block of it
  abbrev pub AreBlocks : List Owner → List (Range B) → Type 0
  AreBlocks [] [] = Unit {0}
  AreBlocks [] (r ∷ rs) = ⊥
  AreBlocks (o ∷ os) [] = ⊥
  AreBlocks (o ∷ os) (r ∷ rs) = (is_block o.kind ≡ true) × AreBlocks os rs

  pub owners_again : (os : List Owner) (rs : List (Range B)) → AreBlocks os rs → owners_of (owned os rs) ≡ os
  owners_again [] [] are = refl
  owners_again [] (r ∷ rs) are = absurd are
  owners_again (o ∷ os) [] are = absurd are
  owners_again (o ∷ os) (r ∷ rs) are = ap (λ more. o ∷ more) (owners_again os rs are.1)

  pub ranges_again : (os : List Owner) (rs : List (Range B)) → AreBlocks os rs → ranges_in (owned os rs) ≡ rs
  ranges_again [] [] are = refl
  ranges_again [] (r ∷ rs) are = absurd are
  ranges_again (o ∷ os) [] are = absurd are
  ranges_again (o ∷ os) (r ∷ rs) are = ap (λ more. r ∷ more) (ranges_again os rs are.1)

  pub blocks_again : (os : List Owner) (rs : List (Range B)) → AreBlocks os rs → blocks_in (owned os rs) ≡ owned os rs
  blocks_again [] [] are = refl
  blocks_again [] (r ∷ rs) are = absurd are
  blocks_again (o ∷ os) [] are = absurd are
  blocks_again (o ∷ os) (r ∷ rs) are =
      rw are.0 (ap (λ more. record { owner = o; range = r } ∷ more) (blocks_again os rs are.1))

  pub no_data : (os : List Owner) (rs : List (Range B)) → AreBlocks os rs → data_in (owned os rs) ≡ []
  no_data [] [] are = refl
  no_data [] (r ∷ rs) are = absurd are
  no_data (o ∷ os) [] are = absurd are
  no_data (o ∷ os) (r ∷ rs) are = rw are.0 (no_data os rs are.1)

  -- a write changes bytes alone
  either_are : (g : Bool) (os : List Owner) (xs ys : List (Range B)) → AreBlocks os xs → AreBlocks os ys
      → AreBlocks os (if g then xs else ys)
  either_are true os xs ys h k = h
  either_are false os xs ys h k = k

  pub written_are : (os : List Owner) (rs : List (Range B)) (place : ℕ) (byte : B) → AreBlocks os rs
      → AreBlocks os (with_byte rs place byte)
  written_are [] [] place byte are = tt
  written_are [] (r ∷ rs) place byte are = absurd are
  written_are (o ∷ os) [] place byte are = absurd are
  written_are (o ∷ os) (r ∷ rs) place byte are =
      either_are (grants Write r place) (o ∷ os) _ (r ∷ with_byte rs place byte) (are.0, are.1)
      (are.0, written_are os rs place byte are.1)

  -- ** what is held with its owners

  abbrev AllBlocks : List (Owned B) → Type 0
  AllBlocks xs = AreBlocks (owners_of xs) (ranges_in xs)

  all_append : (xs ys : List (Owned B)) → AllBlocks xs → AllBlocks ys → AllBlocks (xs ++ ys)
  all_append [] ys h k = k
  all_append (x ∷ xs) ys h k = (h.0, all_append xs ys h.1 k)

  all_made : (made : Instance → List (Owned B)) → ((x : Instance) → AllBlocks (made x)) → (xs : List Instance)
      → AllBlocks (flat_map made xs)
  all_made made each [] = tt
  all_made made each (x ∷ xs) = all_append (made x) (flat_map made xs) (each x) (all_made made each xs)

-- what a thread holds is blocks
abbrev pub HoldsBlocks : {W F B : Type 0} → Held W F B → Type 0
HoldsBlocks h = AreBlocks h.owners h.after.memory.own

module _ {B : Type 0} (l : Loads B) (none : (x : Instance) → l.shared x ≡ None) (thread : ℕ) where
  block_made : (x : Instance) (bytes : Option (List B)) → AllBlocks (block_with thread x bytes)
  block_made x None = tt
  block_made x (Some bytes) = (refl, tt)

  data_made : (x : Instance) (range : Option (Range B)) (bytes : Option (List B)) → range ≡ None
      → AllBlocks (data_with x range bytes)
  data_made x range bytes e = rw e tt

  held_blocks : (reaches loads : Instance → Bool) (live : List Instance) (xs : List (Owned B))
      → AllBlocks (held_of l thread reaches loads live xs)
  held_blocks reaches loads live xs =
      all_append (flat_map (block_after l thread reaches xs) live) (flat_map (data_after l loads xs) live)
      (all_made (block_after l thread reaches xs) (λ x. block_made x _) live)
      (all_made (data_after l loads xs) (λ x. data_made x (l.shared x) _ (none x)) live)

  -- ** looks

  module _ {W F : Type 0} where
    pub look_holds : (seen : List Event) (h : Held W F B) → HoldsBlocks (looked l thread seen h)
    unfolding looked_at
    look_holds seen h = held_blocks (λ x. is_some x.offset) (λ x. false) (instances l seen) (owned_by h)

    pub reach_holds : (x : Instance) (h : Held W F B) → HoldsBlocks (reached l thread x h)
    unfolding reached_at
    reach_holds x h =
        held_blocks (λ y. y.number == x.number) (λ y. false) (instances l h.after.memory.seen) (owned_by h)

    pub load_holds : (x : Instance) (h : Held W F B) → HoldsBlocks (loaded l thread x h)
    unfolding loaded_at
    load_holds x h =
        held_blocks (λ y. false) (λ y. y.number == x.number) (instances l h.after.memory.seen) (owned_by h)
