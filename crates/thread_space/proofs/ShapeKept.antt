-- No byte that is written changes whose the written ranges are.
use Rattle.std.proofs.Common.{◌≡◌, ◌∙◌, ◌-◌, ◌++◌, ℕ, List, [], ◌∷◌, length, Option, Some, None, refl, sym, ap, inl}
use Rattle.std.proofs.Common.{inr}
use Rattle.std.specs.Prelude.{is_some, option_map, slice_set}
use Rattle.std.specs.List.{flat_map}
use Rattle.std.proofs.lemmas.Bool.{cases_eq}
use Rattle.std.proofs.lemmas.List.{length-set, map-append}
use Rattle.guest_operands.specs.Ranges.{Range}
use Rattle.loaded_modules.specs.declared.instance.Instance.{Instance}
use Rattle.module_data.specs.Laws.{written}
use Rattle.module_data.specs.Pieces.{Piece, data_of}
use Rattle.thread_blocks.specs.Held.{Owned, block_with, data_with, owners_of}
use Rattle.thread_blocks.specs.JobLoads.{job_loads}
use Rattle.thread_space.specs.Kept.{Kept, blocks_of, data_in, live_in, owned_of, shape_of, shared_of}
use Rattle.thread_space.specs.Writing.{WritesBlock, WritesData}
use Rattle.thread_space.proofs.WriteKept.{data_other, data_written}
use Rattle.thread_vector.specs.Vectors.{Vector, held}

-- two lists that hold or not alike
block_owners : (thread : ℕ) (x : Instance) (a b : Option (List ℕ)) → is_some a ≡ is_some b
    → owners_of (block_with thread x a) ≡ owners_of (block_with thread x b)
block_owners thread x None None same = refl
block_owners thread x None (Some b) same = cc
block_owners thread x (Some a) None same = cc
block_owners thread x (Some a) (Some b) same = refl

data_owners : (x : Instance) (range : Option (Range ℕ)) (a b : Option (List ℕ)) → is_some a ≡ is_some b
    → owners_of (data_with x range a) ≡ owners_of (data_with x range b)
data_owners x None a b same = refl
data_owners x (Some range) None None same = refl
data_owners x (Some range) None (Some b) same = cc
data_owners x (Some range) (Some a) None same = cc
data_owners x (Some range) (Some a) (Some b) same = refl

owners_each : {X : Type 0} (one two : X → List (Owned ℕ)) → ((x : X) → owners_of (one x) ≡ owners_of (two x))
    → (xs : List X)
    → owners_of (flat_map one xs) ≡ owners_of (flat_map two xs)
owners_each one two same [] = refl
owners_each one two same (x ∷ xs) =
    map-append (λ (o : Owned ℕ). o.owner) (one x) (flat_map one xs)
    ∙ ap (λ os. os ++ owners_of (flat_map one xs)) (same x)
    ∙ ap (λ os. owners_of (two x) ++ os) (owners_each one two same xs)
    ∙ sym (map-append (λ (o : Owned ℕ). o.owner) (two x) (flat_map two xs))

-- what each has is there as before
record Alike (k k' : Kept) : Type 0 where
  thread : k'.vector.thread ≡ k.vector.thread
  images : k'.vector.images ≡ k.vector.images
  past : k'.vector.past ≡ k.vector.past
  blocks : (i : ℕ) → is_some (held k'.vector i) ≡ is_some (held k.vector i)
  pieces : (n image : ℕ) → is_some (data_of k'.pieces n image) ≡ is_some (data_of k.pieces n image)
  count : length k'.pieces ≡ length k.pieces

module _ (k k' : Kept) (alike : Alike k k') where
  live_same : live_in k'.vector.images k'.vector.past ≡ live_in k.vector.images k.vector.past
  live_same = rw (alike.images, alike.past) refl

  blocks_owners : owners_of (blocks_of k'.vector) ≡ owners_of (blocks_of k.vector)
  unfolding blocks_of
  blocks_owners =
      ap (λ xs. owners_of (flat_map
      (λ (x : Instance). block_with k'.vector.thread x (held k'.vector x.number)) xs)) live_same
      ∙ owners_each (λ (x : Instance). block_with k'.vector.thread x (held k'.vector x.number))
      (λ (x : Instance). block_with k.vector.thread x (held k.vector x.number))
      (λ x. ap (λ thread. owners_of (block_with thread x (held k'.vector x.number))) alike.thread
      ∙ block_owners k.vector.thread x (held k'.vector x.number) (held k.vector x.number) (alike.blocks x.number))
      (live_in k.vector.images k.vector.past)

  shared_owners : owners_of (shared_of k'.vector.images k'.vector.past k'.pieces)
      ≡ owners_of (shared_of k.vector.images k.vector.past k.pieces)
  unfolding shared_of
  shared_owners =
      ap (λ xs. owners_of (flat_map (data_in k'.vector.images k'.pieces) xs)) live_same
      ∙ owners_each (data_in k'.vector.images k'.pieces) (data_in k.vector.images k.pieces)
      (λ x. ap (λ m. owners_of (data_in m k'.pieces x)) alike.images
      ∙ data_owners x ((job_loads k.vector.images).shared x) (data_of k'.pieces x.number x.image)
      (data_of k.pieces x.number x.image) (alike.pieces x.number x.image))
      (live_in k.vector.images k.vector.past)

  owners : owners_of (owned_of k'.vector k'.pieces) ≡ owners_of (owned_of k.vector k.pieces)
  owners =
      map-append (λ (o : Owned ℕ). o.owner) (blocks_of k'.vector) (shared_of k'.vector.images k'.vector.past k'.pieces)
      ∙ ap (λ os. os ++ owners_of (shared_of k'.vector.images k'.vector.past k'.pieces)) blocks_owners
      ∙ ap (λ os. owners_of (blocks_of k.vector) ++ os) shared_owners
      ∙ sym (map-append (λ (o : Owned ℕ). o.owner) (blocks_of k.vector)
      (shared_of k.vector.images k.vector.past k.pieces))

  shape_same : shape_of k' ≡ shape_of k
  unfolding shape_of
  shape_same = cc (owners, alike.thread, alike.images, alike.past, alike.count)

-- ** one write

some_map : (o : Option (List ℕ)) (f : List ℕ → List ℕ) → is_some (option_map f o) ≡ is_some o
some_map None f = refl
some_map (Some bytes) f = refl

data_alike : (d : List Piece) (image at byte n other : ℕ)
    → is_some (data_of (written image d (record { at = at; byte = byte })) n other) ≡ is_some (data_of d n other)
data_alike d image at byte n other = elim (cases_eq other image) [
  | inl e ↦ rw (e, data_written d image n at byte) (some_map (data_of d n image) (λ bytes. slice_set bytes at byte))
  | inr ne ↦ ap is_some (data_other d image n other at byte ne)
]

data_count : (d : List Piece) (image at byte : ℕ)
    → length (written image d (record { at = at; byte = byte })) ≡ length d
unfolding written
data_count d image at byte = length-set d image _

pub stack_shape : (k : Kept) (stack : List ℕ) → shape_of (record k { stack = stack }) ≡ shape_of k
unfolding shape_of
stack_shape k stack = refl

pub block_shape : (k k' : Kept) (x : Instance) (place byte : ℕ) (bytes : List ℕ) → held k.vector x.number ≡ Some bytes
    → WritesBlock k x place byte k' → shape_of k' ≡ shape_of k
block_shape k k' x place byte bytes here writes = shape_same k k' (record {
  thread = writes.leaves.thread;
  images = writes.leaves.images;
  past = writes.leaves.past;
  blocks = λ i. by_number i;
  pieces = λ n image. ap (λ d. is_some (data_of d n image)) writes.pieces;
  count = ap (λ (d : List Piece). length d) writes.pieces;
})
  where
    by_number : (i : ℕ) → is_some (held k'.vector i) ≡ is_some (held k.vector i)
    by_number i = elim (cases_eq i x.number) [
      | inl e ↦ rw (e, (writes.block bytes here).here, here) refl
      | inr ne ↦ ap is_some ((writes.block bytes here).others i ne)
    ]

pub data_shape : (k k' : Kept) (x : Instance) (place byte start : ℕ) → WritesData k x place byte k'
    → k'.pieces ≡ written x.image k.pieces (record { at = place - start; byte = byte }) → shape_of k' ≡ shape_of k
data_shape k k' x place byte start writes pieces = shape_same k k' (record {
  thread = ap (λ (v : Vector). v.thread) writes.vector;
  images = ap (λ (v : Vector). v.images) writes.vector;
  past = ap (λ (v : Vector). v.past) writes.vector;
  blocks = λ i. ap (λ v. is_some (held v i)) writes.vector;
  pieces = λ n image. ap (λ d. is_some (data_of d n image)) pieces
      ∙ data_alike k.pieces x.image (place - start) byte n image;
  count = ap (λ (d : List Piece). length d) pieces ∙ data_count k.pieces x.image (place - start) byte;
})
