-- Accesses of several bytes over two memories of which one is the image of the other, and what is kept where shape and
-- bytes are as they were.
use Rattle.std.proofs.Common.{◌≡◌, ℕ, zero, suc, ◌++◌, List, [], ◌∷◌, Option, Some, None, refl, sym, ap, ◌∙◌}
use Rattle.std.proofs.lemmas.List.{append_cancel_right}
use Rattle.address_map.specs.Map.{stack_start}
use Rattle.guest_machine.specs.declared.touch.Direction.{Direction}
use Rattle.guest_machine.specs.declared.touch.Direction.TheVariants.{Load, Store}
use Rattle.guest_machine.specs.declared.touch.Touch.{Touch}
use Rattle.guest_machine.specs.declared.touch.Touches.{Touches}
use Rattle.guest_machine.specs.Touch.{refuses, touched, touched_then}
use Rattle.guest_operands.specs.Access.{Accesses, all_write, bytes_at, bytes_in, code_at, fetch_of, next_place}
use Rattle.guest_operands.specs.Ranges.{AddressSpace, Range}
use Rattle.job_meaning.specs.declared.values.Byte.{Byte}
use Rattle.thread_blocks.specs.Held.{Owned, owned, owners_of, ranges_in}
use Rattle.thread_blocks.specs.Spaces.{stack_range}
use Rattle.thread_blocks.specs.SpaceLaws.{IsImage}
use Rattle.marked_memory.specs.Kept.{Kept, Shape, fixed_in, lent_range, memory_of, ranges_of_kept, shape_of, with_lent}
use Rattle.marked_memory.proofs.SpaceImages.{SameShape, same_shape}
use Rattle.marked_memory.proofs.SpaceImages.{first-stack}

-- ** accesses of several bytes

module _ {M M' B : Type 0} (acc : Accesses M B) (acc' : Accesses M' B) (image : M → M')
    (is_image : IsImage acc acc' image) where
  bytes-image : (size : ℕ) (m : M) (place : ℕ) → bytes_at acc' (image m) place size ≡ bytes_at acc m place size
  bytes-image zero m place = refl
  bytes-image (suc size) m place = rw (is_image.byte m place, bytes-image size m (next_place place)) refl

  writes-image : (size : ℕ) (m : M) (place : ℕ) → all_write acc' (image m) place size ≡ all_write acc m place size
  writes-image zero m place = refl
  writes-image (suc size) m place = rw (is_image.writes m place, writes-image size m (next_place place)) refl

  code-image : (size : ℕ) (m : M) (place : ℕ) → code_at acc' (image m) place size ≡ code_at acc m place size
  code-image zero m place = refl
  code-image (suc size) m place = rw (is_image.code m place, code-image size m (next_place place)) refl

  pub fetch_image : (m : M) (place : ℕ) → fetch_of acc' (image m) place ≡ fetch_of acc m place
  unfolding fetch_of
  fetch_image m place = code-image 15 m place

  refuses-image : (direction : Direction) (m : M) (address size : ℕ)
      → refuses acc' (image m) direction address size ≡ refuses acc m direction address size
  refuses-image Load m address size = rw (bytes-image size m address) refl
  refuses-image Store m address size = rw (writes-image size m address) refl

  then-image : (touch : Option Touch) (m : M) (more more' : List ℕ) → more' ≡ more
      → touched_then acc' (image m) touch more' ≡ touched_then acc m touch more
  then-image None m more more' e = e
  then-image (Some touch) m more more' e =
      rw (e, refuses-image touch.direction m touch.address (bytes_in touch.size)) refl

  pub touched_image : (it : Touches) (m : M) → touched acc' (image m) it ≡ touched acc m it
  unfolding touched
  touched_image it m = then-image it.first m _ _ (then-image it.second m [] [] refl)

-- ** from ranges back to what is kept

pub same_owners : (k k' : Kept) → shape_of k' ≡ shape_of k → owners_of k'.own ≡ owners_of k.own
unfolding shape_of
same_owners k k' e = ap (λ (s : Shape). s.owners) e

tail-same : {A : Type 0} (a b : A) (xs ys : List A) → a ∷ xs ≡ b ∷ ys → xs ≡ ys
tail-same a b xs ys e = cc

without-lent : (word : Option ℕ) (xs ys : List (Range Byte)) → with_lent word xs ≡ with_lent word ys → xs ≡ ys
without-lent None xs ys e = e
without-lent (Some number) xs ys e = tail-same (lent_range number) (lent_range number) xs ys e

-- stack and own ranges are found in the ranges
parts-same : (word : Option ℕ) (start : ℕ) (stack stack' : List Byte) (own own' fixed : List (Range Byte))
    → with_lent word (stack_range start stack ∷ (own ++ fixed))
    ≡ with_lent word (stack_range start stack' ∷ (own' ++ fixed)) → (stack ≡ stack') × (own ≡ own')
parts-same word start stack stack' own own' fixed e =
    let parts = first-stack _ _ _ _ (without-lent word _ _ e) in (parts.0, append_cancel_right own own' fixed parts.1)

pub owned_again : {B : Type 0} (xs : List (Owned B)) → owned (owners_of xs) (ranges_in xs) ≡ xs
owned_again [] = refl
owned_again (x ∷ xs) = ap (λ rest. x ∷ rest) (owned_again xs)

pub owned_same : {B : Type 0} (xs : List (Owned B)) (ys : List (Owned B)) → owners_of xs ≡ owners_of ys
    → ranges_in xs ≡ ranges_in ys → xs ≡ ys
owned_same xs ys e f = sym (owned_again xs) ∙ rw (e, f) (owned_again ys)

kept-parts : (k k' : Kept) → k'.thread ≡ k.thread → k'.images ≡ k.images → k'.live ≡ k.live → k'.stack ≡ k.stack
    → k'.own ≡ k.own → k'.lent ≡ k.lent → k' ≡ k
kept-parts k k' a b c d e f =
    let it : (record {
      thread = k'.thread;
      images = k'.images;
      live = k'.live;
      stack = k'.stack;
      own = k'.own;
      lent = k'.lent;
    }) ≡ k = rw (a, b, c, d, e, f) refl in it

-- where shape and space are as they were, all is
pub kept_with : (k k' : Kept) → shape_of k' ≡ shape_of k → k'.stack ≡ k.stack → ranges_in k'.own ≡ ranges_in k.own
    → k' ≡ k
kept_with k k' shape stack own =
    let same = same_shape k k' shape in
    kept-parts k k' same.thread same.images same.live stack
    (owned_same k'.own k.own (same_owners k k' shape) own) same.lent_is

ranges-same : (k k' : Kept) → SameShape k k'
    → ranges_of_kept k' ≡ with_lent k.lent
    (stack_range (stack_start k.thread) k'.stack ∷ (ranges_in k'.own ++ fixed_in k))
ranges-same k k' same = rw (same.lent_is, same.thread, same.images, same.live) refl

-- where shape and ranges are as they were, all is
pub kept_is : (k k' : Kept) → shape_of k' ≡ shape_of k → memory_of k' ≡ memory_of k → k' ≡ k
unfolding memory_of
kept_is k k' shape e =
    let same = same_shape k k' shape in
    let ranges : with_lent k.lent (stack_range (stack_start k.thread) k'.stack ∷ (ranges_in k'.own ++ fixed_in k))
    ≡ with_lent k.lent (stack_range (stack_start k.thread) k.stack ∷ (ranges_in k.own ++ fixed_in k)) =
    sym (ranges-same k k' same) ∙ ap (λ (m : AddressSpace Byte). m.ranges) e in
    let parts = parts-same k.lent (stack_start k.thread) k'.stack k.stack (ranges_in k'.own) (ranges_in k.own)
    (fixed_in k) ranges in
    kept_with k k' shape parts.0 parts.1
