-- What no access changes tells that the thread is the same, and has the blocks that it had.
use Rattle.std.proofs.Common.{◌≡◌, ◌||◌, ℕ, Bool, true, false, cond, List, [], ◌∷◌, length, Option, Some, refl, sym, ap}
use Rattle.std.proofs.Common.{◌∙◌}
use Rattle.std.specs.Prelude.{is_some, option_map}
use Rattle.std.specs.List.{find, list_any}
use Rattle.guest_operands.specs.declared.state.State.{State}
use Rattle.guest_operands.specs.Use.{left}
use Rattle.module_table.specs.declared.events.Event.{Event}
use Rattle.thread_blocks.specs.declared.asked.Asked.{Asked}
use Rattle.thread_blocks.specs.Held.{Owned, block_bytes, is_block_of, owners_of}
use Rattle.thread_space.specs.Kept.{Kept, Shape, held_at, owned_of, shape_of}
use Rattle.job_turns.specs.Running.{IsSameThread, space_in}
use Rattle.thread_space.proofs.BytesHeld.{bytes_kept}
use Rattle.job_turns.proofs.SpaceRuns.{same_shape}
use Rattle.thread_space.proofs.StartupBlocks.{same_startups}
use Rattle.thread_vector.specs.Vectors.{held}

-- ** whose blocks there are

some-found : {B : Type 0} (n : ℕ) (b : Bool) (x : Owned B) (xs : List (Owned B)) (any : Bool)
    → is_some (block_bytes n xs) ≡ any
    → is_some (option_map (λ (y : Owned B). y.range.bytes)
    (cond b (Some x) (find (λ (y : Owned B). is_block_of n y.owner) xs))) ≡ (b || any)
some-found n true x xs any e = refl
some-found n false x xs any e = e

by-owners : {B : Type 0} (n : ℕ) (xs : List (Owned B))
    → is_some (block_bytes n xs) ≡ list_any (is_block_of n) (owners_of xs)
by-owners n [] = refl
by-owners n (x ∷ xs) = some-found n (is_block_of n x.owner) x xs _ (by-owners n xs)

pub same_owners : (k k' : Kept) → shape_of k' ≡ shape_of k
    → owners_of (owned_of k'.vector k'.pieces) ≡ owners_of (owned_of k.vector k.pieces)
unfolding shape_of
same_owners k k' e = ap (λ (s : Shape). s.owners) e

same-count : (k k' : Kept) → shape_of k' ≡ shape_of k → length k'.pieces ≡ length k.pieces
unfolding shape_of
same-count k k' e = ap (λ (s : Shape). s.count) e

same-blocks : (k k' : Kept) → shape_of k' ≡ shape_of k → (i : ℕ)
    → is_some (held k'.vector i) ≡ is_some (held k.vector i)
same-blocks k k' e i =
    ap is_some (sym (bytes_kept k'.vector k'.pieces i)) ∙ by-owners i (owned_of k'.vector k'.pieces)
    ∙ ap (list_any (is_block_of i)) (same_owners k k' e)
    ∙ sym (by-owners i (owned_of k.vector k.pieces)) ∙ ap is_some (bytes_kept k.vector k.pieces i)

pub same_thread : (k k' : Kept) → shape_of k' ≡ shape_of k → IsSameThread k k'
same_thread k k' e = let same = same_shape k k' e in record {
  thread = same.thread;
  images = same.images;
  past = same.past;
  startups = same_startups k.vector k'.vector same.images (same-blocks k k' e);
  pieces = same-count k k' e;
}

-- ** what a thread holds after an access

pub held_after : (seen : List Event) (state state' : State ℕ Bool) (asked : Option Asked) (k k' : Kept)
    → shape_of k' ≡ shape_of k
    → (record (held_at seen state asked k) { after = left state' (space_in seen k') }) ≡ held_at seen state' asked k'
held_after seen state state' asked k k' e = rw (same_owners k k' e) refl

pub held_still : (seen : List Event) (state : State ℕ Bool) (asked : Option Asked) (k k' : Kept)
    → shape_of k' ≡ shape_of k
    → space_in seen k' ≡ space_in seen k → held_at seen state asked k' ≡ held_at seen state asked k
held_still seen state asked k k' e still =
    sym (held_after seen state state asked k k' e)
    ∙ ap (λ s. record (held_at seen state asked k) { after = left state s }) still
