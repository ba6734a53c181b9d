-- What a thread holds, from what is written and by whom.
use Rattle.std.proofs.Common.{◌≡◌, ◌∙◌, ℕ, Bool, true, List, [], ◌∷◌, Option, Some, None, length, refl, sym, ap}
use Rattle.std.specs.Prelude.{is_some, option_to_list}
use Rattle.std.proofs.lemmas.List.Sums.{fold-append}
use Rattle.guest_operands.specs.declared.state.State.{State}
use Rattle.guest_operands.specs.Use.{left}
use Rattle.loaded_modules.specs.declared.instance.Instance.{Instance}
use Rattle.loaded_modules.specs.Images.{JobImages, infos, last_offset}
use Rattle.module_table.specs.declared.events.Event.{Event}
use Rattle.module_table.specs.Past.{Past, after, after_one, module_of, past, start}
use Rattle.module_table.specs.PastLaws.{live}
use Rattle.thread_blocks.specs.declared.asked.Asked.{Asked}
use Rattle.thread_blocks.specs.Held.{Owned, block_bytes, loaded, loaded_at, looked, looked_at, owned_by, owners_of}
use Rattle.thread_blocks.specs.Held.{ranges_in, reached, reached_at}
use Rattle.thread_blocks.specs.Instances.{Loads, instance_at, left_by, loaded_instance}
use Rattle.thread_blocks.specs.JobLoads.{job_loads}
use Rattle.thread_blocks.specs.RunTime.{Runs}
use Rattle.thread_blocks.specs.Turns.{with_event, with_last}
use Rattle.thread_vector.specs.Holding.{IsLeftBy}
use Rattle.thread_vector.specs.Vectors.{held}
use Rattle.thread_vector.proofs.Facts.{facts}
use Rattle.thread_space.specs.Kept.{HasSeen, Kept, held_at, owned_of}
use Rattle.thread_space.specs.Live.{IsLive}
use Rattle.job_turns.specs.Starting.{ReachesLive, Sees}
use Rattle.job_turns.specs.Taking.{KeepsJob}
use Rattle.thread_space.specs.Steps.{Looks, Reaches}
use Rattle.thread_space.proofs.BytesHeld.{bytes_kept}
use Rattle.thread_space.proofs.Live.{live_image}
use Rattle.thread_space.proofs.Owners.{owned_again}
use Rattle.thread_space.proofs.StartupBlocks.{look_startups, reach_startups}

-- ** what is held

abbrev pub held_with : List Event → State ℕ Bool → Option Asked → List ℕ → List (Owned ℕ) → Runs
held_with seen state asked stack xs = record {
  after = left state (record { seen = seen; stack = stack; own = ranges_in xs });
  owners = owners_of xs;
  asked = asked;
}

module _ (l : Loads ℕ) (thread : ℕ) (seen : List Event) (state : State ℕ Bool) (asked : Option Asked) (stack : List ℕ)
    (xs : List (Owned ℕ)) where
  pub looked_with : (now : List Event)
      → looked l thread now (held_with seen state asked stack xs)
      ≡ held_with now state asked stack (looked_at l thread now xs)
  looked_with now = ap (λ ys. held_with now state asked stack (looked_at l thread now ys)) (owned_again xs)

  pub reached_with : (x : Instance)
      → reached l thread x (held_with seen state asked stack xs)
      ≡ held_with seen state asked stack (reached_at l thread seen x xs)
  reached_with x = ap (λ ys. held_with seen state asked stack (reached_at l thread seen x ys)) (owned_again xs)

  pub loaded_with : (x : Instance)
      → loaded l thread x (held_with seen state asked stack xs)
      ≡ held_with seen state asked stack (loaded_at l thread seen x xs)
  loaded_with x = ap (λ ys. held_with seen state asked stack (loaded_at l thread seen x ys)) (owned_again xs)

-- the bytes of a block
pub block_held : (k : Kept) (seen : List Event) (state : State ℕ Bool) (asked : Option Asked) (n : ℕ)
    → block_bytes n (owned_by (held_at seen state asked k)) ≡ held k.vector n
block_held k seen state asked n = ap (block_bytes n) (owned_again (owned_of k.vector k.pieces))
    ∙ bytes_kept k.vector k.pieces n

-- ** what was seen

module _ (k : Kept) (seen : List Event) (has_seen : HasSeen k.vector seen) where
  pub left_is : left_by (job_loads k.vector.images) seen ≡ k.vector.past
  unfolding job_loads
  left_is = has_seen

  pub found_at : (image : ℕ)
      → instance_at (job_loads k.vector.images) seen image
      ≡ loaded_instance (infos k.vector.images) image (module_of k.vector.past image)
  unfolding instance_at job_loads
  found_at image = ap (λ p. loaded_instance (infos k.vector.images) image (module_of p image)) has_seen

pub past_more : (m : JobImages) (seen : List Event) (e : Event)
    → past (infos m) (last_offset m) (with_last seen e) ≡ after_one (past (infos m) (last_offset m) seen) e
unfolding past
past_more m seen e = fold-append after_one (start (infos m) (last_offset m)) seen (e ∷ [])

-- with an event of the thread's own
pub seen_with : (old new : Kept) (event : Option Event) (seen : List Event) → new.vector.images ≡ old.vector.images
    → new.vector.past ≡ after old.vector.past (option_to_list event) → HasSeen old.vector seen
    → HasSeen new.vector (with_event seen event)
seen_with old new None seen images is has_seen = ap (λ m. past (infos m) (last_offset m) seen) images ∙ has_seen
    ∙ sym is
seen_with old new (Some e) seen images is has_seen =
    ap (λ m. past (infos m) (last_offset m) (with_last seen e)) images ∙ past_more old.vector.images seen e
    ∙ ap (λ p. after_one p e) has_seen ∙ sym is

pub same_thread : (k : Kept) → KeepsJob k k
same_thread k = record { thread = refl; images = refl; startups = λ has. has; pieces = refl }

-- ** steps

pub live_found : (m : JobImages) (p : Past) (x : Instance) → IsLeftBy m p → IsLive m p x → live p x.number ≡ true
unfolding live
live_found m p x left is = ap is_some (live_image m p x (facts m p left).own is)

pub reaches_live : (old new : Kept) (x : Instance) → Reaches old x.number new
    → IsLeftBy new.vector.images new.vector.past → ReachesLive old x new
reaches_live old new x reaches left = record {
  keeps = record {
    thread = reaches.leaves.thread;
    images = reaches.leaves.images;
    startups = reach_startups old.vector new.vector x.number reaches.leaves.images reaches.blocks;
    pieces = ap length reaches.data_is;
  };
  past = reaches.leaves.past;
  left = left;
  blocks = reaches.blocks;
  pieces = reaches.data_is;
  stack = reaches.stack;
}

pub sees_own : (old new : Kept) (e : Event) → Looks old (e ∷ []) new → IsLeftBy old.vector.images old.vector.past
    → IsLeftBy new.vector.images new.vector.past → Sees old e new
sees_own old new e looks was left = record {
  keeps = record {
    thread = looks.leaves.thread;
    images = looks.leaves.images;
    startups = look_startups old.vector new.vector looks.leaves.images left looks.blocks;
    pieces = ap length looks.data_is;
  };
  past = looks.leaves.past;
  was = was;
  left = left;
  blocks = looks.blocks;
  pieces = looks.data_is;
  stack = looks.stack;
}
