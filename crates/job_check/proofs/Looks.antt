-- What a look, and what a thread reaches or loads, makes of what it holds.
use Rattle.std.proofs.Common.{◌≡◌, ◌∙◌, ◌++◌, ℕ, List, [], None, sym, ap, append-nil}
use Rattle.guest_operands.specs.declared.state.State.{State}
use Rattle.guest_operands.specs.Use.{left}
use Rattle.job_meaning.specs.declared.values.Byte.{Byte}
use Rattle.job_meaning.specs.declared.values.Flag.{Flag}
use Rattle.job_meaning.specs.declared.values.Word.{Word}
use Rattle.link_needs.specs.Linking.{Linking}
use Rattle.loaded_modules.specs.declared.instance.Instance.{Instance}
use Rattle.module_table.specs.declared.events.Event.{Event}
use Rattle.module_table.specs.Past.{Past, module_of}
use Rattle.thread_blocks.specs.Held.{Owned, held_of, loaded, loaded_at, looked, looked_at, owners_of, ranges_in}
use Rattle.thread_blocks.specs.Held.{reached, reached_at}
use Rattle.thread_blocks.specs.Instances.{Loads, instance_at, instances, instances_in, left_by, loaded_instance}
use Rattle.whole_meaning.specs.Loads.{loads_of}
use Rattle.whole_meaning.specs.Threads.{Meant}
use Rattle.marked_memory.specs.declared.space.Wanted.TheVariants.{BlockOf, DataOf, Fixed}
use Rattle.job_check.specs.Histories.{infos_of}
use Rattle.marked_memory.specs.Kept.{HasSeen, Kept, held_at}
use Rattle.marked_memory.specs.Spaces.{fills, reaches, with_held}
use Rattle.job_check.proofs.OwnedApart.{owned_again}

-- ** what is held

abbrev pub held_with : List Event → State Word Flag → List Byte → List (Owned Byte) → Meant
held_with seen state stack xs = record {
  after = left state (record { seen = seen; stack = stack; own = ranges_in xs });
  owners = owners_of xs;
  asked = None;
}

module _ (l : Loads Byte) (thread : ℕ) (seen : List Event) (state : State Word Flag) (stack : List Byte)
    (xs : List (Owned Byte)) where
  pub looked_with : (now : List Event)
      → looked l thread now (held_with seen state stack xs) ≡ held_with now state stack (looked_at l thread now xs)
  looked_with now = ap (λ ys. held_with now state stack (looked_at l thread now ys)) (owned_again xs)

  pub reached_with : (x : Instance)
      → reached l thread x (held_with seen state stack xs) ≡ held_with seen state stack (reached_at l thread seen x xs)
  reached_with x = ap (λ ys. held_with seen state stack (reached_at l thread seen x ys)) (owned_again xs)

  pub loaded_with : (x : Instance)
      → loaded l thread x (held_with seen state stack xs) ≡ held_with seen state stack (loaded_at l thread seen x xs)
  loaded_with x = ap (λ ys. held_with seen state stack (loaded_at l thread seen x ys)) (owned_again xs)

-- ** what is live

module _ (ls : List Linking) (p : Past) (seen : List Event) (is : left_by (loads_of ls) seen ≡ p) where
  pub live_is : instances (loads_of ls) seen ≡ instances_in (infos_of ls) p
  unfolding loads_of
  live_is = ap (instances_in (infos_of ls)) is

  pub found_at : (image : ℕ)
      → instance_at (loads_of ls) seen image ≡ loaded_instance (infos_of ls) image (module_of p image)
  unfolding instance_at loads_of
  found_at image = ap (λ p. loaded_instance (infos_of ls) image (module_of p image)) is

-- ** what the code keeps

module _ (k : Kept) (seen : List Event) (state : State Word Flag) where
  -- a look, with these ranges in the thread's hands besides
  pub look_is : (ys : List (Owned Byte)) (live : List Instance) (now : List Event)
      → instances (loads_of k.images) now ≡ live
      → looked (loads_of k.images) k.thread now (held_with seen state k.stack (k.own ++ ys))
      ≡ held_at now state (with_held live ys Fixed k)
  unfolding with_held looked_at
  look_is ys live now is =
      looked_with (loads_of k.images) k.thread seen state k.stack (k.own ++ ys) now
      ∙ ap (λ xs. held_with now state k.stack
      (held_of (loads_of k.images) k.thread (reaches Fixed) (fills Fixed) xs (k.own ++ ys))) is

  -- a look of a thread that is handed nothing
  pub looks_alone : (live : List Instance) (now : List Event) → instances (loads_of k.images) now ≡ live
      → looked (loads_of k.images) k.thread now (held_at seen state k) ≡ held_at now state (with_held live [] Fixed k)
  looks_alone live now is =
      ap (λ xs. looked (loads_of k.images) k.thread now (held_with seen state k.stack xs)) (sym (append-nil k.own))
      ∙ look_is [] live now is

  pub reach_is : (x : Instance) → HasSeen k seen
      → reached (loads_of k.images) k.thread x (held_at seen state k)
      ≡ held_at seen state (with_held k.live [] (BlockOf x.number) k)
  unfolding with_held reached_at
  reach_is x is =
      reached_with (loads_of k.images) k.thread seen state k.stack k.own x
      ∙ ap (λ live. held_with seen state k.stack
      (held_of (loads_of k.images) k.thread (reaches (BlockOf x.number)) (fills (BlockOf x.number)) live k.own)) is
      ∙ ap (λ xs. held_with seen state k.stack
      (held_of (loads_of k.images) k.thread (reaches (BlockOf x.number)) (fills (BlockOf x.number)) k.live xs))
      (sym (append-nil k.own))

  pub load_is : (x : Instance) → HasSeen k seen
      → loaded (loads_of k.images) k.thread x (held_at seen state k)
      ≡ held_at seen state (with_held k.live [] (DataOf x.number) k)
  unfolding with_held loaded_at
  load_is x is =
      loaded_with (loads_of k.images) k.thread seen state k.stack k.own x
      ∙ ap (λ live. held_with seen state k.stack
      (held_of (loads_of k.images) k.thread (reaches (DataOf x.number)) (fills (DataOf x.number)) live k.own)) is
      ∙ ap (λ xs. held_with seen state k.stack
      (held_of (loads_of k.images) k.thread (reaches (DataOf x.number)) (fills (DataOf x.number)) k.live xs))
      (sym (append-nil k.own))
