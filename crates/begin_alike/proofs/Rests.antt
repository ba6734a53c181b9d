-- Threads at rest stay related when they look, reach a block and load data.
use Rattle.std.proofs.Common.{◌≡◌, ℕ, Bool, true, false, List, All, Option, Some, None, refl, sym, subst}
use Rattle.guest_arithmetic.specs.Plain.{plain_operations}
use Rattle.job_meaning.specs.declared.values.Byte.{Byte}
use Rattle.loaded_modules.specs.declared.instance.Instance.{Instance}
use Rattle.module_table.specs.declared.events.Event.{Event}
use Rattle.thread_blocks.specs.Held.{Owned, looked, looked_at, loaded, loaded_at, owned_by, reached, reached_at}
use Rattle.thread_blocks.specs.Held.{with_owned}
use Rattle.thread_blocks.specs.Instances.{Loads, instance_at, left_by}
use Rattle.thread_blocks.specs.Lines.{with_load}
use Rattle.thread_blocks.specs.RunTime.{Runs}
use Rattle.thread_blocks.specs.Turns.{Ending}
use Rattle.thread_blocks.specs.Turns.{IsFront}
use Rattle.whole_meaning.specs.Meanings.{Meaning}
use Rattle.whole_meaning.specs.Threads.{Meant, ops}
use Rattle.tied_meaning.specs.Numbers.{Setting}
use Rattle.tied_meaning.specs.Ties.{AreTied}
use Rattle.tied_meaning.specs.Threads.{AtRest, IsPlaced}
use Rattle.held_alike.specs.Held.{SameHeld}
use Rattle.held_alike.proofs.Lent.{as_many, both_again, held_alike, owners_alike, ranges_alike, rest_with}
use Rattle.held_alike.proofs.Looks.{looked_alike, reached_alike, loaded_alike}

module _ (g : Setting) (m : Meaning) (q : Loads ℕ) (history : List Event) (thread : ℕ)
    (tied : AreTied g m q history) where
  abbrev Rest : Meant → Runs → Type 0
  Rest = AtRest g m q history thread

  -- ** what the events leave is one: the images are one job's

  pub left_same : (seen : List Event) → left_by m.loads seen ≡ left_by q seen
  left_same seen = let a = tied.infos in let b = tied.last in cc

  pub instance_same : (seen : List Event) (image : ℕ) → instance_at m.loads seen image ≡ instance_at q seen image
  unfolding instance_at
  instance_same seen image = let a = tied.infos in let b = tied.last in cc

  -- ** what is held

  in_hands : (h : Meant) (h' : Runs) → Rest h h' → SameHeld g q thread (owned_by h) (owned_by h')
  in_hands h h' r = (held_alike g m q history thread h h' r.owners r.own, r.placed)

  pub look_rests : (seen : List Event) → IsFront seen history → (h : Meant) (h' : Runs) → Rest h h'
      → Rest (looked m.loads thread seen h) (looked q thread seen h')
  look_rests seen front h h' r =
      let ours : List (Owned Byte) = looked_at m.loads thread seen (owned_by h) in
      let theirs : List (Owned ℕ) = looked_at q thread seen (owned_by h') in
      let now : SameHeld g q thread ours theirs =
      looked_alike g m q thread history tied seen front (owned_by h) (owned_by h') (in_hands h h' r) in
      record {
        owners = owners_alike g ours theirs now.0;
        own = ranges_alike g ours theirs now.0;
        placed = subst (λ (zs : List (Owned ℕ)). All (IsPlaced g q thread) zs) (sym (both_again g theirs)) now.1;
        paired = as_many g theirs;
        seen = refl;
        front = front;
        asked = r.asked;
      }

  -- a change of what is held, of which it is known where these events were seen
  changed_rests : (change : List (Owned Byte) → List (Owned Byte))
      (change' : List Event → List (Owned ℕ) → List (Owned ℕ))
      → (h : Meant) (h' : Runs) → Rest h h'
      → SameHeld g q thread (change (owned_by h)) (change' h.after.memory.seen (owned_by h'))
      → Rest (with_owned h (change (owned_by h))) (with_owned h' (change' h'.after.memory.seen (owned_by h')))
  changed_rests change change' h h' r now =
      subst (λ (seen : List Event). Rest (with_owned h (change (owned_by h)))
      (with_owned h' (change' seen (owned_by h'))))
      (sym r.seen)
      (rest_with g m q history thread h h' r (change (owned_by h))
      (change' h.after.memory.seen (owned_by h')) now.0 now.1)

  pub reach_rests : (x : Instance) (h : Meant) (h' : Runs) → Rest h h'
      → Rest (reached m.loads thread x h) (reached q thread x h')
  reach_rests x h h' r =
      changed_rests (reached_at m.loads thread h.after.memory.seen x) (λ seen. reached_at q thread seen x) h h' r
      (reached_alike g m q thread history tied h.after.memory.seen r.front x (owned_by h) (owned_by h')
      (in_hands h h' r))

  load_rests : (x : Instance) (h : Meant) (h' : Runs) → Rest h h'
      → Rest (loaded m.loads thread x h) (loaded q thread x h')
  load_rests x h h' r =
      changed_rests (loaded_at m.loads thread h.after.memory.seen x) (λ seen. loaded_at q thread seen x) h h' r
      (loaded_alike g m q thread history tied h.after.memory.seen r.front x (owned_by h) (owned_by h')
      (in_hands h h' r))

  -- an open loads data where the instance was not there before
  pub with_load_rests : (show : List Byte → Ending) (show' : List ℕ → Ending) (was : Bool) (x : Option Instance)
      (h : Meant) (h' : Runs) → Rest h h'
      → Rest (with_load ops m.loads show thread was x h) (with_load plain_operations q show' thread was x h')
  with_load_rests show show' true x h h' r = r
  with_load_rests show show' false None h h' r = r
  with_load_rests show show' false (Some x) h h' r = load_rests x h h' r
