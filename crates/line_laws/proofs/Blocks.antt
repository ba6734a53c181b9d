-- A peek reaches the block that the thread held, or a fresh one.
use Rattle.std.proofs.Common.{◌≡◌, ◌∙◌, ◌++◌, ℕ, suc, arith, Bool, true, false, List, [], ◌∷◌, Option, Some, None, refl}
use Rattle.std.proofs.Common.{sym, ap, subst, inl, inr, append-nil, append_assoc}
use Rattle.std.specs.Prelude.{◌==◌, All, is_some, unwrap_or}
use Rattle.std.specs.List.{find, flat_map}
use Rattle.std.specs.Option.{option_or}
use Rattle.std.proofs.lemmas.Bool.{cases_Bool, eqb-true, eq-eqb}
use Rattle.guest_machine.specs.Ranges.{Range}
use Rattle.loaded_modules.specs.declared.instance.Instance.{Instance}
use Rattle.module_table.specs.declared.events.Event.{Event}
use Rattle.module_table.specs.Past.{IsLegal}
use Rattle.thread_blocks.specs.Held.{Held, Owned, block_after, block_bytes, block_with, data_after, data_with, fresh_if}
use Rattle.thread_blocks.specs.Held.{held_of, looked, looked_at, owned, owned_by, owners_of, ranges_in, reached}
use Rattle.thread_blocks.specs.Held.{reached_at}
use Rattle.thread_blocks.specs.Instances.{Loads, instance_at, instances, numbered_instance}
use Rattle.thread_blocks.specs.Turns.{IsFront}
use Rattle.known_instances.proofs.Known.{numbered_at_image}
use Rattle.known_instances.proofs.Live.{all_live}

owned_again : {B : Type 0} (xs : List (Owned B)) → owned (owners_of xs) (ranges_in xs) ≡ xs
owned_again [] = refl
owned_again (x ∷ xs) = ap (λ rest. x ∷ rest) (owned_again xs)

-- who has such a number is this instance
abbrev AreThis : ℕ → Instance → List Instance → Type 0
AreThis n x [] = Unit {0}
AreThis n x (y ∷ ys) = ((y.number == n) ≡ true → y ≡ x) × AreThis n x ys

module _ {B : Type 0} (l : Loads B) (thread : ℕ) (n : ℕ) where
  -- ** data are no blocks

  no_data : (ys : List (Owned B)) (y : Instance) (range : Option (Range B)) (bytes : Option (List B))
      → block_bytes n (data_with y range bytes ++ ys) ≡ block_bytes n ys
  no_data ys y None bytes = refl
  no_data ys y (Some range) None = refl
  no_data ys y (Some range) (Some bytes) = refl

  data_none : (loads : Instance → Bool) (live : List Instance) (xs : List (Owned B))
      → block_bytes n (flat_map (data_after l loads xs) live) ≡ None
  data_none loads [] xs = refl
  data_none loads (y ∷ ys) xs = no_data (flat_map (data_after l loads xs) ys) y (l.shared y) _ ∙ data_none loads ys xs

  -- ** the blocks of instances

  -- another's block is passed over
  other_block : (ys : List (Owned B)) (y : Instance) (bytes : Option (List B)) → (y.number == n) ≡ false
      → block_bytes n (block_with thread y bytes ++ ys) ≡ block_bytes n ys
  other_block ys y None other = refl
  other_block ys y (Some bytes) other = rw other refl

  this_block : (ys : List (Owned B)) (y : Instance) (bytes : List B) → (y.number == n) ≡ true
      → block_bytes n (block_with thread y (Some bytes) ++ ys) ≡ Some bytes
  this_block ys y bytes here = rw here refl

  pub held : (wanted : Instance → Bool) (xs : List (Owned B)) (y : Instance) → Option (List B)
  held wanted xs y = option_or (block_bytes y.number xs) (fresh_if (wanted y) (l.block y))

  -- the first with the number has a block: it is found
  found_first : (wanted : Instance → Bool) (xs rest : List (Owned B)) (live : List Instance) (x : Instance)
      (bytes : List B)
      → find (λ (y : Instance). y.number == n) live ≡ Some x → held wanted xs x ≡ Some bytes
      → block_bytes n (flat_map (block_after l thread wanted xs) live ++ rest) ≡ Some bytes
  unfolding held
  found_first wanted xs rest [] x bytes found has = absurd cc
  found_first wanted xs rest (y ∷ ys) x bytes found has = elim (cases_Bool (y.number == n)) [
    | inl here ↦
        let same : Some y ≡ Some x = rw here at found in
        let this : y ≡ x = cc in
        let mine : held wanted xs y ≡ Some bytes =
        subst (λ (z : Instance). held wanted xs z ≡ Some bytes) (sym this) has in
        rw (
          append_assoc (block_with thread y (held wanted xs y)) (flat_map (block_after l thread wanted xs) ys) rest,
          mine,
        )
        (this_block (flat_map (block_after l thread wanted xs) ys ++ rest) y bytes here)
    | inr other ↦
        rw (append_assoc (block_with thread y (held wanted xs y)) (flat_map (block_after l thread wanted xs) ys) rest)
        (other_block (flat_map (block_after l thread wanted xs) ys ++ rest) y (held wanted xs y) other
        ∙ found_first wanted xs rest ys x bytes (rw other at found) has)
  ]

  -- who has the number has no block: none is found
  found_none : (wanted : Instance → Bool) (xs rest : List (Owned B)) (live : List Instance) (x : Instance)
      → AreThis n x live → held wanted xs x ≡ None → block_bytes n rest ≡ None
      → block_bytes n (flat_map (block_after l thread wanted xs) live ++ rest) ≡ None
  unfolding held
  found_none wanted xs rest [] x this none end = end
  found_none wanted xs rest (y ∷ ys) x this none end = elim (cases_Bool (y.number == n)) [
    | inl here ↦
        let mine : held wanted xs y ≡ None =
        subst (λ (z : Instance). held wanted xs z ≡ None) (sym (this.0 here)) none in
        rw (
          append_assoc (block_with thread y (held wanted xs y)) (flat_map (block_after l thread wanted xs) ys) rest,
          mine,
        )
        (found_none wanted xs rest ys x this.1 none end)
    | inr other ↦
        rw (append_assoc (block_with thread y (held wanted xs y)) (flat_map (block_after l thread wanted xs) ys) rest)
        (other_block (flat_map (block_after l thread wanted xs) ys ++ rest) y (held wanted xs y) other
        ∙ found_none wanted xs rest ys x this.1 none end)
  ]

-- ** an instance that is live

module _ {B : Type 0} (l : Loads B) (thread : ℕ) (seen : List Event) (legal : IsLegal l.infos l.last_offset seen) where
  -- the same images, with nothing loaded
  bare : Loads ℕ
  bare = record {
    infos = l.infos;
    last_offset = l.last_offset;
    function = λ x name. None;
    variable = λ image name. None;
    fixed = λ x. [];
    tables = λ x. [];
    shared = λ x. None;
    block = λ x. [];
  }

  whole : IsFront seen seen
  whole = ([], sym (append-nil seen))

  -- the current instance of an image is found by its number
  numbered : (image : ℕ) (x : Instance) → instance_at l seen image ≡ Some x → numbered_instance l seen x.number ≡ Some x
  unfolding instance_at bare
  numbered image x e = numbered_at_image bare seen legal seen image x whole e

  abbrev IsNumbered : Instance → Type 0
  IsNumbered y = numbered_instance l seen y.number ≡ Some y

  all_numbered : All IsNumbered (instances l seen)
  unfolding bare
  all_numbered = all_live bare seen legal IsNumbered seen whole (λ y e. e)

  are_this : (x : Instance) → numbered_instance l seen x.number ≡ Some x → (ys : List Instance) → All IsNumbered ys
      → AreThis x.number x ys
  are_this x e [] all = tt
  are_this x e (y ∷ ys) all = (
    λ same.
        let number : y.number ≡ x.number = eqb-true y.number x.number same in
        let there : numbered_instance l seen y.number ≡ Some y = all 0 y (omega arith) in
        let here : numbered_instance l seen y.number ≡ Some x = ap (numbered_instance l seen) number ∙ e in
        cc,
    are_this x e ys (λ k d low. all (suc k) d (omega arith)),
  )

  -- what a pass over the live instances leaves of one of them
  pass : (wanted loads : Instance → Bool) (xs : List (Owned B)) (x : Instance)
      → numbered_instance l seen x.number ≡ Some x
      → (o : Option (List B)) → held l thread x.number wanted xs x ≡ o
      → block_bytes x.number (held_of l thread wanted loads (instances l seen) xs) ≡ o
  pass wanted loads xs x e None has =
      found_none l thread x.number wanted xs (flat_map (data_after l loads xs) (instances l seen)) (instances l seen) x
      (are_this x e (instances l seen) all_numbered) has (data_none l thread x.number loads (instances l seen) xs)
  pass wanted loads xs x e (Some bytes) has =
      found_first l thread x.number wanted xs (flat_map (data_after l loads xs) (instances l seen))
      (instances l seen) x bytes e has

  or_fresh : (b : Bool) (o : Option (List B)) (fresh : List B)
      → unwrap_or (option_or o (fresh_if b fresh)) fresh ≡ unwrap_or o fresh
  or_fresh true None fresh = refl
  or_fresh false None fresh = refl
  or_fresh true (Some bytes) fresh = refl
  or_fresh false (Some bytes) fresh = refl

  or_some : (b : Bool) → b ≡ true → (o : Option (List B)) (fresh : List B)
      → option_or o (fresh_if b fresh) ≡ Some (unwrap_or o fresh)
  or_some b t None fresh = rw t refl
  or_some b t (Some bytes) fresh = refl

  -- the block that a peek shows
  pub block_is : {W F : Type 0} (h : Held W F B) (image : ℕ) (x : Instance) → instance_at l seen image ≡ Some x
      → block_bytes x.number (owned_by (reached l thread x (looked l thread seen h)))
      ≡ Some (unwrap_or (block_bytes x.number (owned_by h)) (l.block x))
  unfolding looked_at reached_at held
  block_is h image x e =
      let there = numbered image x e in
      let old : List (Owned B) = owned_by h in
      let now : List (Owned B) = looked_at l thread seen (owned_by h) in
      let again : owned (owners_of now) (ranges_in now) ≡ now = owned_again now in
      let look : block_bytes x.number now
      ≡ option_or (block_bytes x.number old) (fresh_if (is_some x.offset) (l.block x)) =
      pass (λ y. is_some y.offset) (λ y. false) old x there _ refl in
      let reach : block_bytes x.number (reached_at l thread seen x now)
      ≡ Some (unwrap_or (block_bytes x.number now) (l.block x)) =
      pass (λ y. y.number == x.number) (λ y. false) now x there _
      (or_some (x.number == x.number) (eq-eqb x.number x.number refl) (block_bytes x.number now) (l.block x)) in
      ap (block_bytes x.number) (owned_again (reached_at l thread seen x (owned (owners_of now) (ranges_in now))))
      ∙ (ap (λ (xs : List (Owned B)). block_bytes x.number (reached_at l thread seen x xs)) again
      ∙ (reach ∙ ap (λ (bytes : List B). Some bytes) (ap (λ (o : Option (List B)). unwrap_or o (l.block x)) look
      ∙ or_fresh (is_some x.offset) (block_bytes x.number old) (l.block x))))
