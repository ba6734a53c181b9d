-- A look, and a block that is reached, leave what the code keeps then.
use Rattle.std.proofs.Common.{◌≡◌, ◌∙◌, ◌==◌, ◌≤◌, ◌++◌, ℕ, Bool, true, false, List, Option, Some, None, refl, sym, ap}
use Rattle.std.proofs.Common.{subst, inl, inr}
use Rattle.std.specs.Prelude.{◌⊎◌, if◌then◌else◌, is_some}
use Rattle.std.specs.List.{flat_map}
use Rattle.std.specs.Option.{option_or}
use Rattle.std.proofs.lemmas.Bool.{both_ways, cases_Bool, cases_eq, eq-eqb, lt-ltb, ne_eqb}
use Rattle.guest_machine.specs.Ranges.{Range}
use Rattle.loaded_modules.specs.declared.instance.Instance.{Instance}
use Rattle.loaded_modules.specs.Images.{JobImages, infos, last_offset}
use Rattle.loaded_modules.specs.Loader.{fresh_block}
use Rattle.module_data.specs.Pieces.{Piece, data_of}
use Rattle.module_table.specs.declared.events.Event.{Event}
use Rattle.module_table.specs.Laws.{HaveOwnNumbers}
use Rattle.module_table.specs.Modules.{is_loaded}
use Rattle.module_table.specs.Past.{Past, accepts, after_one, module_of, past, startup_count}
use Rattle.module_table.proofs.Refusals.{accepts_close, held as closed_held}
use Rattle.thread_blocks.specs.Held.{Owned, block_after, block_bytes, block_with, data_after, data_bytes, data_with}
use Rattle.thread_blocks.specs.Held.{fresh_data, fresh_if, held_of, looked_at, reached_at}
use Rattle.thread_blocks.specs.Instances.{instances, instances_in}
use Rattle.thread_blocks.specs.JobLoads.{job_loads}
use Rattle.thread_space.specs.Kept.{HasSeen, blocks_of, live_in, owned_of, shared_of}
use Rattle.thread_space.specs.Live.{HasStartups, IsLive}
use Rattle.thread_space.proofs.BytesHeld.{bytes_held, data_kept}
use Rattle.thread_space.proofs.Live.{all_live, each_same, live_image, live_is, live_number, same_number}
use Rattle.thread_space.proofs.Owners.{data_behind, shared_no_blocks}
use Rattle.thread_space.proofs.Startups.{startups_stay_in}
use Rattle.thread_vector.specs.Holding.{IsLeftBy}
use Rattle.thread_vector.specs.Vectors.{Vector, caught_up, fresh, held, loaded_as, reached}
use Rattle.thread_vector.proofs.Events.{Keeps, shape_of}
use Rattle.thread_vector.proofs.Facts.{facts}
use Rattle.thread_vector.proofs.Stepping.{caught_at, fresh_at}
use Rattle.loaded_modules.proofs.Left.{or_none}

-- the live instances where the events were seen
pub seen_live : (m : JobImages) (p : Past) (seen : List Event) → past (infos m) (last_offset m) seen ≡ p
    → instances (job_loads m) seen ≡ live_in m p
unfolding job_loads
seen_live m p seen is = ap (instances_in (infos m)) is

-- ** what is held of them, instance by instance

module _ (v : Vector) (g : Instance → Option (List ℕ)) (reaches loads : Instance → Bool) (xs : List (Owned ℕ)) where
  pub held_each : ((x : Instance) → IsLive v.images v.past x
      → option_or (block_bytes x.number xs) (fresh_if (reaches x) (fresh_block v.images x)) ≡ held v x.number)
      → ((x : Instance) → IsLive v.images v.past x
      → data_with x ((job_loads v.images).shared x)
      (option_or (fresh_data ((job_loads v.images).shared x) (loads x)) (data_bytes x.number xs))
      ≡ data_with x ((job_loads v.images).shared x) (g x))
      → held_of (job_loads v.images) v.thread reaches loads (live_in v.images v.past) xs
      ≡ blocks_of v ++ flat_map (λ y. data_with y ((job_loads v.images).shared y) (g y)) (live_in v.images v.past)
  unfolding job_loads blocks_of
  held_each blocks pieces =
      rw (
        each_same (IsLive v.images v.past) (block_after (job_loads v.images) v.thread reaches xs)
            (λ (x : Instance). block_with v.thread x (held v x.number))
            (live_in v.images v.past) (all_live v.images v.past) (λ x live. ap (block_with v.thread x) (blocks x live)),
        each_same (IsLive v.images v.past) (data_after (job_loads v.images) loads xs)
            (λ (x : Instance). data_with x ((job_loads v.images).shared x) (g x))
            (live_in v.images v.past) (all_live v.images v.past) pieces,
      ) refl

-- no data are fresh
pub none_fresh : (range : Option (Range ℕ)) → fresh_data range false ≡ None
none_fresh None = refl
none_fresh (Some range) = refl

or_some : (o r s : Option (List ℕ)) → is_some o ≡ true → option_or o r ≡ option_or o s
or_some None r s is = cc
or_some (Some bytes) r s is = refl

fresh_same : (b : Bool) (bytes : List ℕ) → fresh_if b bytes ≡ (if b then Some bytes else None)
fresh_same true bytes = refl
fresh_same false bytes = refl

-- ** looks

-- a live instance whose image is not late started with the program
pub early_number : (m : JobImages) (p : Past) (x : Instance) → IsLeftBy m p → IsLive m p x
    → (module_of p x.image).info.late ≡ false
    → (1 ≤ x.number) × (x.number ≤ startup_count (infos m))
early_number m p x left live early =
    let stays = (startups_stay_in m p left).early x.image (live_is m p x live).0 early in
    let same : x.image ≡ x.number = sym stays.0 ∙ live_number m p x live in
    subst (λ n. (1 ≤ n) × (n ≤ startup_count (infos m))) same (stays.1, stays.2)

module _ (old new : Vector) (images : new.images ≡ old.images) (left : IsLeftBy new.images new.past)
    (blocks : (i : ℕ) → held new i ≡ caught_up old new.past i) (startups : HasStartups old) where
  -- the block of an instance that is live afterwards
  pub look_block : (x : Instance) → IsLive new.images new.past x
      → option_or (held old x.number) (fresh_if (is_some x.offset) (fresh_block new.images x)) ≡ held new x.number
  look_block x live =
      let is = (live_is new.images new.past x live).1 in
      let at = live_image new.images new.past x (facts new.images new.past left).own live in
      let was : loaded_as old.images new.past x.image ≡ x = ap (λ m. loaded_as m new.past x.image) (sym images) ∙ is in
      let same : fresh_block old.images (loaded_as old.images new.past x.image) ≡ fresh_block new.images x =
      ap (λ m. fresh_block m (loaded_as old.images new.past x.image)) (sym images)
      ∙ ap (fresh_block new.images) was in
      sym (blocks x.number ∙ caught_at old new.past x.number x.image at
      ∙ ap (λ f. option_or (held old x.number)
      (if is_some (module_of new.past x.image).offset then Some f else None)) same
      ∙ elim (cases_Bool (module_of new.past x.image).info.late) [
        | inl late ↦
            let offset : (module_of new.past x.image).offset ≡ x.offset =
            rw late at (ap (λ (y : Instance). y.offset) is) in
            ap (option_or (held old x.number))
            (rw offset (sym (fresh_same (is_some x.offset) (fresh_block new.images x))))
        | inr early ↦
            let number = early_number new.images new.past x left live early in
            or_some (held old x.number) _ _
            (startups x.number number.0 (subst (λ m. x.number ≤ startup_count (infos m)) images number.1))
      ])

  -- a look with the data of instances among which are all that are live afterwards
  pub look_with : (p : Past) (d : List Piece) (seen : List Event) → HasSeen new seen → HaveOwnNumbers p
      → ((x : Instance) → IsLive new.images new.past x → IsLive new.images p x)
      → looked_at (job_loads new.images) new.thread seen (blocks_of old ++ shared_of new.images p d) ≡ owned_of new d
  unfolding looked_at shared_of
  look_with p d seen has_seen own lives =
      rw (seen_live new.images new.past seen has_seen)
      (held_each new (λ x. data_of d x.number x.image) (λ x. is_some x.offset) (λ x. false)
      (blocks_of old ++ shared_of new.images p d)
      (λ x live. rw (bytes_held old (shared_of new.images p d) x.number (shared_no_blocks new.images p d))
      (look_block x live))
      (λ x live. rw (none_fresh ((job_loads new.images).shared x), data_behind old x.number (shared_of new.images p d))
      (data_kept (λ y. (job_loads new.images).shared y) (λ y. data_of d y.number y.image) x new.images p own
      (lives x live))))

-- a thread's look at new events, with the data of that history in its hands
pub look_kept : (old new : Vector) (d : List Piece) (seen : List Event) → new.images ≡ old.images → HasSeen new seen
    → IsLeftBy new.images new.past
    → ((i : ℕ) → held new i ≡ caught_up old new.past i) → HasStartups old
    → looked_at (job_loads new.images) new.thread seen (blocks_of old ++ shared_of new.images new.past d)
    ≡ owned_of new d
look_kept old new d seen images has_seen left blocks startups =
    look_with old new images left blocks startups new.past d seen has_seen (facts new.images new.past left).own
    (λ x live. live)

-- ** an event that loads nothing

loaded_before : (p : Past) (e : Event) → accepts p e ≡ true
    → (e.opens ≡ false) ⊎ (is_loaded (module_of p e.image) ≡ true) → is_loaded (module_of p e.image) ≡ true
loaded_before p e accepted (inl closes) =
    lt-ltb 0 (module_of p e.image).uses (closed_held p e.image (accepts_close p e accepted closes))
loaded_before p e accepted (inr loaded) = loaded

lives_on : (m : JobImages) (p q : Past) (x : Instance) → Keeps p q → IsLive m q x → IsLive m p x
lives_on m p q x keeps live =
    let same = keeps.each x.image in
    let loaded = (live_is m q x live).0 in
    rw (same.held loaded, ← same.info, ← same.instance, ← same.id, ← same.offset) (rw loaded at live)

pub lived : (m : JobImages) (p : Past) (e : Event) (x : Instance) → IsLeftBy m p → accepts p e ≡ true
    → (e.opens ≡ false) ⊎ (is_loaded (module_of p e.image) ≡ true) → IsLive m (after_one p e) x → IsLive m p x
lived m p e x left accepted why live = elim (shape_of p e (facts m p left).is accepted) [
  | inl keeps ↦ lives_on m p (after_one p e) x keeps.0 live
  | inr loads ↦ absurd (both_ways _ loads.1 (loaded_before p e accepted why))
]

-- an event of the thread's own: each instance that is live after it was live before
pub see_kept : (old new : Vector) (d : List Piece) (seen : List Event) (e : Event) → new.images ≡ old.images
    → HasSeen new seen
    → IsLeftBy old.images old.past → IsLeftBy new.images new.past → ((i : ℕ) → held new i ≡ caught_up old new.past i)
    → HasStartups old
    → new.past ≡ after_one old.past e → accepts old.past e ≡ true
    → (e.opens ≡ false) ⊎ (is_loaded (module_of old.past e.image) ≡ true)
    → looked_at (job_loads new.images) new.thread seen (owned_of old d) ≡ owned_of new d
see_kept old new d seen e images has_seen was left blocks startups history accepted why =
    ap (λ m. looked_at (job_loads new.images) new.thread seen (blocks_of old ++ shared_of m old.past d)) (sym images)
    ∙ look_with old new images left blocks startups old.past d seen has_seen (facts old.images old.past was).own
    (λ x live. subst (λ m. IsLive m old.past x) (sym images)
    (lived old.images old.past e x was accepted why
    (subst (λ m. IsLive m (after_one old.past e) x) images (subst (λ p. IsLive new.images p x) history live))))

-- ** a block that is reached

module _ (old new : Vector) (images : new.images ≡ old.images) (history : new.past ≡ old.past)
    (left : IsLeftBy new.images new.past)
    (x : Instance) (live : IsLive new.images new.past x) (blocks : (i : ℕ) → held new i ≡ reached old x.number i) where
  fresh_is : fresh old.images old.past x.number ≡ Some (fresh_block new.images x)
  fresh_is =
      ap (λ m. fresh m old.past x.number) (sym images) ∙ ap (λ p. fresh new.images p x.number) (sym history)
      ∙ fresh_at new.images new.past x.number x.image
      (live_image new.images new.past x (facts new.images new.past left).own live)
      ∙ ap (λ y. Some (fresh_block new.images y)) (live_is new.images new.past x live).1

  reach_block : (y : Instance) → IsLive new.images new.past y
      → option_or (held old y.number) (fresh_if (y.number == x.number) (fresh_block new.images y)) ≡ held new y.number
  unfolding reached
  reach_block y other = elim (cases_eq y.number x.number) [
    | inl same ↦
        let is : y ≡ x = same_number new.images new.past x y (facts new.images new.past left).own live other same in
        sym (blocks y.number ∙ rw (is, eq-eqb x.number x.number refl, fresh_is) refl)
    | inr apart ↦ sym (blocks y.number ∙ rw (ne_eqb y.number x.number apart) (sym (or_none (held old y.number))))
  ]

  reach_with : (d : List Piece) (seen : List Event) → HasSeen new seen
      → reached_at (job_loads new.images) new.thread seen x (blocks_of old ++ shared_of new.images new.past d)
      ≡ owned_of new d
  unfolding reached_at shared_of
  reach_with d seen has_seen =
      rw (seen_live new.images new.past seen has_seen)
      (held_each new (λ y. data_of d y.number y.image) (λ y. y.number == x.number) (λ y. false)
      (blocks_of old ++ shared_of new.images new.past d)
      (λ y other. rw (bytes_held old (shared_of new.images new.past d) y.number
      (shared_no_blocks new.images new.past d)) (reach_block y other))
      (λ y other. rw (
        none_fresh ((job_loads new.images).shared y),
        data_behind old y.number (shared_of new.images new.past d),
      )
      (data_kept (λ z. (job_loads new.images).shared z) (λ z. data_of d z.number z.image) y new.images new.past
      (facts new.images new.past left).own other)))

  pub reach_kept : (d : List Piece) (seen : List Event) → HasSeen new seen
      → reached_at (job_loads new.images) new.thread seen x (owned_of old d) ≡ owned_of new d
  reach_kept d seen has_seen =
      ap (λ m. reached_at (job_loads new.images) new.thread seen x (blocks_of old ++ shared_of m old.past d))
      (sym images)
      ∙ ap (λ p. reached_at (job_loads new.images) new.thread seen x (blocks_of old ++ shared_of new.images p d))
      (sym history)
      ∙ reach_with d seen has_seen
