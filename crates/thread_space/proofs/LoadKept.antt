-- An event that loads leaves what the code keeps once it has filled the data of the new instance.
use Rattle.std.proofs.Common.{◌≡◌, ◌≢◌, ◌∙◌, ◌+◌, ◌<◌, ◌≤◌, ◌==◌, ◌++◌, ℕ, true, false, List, [], ◌∷◌, length, Option}
use Rattle.std.proofs.Common.{Some, None, refl, sym, ap, arith, inl, inr}
use Rattle.std.specs.Prelude.{is_some}
use Rattle.std.specs.List.{flat_map}
use Rattle.std.specs.Option.{option_or}
use Rattle.std.proofs.lemmas.Bool.{both_ways, cases_eq, eq-eqb, ne_eqb}
use Rattle.guest_machine.specs.Ranges.{Range}
use Rattle.image_file.specs.Spelled.{Spelled}
use Rattle.link_faults.specs.declared.image_kind.ImageKind.{ImageKind}
use Rattle.loaded_modules.specs.declared.instance.Instance.{Instance}
use Rattle.loaded_modules.specs.Images.{JobImages, infos, infos_of}
use Rattle.module_data.specs.Parts.{fresh_data}
use Rattle.module_data.specs.Pieces.{Piece, data_of, loaded}
use Rattle.module_table.specs.declared.events.Event.{Event}
use Rattle.module_table.specs.declared.modules.Module.{Module}
use Rattle.module_table.specs.Modules.{is_loaded}
use Rattle.module_table.specs.Past.{accepts, after_one, module_of, new_instance}
use Rattle.module_table.proofs.Steps.{loaded_within}
use Rattle.thread_blocks.specs.Held.{Owned, data_bytes, data_with, fresh_data as data_if, loaded_at, looked_at}
use Rattle.thread_blocks.specs.JobLoads.{job_loads}
use Rattle.thread_space.specs.Kept.{HasSeen, blocks_of, live_in, owned_of, shared_of}
use Rattle.thread_space.specs.Live.{HasStartups, IsLive}
use Rattle.thread_space.proofs.BytesHeld.{bytes_held, data_kept}
use Rattle.thread_space.proofs.Live.{live_is, loaded_live, same_number}
use Rattle.thread_space.proofs.Looks.{held_each, look_block, none_fresh, seen_live}
use Rattle.thread_space.proofs.Owners.{data_behind, no_blocks, shared_no_blocks}
use Rattle.thread_space.proofs.PiecesHeld.{loaded_own}
use Rattle.module_data.proofs.Written.{loads_leave_others as loaded_other}
use Rattle.thread_space.proofs.SharedIs.{range_is}
use Rattle.thread_vector.specs.Holding.{IsLeftBy}
use Rattle.thread_vector.specs.Vectors.{Vector, caught_up, held, loaded_as}
use Rattle.thread_vector.proofs.Events.{Loads as LoadsOne, shape_of}
use Rattle.thread_vector.proofs.Facts.{facts}
use Rattle.loaded_modules.proofs.Left.{or_none}

pub few_infos : (kinds : List ImageKind) (images : List Spelled) → length (infos_of kinds images) ≤ length images
few_infos [] images = omega arith
few_infos (kind ∷ kinds) [] = omega arith
few_infos (kind ∷ kinds) (image ∷ images) = omega (arith, few_infos kinds images)

pub few_images : (m : JobImages) → length (infos m) ≤ length m.images
unfolding infos
few_images m = few_infos m.kinds m.images

-- the data of an instance that is loaded
pub data_loaded : (m : JobImages) (x : Instance) (was : Option (List ℕ))
    → data_with x ((job_loads m).shared x) (option_or (data_if ((job_loads m).shared x) true) was)
    ≡ data_with x ((job_loads m).shared x) (Some (fresh_data m x))
data_loaded m x was = by_range ((job_loads m).shared x) refl
  where
    by_range : (range : Option (Range ℕ)) → (job_loads m).shared x ≡ range
        → data_with x range (option_or (data_if range true) was) ≡ data_with x range (Some (fresh_data m x))
    by_range None is = refl
    by_range (Some range) is =
        ap (λ bytes. data_with x (Some range) (Some bytes)) (ap (λ (r : Range ℕ). r.bytes) (range_is m x range is).1)

module _ (old new : Vector) (d : List Piece) (seen : List Event) (e : Event) (images : new.images ≡ old.images)
    (has_seen : HasSeen new seen)
    (was : IsLeftBy old.images old.past) (left : IsLeftBy new.images new.past)
    (blocks : (i : ℕ) → held new i ≡ caught_up old new.past i)
    (startups : HasStartups old) (history : new.past ≡ after_one old.past e) (accepted : accepts old.past e ≡ true)
    (unloaded : is_loaded (module_of old.past e.image) ≡ false) (long : length d ≡ length new.images.images + 1) where
  -- the new instance
  made : Instance
  made = loaded_as new.images new.past e.image

  one_loads : LoadsOne old.past (after_one old.past e) e.image
  one_loads = elim (shape_of old.past e (facts old.images old.past was).is accepted) [
    | inl keeps ↦ absurd (both_ways _ unloaded keeps.1)
    | inr loads ↦ loads.0
  ]

  made_here : module_of new.past e.image ≡ new_instance old.past (module_of old.past e.image)
  made_here = ap (λ p. module_of p e.image) history ∙ one_loads.here

  made_loaded : is_loaded (module_of new.past e.image) ≡ true
  made_loaded = ap (λ (m : Module). is_loaded m) made_here

  made_live : IsLive new.images new.past made
  unfolding made
  made_live = loaded_live new.images new.past e.image made_loaded

  made_number : made.number ≡ old.past.made + 1
  unfolding made
  made_number = ap (λ (m : Module). m.instance) made_here

  -- any other was live before
  other_lived : (y : Instance) → IsLive new.images new.past y → (y.number ≡ made.number → ⊥)
      → IsLive new.images old.past y × (y.image ≢ made.image)
  unfolding made
  other_lived y live apart =
      let other : y.image ≢ e.image =
      λ same. apart (ap (λ (z : Instance). z.number) (sym (live_is new.images new.past y live).1)
      ∙ ap (λ k. (module_of new.past k).instance) same) in
      let stays : module_of new.past y.image ≡ module_of old.past y.image = ap (λ p. module_of p y.image) history
      ∙ one_loads.others y.image other in
      (rw stays at live, other)

  within : made.image < length d
  unfolding made
  within = omega (
    arith,
    loaded_within new.past e.image (facts new.images new.past left).is made_loaded,
    (facts new.images new.past left).long,
    few_images new.images,
    long,
  )

  -- data as a look leaves them
  lasting : Instance → Option (List ℕ)
  lasting y = data_bytes y.number (shared_of new.images old.past d)

  looked_first : looked_at (job_loads new.images) new.thread seen (blocks_of old ++ shared_of new.images old.past d)
      ≡ blocks_of new ++ flat_map (λ y. data_with y ((job_loads new.images).shared y) (lasting y))
      (live_in new.images new.past)
  unfolding looked_at lasting
  looked_first =
      rw (seen_live new.images new.past seen has_seen)
      (held_each new (λ y. data_bytes y.number (shared_of new.images old.past d)) (λ x. is_some x.offset) (λ x. false)
      (blocks_of old ++ shared_of new.images old.past d)
      (λ x live. rw (bytes_held old (shared_of new.images old.past d) x.number (shared_no_blocks new.images old.past d))
      (look_block old new images left blocks startups x live))
      (λ x live. rw (
        none_fresh ((job_loads new.images).shared x),
        data_behind old x.number (shared_of new.images old.past d),
      ) refl))

  looked_data : List (Owned ℕ)
  looked_data = flat_map (λ y. data_with y ((job_loads new.images).shared y) (lasting y)) (live_in new.images new.past)

  load_data : (y : Instance) → IsLive new.images new.past y
      → data_with y ((job_loads new.images).shared y)
      (option_or (data_if ((job_loads new.images).shared y) (y.number == made.number))
      (data_bytes y.number (blocks_of new ++ looked_data)))
      ≡ data_with y ((job_loads new.images).shared y) (data_of (loaded new.images made d) y.number y.image)
  unfolding looked_data lasting shared_of
  load_data y live = elim (cases_eq y.number made.number) [
    | inl same ↦
        let is : y ≡ made = same_number new.images new.past made y
        (facts new.images new.past left).own made_live live same in
        rw (is, eq-eqb made.number made.number refl, loaded_own new.images made d (omega (arith, made_number)) within)
        (data_loaded new.images made (data_bytes made.number (blocks_of new ++ looked_data)))
    | inr apart ↦
        let other = other_lived y live apart in
        rw (
          ne_eqb y.number made.number apart,
          none_fresh ((job_loads new.images).shared y),
          data_behind new y.number looked_data,
          loaded_other new.images made d y.number y.image other.1,
        )
        (data_kept (λ z. (job_loads new.images).shared z) lasting y new.images new.past
        (facts new.images new.past left).own live
        ∙ data_kept (λ z. (job_loads new.images).shared z) (λ z. data_of d z.number z.image) y new.images old.past
        (facts old.images old.past was).own other.0)
  ]

  load_with : loaded_at (job_loads new.images) new.thread seen made
      (looked_at (job_loads new.images) new.thread seen (blocks_of old ++ shared_of new.images old.past d))
      ≡ owned_of new (loaded new.images made d)
  unfolding loaded_at shared_of looked_data
  load_with =
      ap (loaded_at (job_loads new.images) new.thread seen made) looked_first
      ∙ rw (seen_live new.images new.past seen has_seen)
      (held_each new (λ y. data_of (loaded new.images made d) y.number y.image) (λ y. false)
      (λ y. y.number == made.number) (blocks_of new ++ looked_data)
      (λ y live. or_none _ ∙ bytes_held new looked_data y.number
      (no_blocks (λ z. (job_loads new.images).shared z) lasting (live_in new.images new.past)))
      load_data)

  -- the new instance has its data, and each other what it had
  pub load_kept : loaded_at (job_loads new.images) new.thread seen (loaded_as new.images new.past e.image)
      (looked_at (job_loads new.images) new.thread seen (owned_of old d))
      ≡ owned_of new (loaded new.images (loaded_as new.images new.past e.image) d)
  unfolding made
  load_kept =
      ap (λ m. loaded_at (job_loads new.images) new.thread seen made
      (looked_at (job_loads new.images) new.thread seen (blocks_of old ++ shared_of m old.past d))) (sym images)
      ∙ load_with
