-- What a thread holds before its first line, and the data as the program begins.
use Rattle.std.proofs.Common.{◌≡◌, ◌∙◌, ◌-◌, ◌≤◌, ◌++◌, ℕ, zero, suc, true, false, List, [], ◌∷◌, length, Option, Some}
use Rattle.std.proofs.Common.{None, refl, sym, ap, subst, append-nil, arith}
use Rattle.std.specs.Prelude.{is_some, not}
use Rattle.std.specs.List.{flat_map}
use Rattle.std.proofs.lemmas.Option.{slice_get-get_or}
use Rattle.guest_machine.specs.Ranges.{Range}
use Rattle.loaded_modules.specs.declared.instance.Instance.{Instance}
use Rattle.loaded_modules.specs.Images.{JobImages, infos, last_offset, static_offset}
use Rattle.loaded_modules.specs.Loader.{fresh_block}
use Rattle.module_data.specs.Parts.{fresh_data}
use Rattle.module_data.specs.Pieces.{data_of, first_data, first_instance, starts, starts_at}
use Rattle.module_table.specs.Modules.{AreInfos, no_module}
use Rattle.module_table.specs.Past.{past, start, startup_count}
use Rattle.module_table.proofs.Starting.{own_number}
use Rattle.thread_blocks.specs.Held.{Owned, data_after, data_with, fresh_if, looked_at}
use Rattle.thread_blocks.specs.JobLoads.{job_loads}
use Rattle.thread_blocks.specs.JobWorlds.{first_data as first_shared_data}
use Rattle.thread_space.specs.Kept.{blocks_of, data_in, live_in, shared_of}
use Rattle.thread_space.specs.Live.{HasStartups, IsLive}
use Rattle.thread_space.proofs.Live.{all_live, each_same, live_image, live_is}
use Rattle.thread_space.proofs.LoadKept.{data_loaded, few_images}
use Rattle.thread_space.proofs.Looks.{held_each, none_fresh, seen_live}
use Rattle.thread_space.proofs.PiecesHeld.{first_own}
use Rattle.thread_space.proofs.Startups.{early_info, startup_image, stay_start}
use Rattle.thread_vector.specs.Holding.{IsLeftBy}
use Rattle.thread_vector.specs.Vectors.{Vector, fresh, held}
use Rattle.thread_vector.proofs.Facts.{facts}
use Rattle.thread_vector.proofs.Stepping.{fresh_at}

pub begins : (m : JobImages) → past (infos m) (last_offset m) [] ≡ start (infos m) (last_offset m)
unfolding past
begins m = refl

-- ** images before any event

record Starts (m : JobImages) (x : Instance) : Type 0 where
  pub low : 1 ≤ x.image
  pub high : x.image ≤ startup_count (infos m)
  pub is : x ≡ first_instance m x.image

starts_with : (m : JobImages) (x : Instance) → AreInfos (infos m) → IsLive m (start (infos m) (last_offset m)) x
    → Starts m x
unfolding start
starts_with m x are live =
    let loaded = (live_is m (start (infos m) (last_offset m)) x live).0 in
    let number = own_number (infos m) x.image are loaded in
    let early = ((stay_start (infos m) (last_offset m) are).stay x.image number.2 number.3).1 in
    record {
      low = number.2;
      high = number.3;
      is = sym (live_is m (start (infos m) (last_offset m)) x live).1 ∙ rw (early, number.0, number.1) refl;
    }

starts_early : (m : JobImages) (number : ℕ) → AreInfos (infos m) → 1 ≤ number → number ≤ startup_count (infos m)
    → starts_at m number ≡ true
starts_early m zero are low high = absurd (omega (arith, low))
starts_early m (suc k) are low high =
    let early = early_info (infos m) k no_module.info are (omega (arith, high)) in
    ap starts (slice_get-get_or (infos m) k no_module.info early.0) ∙ ap not early.1

-- ** the data as the program begins

pub first_shared : (m : JobImages) → AreInfos (infos m)
    → first_shared_data (job_loads m) ≡ shared_of m (start (infos m) (last_offset m)) (first_data m)
unfolding shared_of
first_shared m are =
    rw (seen_live m (start (infos m) (last_offset m)) [] (begins m))
    (each_same (IsLive m (start (infos m) (last_offset m))) (data_after (job_loads m) (λ x. true) [])
    (data_in m (first_data m))
    (live_in m (start (infos m) (last_offset m))) (all_live m (start (infos m) (last_offset m))) (λ x live.
    let with = starts_with m x are live in
    let few : x.image ≤ length m.images =
    omega (
      arith,
      with.high,
      (early_info (infos m) (x.image - 1) no_module.info are (omega (arith, with.low, with.high))).0,
      few_images m,
    ) in
    let number : x.number ≡ x.image = ap (λ (y : Instance). y.number) with.is in
    let kept : data_of (first_data m) x.number x.image ≡ Some (fresh_data m x) =
    ap (λ n. data_of (first_data m) n x.image) number
    ∙ first_own m x.image with.low few (starts_early m x.image are with.low with.high)
    ∙ ap (λ y. Some (fresh_data m y)) (sym with.is) in
    data_loaded m x None ∙ ap (data_with x ((job_loads m).shared x)) (sym kept)))

-- ** a thread before its first line

no_data : (shared : Instance → Option (Range ℕ)) (xs : List Instance)
    → flat_map (λ y. data_with y (shared y) None) xs ≡ []
no_data shared [] = refl
no_data shared (x ∷ xs) = by_range (shared x) (flat_map (λ y. data_with y (shared y) None) xs) (no_data shared xs)
  where
    by_range : (range : Option (Range ℕ)) (ys : List (Owned ℕ)) → ys ≡ [] → data_with x range None ++ ys ≡ []
    by_range None ys none = none
    by_range (Some range) ys none = none

module _ (v : Vector) (left : IsLeftBy v.images v.past)
    (history : v.past ≡ start (infos v.images) (last_offset v.images))
    (blocks : (i : ℕ) → held v i ≡ fresh v.images v.past i) where
  first_block : (x : Instance) → IsLive v.images v.past x
      → fresh_if (is_some x.offset) (fresh_block v.images x) ≡ held v x.number
  first_block x live =
      let with = starts_with v.images x left.legal.images (subst (λ p. IsLive v.images p x) history live) in
      let offset : x.offset ≡ Some (static_offset v.images x.image) = ap (λ (y : Instance). y.offset) with.is in
      ap (λ o. fresh_if (is_some o) (fresh_block v.images x)) offset
      ∙ sym (blocks x.number ∙ fresh_at v.images v.past x.number x.image
      (live_image v.images v.past x (facts v.images v.past left).own live)
      ∙ ap (λ y. Some (fresh_block v.images y)) (live_is v.images v.past x live).1)

  -- the blocks of the images that start with the program, and no data
  pub start_kept : looked_at (job_loads v.images) v.thread [] [] ≡ blocks_of v
  unfolding looked_at
  start_kept =
      rw (seen_live v.images v.past [] (begins v.images ∙ sym history))
      (held_each v (λ x. None) (λ x. is_some x.offset) (λ x. false) [] (λ x live. first_block x live)
      (λ x live. rw (none_fresh ((job_loads v.images).shared x)) refl))
      ∙ ap (λ ys. blocks_of v ++ ys) (no_data (λ x. (job_loads v.images).shared x) (live_in v.images v.past))
      ∙ append-nil (blocks_of v)

  pub start_has : HasStartups v
  start_has number low high =
      ap is_some (blocks number
      ∙ fresh_at v.images v.past number number (startup_image v.images v.past number left low high))
