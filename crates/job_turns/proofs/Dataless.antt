-- Where no image has data, no instance has.
use Rattle.std.proofs.Common.{◌≡◌, ◌∙◌, ◌+◌, ◌<◌, ◌++◌, ℕ, zero, suc, Bool, true, false, List, [], ◌∷◌, length, Option}
use Rattle.std.proofs.Common.{Some, None, refl, sym, ap, inl, inr, arith}
use Rattle.std.specs.Prelude.{drop, is_some, slice_get}
use Rattle.std.specs.List.{flat_map, list_any}
use Rattle.std.proofs.lemmas.Bool.{true≢false}
use Rattle.std.proofs.lemmas.List.{drop_more}
use Rattle.std.proofs.lemmas.List.Folds.{list_any_at}
use Rattle.std.proofs.lemmas.List.FromFn.{length-map-range_with_len}
use Rattle.std.proofs.lemmas.Option.{get_or_from_slice_get, none-some, slice_get_cases, slice_get_within}
use Rattle.image_file.specs.Spelled.{Spelled}
use Rattle.loaded_modules.specs.declared.instance.Instance.{Instance}
use Rattle.loaded_modules.specs.Images.{JobImages, image_at}
use Rattle.module_data.specs.Parts.{bytes_at, data_number, data_part, data_start, fresh_data, start_in}
use Rattle.module_data.specs.Pieces.{Piece, data_of, first_data, first_piece}
use Rattle.module_table.specs.Past.{Past}
use Rattle.thread_blocks.specs.Held.{Owned, data_with}
use Rattle.thread_blocks.specs.JobLoads.{job_loads}
use Rattle.thread_blocks.specs.JobStatements.{HasNoData}
use Rattle.thread_space.specs.Kept.{data_in, live_in, shared_of}
use Rattle.thread_space.proofs.SharedIs.{shared_none}
use Rattle.job_turns.specs.Alone.{has_data, has_data_in}

abbrev pub has : Spelled → Bool
has image = has_data_in (Some image)

-- the images that are left decide
pub any_left : (images : List Spelled) (i : ℕ) → i < length images → has_data_in (slice_get images i) ≡ false
    → list_any has (drop i images) ≡ list_any has (drop (i + 1) images)
any_left images i within none = elim (slice_get_cases images i).1 [
  | inl found ↦
      let here : has found.0 ≡ false = ap has_data_in (sym found.2) ∙ none in
      let next : drop i images ≡ found.0 ∷ drop (i + 1) images =
      drop_more images i found.0 found.1 ∙ ap (λ x. x ∷ drop (i + 1) images) found.3 in
      ap (list_any has) next ∙ rw here refl
  | inr past ↦ absurd (omega (arith, within, past.0))
]

pub any_here : (images : List Spelled) (i : ℕ) → i < length images → has_data_in (slice_get images i) ≡ true
    → list_any has images ≡ true
any_here images i within some = elim (slice_get_cases images i).1 [
  | inl found ↦
      list_any_at has images i found.0 found.1 (ap has found.3 ∙ ap has_data_in (sym found.2) ∙ some)
  | inr past ↦ absurd (omega (arith, within, past.0))
]

module _ (m : JobImages) (none : has_data m ≡ false) where
  no_part : (i : ℕ) (image : Spelled) (part : Option ℕ) → slice_get m.images i ≡ Some image → data_part image ≡ part
      → data_part image ≡ None
  unfolding has_data
  no_part i image None is at = at
  no_part i image (Some n) is at =
      absurd (true≢false (sym (list_any_at has m.images i image (slice_get_within m.images i image is)
      (ap has (get_or_from_slice_get m.images i image image is) ∙ ap is_some at)) ∙ none))

  none_at : (number : ℕ) (image : Spelled) → image_at m number ≡ Some image → data_part image ≡ None
  unfolding image_at
  none_at zero image is = absurd (none-some image is)
  none_at (suc i) image is = no_part i image (data_part image) is refl

  no_start : (x : Instance) (image : Option Spelled) → image_at m x.image ≡ image → start_in x image ≡ None
  no_start x None is = refl
  no_start x (Some image) is = rw (none_at x.image image is) refl

  no_number : (x : Instance) (image : Option Spelled) → image_at m x.image ≡ image → data_number m x ≡ None
  no_number x None is = rw is refl
  no_number x (Some image) is = rw is (none_at x.image image is)

  pub shares_none : HasNoData (job_loads m)
  unfolding data_start
  shares_none x = shared_none m x (no_start x (image_at m x.image) refl)

  pub no_bytes : (x : Instance) → fresh_data m x ≡ []
  unfolding fresh_data
  no_bytes x = ap (bytes_at m x) (no_number x (image_at m x.image) refl)

  -- whatever pieces there are
  no_data_in : (d : List Piece) (x : Instance) (rest : List (Owned ℕ)) → data_in m d x ++ rest ≡ rest
  no_data_in d x rest = ap (λ range. data_with x range (data_of d x.number x.image) ++ rest) (shares_none x)

  no_data_of : (d : List Piece) (live : List Instance) → flat_map (data_in m d) live ≡ []
  no_data_of d [] = refl
  no_data_of d (x ∷ live) = no_data_in d x (flat_map (data_in m d) live) ∙ no_data_of d live

  pub none_shared : (p : Past) (d : List Piece) → shared_of m p d ≡ []
  unfolding shared_of
  none_shared p d = no_data_of d (live_in m p)

pub no_data : ((m : JobImages) → has_data m ≡ false → HasNoData (job_loads m))
no_data m none = shares_none m none

pub no_fresh : ((m : JobImages) (x : Instance) → has_data m ≡ false → fresh_data m x ≡ [])
no_fresh m x none = no_bytes m none x

-- as many pieces as there are images, and one
pub first_length : (m : JobImages) → length (first_data m) ≡ length m.images + 1
unfolding first_data
first_length m = length-map-range_with_len (first_piece m) 0 (length m.images + 1)
