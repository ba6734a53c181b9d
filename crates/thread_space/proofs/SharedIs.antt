-- The data that a thread finds of an instance are those that the code keeps: the first part that programs write.
use Rattle.std.proofs.Common.{◌≡◌, ◌∙◌, ◌+◌, ◌&&◌, ℕ, suc, Bool, true, false, not, List, [], ◌∷◌, length, Option, Some}
use Rattle.std.proofs.Common.{None, refl, sym, ap, subst, inl, inr, add-one, arith, cond, ◌==◌}
use Rattle.std.specs.Prelude.{option_and_then, option_map, slice_get}
use Rattle.std.specs.List.{find, range_with_len}
use Rattle.std.proofs.lemmas.Bool.{cases_Bool, true≢false}
use Rattle.std.proofs.lemmas.Option.{same_Some, none-some}
use Rattle.guest_machine.specs.Ranges.{Range}
use Rattle.image_file.specs.declared.part.PartClass.{PartClass}
use Rattle.image_file.specs.declared.part.PartClass.TheVariants.{Executable, ReadOnly, Writable}
use Rattle.image_file.specs.Spelled.{Part, Spelled, is_writable}
use Rattle.loaded_modules.specs.declared.instance.Instance.{Instance}
use Rattle.loaded_modules.specs.Images.{JobImages, image_at}
use Rattle.loaded_modules.specs.Laws.{start_of}
use Rattle.loaded_modules.specs.Loader.{bias, part_bytes}
use Rattle.loaded_modules.specs.LoaderLaws.{loaded_part}
use Rattle.module_data.specs.Parts.{bytes_at, data_part, data_start, fresh_data, is_data_part, is_number, start_in}
use Rattle.thread_blocks.specs.JobLoads.{instance_part, job_loads, parts_from}
use Rattle.std.specs.Option.{option_map_or}

-- ** which part

number_same : (got : Option ℕ) (i : ℕ) → option_map_or (λ (own : ℕ). own == i) got false ≡ is_number got i
number_same None i = refl
number_same (Some n) i = refl

module _ (m : JobImages) (x : Instance) (image : Spelled) where
  -- part i as a thread finds it
  at : ℕ → Option (Range ℕ)
  at i = option_map (instance_part m image x i) (slice_get image.parts i)

  tests_same : (i : ℕ) (part : Part) → slice_get image.parts i ≡ Some part
      → (instance_part m image x i part).writable ≡ is_data_part image i
  unfolding is_data_part
  tests_same i part is = rw (is, number_same image.got i) refl

  -- the first of those from part i on
  first_of_two : (b c : Bool) (i : ℕ) (range : Range ℕ) (more : Option (Range ℕ)) (rest : Option ℕ) → b ≡ c
      → at i ≡ Some range → more ≡ option_and_then at rest
      → cond b (Some range) more ≡ option_and_then at (cond c (Some i) rest)
  first_of_two b true i range more rest same here there = rw (same, here) refl
  first_of_two b false i range more rest same here there = rw (same, there) refl

  found_from : (rest : List Part) (i : ℕ) → ((k : ℕ) → slice_get image.parts (i + k) ≡ slice_get rest k)
      → find (λ (range : Range ℕ). range.writable) (parts_from m image x i rest)
      ≡ option_and_then at (find (is_data_part image) (range_with_len i (length rest)))
  unfolding at
  found_from [] i rests = refl
  found_from (part ∷ rest) i rests =
      let here : slice_get image.parts i ≡ Some part = (let e : i + 0 ≡ i = omega arith in rw e at (rests 0)) in
      first_of_two (instance_part m image x i part).writable (is_data_part image i) i (instance_part m image x i part)
      (find (λ (range : Range ℕ). range.writable) (parts_from m image x (suc i) rest))
      (find (is_data_part image) (range_with_len (i + 1) (length rest))) (tests_same i part here)
      (ap (option_map (instance_part m image x i)) here)
      (rw add-one (found_from rest (suc i)
      (λ k. (let e : i + suc k ≡ suc i + k = omega arith in rw e at (rests (suc k))))))

  found_part : find (λ (range : Range ℕ). range.writable) (parts_from m image x 0 image.parts)
      ≡ option_and_then at (data_part image)
  unfolding data_part
  found_part = found_from image.parts 0 (λ k. (let e : 0 + k ≡ k = omega arith in rw e refl))

-- ** its bytes, and where they begin

-- a range that threads write
abbrev pub written_range : List ℕ → ℕ → Range ℕ
written_range bytes start =
    record { start = start; bytes = bytes; readable = true; writable = true; runnable = false }

passes : (p : ℕ → Bool) (xs : List ℕ) (i : ℕ) → find p xs ≡ Some i → p i ≡ true
passes p [] i found = absurd (none-some i found)
passes p (x ∷ xs) i found = elim (cases_Bool (p x)) [
  | inl t ↦ let same : x ≡ i = same_Some x i (sym (rw t refl) ∙ found) in subst (λ n. p n ≡ true) same t
  | inr f ↦ passes p xs i (sym (rw f refl) ∙ found)
]

-- a part of a class that is written is read, and not run
as_written : (m : JobImages) (image : Spelled) (x : Instance) (i : ℕ) (part : Part) (class : PartClass)
    → part.class ≡ class
    → (is_writable class && not (option_map_or (λ (own : ℕ). own == i) image.got false)) ≡ true
    → instance_part m image x i part ≡ written_range (part_bytes m image x part) (start_of image.kind x.number part)
as_written m image x i part Executable is t = absurd (true≢false (sym t))
as_written m image x i part ReadOnly is t = absurd (true≢false (sym t))
as_written m image x i part Writable is t =
    let start : part.address + bias image.kind x.number ≡ bias image.kind x.number + part.address = omega arith in
    rw (is, t, start) refl

module _ (m : JobImages) (x : Instance) where
  -- of the part of a number
  at_part : (image : Spelled) (i : ℕ) (part : Option Part) → image_at m x.image ≡ Some image
      → slice_get image.parts i ≡ part → is_data_part image i ≡ true
      → option_map (instance_part m image x i) part
      ≡ option_map (λ start. written_range (loaded_part m x i) start) (option_map (start_of image.kind x.number) part)
  unfolding loaded_part
  at_part image i None is here t = refl
  at_part image i (Some part) is here t =
      rw (is, here)
      (ap Some (as_written m image x i part part.class refl (tests_same m x image i part here ∙ t)))

  at_number : (image : Spelled) (number : Option ℕ) → image_at m x.image ≡ Some image → data_part image ≡ number
      → option_and_then (at m x image) number
      ≡ option_map (λ start. written_range (bytes_at m x number) start)
      (option_map (start_of image.kind x.number) (option_and_then (slice_get image.parts) number))
  unfolding at data_part
  at_number image None is here = refl
  at_number image (Some i) is here =
      at_part image i (slice_get image.parts i) is refl
      (passes (is_data_part image) (range_with_len 0 (length image.parts)) i here)

  in_image : (image : Option Spelled) → image_at m x.image ≡ image
      → find (λ (range : Range ℕ). range.writable)
      (option_map_or (λ (own : Spelled). parts_from m own x 0 own.parts) image [])
      ≡ option_map (λ start. written_range (bytes_at m x (option_and_then data_part image)) start) (start_in x image)
  in_image None is = refl
  in_image (Some image) is = found_part m x image ∙ at_number image (data_part image) is refl

  -- the data that threads share: what the code keeps of an instance as it is loaded, at its place
  pub shared_is : (job_loads m).shared x ≡ option_map (λ start. written_range (fresh_data m x) start) (data_start m x)
  unfolding job_loads fresh_data data_start
  shared_is = in_image (image_at m x.image) refl

  by_start : (start : Option ℕ) → data_start m x ≡ start
      → (job_loads m).shared x ≡ option_map (λ start. written_range (fresh_data m x) start) start
  by_start start is = shared_is ∙ ap (option_map (λ start. written_range (fresh_data m x) start)) is

  pub shared_at : (start : ℕ) → data_start m x ≡ Some start
      → (job_loads m).shared x ≡ Some (written_range (fresh_data m x) start)
  shared_at start is = by_start (Some start) is

  pub shared_none : data_start m x ≡ None → (job_loads m).shared x ≡ None
  shared_none is = by_start None is

  -- the same, from the range on
  pub range_is : (range : Range ℕ) → (job_loads m).shared x ≡ Some range
      → (data_start m x ≡ Some range.start) × (range ≡ written_range (fresh_data m x) range.start)
  range_is range is = by_option (data_start m x) refl
    where
      by_option : (start : Option ℕ) → data_start m x ≡ start
          → (data_start m x ≡ Some range.start) × (range ≡ written_range (fresh_data m x) range.start)
      by_option None none = absurd (none-some range (sym (shared_none none) ∙ is))
      by_option (Some start) at =
          let same : written_range (fresh_data m x) start ≡ range =
          same_Some (written_range (fresh_data m x) start) range (sym (shared_at start at) ∙ is) in
          let begins : start ≡ range.start = ap (λ (r : Range ℕ). r.start) same in
          (at ∙ ap Some begins, sym same ∙ ap (written_range (fresh_data m x)) begins)

  pub range_none : (job_loads m).shared x ≡ None → data_start m x ≡ None
  range_none is = by_option (data_start m x) refl
    where
      by_option : (start : Option ℕ) → data_start m x ≡ start → data_start m x ≡ None
      by_option None none = none
      by_option (Some start) at =
          absurd (none-some (written_range (fresh_data m x) start) (sym is ∙ shared_at start at))
