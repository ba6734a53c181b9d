-- An image that lies far from a place has no part there.
use Rattle.std.proofs.Common.{◌≡◌, ◌∙◌, ◌⊎◌, ◌+◌, ◌-◌, ◌^◌, ◌<◌, ◌≤◌, ℕ, suc, Bool, true, false, List, [], ◌∷◌, length}
use Rattle.std.proofs.Common.{Option, Some, None, refl, sym, ap, arith, inl, inr, cond, ◌==◌}
use Rattle.std.specs.Prelude.{◌&&◌, nat_le, nat_lt, option_and_then, slice_get}
use Rattle.std.specs.Option.{option_or, option_map_or}
use Rattle.std.proofs.lemmas.Bool.{cases_Bool, cases_lt, leb-true, le-ltb, lt-ltb, ltb-false}
use Rattle.std.proofs.lemmas.Option.{slice_get_past}
use Rattle.guest_operands.specs.declared.space.Access.{Access}
use Rattle.guest_operands.specs.Ranges.{byte_in}
use Rattle.image_faults.specs.Faults.{IsImage}
use Rattle.image_file.specs.Spelled.{Part, Spelled, spelled}
use Rattle.loaded_modules.specs.declared.instance.Instance.{Instance}
use Rattle.loaded_modules.specs.Images.{JobImages, image_at}
use Rattle.loaded_modules.specs.Loader.{bias, part_bytes}
use Rattle.loaded_modules.specs.LoaderLaws.{bias_of}
use Rattle.thread_blocks.specs.JobLoads.{job_loads, parts_from}
use Rattle.thread_space.specs.Fetching.{code_number, first_code, meets, part_meets}
use Rattle.thread_space.specs.OfParts.{allows_fixed, fixed_ranges, is_near}
use Rattle.thread_space.specs.Places.{behind}
use Rattle.thread_space.proofs.Fetched.{number_of_image}
use Rattle.thread_space.proofs.LowParts.{length-part_bytes, part_low}
use Rattle.thread_space.proofs.PartBytes.{bias_here, by_class, of_image}
use Rattle.image_names.specs.Functions.{is_code}

-- ** bytes from a start on, which end before a place or begin behind the 15 places from it on

abbrev Apart : ℕ → ℕ → ℕ → Type 0
Apart start size place = (place + 15 ≤ start) ⊎ (start + size ≤ place)

apart : (address size moved place : ℕ) → address + size < 2 ^ 27 → is_near moved place ≡ false
    → Apart (address + moved) size place
apart address size moved place low far = elim (cases_lt moved (place + 15)) [
  | inl before ↦
      let past : moved + 2 ^ 27 ≤ place =
      ltb-false place (moved + 2 ^ 27) (sym (rw (lt-ltb moved (place + 15) before) refl) ∙ far) in
      inr (omega (arith, past, low))
  | inr behind ↦ inl (omega (arith, behind))
]

no_byte : (b : Bool) (start place : ℕ) (bytes : List ℕ) → Apart start (length bytes) place
    → cond b (option_and_then (slice_get bytes) (behind start place)) None ≡ None
no_byte false start place bytes away = refl
no_byte true start place bytes away = elim (cases_Bool (nat_le start place)) [
  | inl t ↦
      let from : start ≤ place = leb-true start place t in
      let past : length bytes ≤ place - start = elim away [
        | inl before ↦ absurd (omega (arith, before, from))
        | inr ends ↦ omega (arith, ends)
      ] in
      rw t (slice_get_past bytes (place - start) past)
  | inr f ↦ rw f refl
]

no_meeting : (b : Bool) (start size place : ℕ) → Apart start size place → (b && meets start size place) ≡ false
no_meeting false start size place away = refl
no_meeting true start size place (inl before) = rw (le-ltb start (place + 15) before) refl
no_meeting true start size place (inr ends) = elim (cases_Bool (nat_lt start (place + 15))) [
  | inl t ↦ rw (t, le-ltb place (start + size) ends) refl
  | inr f ↦ rw f refl
]

-- ** all parts of an image

abbrev Lows : List Part → Type 0
Lows parts = (i : ℕ) (part : Part) → slice_get parts i ≡ Some part → part.address + length part.bytes < 2 ^ 27

module _ (m : JobImages) (image : Spelled) (x : Instance) (place : ℕ)
    (far : is_near (bias image.kind x.number) place ≡ false) where
  away : (part : Part) → part.address + length part.bytes < 2 ^ 27
      → Apart (part.address + bias image.kind x.number) (length (part_bytes m image x part)) place
  away part low = rw (length-part_bytes m image x part)
      (apart part.address (length part.bytes) (bias image.kind x.number) place low far)

  no_bytes : (access : Access) (parts : List Part) (i : ℕ) → Lows parts
      → byte_in access (fixed_ranges (parts_from m image x i parts)) place ≡ None
  no_bytes access [] i lows = refl
  no_bytes access (part ∷ more) i lows =
      by_class access part.class (option_map_or (λ (own : ℕ). own == i) image.got false)
      (part.address + bias image.kind x.number) place (part_bytes m image x part)
      (parts_from m image x (suc i) more)
      ∙ ap (λ o. option_or o (byte_in access (fixed_ranges (parts_from m image x (suc i) more)) place))
      (no_byte (allows_fixed access part.class (option_map_or (λ (own : ℕ). own == i) image.got false))
      (part.address + bias image.kind x.number) place (part_bytes m image x part) (away part (lows 0 part refl)))
      ∙ no_bytes access more (suc i) (λ k other at. lows (suc k) other at)

  no_first : (parts : List Part) (i : ℕ) → Lows parts → first_code m image x place i parts ≡ None
  no_first [] i lows = refl
  no_first (part ∷ more) i lows =
      rw (no_meeting (is_code part.class) (part.address + bias image.kind x.number)
      (length (part_bytes m image x part)) place (away part (lows 0 part refl)))
      (no_first more (suc i) (λ k other at. lows (suc k) other at))

-- ** an instance

module _ (m : JobImages) (image : Spelled) (x : Instance) (there : image_at m x.image ≡ Some image)
    (spells : (b : List ℕ) × (IsImage b × (image ≡ spelled b))) (place : ℕ) (far : is_near (bias_of m x) place ≡ false)
  where
    pub far_byte : (access : Access) → None ≡ byte_in access ((job_loads m).fixed x) place
    far_byte access =
        sym (no_bytes m image x place (rw (bias_here m image x 0 there) at far) access image.parts 0
        (part_low image spells))
        ∙ ap (λ ranges. byte_in access ranges place) (of_image m x image there)

    pub far_code : None ≡ code_number m place x
    far_code =
        sym (no_first m image x place (rw (bias_here m image x 0 there) at far) image.parts 0 (part_low image spells))
        ∙ number_of_image m image x there place
