-- The parts of an image one after another.
use Rattle.std.proofs.Common.{◌≡◌, ◌∙◌, ◌+◌, ◌-◌, ◌<◌, ◌≤◌, ◌||◌, ℕ, suc, Bool, true, false, List, [], ◌∷◌, length}
use Rattle.std.proofs.Common.{drop, get_or, Option, Some, None, refl, sym, ap, arith, inl, inr, cond, add-one, ◌==◌}
use Rattle.std.specs.Prelude.{◌&&◌, not, nat_le, option_and_then, slice_get}
use Rattle.std.specs.List.{list_any}
use Rattle.std.specs.Option.{option_or, option_map_or}
use Rattle.std.proofs.lemmas.Bool.{cases_Bool, leb-true, leb-false, le-leb, lt-leb}
use Rattle.std.proofs.lemmas.Option.{cond_some, none-some, slice_get-get_or}
use Rattle.std.proofs.Math.Seq.{drop-cons}
use Rattle.std.proofs.lemmas.List.{drop_all}
use Rattle.guest_operands.specs.declared.space.Access.{Access}
use Rattle.guest_operands.specs.declared.space.Access.TheVariants.{Read, Run, Write}
use Rattle.guest_operands.specs.Ranges.{Range, byte_in}
use Rattle.image_file.specs.declared.part.PartClass.{PartClass}
use Rattle.image_file.specs.declared.part.PartClass.TheVariants.{Executable, ReadOnly, Writable}
use Rattle.image_file.specs.Spelled.{Part, Spelled, is_writable}
use Rattle.loaded_modules.specs.declared.instance.Instance.{Instance}
use Rattle.loaded_modules.specs.Images.{JobImages, image_at}
use Rattle.loaded_modules.specs.Loader.{bias, part_bytes}
use Rattle.loaded_modules.specs.LoaderLaws.{bias_of, loaded_part}
use Rattle.thread_blocks.specs.JobLoads.{instance_part, job_loads, parts_from, written_from}
use Rattle.thread_blocks.specs.RunTime.{has_words}
use Rattle.thread_space.specs.OfParts.{allows_fixed, byte_of_part, fixed_ranges, part_has_words}
use Rattle.thread_space.specs.Places.{behind}
use Rattle.thread_space.proofs.Sought.{looked}
use Rattle.image_names.specs.Functions.{is_code}

-- ** one range before others

pub by_class : (access : Access) (class : PartClass) (is_loaders : Bool) (start place : ℕ) (bytes : List ℕ)
    (rest : List (Range ℕ))
    → byte_in access (fixed_ranges
    (record {
      start = start;
      bytes = bytes;
      readable = not (is_code class);
      writable = is_writable class && not is_loaders;
      runnable = is_code class;
    } ∷ rest)) place
    ≡ option_or (cond (allows_fixed access class is_loaders)
    (option_and_then (slice_get bytes) (behind start place)) None)
    (byte_in access (fixed_ranges rest) place)
by_class Read Executable b start place bytes rest = refl
by_class Write Executable b start place bytes rest = refl
by_class Run Executable b start place bytes rest = looked start place bytes (byte_in Run (fixed_ranges rest) place)
by_class Read ReadOnly b start place bytes rest = looked start place bytes (byte_in Read (fixed_ranges rest) place)
by_class Write ReadOnly b start place bytes rest = refl
by_class Run ReadOnly b start place bytes rest = refl
by_class Read Writable true start place bytes rest = looked start place bytes (byte_in Read (fixed_ranges rest) place)
by_class Write Writable true start place bytes rest = refl
by_class Run Writable true start place bytes rest = refl
by_class Read Writable false start place bytes rest = refl
by_class Write Writable false start place bytes rest = refl
by_class Run Writable false start place bytes rest = refl

-- ** the parts from one on

module _ (m : JobImages) (image : Spelled) (x : Instance) where
  -- what is found from part i on
  unfoldable pub fixed_from : Access → ℕ → ℕ → Option ℕ
  fixed_from access place i = byte_in access (fixed_ranges (parts_from m image x i (drop i image.parts))) place

  pub fixed_next : (access : Access) (place i : ℕ) → i < length image.parts
      → fixed_from access place i
      ≡ option_or (byte_of_part m image x i access place (slice_get image.parts i)) (fixed_from access place (i + 1))
  unfolding fixed_from
  fixed_next access place i within =
      let part = get_or image.parts i (record { class = Executable; address = 0; bytes = [] }) in
      rw (
        add-one,
        slice_get-get_or image.parts i (record { class = Executable; address = 0; bytes = [] }) within,
        drop-cons image.parts i (record { class = Executable; address = 0; bytes = [] }),
      )
      (by_class access part.class (option_map_or (λ (own : ℕ). own == i) image.got false)
      (part.address + bias image.kind x.number) place
      (part_bytes m image x part) (parts_from m image x (suc i) (drop (suc i) image.parts)))

  pub fixed_start : (access : Access) (place : ℕ)
      → byte_in access (fixed_ranges (parts_from m image x 0 image.parts)) place ≡ fixed_from access place 0
  unfolding fixed_from
  fixed_start access place = refl

  pub fixed_hit : (access : Access) (place i byte : ℕ) (whole : Option ℕ) → whole ≡ fixed_from access place i
      → i < length image.parts
      → byte_of_part m image x i access place (slice_get image.parts i) ≡ Some byte → Some byte ≡ whole
  fixed_hit access place i byte whole from within here =
      sym (from ∙ fixed_next access place i within ∙ ap (λ o. option_or o (fixed_from access place (i + 1))) here)

  pub fixed_miss : (access : Access) (place i : ℕ) (whole : Option ℕ) → whole ≡ fixed_from access place i
      → i < length image.parts
      → byte_of_part m image x i access place (slice_get image.parts i) ≡ None → whole ≡ fixed_from access place (i + 1)
  fixed_miss access place i whole from within here =
      from ∙ fixed_next access place i within ∙ ap (λ o. option_or o (fixed_from access place (i + 1))) here

  pub fixed_end : (access : Access) (place i : ℕ) (whole : Option ℕ) → whole ≡ fixed_from access place i
      → length image.parts ≤ i → None ≡ whole
  unfolding fixed_from
  fixed_end access place i whole from past = sym (rw (drop_all i image.parts past) at from)

  unfoldable pub words_from : ℕ → ℕ → Bool
  words_from address i = list_any (has_words address)
      (written_from (drop i image.parts) (parts_from m image x i (drop i image.parts)))

  pub words_next : (address i : ℕ) → i < length image.parts
      → words_from address i ≡
      (part_has_words m image x i address (slice_get image.parts i) || words_from address (i + 1))
  unfolding words_from
  words_next address i within =
      let part = get_or image.parts i (record { class = Executable; address = 0; bytes = [] }) in
      rw (
        add-one,
        slice_get-get_or image.parts i (record { class = Executable; address = 0; bytes = [] }) within,
        drop-cons image.parts i (record { class = Executable; address = 0; bytes = [] }),
      )
      (by_written (is_writable part.class) (instance_part m image x i part)
      (written_from (drop (suc i) image.parts) (parts_from m image x (suc i) (drop (suc i) image.parts))))
    where
      by_written : (b : Bool) (range : Range ℕ) (rest : List (Range ℕ))
          → list_any (has_words address) (cond b (range ∷ rest) rest)
          ≡ ((b && has_words address range) || list_any (has_words address) rest)
      by_written true range rest = refl
      by_written false range rest = refl

  pub words_start : (address : ℕ)
      → list_any (has_words address) (written_from image.parts (parts_from m image x 0 image.parts))
      ≡ words_from address 0
  unfolding words_from
  words_start address = refl

  pub words_hit : (address i : ℕ) (whole : Bool) → whole ≡ words_from address i → i < length image.parts
      → part_has_words m image x i address (slice_get image.parts i) ≡ true → true ≡ whole
  words_hit address i whole from within here =
      sym (from ∙ words_next address i within ∙ ap (λ b. b || words_from address (i + 1)) here)

  pub words_miss : (address i : ℕ) (whole : Bool) → whole ≡ words_from address i → i < length image.parts
      → part_has_words m image x i address (slice_get image.parts i) ≡ false → whole ≡ words_from address (i + 1)
  words_miss address i whole from within here =
      from ∙ words_next address i within ∙ ap (λ b. b || words_from address (i + 1)) here

  pub words_end : (address i : ℕ) (whole : Bool) → whole ≡ words_from address i → length image.parts ≤ i → false ≡ whole
  unfolding words_from
  words_end address i whole from past = sym (rw (drop_all i image.parts past) at from)

-- ** all parts of an instance

module _ (m : JobImages) (x : Instance) where
  pub of_image : (image : Spelled) → image_at m x.image ≡ Some image
      → fixed_ranges (parts_from m image x 0 image.parts) ≡ (job_loads m).fixed x
  unfolding job_loads
  of_image image there = sym (rw there refl)

  pub of_no_image : image_at m x.image ≡ None → [] ≡ (job_loads m).fixed x
  unfolding job_loads
  of_no_image none = sym (rw none refl)

  pub tables_of_image : (image : Spelled) → image_at m x.image ≡ Some image
      → written_from image.parts (parts_from m image x 0 image.parts) ≡ (job_loads m).tables x
  unfolding job_loads
  tables_of_image image there = sym (rw there refl)

  pub tables_of_no_image : image_at m x.image ≡ None → [] ≡ (job_loads m).tables x
  unfolding job_loads
  tables_of_no_image none = sym (rw none refl)

-- ** what the code reads

pub behind_some : (start address at : ℕ) → behind start address ≡ Some at
    → (nat_le start address ≡ true) × (address - start ≡ at)
behind_some start address at begins = cond_some (nat_le start address) (address - start) at begins

behind_none : (start address : ℕ) → behind start address ≡ None → nat_le start address ≡ false
behind_none start address begins = elim (cases_Bool (nat_le start address)) [
  | inl t ↦ absurd (none-some (address - start) (sym (sym (rw t refl) ∙ begins)))
  | inr f ↦ f
]

-- so many bytes from a start on have two words at an address
room_is : (start address at count : ℕ) → behind start address ≡ Some at
    → nat_le (at + 16) count ≡ (nat_le start address && nat_le (address + 16) (start + count))
room_is start address at count begins =
    let here = behind_some start address at begins in
    let low : start ≤ address = leb-true start address here.0 in
    rw here.0 (elim (cases_Bool (nat_le (at + 16) count)) [
      | inl t ↦
          let room : at + 16 ≤ count = leb-true (at + 16) count t in
          t ∙ sym (le-leb (address + 16) (start + count) (omega (arith, here.1, room, low)))
      | inr f ↦
          let full : count < at + 16 = leb-false (at + 16) count f in
          f ∙ sym (lt-leb (address + 16) (start + count) (omega (arith, here.1, full, low)))
    ])

before_is : (b : Bool) (start address count : ℕ) → behind start address ≡ None
    → false ≡ (b && (nat_le start address && nat_le (address + 16) (start + count)))
before_is true start address count begins = rw (behind_none start address begins) refl
before_is false start address count begins = refl

module _ (m : JobImages) (image : Spelled) (x : Instance) (i : ℕ) (there : image_at m x.image ≡ Some image) where
  pub bias_here : bias_of m x ≡ bias image.kind x.number
  unfolding bias_of
  bias_here = rw there refl

  pub part_here : (part : Part) → slice_get image.parts i ≡ Some part → loaded_part m x i ≡ part_bytes m image x part
  unfolding loaded_part
  part_here part is = rw (there, is) refl

  pub byte_read : (access : Access) (place at : ℕ) (part : Part) → slice_get image.parts i ≡ Some part
      → allows_fixed access part.class (option_map_or (λ (own : ℕ). own == i) image.got false) ≡ true
      → behind (part.address + bias_of m x) place ≡ Some at
      → slice_get (loaded_part m x i) at ≡ byte_of_part m image x i access place (slice_get image.parts i)
  byte_read access place at part is allowed begins =
      let begins' : behind (part.address + bias image.kind x.number) place ≡ Some at = rw bias_here at begins in
      rw (part_here part is, is, allowed, begins') refl

  pub none_read : (access : Access) (place : ℕ) (part : Part) → slice_get image.parts i ≡ Some part
      → behind (part.address + bias_of m x) place ≡ None
      → None ≡ byte_of_part m image x i access place (slice_get image.parts i)
  none_read access place part is begins =
      let begins' : behind (part.address + bias image.kind x.number) place ≡ None = rw bias_here at begins in
      rw (is, begins') (by_test
      (allows_fixed access part.class (option_map_or (λ (own : ℕ). own == i) image.got false)))
    where
      by_test : (b : Bool) → None ≡ cond {A = Option ℕ} b None None
      by_test true = refl
      by_test false = refl

  pub words_read : (address at : ℕ) (part : Part) → slice_get image.parts i ≡ Some part → is_writable part.class ≡ true
      → behind (part.address + bias_of m x) address ≡ Some at
      → nat_le (at + 16) (length (loaded_part m x i)) ≡ part_has_words m image x i address (slice_get image.parts i)
  words_read address at part is written begins =
      rw (part_here part is, is, written)
      (room_is (part.address + bias image.kind x.number) address at (length (part_bytes m image x part))
      (rw bias_here at begins))

  pub no_words_read : (address : ℕ) (part : Part) → slice_get image.parts i ≡ Some part
      → behind (part.address + bias_of m x) address ≡ None
      → false ≡ part_has_words m image x i address (slice_get image.parts i)
  no_words_read address part is begins =
      rw is (before_is (is_writable part.class) (part.address + bias image.kind x.number) address
      (length (part_bytes m image x part)) (rw bias_here at begins))
