-- Code, constants and the initial image are found as they are loaded.
use Rattle.std.proofs.Common.{◌≡◌, ◌+◌, ◌-◌, ◌<◌, ◌≤◌, ◌==◌, ◌∙◌, ℕ, zero, suc, Bool, true, false, List, [], Some, None}
use Rattle.std.proofs.Common.{length, refl, sym, ap, arith, if◌then◌else◌}
use Rattle.std.specs.Prelude.{option_map}
use Rattle.std.proofs.lemmas.Bool.{ne_eqb}
use Rattle.std.proofs.lemmas.Option.{slice_get-map}
use Rattle.memory_image.specs.Laying.{HasRange}
use Rattle.guest_operands.specs.declared.space.Access.{Access}
use Rattle.guest_operands.specs.declared.space.Access.TheVariants.{Read, Run}
use Rattle.guest_operands.specs.Ranges.{Range, allows, byte_in}
use Rattle.link_core.proofs.Linkable.{linkable}
use Rattle.link_core.specs.Images.{contents, got_number, image_of, section_places}
use Rattle.link_needs.specs.Linking.{Linking, layout}
use Rattle.link_needs.specs.Needs.{got_size}
use Rattle.image_writer.specs.Tables.{finished}
use Rattle.loaded_modules.specs.declared.instance.Instance.{Instance}
use Rattle.loaded_modules.specs.Images.{image_at}
use Rattle.object_faults.specs.declared.class.SectionClass.{SectionClass}
use Rattle.object_faults.specs.declared.class.SectionClass.TheVariants.{Executable, ReadOnly, Tls}
use Rattle.relocated_parts.proofs.Parts.{parts_follow}
use Rattle.thread_blocks.specs.JobLoads.{instance_part, job_loads, parts_from}
use Rattle.thread_blocks.specs.Turns.{at_number}
use Rattle.tls_layout.specs.Places.{extent_for}
use Rattle.whole_meaning.specs.Spots.{bias_of}
use Rattle.loaded_bytes.specs.Bytes.{byte_at}
use Rattle.loaded_bytes.specs.Laws.{CodeIsLoaded, ConstantsAreLoaded, IsInstanceOf, images_of}
use Rattle.loaded_bytes.proofs.Biases.{image_bias}
use Rattle.loaded_bytes.proofs.ClassParts.{IsPart, class_part, part_loaded, part_long, part_of}
use Rattle.loaded_bytes.proofs.Ranges.{found_in_part, still}
use Rattle.std.specs.Option.{option_map_or}
use Rattle.image_file.specs.Spelled.{Spelled}

-- the image of an instance
pub image_is : (ls : List Linking) (l : Linking) (x : Instance) → at_number ls x.image ≡ Some l
    → image_at (images_of ls) x.image ≡ Some (image_of l)
unfolding image_at
image_is ls l x e = of_number x.image e
  where
    of_number : (n : ℕ) → at_number ls n ≡ Some l → image_at (images_of ls) n ≡ Some (image_of l)
    of_number zero e = cc
    of_number (suc i) e = slice_get-map image_of ls i ∙ ap (option_map image_of) e

pub fixed_is : (ls : List Linking) (l : Linking) (x : Instance) → at_number ls x.image ≡ Some l
    → (job_loads (images_of ls)).fixed x ≡ still (parts_from (images_of ls) (image_of l) x 0 (image_of l).parts)
unfolding job_loads
fixed_is ls l x e = ap (λ image. still
    (option_map_or (λ (own : Spelled). parts_from (images_of ls) own x 0 own.parts) image [])) (image_is ls l x e)

-- the part of a class is not the table
pub not_table : (l : Linking) (i : ℕ) → i < length (section_places (layout l))
    → option_map_or (λ (own : ℕ). own == i) (image_of l).got false ≡ false
unfolding image_of finished contents got_number
not_table l i low = of_test (got_size l == 0)
  where
    of_test : (t : Bool) → option_map_or (λ (own : ℕ). own == i)
        (if t then None else Some (length (section_places (layout l)))) false ≡ false
    of_test true = refl
    of_test false = ne_eqb (length (section_places (layout l))) i (λ e. omega (arith, e, low))

module _ (ls : List Linking) (l : Linking) (x : Instance) (is : IsInstanceOf ls l x) (class : SectionClass)
    (range : HasRange class) (address : ℕ) (from : (extent_for class (layout l)).start ≤ address)
    (to : address < (extent_for class (layout l)).end) where
  pub found_still : (access : Access)
      → ((i : ℕ) → allows access (instance_part (images_of ls) (image_of l) x i (class_part l class)) ≡ true)
      → ((i : ℕ) → (instance_part (images_of ls) (image_of l) x i (class_part l class)).writable ≡ false)
      → byte_in access ((job_loads (images_of ls)).fixed x) (address + bias_of l.kind x.number)
      ≡ Some (byte_at l (bias_of l.kind x.number) class address)
  unfolding image_of
  found_still access may not_written =
      let start = (extent_for class (layout l)).start in
      let some : start < (extent_for class (layout l)).end = omega (arith, from, to) in
      let part : IsPart l class = part_of l class some in
      let long = part_long l is.given is.links class some in
      let again : start + (address - start) ≡ address = omega (arith, from) in
      ap (λ (ranges : List (Range ℕ)). byte_in access ranges (address + bias_of l.kind x.number))
      (fixed_is ls l x is.image)
      ∙ ap
      (λ b. byte_in access (still (parts_from (images_of ls) (image_of l) x 0 (image_of l).parts)) (address + b))
      (sym (image_bias l x.number))
      ∙ found_in_part (images_of ls) (image_of l) x access address (class_part l class) from
      (omega (arith, long, from, to)) 0 part.index part.index (image_of l).parts (omega arith) part.at
      (λ j q less there.
      let before = parts_follow (contents l) (linkable l is.given is.links.sound) j part.index q
      (class_part l class) there part.at less in
      omega (arith, before, from))
      (may part.index) (not_written part.index)
      ∙ part_loaded l is.given is.links class range is.stray (images_of ls) x (image_is ls l x is.image)
      (address - start)
      (omega (arith, from, to))
      ∙ ap (λ a. Some (byte_at l (bias_of l.kind x.number) class a)) again

-- the laws
pub code_loaded : CodeIsLoaded
code_loaded ls l x address is within =
    found_still ls l x is Executable tt address within.0 within.1 Run (λ i. refl) (λ i. refl)

pub constants_loaded : ConstantsAreLoaded
constants_loaded ls l x is = (
  λ address within. found_still ls l x is ReadOnly tt address within.0 within.1 Read (λ i. refl) (λ i. refl),
  λ address within. found_still ls l x is (Tls true) tt address within.0 within.1 Read (λ i. refl) (λ i. refl),
)
