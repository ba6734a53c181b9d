-- An image of objects that read as plain shapes has storage.
use Rattle.std.proofs.Common.{◌≡◌, ◌<◌, ◌≤◌, ◌∙◌, ℕ, zero, suc, true, List, [], ◌∷◌, map, Some, length, refl, ap, arith}
use Rattle.std.specs.List.{range_with_len}
use Rattle.std.proofs.lemmas.List.{get_or_append_left, length-append}
use Rattle.std.proofs.lemmas.List.FromFn.{get_or-map-range_with_len}
use Rattle.object_faults.specs.declared.class.SectionClass.{SectionClass}
use Rattle.object_faults.specs.declared.class.SectionClass.TheVariants.{Tls}
use Rattle.tls_layout.specs.declared.sections.Section.{Section}
use Rattle.tls_layout.specs.Places.{end_of, next_end, tls_size}
use Rattle.tls_layout.specs.Sections.{all_sections, dropped, is_in, section_at, section_of, sections_of}
use Rattle.tls_layout.proofs.Ends.{end_of-rises}
use Rattle.tls_layout.proofs.Listed.{length-sections_of}
use Rattle.tls_layout.proofs.Together.{tls_beyond_initial}
use Rattle.generated_job.specs.Shapes.{Shape}
use Rattle.generated_laws.specs.Reading.{ReadsAs}
use Rattle.generated_laws.proofs.KindPlain.{ReadAsShapes}

next_has : (class : SectionClass) (end : ℕ) (section : Section) → is_in class section ≡ true
    → section.size ≤ next_end class end section
next_has class end section is = rw is (omega arith)

-- the sections of a class end behind the bytes of each
end_has : (class : SectionClass) (from : ℕ) (sections : List Section) (k : ℕ) → k < length sections
    → is_in class (section_at sections k) ≡ true → (section_at sections k).size ≤ end_of class from sections
unfolding end_of
end_has class from [] k h is = absurd (omega (arith, h))
end_has class from (x ∷ xs) zero h is =
    omega (arith, next_has class from x is, end_of-rises class (next_end class from x) xs)
end_has class from (x ∷ xs) (suc k) h is = end_has class (next_end class from x) xs k (omega (arith, h)) is

module _ (b : List ℕ) (s : Shape) (reads : ReadsAs b s) (more : List (List ℕ)) where
  eight : sections_of b ≡ map (section_of b) (range_with_len 0 8)
  unfolding sections_of
  eight = ap (λ n. map (section_of b) (range_with_len 0 n)) reads.sections

  -- section 3 of the first object has the first bytes of its variable
  initial_is : section_at (all_sections (b ∷ more)) 3
      ≡ record { class = Some (Tls true); size = length s.initial; alignment = 4 }
  unfolding all_sections section_of
  initial_is =
      get_or_append_left (sections_of b) (all_sections more) dropped 3
      (omega (arith, length-sections_of b, reads.sections))
      ∙ ap (λ sections. section_at sections 3) eight
      ∙ get_or-map-range_with_len (section_of b) 0 8 3 3 dropped (omega arith) refl
      ∙ (rw (reads.initial_class, reads.initial_size, reads.initial_alignment) refl)

  initial_within : 3 < length (all_sections (b ∷ more))
  unfolding all_sections
  initial_within = omega (
    arith,
    length-append (sections_of b) (all_sections more),
    length-sections_of b,
    reads.sections,
  )

  first_has_storage : length s.initial ≤ end_of (Tls true) 0 (all_sections (b ∷ more))
  first_has_storage =
      let same : (section_at (all_sections (b ∷ more)) 3).size ≡ length s.initial =
      ap (λ section. section.size) initial_is in
      let is : is_in (Tls true) (section_at (all_sections (b ∷ more)) 3) ≡ true = ap (is_in (Tls true)) initial_is in
      omega (arith, same, end_has (Tls true) 0 (all_sections (b ∷ more)) 3 initial_within is)

pub has_storage : (objects : List (List ℕ)) (shape : ℕ → Shape) → ReadAsShapes objects shape → 0 < length objects
    → 0 < tls_size (all_sections objects)
has_storage [] shape given some = absurd (omega (arith, some))
has_storage (b ∷ more) shape given some =
    let first : 0 < length (b ∷ more) = omega arith in
    let reads = given.reads 0 first in
    let plain = given.plain 0 first in
    tls_beyond_initial (all_sections (b ∷ more)) 0
    (omega (arith, plain.some_initial, first_has_storage b (shape 0) reads more))
