-- Where no object has a section that programs write, the class of such sections is empty.
use Rattle.std.proofs.Common.{◌≡◌, ◌∙◌, ℕ, Bool, true, false, List, [], ◌∷◌, Option, Some, None, nat_lt}
use Rattle.std.proofs.Common.{refl, ap, arith}
use Rattle.std.specs.Prelude.{fold, if◌then◌else◌}
use Rattle.std.specs.List.{All, range_with_len}
use Rattle.std.proofs.lemmas.Bool.Decides.{nat_tests}
use Rattle.std.proofs.lemmas.List.Elements.{All-append, All-head, All-map, All-nil, All-tail}
use Rattle.elf_object.specs.Lent.{section_alignment, section_class, section_size}
use Rattle.elf_object.specs.Object.{IsOfData, IsWritable, section_count}
use Rattle.link_faults.specs.declared.image_kind.ImageKind.{ImageKind}
use Rattle.object_faults.specs.declared.class.SectionClass.{SectionClass}
use Rattle.object_faults.specs.declared.class.SectionClass.TheVariants.{Executable, ReadOnly, Tls, Writable}
use Rattle.tls_layout.specs.declared.sections.Section.{Section}
use Rattle.tls_layout.specs.Places.{end_after, end_of, initial_data, next_end, writable, zero_data}
use Rattle.tls_layout.specs.Sections.{all_sections, is_in, section_of, sections_of, seen_as}
use Rattle.linked_modules.specs.Dataless.{IsDataless}

-- ** no section is of the class

-- initial: whether it has bytes in the file
not_in : (initial : Bool) (class : Option SectionClass) (size alignment : ℕ) → (IsOfData class → ⊥)
    → is_in (Writable initial) (seen_as class size alignment) ≡ false
not_in true None size alignment none = refl
not_in false None size alignment none = refl
not_in true (Some Executable) size alignment none = refl
not_in false (Some Executable) size alignment none = refl
not_in true (Some ReadOnly) size alignment none = refl
not_in false (Some ReadOnly) size alignment none = refl
not_in true (Some (Tls true)) size alignment none = refl
not_in true (Some (Tls false)) size alignment none = refl
not_in false (Some (Tls true)) size alignment none = refl
not_in false (Some (Tls false)) size alignment none = refl
not_in initial (Some (Writable other)) size alignment none = absurd (none tt)

module _ (initial : Bool) where
  abbrev IsOut : Section → Type 0
  IsOut section = is_in (Writable initial) section ≡ false

  section_out : (b : List ℕ) (s : ℕ) → (IsWritable b s → ⊥) → IsOut (section_of b s)
  unfolding section_of
  section_out b s none = not_in initial (section_class b s) (section_size b s) (section_alignment b s) none

  sections_out : (b : List ℕ) → IsDataless b → All IsOut (sections_of b)
  unfolding sections_of
  sections_out b none =
      All-map IsOut (section_of b) (range_with_len 0 (section_count b)) (λ k d below. section_out b _ (none _))

  all_out : (objects : List (List ℕ)) → All IsDataless objects → All IsOut (all_sections objects)
  unfolding all_sections
  all_out [] none = All-nil IsOut
  all_out (b ∷ objects) none =
      All-append IsOut (sections_of b) (all_sections objects) (sections_out b (All-head IsDataless b objects none))
      (all_out objects (All-tail IsDataless b objects none))

  -- so they end where they begin
  end_is : (from : ℕ) (sections : List Section) → All IsOut sections → end_of (Writable initial) from sections ≡ from
  unfolding end_of
  end_is from [] out = refl
  end_is from (section ∷ sections) out =
      ap (λ t. fold (next_end (Writable initial)) (if t then end_after from section else from) sections)
      (All-head IsOut section sections out)
      ∙ end_is from sections (All-tail IsOut section sections out)

-- ** the class

pub empty : (kind : ImageKind) (objects : List (List ℕ)) → All IsDataless objects
    → nat_lt (writable kind (all_sections objects)).start (writable kind (all_sections objects)).end ≡ false
unfolding initial_data zero_data
empty kind objects none =
    let from = (initial_data kind (all_sections objects)).start in
    let front = end_is true from (all_sections objects) (all_out true objects none) in
    let whole = end_is false (initial_data kind (all_sections objects)).end (all_sections objects)
    (all_out false objects none) in
    ap (nat_lt from) (whole ∙ front) ∙ not_below from
  where
    not_below : (n : ℕ) → nat_lt n n ≡ false
    not_below n = grind (arith, nat_tests)
