-- What a layout holds of objects' sections.
use Rattle.std.proofs.Common.{◌≡◌, ℕ, ◌+◌, ◌<◌, ◌≤◌, true, false, List, [], length, slice_index, slice_index_or, take}
use Rattle.std.proofs.Common.{map, Option, Some, None, refl, sym, subst, arith, inl, inr}
use Rattle.std.specs.Prelude.{sum, nat_lt, ◌&&◌}
use Rattle.std.specs.List.{flat_map}
use Rattle.std.proofs.lemmas.Bool.{cases_lt}
use Rattle.std.proofs.lemmas.Bool.Decides.{nat_tests}
use Rattle.std.proofs.lemmas.List.{get_or-map, take-map}
use Rattle.std.proofs.lemmas.List.Concat.{get_or-flat_map}
use Rattle.std.proofs.lemmas.List.FromFn.{get_or-map-range_with_len}
use Rattle.object_faults.specs.declared.class.SectionClass.{SectionClass}
use Rattle.elf_object.specs.Parts.{section}
use Rattle.elf_object.specs.Lent.{section_class, section_size, section_alignment}
use Rattle.elf_object.specs.Object.{section_count}
use Rattle.link_faults.specs.declared.image_kind.ImageKind.{ImageKind}
use Rattle.tls_layout.specs.declared.sections.Section.{Section}
use Rattle.tls_layout.specs.Sections.{dropped, seen_as, section_of, sections_of, all_sections, section_counts, position}
use Rattle.tls_layout.specs.Sections.{section_at}
use Rattle.tls_layout.specs.Places.{section_named}
use Rattle.tls_layout.specs.Laws.{IsSectionOf, FindsSections}
use Rattle.tls_layout.proofs.Listed.{length-all_sections, length-sections_of}

-- what is seen of a section
seen : (b : List ℕ) (s : ℕ) (section : Section) → section ≡ section_of b s → IsSectionOf b s section
unfolding section_of
seen b s section e = subst (IsSectionOf b s) (sym e) (of_class (section_class b s) refl)
  where
    of_class : (class : Option SectionClass) → section_class b s ≡ class
        → IsSectionOf b s (seen_as class (section_size b s) (section_alignment b s))
    of_class None is = record {
      class_is = sym is;
      size_is = rw is (λ h. absurd (cc));
      alignment_is = rw is (λ h. absurd (cc));
    }
    of_class (Some class) is = record {
      class_is = sym is;
      size_is = λ h. refl;
      alignment_is = λ h. refl;
    }

-- past the last section an object has none
none_past : (b : List ℕ) (s : ℕ) → section_count b ≤ s → section_class b s ≡ None
unfolding section_class
none_past b s past = rw (tests s (section_count b) past) refl
  where
    tests : (s n : ℕ) → n ≤ s → (nat_lt 0 s && nat_lt s n) ≡ false
    tests s n h = grind (arith, nat_tests)

dropped_past : (b : List ℕ) (s : ℕ) → section_count b ≤ s → dropped ≡ section_of b s
unfolding section_of
dropped_past b s past = rw (none_past b s past) refl

-- the section at its place among all
at_place : (objects : List (List ℕ)) (o s : ℕ) → o < length objects → s < section_count (slice_index_or objects o [])
    → section_at (all_sections objects) (sum (take o (section_counts objects)) + s)
    ≡ section_of (slice_index_or objects o []) s
unfolding all_sections section_counts sections_of
at_place objects o s l h =
    let b = slice_index_or objects o [] in
    let before : length (flat_map sections_of (take o objects)) ≡ sum (map section_count (take o objects)) =
    length-all_sections (take o objects) in
    let inside : s < length (sections_of b) = rw (length-sections_of b) h in
    rw (take-map section_count o objects, ← before, get_or-flat_map sections_of objects o s [] dropped l inside)
    (get_or-map-range_with_len (section_of b) 0 (section_count b) s s dropped h (omega arith))

count_is : (objects : List (List ℕ)) (o : ℕ) → o < length objects
    → slice_index (section_counts objects) o ≡ section_count (slice_index_or objects o [])
unfolding section_counts
count_is objects o l = get_or-map section_count objects o [] 0 l

pub finds_sections : (kind : ImageKind) (objects : List (List ℕ)) → FindsSections kind objects
unfolding section_named position
finds_sections kind objects o s l = seen b s _ (rw (count_is objects o l) (elim (cases_lt s (section_count b)) [
  | inl below ↦ rw (less s (section_count b) below) (at_place objects o s l below)
  | inr past ↦ rw (not_less s (section_count b) past) (dropped_past b s past)
]))
  where
    b : List ℕ
    b = slice_index_or objects o []

    less : (s n : ℕ) → s < n → nat_lt s n ≡ true
    less s n h = grind (arith, nat_tests)

    not_less : (s n : ℕ) → n ≤ s → nat_lt s n ≡ false
    not_less s n h = grind (arith, nat_tests)
