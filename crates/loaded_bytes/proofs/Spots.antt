-- Which section stands at an address of a class, and that none does.
use Rattle.std.proofs.Common.{◌≡◌, ◌+◌, ◌-◌, ◌<◌, ◌≤◌, ◌⊎◌, ◌∙◌, ℕ, zero, suc, true, false, List, [], ◌∷◌}
use Rattle.std.proofs.Common.{Option, Some, None, length, inl, inr, refl, sym, ap, subst, arith}
use Rattle.std.specs.Prelude.{option_map, slice_index_or}
use Rattle.std.specs.List.{find, range_with_len}
use Rattle.std.specs.Option.{option_or}
use Rattle.std.proofs.lemmas.Bool.{and_from, cases_lt, lt-ltb, le-leb}
use Rattle.memory_image.proofs.Founds.{spot_is}
use Rattle.memory_image.proofs.Placing.{Stands, stands_so}
use Rattle.elf_object.specs.Lent.{section_class, section_size}
use Rattle.elf_object.specs.Object.{section_count}
use Rattle.link_needs.specs.Linking.{Linking, layout, object}
use Rattle.object_faults.specs.declared.class.SectionClass.{SectionClass}
use Rattle.object_faults.specs.declared.class.SectionClass.TheVariants.{Executable, ReadOnly, Tls, Writable}
use Rattle.tls_layout.specs.Sections.{Layout, is_class}
use Rattle.tls_symbols.proofs.Within.{find_nothing}
use Rattle.whole_meaning.specs.Spots.{Spot, begin_of, spot_at, spot_from, spot_in, stands_at}

-- ** a section that stands there

pub record Standing (l : Linking) (class : SectionClass) (address : ℕ) (spot : Spot) : Type 0 where
  pub there : spot.object < length l.objects
  pub class_is : section_class (object l spot.object) spot.section ≡ Some class
  pub from : begin_of (layout l) spot.object spot.section ≤ address
  pub to : address < begin_of (layout l) spot.object spot.section + section_size (object l spot.object) spot.section
  pub within_is : spot.within ≡ address - begin_of (layout l) spot.object spot.section

pub standing : (l : Linking) (class : SectionClass) (address : ℕ) (spot : Spot) → spot_in l class address ≡ Some spot
    → Standing l class address spot
unfolding spot_in
standing l class address spot e =
    let f = spot_is (layout l) class address 0 l.objects spot e in
    let same : f.at ≡ spot.object = omega (arith, f.number) in
    let here : Stands l.kind l.objects class spot.object spot.section address =
    stands_so l.kind l.objects class spot.object spot.section address
    (subst (λ (i : ℕ). stands_at (layout l) class spot.object (slice_index_or l.objects i []) address spot.section
    ≡ true)
    same f.stands) in
    record {
      there = omega (arith, f.number, f.there);
      class_is = here.of_class;
      from = here.from;
      to = here.to;
      within_is = ap (λ (t : Spot). t.within) f.is;
    }

-- ** none

none_from : (p : Layout) (class : SectionClass) (address n : ℕ) (objects : List (List ℕ))
    → spot_from p class n objects address ≡ None → (i s : ℕ) → i < length objects
    → s < section_count (slice_index_or objects i [])
    → stands_at p class (n + i) (slice_index_or objects i []) address s ≡ true → ⊥
none_from p class address n [] e i s there within stands = omega (arith, there)
none_from p class address n (b ∷ more) e i s there within stands =
    of_found (find (stands_at p class n b address) (range_with_len 0 (section_count b))) refl e i there within stands
    (λ none j below inside is. none_from p class address (n + 1) more none j s below inside is)
  where
    of_found : (found : Option ℕ) → find (stands_at p class n b address) (range_with_len 0 (section_count b)) ≡ found
        → option_or (option_map (spot_at p n address) found) (spot_from p class (n + 1) more address) ≡ None
        → (i : ℕ) → i < length (b ∷ more) → s < section_count (slice_index_or (b ∷ more) i [])
        → stands_at p class (n + i) (slice_index_or (b ∷ more) i []) address s ≡ true
        → (spot_from p class (n + 1) more address ≡ None → (j : ℕ) → j < length more
        → s < section_count (slice_index_or more j [])
        → stands_at p class (n + 1 + j) (slice_index_or more j []) address s ≡ true → ⊥) → ⊥
    of_found (Some found) is e i below inside stands rest = cc
    of_found None is e zero below inside stands rest =
        let same : n + 0 ≡ n = omega arith in
        find_nothing (stands_at p class n b address) 0 (section_count b) is s (omega arith) (omega (arith, inside))
        (subst (λ o. stands_at p class o b address s ≡ true) same stands)
    of_found None is e (suc i) below inside stands rest =
        let same : n + suc i ≡ n + 1 + i = omega arith in
        rest e i (omega (arith, below)) inside
        (subst (λ o. stands_at p class o (slice_index_or more i []) address s ≡ true) same stands)

same_classes : (c : SectionClass) → is_class c (Some c) ≡ true
same_classes Executable = refl
same_classes ReadOnly = refl
same_classes (Tls true) = refl
same_classes (Tls false) = refl
same_classes (Writable true) = refl
same_classes (Writable false) = refl

-- each section of the class lies elsewhere
pub none_stands : (l : Linking) (class : SectionClass) (address : ℕ) → spot_in l class address ≡ None → (o s : ℕ)
    → o < length l.objects → s < section_count (object l o) → section_class (object l o) s ≡ Some class
    → (address < begin_of (layout l) o s) ⊎ (begin_of (layout l) o s + section_size (object l o) s ≤ address)
unfolding spot_in
none_stands l class address e o s there within is = elim (cases_lt address (begin_of (layout l) o s)) [
  | inl before ↦ inl before
  | inr from ↦ elim (cases_lt address (begin_of (layout l) o s + section_size (object l o) s)) [
    | inr behind ↦ inr behind
    | inl to ↦
        let same : 0 + o ≡ o = omega arith in
        absurd (none_from (layout l) class address 0 l.objects e o s there within
        (subst (λ n. stands_at (layout l) class n (object l o) address s ≡ true) (sym same)
        (and_from (is_class class (section_class (object l o) s)) _ (ap (is_class class) is ∙ same_classes class)
        (and_from _ _ (le-leb (begin_of (layout l) o s) address from)
        (lt-ltb address (begin_of (layout l) o s + section_size (object l o) s) to)))))
  ]
]
