-- Which sections stand in the file, and what lies in none.
use Rattle.std.proofs.Common.{◌≡◌, ◌+◌, ◌-◌, ◌<◌, ◌≤◌, ◌⊎◌, ◌∙◌, ℕ, zero, suc, Bool, true, false, List, [], ◌∷◌, length}
use Rattle.std.proofs.Common.{drop, slice_index, slice_index_or, Some, inl, inr, refl, sym, ap, subst, arith}
use Rattle.std.specs.Prelude.{nat_lt, unwrap_or, slice_get, if◌then◌else◌}
use Rattle.std.specs.List.{flat_map, range_with_len}
use Rattle.std.proofs.lemmas.Bool.{cases_lt, lt-ltb, le-ltb}
use Rattle.std.proofs.lemmas.Bool.Decides.{nat_tests}
use Rattle.std.proofs.lemmas.List.{get_or-map, get_or_past}
use Rattle.std.proofs.lemmas.Option.{cond_some, slice_get-get_or}
use Rattle.object_faults.specs.declared.class.SectionClass.{SectionClass}
use Rattle.object_faults.specs.declared.class.SectionClass.TheVariants.{Executable, ReadOnly, Tls, Writable}
use Rattle.elf_object.specs.Lent.{section_class, section_size, section_bytes}
use Rattle.elf_object.specs.Object.{section_count}
use Rattle.link_faults.specs.declared.image_kind.ImageKind.{ImageKind}
use Rattle.tls_layout.specs.declared.extent.Extent.{Extent}
use Rattle.tls_layout.specs.Places.{extent_for}
use Rattle.tls_layout.specs.Places.{address_of, address_at, place_in}
use Rattle.tls_layout.specs.Sections.{Layout, layout_of, section_at, section_counts, position, is_class}
use Rattle.tls_layout.proofs.LawsOfPlaces.{found_at, placed as placed_in, in_class, has_address}
use Rattle.tls_layout.proofs.LawsOfSections.{finds_sections}
use Rattle.tls_relocs.specs.Elements.{slice_get-append, slice_get-append_behind, slice_get-replicate}
use Rattle.tls_relocs.specs.Laid.{Placed, zeros}
use Rattle.placed_sections.specs.Files.{offset_of, memory_bytes, placed, placed_class, placed_section, placed_object}
use Rattle.placed_sections.specs.Files.{placed_from, end_mark, filled, AreWhole, Contents}
use Rattle.placed_sections.specs.Laws.{StandsAt, IsOutside}
use Rattle.placed_sections.proofs.Found.{Among, among_one, among_front, among_back, Clear, clear_none, clear_one}
use Rattle.placed_sections.proofs.Found.{clear-append}
use Rattle.placed_sections.proofs.Rising.{address_some, dropped_is, start, first}

-- ** what a section has in memory

pub memory_byte : (b : List ℕ) (s k : ℕ) → k < section_size b s
    → slice_get (memory_bytes b s) k ≡ Some (slice_index_or (section_bytes b s) k 0)
memory_byte b s k below =
    let own = section_bytes b s in
    let pad = zeros (section_size b s - length own) in
    elim (cases_lt k (length own)) [
      | inl inside ↦ slice_get-append own pad k inside ∙ slice_get-get_or own k 0 inside
      | inr past ↦
          slice_get-append_behind own pad k past
          ∙ slice_get-replicate (section_size b s - length own) (k - length own) 0 (omega arith)
          ∙ ap Some (sym (get_or_past own k 0 past))
    ]

-- ** a section that has an address

-- section s of object o
abbrev pub stood : Layout → Contents → ℕ → ℕ → Placed
stood p contents o s = record { place = offset_of p (unwrap_or (address_of p o s) 0); bytes = contents o s }

pub record HasPlace (b : List ℕ) (s : ℕ) : Type 0 where
  pub class : SectionClass
  pub has : has_address class ≡ true
  pub is : is_class class (section_class b s) ≡ true
  pub below : s < section_count b

below_count : (s n : ℕ) → nat_lt s n ≡ true → s < n
below_count s n h = grind (arith, nat_tests)

pub has_place : (kind : ImageKind) (objects : List (List ℕ)) (o s address : ℕ) → StandsAt kind objects o s address
    → HasPlace (slice_index_or objects o []) s
unfolding address_of position section_counts
has_place kind objects o s address stands =
    let p = layout_of kind objects in
    let x = found_at p o s (address_at p.kind p.sections) address stands.1 in
    let y = placed_in p.kind p.sections x.place address x.gives in
    let same = (finds_sections kind objects o s stands.0).class_is in
    let in_it : is_class y.class (section_at p.sections x.place).class ≡ true =
    in_class y.class (section_at p.sections x.place) y.is in
    let known : (section_at p.sections x.place).class ≡ section_class (slice_index_or objects o []) s =
    ap (λ z. z.class) (sym x.named) ∙ same in
    let count : slice_index p.counts o ≡ section_count (slice_index_or objects o []) =
    get_or-map section_count objects o [] 0 stands.0 in
    let test = (cond_some _ _ _ x.position_is).0 in
    record {
      class = y.class;
      has = y.has;
      is = ap (is_class y.class) (sym known) ∙ in_it;
      below = subst (λ n. s < n) count (below_count s (slice_index p.counts o) test);
    }

among_range : (f : ℕ → List Placed) (x : Placed) (n a s : ℕ) → a ≤ s → s < a + n → Among x (f s)
    → Among x (flat_map f (range_with_len a n))
among_range f x zero a s from below h = absurd (omega arith)
among_range f x (suc n) a s from below h = elim (cases_lt a s) [
  | inl later ↦ among_back x (f a) (flat_map f (range_with_len (a + 1) n))
      (among_range f x n (a + 1) s (omega arith) (omega arith) h)
  | inr now ↦ let same : s ≡ a = omega arith in
      among_front x (f a) (flat_map f (range_with_len (a + 1) n)) (subst (λ i. Among x (f i)) same h)
]

among_from : (p : Layout) (contents : Contents) (class : SectionClass) (x : Placed) (more : List (List ℕ)) (i o : ℕ)
    → o < length more
    → Among x (placed_object (filled contents) p class (i + o) (slice_index_or more o []))
    → Among x (placed_from (filled contents) p class i more)
among_from p contents class x [] i o within h = absurd (omega arith)
among_from p contents class x (b ∷ more) i zero within h =
    let same : i + 0 ≡ i = omega arith in
    among_front x (placed_object (filled contents) p class i b) (placed_from (filled contents) p class (i + 1) more)
    (subst (λ n. Among x (placed_object (filled contents) p class n b)) same h)
among_from p contents class x (b ∷ more) i (suc o) within h =
    let same : i + suc o ≡ i + 1 + o = omega arith in
    among_back x (placed_object (filled contents) p class i b) (placed_from (filled contents) p class (i + 1) more)
    (among_from p contents class x more (i + 1) o (omega arith)
    (subst (λ n. Among x (placed_object (filled contents) p class n (slice_index_or more o []))) same h))

among_classes : (p : Layout) (contents : Contents) (objects : List (List ℕ)) (x : Placed) (class : SectionClass)
    → has_address class ≡ true → Among x (placed_class (filled contents) p objects class)
    → Among x (placed (filled contents) p objects)
unfolding placed
among_classes p contents objects x Executable has h =
    among_front x (placed_class (filled contents) p objects Executable) _ h
among_classes p contents objects x ReadOnly has h =
    among_back x (placed_class (filled contents) p objects Executable) _
    (among_front x (placed_class (filled contents) p objects ReadOnly) _ h)
among_classes p contents objects x (Tls true) has h =
    among_back x (placed_class (filled contents) p objects Executable) _
    (among_back x (placed_class (filled contents) p objects ReadOnly) _
    (among_front x (placed_class (filled contents) p objects (Tls true)) _ h))
among_classes p contents objects x (Tls false) has h = absurd (cc)
among_classes p contents objects x (Writable true) has h =
    among_back x (placed_class (filled contents) p objects Executable) _
    (among_back x (placed_class (filled contents) p objects ReadOnly) _
    (among_back x (placed_class (filled contents) p objects (Tls true)) _
    (among_front x (placed_class (filled contents) p objects (Writable true)) _ h)))
among_classes p contents objects x (Writable false) has h =
    among_back x (placed_class (filled contents) p objects Executable) _
    (among_back x (placed_class (filled contents) p objects ReadOnly) _
    (among_back x (placed_class (filled contents) p objects (Tls true)) _
    (among_back x (placed_class (filled contents) p objects (Writable true)) _
    (among_front x (placed_class (filled contents) p objects (Writable false)) _ h))))

-- a section with an address and bytes is one of those in the file
pub is_among : (kind : ImageKind) (contents : Contents) (objects : List (List ℕ)) (o s address : ℕ)
    → StandsAt kind objects o s address → 0 < section_size (slice_index_or objects o []) s
    → Among (stood (layout_of kind objects) contents o s) (placed (filled contents) (layout_of kind objects) objects)
unfolding placed_object
is_among kind contents objects o s address stands some =
    among_classes p contents objects x at.class at.has
    (among_front x (placed_from (filled contents) p at.class 0 objects) (end_mark (filled contents) p at.class)
    (among_from p contents at.class x objects 0 o stands.0
    (subst (λ n. Among x (placed_object (filled contents) p at.class n b)) begin
    (among_range (placed_section (filled contents) p at.class o b) x (section_count b) 0 s (omega arith)
    (omega (arith, at.below)) here))))
  where
    p : Layout
    p = layout_of kind objects

    b : List ℕ
    b = slice_index_or objects o []

    x : Placed
    x = stood p contents o s

    at : HasPlace b s
    at = has_place kind objects o s address stands

    begin : o ≡ 0 + o
    begin = omega arith

    here : Among x (placed_section (filled contents) p at.class o b s)
    here = rw (at.is, lt-ltb 0 (section_size b s) some) (among_one x)

-- ** what is outside of all sections

module _ (kind : ImageKind) (contents : Contents) (objects : List (List ℕ)) (are_whole : AreWhole contents objects)
    (k : ℕ) (outside : IsOutside kind objects k) where
  abbrev p : Layout
  p = layout_of kind objects

  clear_section : (class : SectionClass) → has_address class ≡ true → (o : ℕ) (b : List ℕ) → o < length objects
      → slice_index_or objects o [] ≡ b → (s : ℕ) → s < section_count b
      → Clear k (placed_section (filled contents) p class o b s)
  clear_section class has o b within here s below = by_class (is_class class (section_class b s)) refl
    where
      by_class : (t : Bool) → is_class class (section_class b s) ≡ t
          → Clear k (placed_section (filled contents) p class o b s)
      by_class false none = rw none (clear_none k)
      by_class true so = elim (cases_lt 0 (section_size b s)) [
        | inr empty ↦ rw (so, le-ltb 0 (section_size b s) empty) (clear_none k)
        | inl some ↦
            let at = address_some kind objects class has o b within here s below so in
            let place = place_in class (start p class has) p.sections
            (first kind objects class has o b within here + s) in
            let apart : (k < offset_of p place) ⊎ (offset_of p place + section_size b s ≤ k) =
            subst (λ c. (k < offset_of p place) ⊎ (offset_of p place + section_size c s ≤ k)) here
            (outside o s place (within, at)) in
            let long : length (contents o s) ≡ section_size b s = are_whole o s within
            ∙ ap (λ c. section_size c s) here in
            rw (so, lt-ltb 0 (section_size b s) some) (clear_one k (stood p contents o s) (rw (at, long) apart))
      ]

  clear_range : (class : SectionClass) → has_address class ≡ true → (o : ℕ) (b : List ℕ) → o < length objects
      → slice_index_or objects o [] ≡ b → (n a : ℕ) → a + n ≤ section_count b
      → Clear k (flat_map (placed_section (filled contents) p class o b) (range_with_len a n))
  clear_range class has o b within here zero a fits = clear_none k
  clear_range class has o b within here (suc n) a fits =
      clear-append k (placed_section (filled contents) p class o b a)
      (flat_map (placed_section (filled contents) p class o b) (range_with_len (a + 1) n))
      (clear_section class has o b within here a (omega arith))
      (clear_range class has o b within here n (a + 1) (omega arith))

  clear_object : (class : SectionClass) → has_address class ≡ true → (o : ℕ) (b : List ℕ) → o < length objects
      → slice_index_or objects o [] ≡ b → Clear k (placed_object (filled contents) p class o b)
  unfolding placed_object
  clear_object class has o b within here = clear_range class has o b within here (section_count b) 0 (omega arith)

  clear_from : (class : SectionClass) → has_address class ≡ true → (more : List (List ℕ)) (o : ℕ)
      → drop o objects ≡ more → Clear k (placed_from (filled contents) p class o more)
  clear_from class has [] o e = clear_none k
  clear_from class has (b ∷ more) o e =
      let at = dropped_is objects o [] b more e in
      clear-append k (placed_object (filled contents) p class o b) (placed_from (filled contents) p class (o + 1) more)
      (clear_object class has o b at.within at.here) (clear_from class has more (o + 1) at.rest)

  clear_mark : (x : Extent)
      → Clear k (if nat_lt x.start x.end then record { place = offset_of p x.end; bytes = [] } ∷ [] else [])
  clear_mark x = by_test (nat_lt x.start x.end)
    where
      at_end : (k < offset_of p x.end) ⊎ (offset_of p x.end + 0 ≤ k)
      at_end = elim (cases_lt k (offset_of p x.end)) [
        | inl before ↦ inl before
        | inr past ↦ inr (omega arith)
      ]

      by_test : (t : Bool) → Clear k (if t then record { place = offset_of p x.end; bytes = [] } ∷ [] else [])
      by_test true = clear_one k (record { place = offset_of p x.end; bytes = [] }) at_end
      by_test false = clear_none k

  clear_class : (class : SectionClass) → has_address class ≡ true
      → Clear k (placed_class (filled contents) p objects class)
  clear_class class has =
      clear-append k (placed_from (filled contents) p class 0 objects) (end_mark (filled contents) p class)
      (clear_from class has objects 0 refl) (of_mark class)
    where
      of_mark : (class : SectionClass) → Clear k (end_mark (filled contents) p class)
      of_mark (Writable initial) = clear_none k
      of_mark Executable = clear_mark (extent_for Executable p)
      of_mark ReadOnly = clear_mark (extent_for ReadOnly p)
      of_mark (Tls initial) = clear_mark (extent_for (Tls initial) p)

  pub all_clear : Clear k (placed (filled contents) p objects)
  unfolding placed
  all_clear =
      clear-append k (placed_class (filled contents) p objects Executable) _ (clear_class Executable refl)
      (clear-append k (placed_class (filled contents) p objects ReadOnly) _ (clear_class ReadOnly refl)
      (clear-append k (placed_class (filled contents) p objects (Tls true)) _ (clear_class (Tls true) refl)
      (clear-append k (placed_class (filled contents) p objects (Writable true)) _ (clear_class (Writable true) refl)
      (clear-append k (placed_class (filled contents) p objects (Writable false)) [] (clear_class (Writable false) refl)
      (clear_none k)))))
