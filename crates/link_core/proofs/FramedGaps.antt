-- Between the parts of an image its file is zero.
use Rattle.std.proofs.Common.{◌≡◌, ◌+◌, ◌-◌, ◌<◌, ◌≤◌, ◌⊎◌, ◌∙◌, ◌==◌, ◌++◌, ℕ, Bool, true, false, List, Option, Some}
use Rattle.std.proofs.Common.{None, length, inl, inr, refl, subst, arith, length-append}
use Rattle.std.specs.Prelude.{slice_get, if◌then◌else◌}
use Rattle.std.specs.List.{Contains}
use Rattle.std.proofs.lemmas.Bool.{cases_lt, lt-ltb}
use Rattle.std.proofs.lemmas.List.{length-replicate}
use Rattle.std.proofs.lemmas.List.Elements.{All-contains, Contains-append_left, Contains-append_right}
use Rattle.object_faults.specs.declared.class.SectionClass.{SectionClass}
use Rattle.object_faults.specs.declared.class.SectionClass.TheVariants as class
use Rattle.elf_object.specs.Lent.{section_class, section_size}
use Rattle.image_file.specs.declared.part.PartClass.{PartClass}
use Rattle.image_file.specs.declared.part.PartClass.TheVariants.{Executable, ReadOnly, Writable}
use Rattle.image_writer.specs.declared.outline.PartPlace.{PartPlace}
use Rattle.image_writer.specs.Laws.{IsBetween}
use Rattle.image_writer.specs.Page.{base_of as base_in_file}
use Rattle.link_faults.specs.ImageKinds.{base_of}
use Rattle.placed_sections.proofs.Standing.{has_place}
use Rattle.placed_sections.proofs.Told.{files_end, gaps_are_zero}
use Rattle.placed_sections.specs.Files.{offset_of, sections_file}
use Rattle.placed_sections.specs.Laws.{IsOutside, sections_end}
use Rattle.tls_layout.specs.declared.extent.Extent.{Extent}
use Rattle.tls_layout.specs.Places.{extent_for}
use Rattle.tls_layout.specs.Places.{executable, read_only, tls_image, writable}
use Rattle.tls_layout.specs.Sections.{Layout, is_class}
use Rattle.tls_layout.proofs.LawsOfPlaces.{lie_in_classes}
use Rattle.tls_layout.proofs.LawsOfSections.{finds_sections}
use Rattle.tls_relocs.specs.Elements.{slice_get-append, slice_get-append_behind, slice_get-replicate}
use Rattle.tls_relocs.specs.Laid.{zeros}
use Rattle.link_needs.specs.Given.{FitsTable, IsGiven}
use Rattle.link_needs.specs.Linking.{Linking, layout, object}
use Rattle.link_needs.specs.Needs.{got_size, got_start, has_stub, stub_start}
use Rattle.link_core.specs.Bytes.{file, got_bytes, linked_section, stub_bytes, with_got, with_part, with_stub}
use Rattle.link_core.specs.Images.{file_kind, filled, got_places, places, section_places, stub_places}
use Rattle.link_core.proofs.LengthsKept.{are_laid}
use Rattle.link_core.proofs.LengthsPlaces.{got_end, got_end-before, got_place, got_start-after, same_base, stub_place}
use Rattle.link_core.proofs.LengthsRaw.{got_length, stub_length, with_got_length}

-- ** the part of a class

-- a class with bytes is a part
filled_holds : (class : PartClass) (x : Extent) → x.start < x.end
    → Contains (filled class x) (record { class = class; address = x.start; size = x.end - x.start })
filled_holds class x some = rw (lt-ltb x.start x.end some) (0, omega arith, refl)

-- a part has all bytes of the class
abbrev HasPart : Layout → Extent → Type 0
HasPart p x = (class : PartClass)
    × Contains (section_places p) (record { class = class; address = x.start; size = x.end - x.start })

has_part : (p : Layout) (class : SectionClass) → (extent_for class p).start < (extent_for class p).end
    → HasPart p (extent_for class p)
unfolding section_places
has_part p class.Executable some =
    let part = filled_holds Executable (executable p.kind p.sections) some in
    (Executable, search (Contains-append_left, part))
has_part p class.ReadOnly some =
    let part = filled_holds ReadOnly (read_only p.kind p.sections) some in
    (ReadOnly, search (Contains-append_left, Contains-append_right, part))
has_part p (class.Tls initial) some =
    let part = filled_holds ReadOnly (tls_image p.kind p.sections) some in
    (ReadOnly, search (Contains-append_left, Contains-append_right, part))
has_part p (class.Writable initial) some =
    let part = filled_holds Writable (writable p.kind p.sections) some in
    (Writable, search (Contains-append_left, Contains-append_right, part))

-- ** an offset in no part

-- the offset k is before the bytes at an address or behind them, in an image with this base
abbrev Misses : ℕ → ℕ → ℕ → ℕ → Type 0
Misses base k address size = (k < address + 4096 - base) ⊎ (address + 4096 - base + size ≤ k)

-- a part behind a file: before it the file goes on with zeros
part_misses : (l : Linking) (address k : ℕ) (bytes file : List ℕ) → length file ≤ offset_of (layout l) address
    → (k < length file → slice_get file k ≡ Some 0) → Misses (base_of l.kind) k address (length bytes)
    → k < length (with_part l address bytes file) → slice_get (with_part l address bytes file) k ≡ Some 0
part_misses l address k bytes file behind zero (inl before) inside =
    let gap = offset_of (layout l) address - length file in
    elim (cases_lt k (length file)) [
      | inl own ↦ slice_get-append file (zeros gap ++ bytes) k own ∙ zero own
      | inr past ↦
          slice_get-append_behind file (zeros gap ++ bytes) k past
          ∙ slice_get-append (zeros gap) bytes (k - length file) (omega (arith, length-replicate {A = ℕ} gap 0))
          ∙ slice_get-replicate gap (k - length file) 0 (omega arith)
    ]
part_misses l address k bytes file behind zero (inr after) inside =
    let gap = offset_of (layout l) address - length file in
    let long = length-append (zeros gap) bytes in
    absurd (omega (arith, length-append file (zeros gap ++ bytes), long, length-replicate {A = ℕ} gap 0))

module _ (l : Linking) (given : IsGiven l) (limits : FitsTable l) (k : ℕ)
    (between : IsBetween (file_kind l.kind) (places l) k) where
  -- a part
  misses : (p : PartPlace) → Contains (places l) p → Misses (base_of l.kind) k p.address p.size
  misses p has =
      let Q : PartPlace → Type 0 = λ q. Misses (base_in_file (file_kind l.kind)) k q.address q.size in
      subst (λ base. Misses base k p.address p.size) (same_base l.kind) (All-contains Q (places l) p between has)

  -- a section
  outside : IsOutside l.kind l.objects k
  unfolding places
  outside o t address stands =
      let h = has_place l.kind l.objects o t address stands in
      of_class (section_class (object l o) t) refl h.class h.is
    where
      of_own : (class : SectionClass) → section_class (object l o) t ≡ Some class
          → Misses (base_of l.kind) k address (section_size (object l o) t)
      of_own class is =
          let x = extent_for class (layout l) in
          let found = finds_sections l.kind l.objects o t stands.0 in
          let size = found.size_is (rw is refl) in
          let lies = lie_in_classes (layout l) limits.lawful o t address class (found.class_is ∙ is) stands.1 in
          elim (cases_lt x.start x.end) [
            | inr none ↦ elim (cases_lt k (offset_of (layout l) address)) [
              | inl before ↦ inl before
              | inr behind ↦ inr (omega (arith, lies.begins, lies.ends, size))
            ]
            | inl some ↦
                let part = has_part (layout l) class some in
                let rest = got_places l ++ stub_places l in
                elim (misses _ (Contains-append_left (section_places (layout l)) rest _ part.1)) [
                  | inl before ↦ inl (omega (arith, lies.begins))
                  | inr behind ↦ inr (omega (arith, lies.ends, lies.above, size))
                ]
          ]

      of_class : (found : Option SectionClass) → section_class (object l o) t ≡ found → (class : SectionClass)
          → is_class class found ≡ true → Misses (base_of l.kind) k address (section_size (object l o) t)
      of_class None e class is = absurd (cc)
      of_class (Some own) e class is = of_own own e

  -- the table, if it has bytes
  table_misses : (file : List ℕ) → length file ≡ offset_of (layout l) (sections_end (layout l))
      → (k < length file → slice_get file k ≡ Some 0) → k < length (with_got l file)
      → slice_get (with_got l file) k ≡ Some 0
  unfolding places
  table_misses file ends zero = of_test (got_size l == 0) refl
    where
      listed : (got_size l == 0) ≡ false → Contains (places l) (got_place l)
      listed e =
          Contains-append_right (section_places (layout l)) (got_places l ++ stub_places l) _
          (Contains-append_left (got_places l) (stub_places l) _ (rw e (0, omega arith, refl)))

      of_test : (t : Bool) → (got_size l == 0) ≡ t
          → k < length (if t then file else with_part l (got_start l) (got_bytes l) file)
          → slice_get (if t then file else with_part l (got_start l) (got_bytes l) file) k ≡ Some 0
      of_test true e inside = zero inside
      of_test false e inside =
          part_misses l (got_start l) k (got_bytes l) file (omega (arith, ends, got_start-after l)) zero
          (rw (got_length l) (misses (got_place l) (listed e))) inside

  -- the stub, if there is one
  stub_misses : (file : List ℕ) → length file ≡ offset_of (layout l) (got_end l)
      → (k < length file → slice_get file k ≡ Some 0) → k < length (with_stub l file)
      → slice_get (with_stub l file) k ≡ Some 0
  unfolding places
  stub_misses file ends zero = of_test (has_stub l) refl
    where
      listed : has_stub l ≡ true → Contains (places l) (stub_place l)
      listed e =
          Contains-append_right (section_places (layout l)) (got_places l ++ stub_places l) _
          (Contains-append_right (got_places l) (stub_places l) _ (rw e (0, omega arith, refl)))

      of_test : (t : Bool) → has_stub l ≡ t
          → k < length (if t then with_part l (stub_start l) (stub_bytes l) file else file)
          → slice_get (if t then with_part l (stub_start l) (stub_bytes l) file else file) k ≡ Some 0
      of_test true e inside =
          part_misses l (stub_start l) k (stub_bytes l) file (omega (arith, ends, got_end-before l)) zero
          (rw (stub_length l given limits) (misses (stub_place l) (listed e))) inside
      of_test false e inside = zero inside

  -- so the file is zero there
  pub between_is_zero : k < length (file l) → slice_get (file l) k ≡ Some 0
  unfolding file
  between_is_zero =
      let laid = are_laid l given limits in
      let sections = sections_file (layout l) (linked_section l) l.objects in
      let end = files_end l.kind (linked_section l) l.objects laid in
      stub_misses (with_got l sections) (with_got_length l sections end)
      (table_misses sections end (λ inside. gaps_are_zero l.kind (linked_section l) l.objects k laid inside outside))
