-- The parts of an image: those of sections are zero where no section has a byte, and the table and the stub are parts.
use Rattle.std.proofs.Common.{◌≡◌, ◌+◌, ◌-◌, ◌<◌, ◌≤◌, ◌⊎◌, ◌∙◌, ◌++◌, ℕ, true, List, [], ◌∷◌, Option, Some, length}
use Rattle.std.proofs.Common.{map, drop, inl, inr, refl, sym, ap, subst, arith}
use Rattle.std.specs.Prelude.{option_map, slice_get, slice_index_or}
use Rattle.std.proofs.lemmas.List.{length-append, length-take}
use Rattle.std.proofs.lemmas.Option.{get_or_from_slice_get, same_Some, slice_get-get_or, slice_get-map}
use Rattle.std.proofs.lemmas.Option.{slice_get_within}
use Rattle.elf_object.specs.Lent.{section_size}
use Rattle.elf_records.specs.Fields.{part_at}
use Rattle.image_file.specs.declared.part.PartClass.TheVariants.{Executable, Writable}
use Rattle.image_file.specs.Spelled.{Part}
use Rattle.image_writer.specs.declared.outline.PartPlace.{PartPlace}
use Rattle.image_writer.specs.Contents.{part_in}
use Rattle.image_writer.specs.Page.{file_offset}
use Rattle.image_writer.specs.Tables.{finished, tables_part}
use Rattle.link_faults.specs.ImageKinds.{base_of}
use Rattle.placed_sections.proofs.Told.{files_end, gaps_are_zero as zero_between}
use Rattle.placed_sections.specs.Files.{offset_of, sections_file}
use Rattle.placed_sections.specs.Laws.{sections_end}
use Rattle.tls_layout.proofs.Together.{page_up-above}
use Rattle.tls_relocs.specs.Elements.{slice_get-append, slice_get-append_behind, slice_get-drop, slice_get-take}
use Rattle.link_needs.specs.Given.{FitsTable, IsGiven}
use Rattle.link_needs.specs.Linking.{Linking, layout, object}
use Rattle.link_needs.specs.Needs.{got_size, got_start, has_stub, stub_start}
use Rattle.link_core.specs.Bytes.{file, got_bytes, linked_section, stub_bytes}
use Rattle.link_core.specs.Images.{contents, file_kind, got_number, got_places, image_of, places, section_places}
use Rattle.link_core.specs.Images.{stub_places}
use Rattle.link_core.specs.Laws.{GapsAreZero, IsGap, StubsAreParts, TablesAreParts}
use Rattle.link_core.proofs.Few.{table_fits}
use Rattle.link_core.proofs.LengthsKept.{are_laid}
use Rattle.link_core.proofs.LengthsPlaces.{are_parts, base_before, got_place, lie_between, same_base, stub_place}
use Rattle.link_core.proofs.GotRelocationsSites.{not_zero}
use Rattle.link_core.proofs.Standing.{sections_stay}
use Rattle.link_core.proofs.StandingPlaces.{lies_at}
use Rattle.link_core.proofs.StandingTable.{stub_at, table_at}

-- ** between sections

module _ (l : Linking) (given : IsGiven l) (limits : FitsTable l) where
  -- an address in the file of sections where no section has a byte
  pub gap_is_zero : (address : ℕ) → base_of l.kind ≤ address → address < sections_end (layout l) → IsGap l address
      → slice_get (file l) (offset_of (layout l) address) ≡ Some 0
  gap_is_zero address above below gap =
      let laid = are_laid l given limits in
      let q = offset_of (layout l) address in
      let contents = linked_section l in
      let end = files_end l.kind contents l.objects laid in
      let inside : q < length (sections_file (layout l) contents l.objects) = omega (arith, end, below, above) in
      sections_stay l q inside
      ∙ zero_between l.kind contents l.objects q laid inside
      (λ o t begin at. moved o t begin (lies_at l given limits o t begin at.0 at.1).above (gap o t begin at.0 at.1))
    where
      moved : (o t begin : ℕ) → base_of l.kind ≤ begin
          → (address < begin) ⊎ (begin + section_size (object l o) t ≤ address)
          → (offset_of (layout l) address < offset_of (layout l) begin)
          ⊎ (offset_of (layout l) begin + section_size (object l o) t ≤ offset_of (layout l) address)
      moved o t begin low (inl before) = inl (omega (arith, above, before))
      moved o t begin low (inr behind) = inr (omega (arith, above, behind, low))

-- ** parts by their numbers

module _ (l : Linking) (i : ℕ) (place : PartPlace) (at : slice_get (places l) i ≡ Some place) where
  -- a part of the contents is one of the image
  pub part_at_index : slice_get (image_of l).parts i ≡ Some (part_in (file_kind l.kind) (file l) place)
  unfolding image_of finished contents
  part_at_index =
      let f : PartPlace → Part = part_in (file_kind l.kind) (file l) in
      let made : slice_get (map f (places l)) i ≡ Some (f place) =
      slice_get-map f (places l) i ∙ ap (option_map f) at in
      slice_get-append (map f (places l)) (tables_part (contents l) ∷ []) i
      (slice_get_within (map f (places l)) i (f place) made)
      ∙ made

module _ (l : Linking) (given : IsGiven l) (limits : FitsTable l) (i k : ℕ) (place : PartPlace)
    (at : slice_get (section_places (layout l)) i ≡ Some place) where
  first_places : slice_get (places l) i ≡ Some place
  unfolding places
  first_places =
      slice_get-append (section_places (layout l)) (got_places l ++ stub_places l) i
      (slice_get_within (section_places (layout l)) i place at)
      ∙ at

  zero_at : k < length (part_in (file_kind l.kind) (file l) place).bytes → IsGap l (place.address + k)
      → slice_get (part_in (file_kind l.kind) (file l) place).bytes k ≡ Some 0
  unfolding part_at
  zero_at below gap =
      let parts = are_parts (layout l) in
      let start = file_offset (file_kind l.kind) place.address in
      let short = length-take place.size (drop start (file l)) in
      let own = lie_between (base_of l.kind) (section_places (layout l)) parts.follow i place
      (slice_get_within (section_places (layout l)) i place at) in
      let is : slice_index_or (section_places (layout l)) i place ≡ place =
      get_or_from_slice_get (section_places (layout l)) i place place at in
      let lies : (base_of l.kind ≤ place.address) × (place.address + place.size ≤ sections_end (layout l)) = (
        omega (arith, own.0, ap (λ (p : PartPlace). p.address) is),
        omega (arith, own.1, ap (λ (p : PartPlace). p.address + p.size) is, parts.ends),
      ) in
      let inside : k < place.size = omega (arith, below, short) in
      let whole : start + k ≡ offset_of (layout l) (place.address + k) =
      omega (arith, same_base l.kind, lies.0) in
      slice_get-take place.size k (drop start (file l)) inside
      ∙ slice_get-drop start k (file l)
      ∙ ap (slice_get (file l)) whole
      ∙ gap_is_zero l given limits (place.address + k) (omega (arith, lies.0)) (omega (arith, lies.1, inside)) gap

pub gaps_are_zero : GapsAreZero
gaps_are_zero l i k part given links few at below gap =
    let limits = table_fits l given links.sound.limits in
    let place = slice_index_or (section_places (layout l)) i (record { class = Writable; address = 0; size = 0 }) in
    let listed = slice_get-get_or (section_places (layout l)) i
    (record { class = Writable; address = 0; size = 0 }) few in
    let same : part ≡ part_in (file_kind l.kind) (file l) place =
    same_Some _ _ (sym at ∙ part_at_index l i place (first_places l given limits i k place listed)) in
    let P : Part → Type 0 = λ p. k < length p.bytes → IsGap l (p.address + k) → slice_get p.bytes k ≡ Some 0 in
    subst P (sym same) (zero_at l given limits i k place listed) below gap

-- ** the table

abbrev pub got_part : Linking → Part
got_part l = record { class = Writable; address = got_start l; bytes = got_bytes l }

abbrev pub got_index : Linking → ℕ
got_index l = length (section_places (layout l))

module _ (l : Linking) (some : 0 < got_size l) where
  got_placed : slice_get (places l) (got_index l) ≡ Some (got_place l)
  unfolding places
  got_placed =
      let none : length (section_places (layout l)) - length (section_places (layout l)) ≡ 0 = omega arith in
      slice_get-append_behind (section_places (layout l)) (got_places l ++ stub_places l) (got_index l) (omega arith)
      ∙ ap (slice_get (got_places l ++ stub_places l)) none
      ∙ rw (not_zero (got_size l) some) refl

  pub got_numbered : got_number l ≡ Some (got_index l)
  unfolding got_number
  got_numbered = rw (not_zero (got_size l) some) refl

  pub got_is_part : IsGiven l → FitsTable l → slice_get (image_of l).parts (got_index l) ≡ Some (got_part l)
  got_is_part given limits =
      let made : List ℕ → Option Part = λ bytes.
      Some (record { class = Writable; address = got_start l; bytes = bytes }) in
      let place : file_offset (file_kind l.kind) (got_start l) ≡ offset_of (layout l) (got_start l) =
      omega (arith, same_base l.kind, base_before l) in
      part_at_index l (got_index l) (got_place l) got_placed
      ∙ ap (λ n. made (part_at (got_size l) n (file l))) place
      ∙ ap made
      (table_at l given limits some)

pub tables_are_parts : TablesAreParts
tables_are_parts l given links some = (
  got_index l,
  got_numbered l some,
  got_is_part l some given (table_fits l given links.sound.limits),
)

-- ** the stub

abbrev pub stub_part : Linking → Part
stub_part l = record { class = Executable; address = stub_start l; bytes = stub_bytes l }

abbrev pub stub_index : Linking → ℕ
stub_index l = length (section_places (layout l) ++ got_places l)

module _ (l : Linking) (has : has_stub l ≡ true) where
  stub_placed : slice_get (places l) (stub_index l) ≡ Some (stub_place l)
  unfolding places
  stub_placed =
      let first = section_places (layout l) in
      let none : length (first ++ got_places l) - length first - length (got_places l) ≡ 0 =
      omega (arith, length-append first (got_places l)) in
      let two = length-append first (got_places l) in
      slice_get-append_behind first (got_places l ++ stub_places l) (stub_index l) (omega (arith, two))
      ∙ slice_get-append_behind (got_places l) (stub_places l) (stub_index l - length first) (omega (arith, two))
      ∙ ap (slice_get (stub_places l)) none
      ∙ rw has refl

  pub stub_is_part : IsGiven l → FitsTable l → slice_get (image_of l).parts (stub_index l) ≡ Some (stub_part l)
  stub_is_part given limits =
      let made : List ℕ → Option Part = λ bytes.
      Some (record { class = Executable; address = stub_start l; bytes = bytes }) in
      let up = page_up-above (got_start l + got_size l) in
      let place : file_offset (file_kind l.kind) (stub_start l) ≡ offset_of (layout l) (stub_start l) =
      omega (arith, same_base l.kind, base_before l, up) in
      part_at_index l (stub_index l) (stub_place l) stub_placed
      ∙ ap (λ n. made (part_at 6 n (file l))) place
      ∙ ap made
      (stub_at l given limits has)

pub stubs_are_parts : StubsAreParts
stubs_are_parts l given links has =
    let is = stub_is_part l has given (table_fits l given links.sound.limits) in (
      stub_index l,
      slice_get_within (image_of l).parts (stub_index l) (stub_part l) is,
      get_or_from_slice_get (image_of l).parts (stub_index l) (stub_part l) (stub_part l) is,
    )
