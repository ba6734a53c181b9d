-- What a loader leaves of a class, address by address.
use Rattle.std.proofs.Common.{◌≡◌, ◌+◌, ◌-◌, ◌<◌, ◌≤◌, ◌&&◌, ◌∙◌, ℕ, Bool, true, not}
use Rattle.std.proofs.Common.{Option, Some, None, length, inl, inr, refl, sym, ap, arith}
use Rattle.std.specs.Prelude.{◌^◌, ◌+ℤ◌, pos, nat_le, nat_lt, slice_index_or, unwrap_or}
use Rattle.std.specs.Int.{w64, cast_unsigned}
use Rattle.std.specs.List.{Contains, find}
use Rattle.std.specs.Option.{option_or}
use Rattle.std.proofs.lemmas.Bool.{cases_lt, lt-ltb}
use Rattle.std.proofs.lemmas.Bool.Decides.{nat_tests}
use Rattle.std.proofs.lemmas.List.Elements.{All-contains}
use Rattle.std.proofs.lemmas.List.Folds.{find-append}
use Rattle.memory_image.proofs.Placing.{section_stands}
use Rattle.memory_image.specs.Laying.{HasRange}
use Rattle.elf_object.specs.declared.relocation.Relocation.{Relocation}
use Rattle.elf_object.specs.Lent.{relocations, section_class, section_size}
use Rattle.elf_object.specs.Relocations.{field_width}
use Rattle.elf_records.specs.Fields.{bytes_of}
use Rattle.image_file.specs.declared.relocation.ImageRelocation.{ImageRelocation}
use Rattle.guest_arithmetic.specs.Values.{digit}
use Rattle.image_writer.specs.Linkable.{width}
use Rattle.image_writer.specs.Tables.{finished}
use Rattle.link_core.proofs.Few.{table_fits}
use Rattle.link_core.proofs.GotRelocations.{got_above}
use Rattle.link_core.proofs.LengthsInside.{is_object}
use Rattle.link_core.proofs.StandingPlaces.{field_in}
use Rattle.link_core.specs.Dynamic.{got_relocations, image_relocations, is_absolute, relative, relatives, sum_of}
use Rattle.link_core.specs.Faults.{Links}
use Rattle.link_core.specs.Images.{contents, image_of}
use Rattle.link_core.specs.Laws.{HasNoStray}
use Rattle.link_core.specs.Meant.{is_in_field}
use Rattle.link_needs.specs.Given.{FitsTable, IsGiven}
use Rattle.link_needs.specs.Linking.{Linking, binding, layout, object, place}
use Rattle.link_needs.specs.Needs.{got_start}
use Rattle.link_needs.specs.Values.{is_replaced, own_number}
use Rattle.loaded_modules.specs.declared.instance.Instance.{Instance}
use Rattle.loaded_modules.specs.Images.{JobImages}
use Rattle.object_faults.specs.declared.class.SectionClass.{SectionClass}
use Rattle.relocated_parts.specs.Left.{byte_by, is_written_at, left_byte, written_byte}
use Rattle.placed_sections.proofs.Rising.{class_is}
use Rattle.placed_sections.proofs.Standing.{HasPlace, has_place}
use Rattle.sequence_match.specs.Sites.{Covers}
use Rattle.tls_layout.proofs.LawsOfPlaces.{lie_in_classes}
use Rattle.tls_layout.proofs.LawsOfSections.{finds_sections}
use Rattle.tls_layout.specs.Places.{extent_for}
use Rattle.tls_relocs.specs.declared.fields.Field.TheVariants.{Empty}
use Rattle.tls_relocs.specs.Fields.{field_bytes}
use Rattle.tls_relocs.specs.Values.{modulo}
use Rattle.whole_meaning.specs.Spots.{Spot, begin_of, bias_of, spot_at, spot_in}
use Rattle.loaded_bytes.specs.Bytes.{byte_at, byte_of_spot, loaded_field}
use Rattle.loaded_bytes.proofs.Biases.{moved_digit, same_bias}
use Rattle.loaded_bytes.proofs.Classes.{class_before, class_below, rank, same_rank}
use Rattle.loaded_bytes.proofs.ClassFile.{filed_byte}
use Rattle.loaded_bytes.proofs.FieldBytes.{loaded_is, not_replaced, same_byte}
use Rattle.link_core.proofs.RelativesFields.{absolute_is}
use Rattle.relocated_parts.proofs.Fold.{written_here as written_from}
use Rattle.loaded_bytes.proofs.FieldBytes.{written_so}
use Rattle.loaded_bytes.proofs.Finds.{found_is, none_found, none_passes}
use Rattle.loaded_bytes.proofs.Origins.{Origin, all_origins, has_relative}
use Rattle.loaded_bytes.proofs.Spots.{standing}
use Rattle.loaded_bytes.proofs.Zeros.{no_relocations}
use Rattle.loaded_modules.proofs.Left.{or_none}

module _ (l : Linking) (given : IsGiven l) (links : Links l) (stray : HasNoStray l) where
  fits : FitsTable l
  fits = table_fits l given links.sound.limits

  -- ** all of them

  module _ (class : SectionClass) (range : HasRange class) (address : ℕ)
      (from : (extent_for class (layout l)).start ≤ address) (to : address < (extent_for class (layout l)).end)
      (m : JobImages) (x : Instance) where
    abbrev bias : ℕ
    bias = bias_of l.kind x.number

    none_of_table : find (is_written_at address) (got_relocations l) ≡ None
    none_of_table =
        none_found (is_written_at address) (got_relocations l) (λ r has passes.
        let low = All-contains (λ (y : ImageRelocation). got_start l ≤ y.place) (got_relocations l) r
        (got_above l) has in
        let below = class_below (layout l) class in
        omega (arith, (written_from address r passes).0, low, below, to))

    found_is_relative : find (is_written_at address) (image_of l).relocations
        ≡ find (is_written_at address) (relatives l)
    unfolding image_of finished contents image_relocations
    found_is_relative =
        find-append (is_written_at address) (relatives l) (got_relocations l)
        ∙ ap (option_or (find (is_written_at address) (relatives l))) none_of_table
        ∙ or_none (find (is_written_at address) (relatives l))

    -- nothing is written there
    unwritten : find (is_written_at address) (relatives l) ≡ None
        → filed_byte l (spot_in l class address) ≡ byte_of_spot l (bias_of l.kind x.number) (spot_in l class address)
    unwritten none = of_spot (spot_in l class address) refl
      where
        covered : (o k : ℕ) (y : Relocation) → is_in_field l o k y ≡ true → Covers y k
        covered o k y e = test y.offset k (y.offset + field_width y.kind) (is_replaced l o y) e
          where
            test : (a b c : ℕ) (replaced : Bool) → ((nat_le a b && nat_lt b c) && not replaced) ≡ true
                → (a ≤ b) × (b < c)
            test a b c replaced e = grind (arith, nat_tests)

        of_spot : (found : Option Spot) → spot_in l class address ≡ found
            → filed_byte l found ≡ byte_of_spot l (bias_of l.kind x.number) found
        of_spot None e = refl
        of_spot (Some spot) e =
            let y = standing l class address spot e in
            same_byte l given links stray spot.object spot.section spot.within x.number (λ r found absolute moved.
            let f = found_is (is_in_field l spot.object spot.within)
            (relocations (object l spot.object) spot.section) r found in
            let covers = covered spot.object spot.within r f.passes in
            let wide = ap field_width (absolute_is r.kind absolute) in
            let lies = field_in l given fits spot.object spot.section r y.there f.among in
            let below = (has_place l.kind l.objects spot.object spot.section lies.address
            (y.there, lies.lies.address_is)).below in
            let P = place l spot.object spot.section r.offset in
            none_passes (is_written_at address) (relatives l)
            (relative (place l spot.object spot.section r.offset) (sum_of l spot.object r)) none
            (has_relative l spot.object spot.section r below f.among absolute moved y.there)
            (written_so address (relative (place l spot.object spot.section r.offset) (sum_of l spot.object r))
            (omega (arith, y.from, y.within_is, covers.0)) (omega (arith, y.from, y.within_is, covers.1, wide))))

    -- a relocation writes it
    module _ (y : ImageRelocation) (o t : ℕ) (r : Relocation) (there : o < length l.objects)
        (has : Contains (relocations (object l o) t) r) (absolute : is_absolute r.kind ≡ true)
        (is : y ≡ relative (place l o t r.offset) (sum_of l o r)) (passes : is_written_at address y ≡ true) where
      place_is : y.place ≡ place l o t r.offset
      place_is = ap (λ (z : ImageRelocation). z.place) is

      eight : width y.kind ≡ 8
      eight = ap (λ (z : ImageRelocation). width z.kind) is

      low : place l o t r.offset ≤ address
      low = omega (arith, (written_from address y passes).0, place_is)

      high : address < place l o t r.offset + 8
      high = omega (arith, (written_from address y passes).1, place_is, eight)

      -- it is one of the section that stands there
      spot_is_own : spot_in l class address ≡ Some (spot_at (layout l) o address t)
      unfolding spot_in
      spot_is_own =
          let lies = field_in l given fits o t r there has in
          let begin = lies.address in
          let at = lies.lies.address_is in
          let begins : begin_of (layout l) o t ≡ begin = ap (λ a. unwrap_or a 0) at in
          let place : HasPlace (object l o) t = has_place l.kind l.objects o t begin (there, at) in
          let own : section_class (object l o) t ≡ Some place.class =
          class_is place.class (section_class (object l o) t) place.is in
          let found = finds_sections l.kind l.objects o t there in
          let inside = lie_in_classes (layout l) fits.lawful o t begin place.class (found.class_is ∙ own) at in
          let size = found.size_is (rw own refl) in
          let wide = ap field_width (absolute_is r.kind absolute) in
          let starts : begin_of (layout l) o t ≤ address = omega (arith, low) in
          let ends : address < begin_of (layout l) o t + section_size (object l o) t =
          omega (arith, high, lies.fits, wide) in
          elim (cases_lt (rank class) (rank place.class)) [
            | inl lower ↦
                let before = class_before (layout l) class place.class lower in
                absurd (omega (arith, before, to, inside.begins, starts, begins))
            | inr more ↦ elim (cases_lt (rank place.class) (rank class)) [
              | inl higher ↦
                  let before = class_before (layout l) place.class class higher in
                  absurd (omega (arith, before, from, inside.ends, size, ends, begins))
              | inr less ↦
                  let e : rank class ≡ rank place.class = omega (arith, more, less) in
                  elim (same_rank class place.class range place.has e) [
                    | inl one ↦
                        section_stands l.kind l.objects class range o t address there place.below
                        (own ∙ ap Some one) starts ends
                    | inr two ↦
                        let none = no_relocations (object l o) (is_object l o given there) t (own ∙ ap Some two.1) in
                        absurd (let few : length (relocations (object l o) t)
                        ≡ 0 = ap length none in omega (arith, few, has.1))
                  ]
            ]
          ]

      word_at : written_byte m (image_of l) x y (address - y.place)
          ≡ slice_index_or (field_bytes (unwrap_or (loaded_field l (bias_of l.kind x.number) o t r) Empty))
          (address - place l o t r.offset) 0
      unfolding image_of finished contents
      word_at =
          let j : ℕ = address - place l o t r.offset in
          let below : j < 8 = omega (arith, low, high) in
          let n : ℕ = own_number l r.kind (binding l o r) in
          let first : written_byte m (image_of l) x y (address - y.place)
          ≡ written_byte m (image_of l) x (relative (place l o t r.offset) (sum_of l o r))
          (address - place l o t r.offset) =
          ap (λ (z : ImageRelocation). written_byte m (image_of l) x z (address - z.place)) is in
          let second : written_byte m (image_of l) x (relative (place l o t r.offset) (sum_of l o r))
          (address - place l o t r.offset)
          ≡ digit (bias_of l.kind x.number + cast_unsigned w64 (sum_of l o r)) (address - place l o t r.offset) =
          rw (lt-ltb (address - place l o t r.offset) 8 below)
          (ap (λ b. digit (b + cast_unsigned w64 (sum_of l o r)) (address - place l o t r.offset))
          (same_bias l.kind x.number)) in
          let third : slice_index_or (bytes_of 8 (modulo (2 ^ 64) (pos (n + bias_of l.kind x.number) +ℤ r.addend)))
          (address - place l o t r.offset) 0
          ≡ slice_index_or (field_bytes (unwrap_or (loaded_field l (bias_of l.kind x.number) o t r) Empty))
          (address - place l o t r.offset) 0 = rw absolute refl in
          first ∙ second ∙ moved_digit n (bias_of l.kind x.number) j r.addend below ∙ third

      written : written_byte m (image_of l) x y (address - y.place)
          ≡ byte_of_spot l (bias_of l.kind x.number) (spot_in l class address)
      written =
          let k = address - begin_of (layout l) o t in
          let same : address - place l o t r.offset ≡ k - r.offset = omega (arith, low) in
          let wide = ap field_width (absolute_is r.kind absolute) in
          word_at
          ∙ ap
          (λ j. slice_index_or (field_bytes
          (unwrap_or (loaded_field l (bias_of l.kind x.number) o t r) Empty)) j 0) same
          ∙ sym (loaded_is l given links stray o t k there r has (not_replaced l given links stray o r absolute)
          (omega (arith, low)) (omega (arith, low, high, wide)) (bias_of l.kind x.number))
          ∙ sym (ap (byte_of_spot l (bias_of l.kind x.number)) spot_is_own)

    pub left_is : left_byte m (image_of l) x address (filed_byte l (spot_in l class address))
        ≡ byte_at l (bias_of l.kind x.number) class address
    unfolding left_byte byte_at
    left_is = of_found (find (is_written_at address) (relatives l)) refl
      where
        of_found : (found : Option ImageRelocation) → find (is_written_at address) (relatives l) ≡ found
            → byte_by m (image_of l) x address (filed_byte l (spot_in l class address))
            (find (is_written_at address) (image_of l).relocations)
            ≡ byte_of_spot l (bias_of l.kind x.number) (spot_in l class address)
        of_found None e =
            ap (byte_by m (image_of l) x address (filed_byte l (spot_in l class address))) (found_is_relative ∙ e)
            ∙ unwritten e
        of_found (Some y) e =
            let f = found_is (is_written_at address) (relatives l) y e in
            let from_field = All-contains (Origin l) (relatives l) y (all_origins l) f.among in
            ap (byte_by m (image_of l) x address (filed_byte l (spot_in l class address))) (found_is_relative ∙ e)
            ∙ written y from_field.of_object from_field.of_section from_field.field from_field.there from_field.among
            from_field.absolute from_field.is f.passes
