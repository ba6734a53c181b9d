-- The file holds at each address of a class what the objects mean there, and zeros between sections.
use Rattle.std.proofs.Common.{◌≡◌, ◌≢◌, ◌+◌, ◌<◌, ◌≤◌, ◌⊎◌, ◌∙◌, ℕ, true, false, List, Option, Some, None}
use Rattle.std.proofs.Common.{length, inl, inr, refl, sym, ap, arith}
use Rattle.std.specs.Prelude.{slice_get, slice_index_or, unwrap_or}
use Rattle.std.specs.List.{find}
use Rattle.std.proofs.lemmas.Bool.{cases_lt}
use Rattle.memory_image.specs.Laying.{HasRange}
use Rattle.elf_object.specs.declared.relocation.Relocation.{Relocation}
use Rattle.elf_object.specs.Lent.{relocations, section_bytes, section_class, section_size}
use Rattle.link_core.proofs.Few.{table_fits}
use Rattle.link_core.proofs.LengthsInside.{is_object}
use Rattle.link_core.proofs.Standing.{byte_stands}
use Rattle.link_core.proofs.StandingParts.{gap_is_zero}
use Rattle.link_core.proofs.StandingPlaces.{lies_of}
use Rattle.link_core.specs.Bytes.{file}
use Rattle.link_core.specs.Faults.{Links}
use Rattle.link_core.specs.Meant.{field_byte, is_in_field, meant_byte, site_byte}
use Rattle.link_faults.specs.ImageKinds.{base_of}
use Rattle.link_needs.specs.Given.{FitsTable, IsGiven}
use Rattle.link_needs.specs.Linking.{Linking, layout, object}
use Rattle.object_faults.specs.declared.class.SectionClass.{SectionClass}
use Rattle.object_faults.specs.declared.class.SectionClass.TheVariants.{Executable, ReadOnly, Tls, Writable}
use Rattle.placed_sections.proofs.Rising.{class_is}
use Rattle.placed_sections.proofs.Standing.{HasPlace, has_place}
use Rattle.placed_sections.specs.Files.{offset_of}
use Rattle.tls_layout.proofs.LawsOfPlaces.{lie_in_classes}
use Rattle.tls_layout.proofs.LawsOfSections.{finds_sections}
use Rattle.tls_layout.specs.Places.{extent_for}
use Rattle.tls_layout.specs.Places.{address_of}
use Rattle.whole_meaning.specs.Spots.{Spot, begin_of, spot_in}
use Rattle.loaded_bytes.proofs.Classes.{class_above, class_before, class_ends, rank, same_rank}
use Rattle.loaded_bytes.proofs.Spots.{none_stands, standing}
use Rattle.loaded_bytes.proofs.Zeros.{no_byte, no_relocations, no_site}

-- the byte by what stands there, as it is in the file
abbrev pub filed_byte : Linking → Option Spot → ℕ
filed_byte l None = 0
filed_byte l (Some spot) = meant_byte l spot.object spot.section spot.within

module _ (l : Linking) (given : IsGiven l) (links : Links l) where
  fits : FitsTable l
  fits = table_fits l given links.sound.limits

  -- ** a section stands there

  found_byte : (class : SectionClass) → class ≢ Tls false → (address : ℕ) (spot : Spot)
      → spot_in l class address ≡ Some spot
      → slice_get (file l) (offset_of (layout l) address) ≡ Some (meant_byte l spot.object spot.section spot.within)
  found_byte class other address spot e =
      let x = standing l class address spot e in
      let lies = lies_of l given fits spot.object spot.section class x.there x.class_is other in
      let begins : begin_of (layout l) spot.object spot.section ≡ lies.0 =
      ap (λ a. unwrap_or a 0) lies.1.address_is in
      let place : lies.0 + spot.within ≡ address = omega (arith, begins, x.from, x.within_is) in
      ap (λ a. slice_get (file l) (offset_of (layout l) a)) (sym place)
      ∙ byte_stands l given links spot.object spot.section spot.within lies.0 x.there lies.1.address_is
      (omega (arith, x.within_is, x.from, x.to))

  -- of data without bytes
  zero_meant : (o t k : ℕ) → o < length l.objects → section_class (object l o) t ≡ Some (Writable false)
      → meant_byte l o t k ≡ 0
  unfolding meant_byte
  zero_meant o t k there is =
      let b = object l o in
      let whole = is_object l o given there in
      let own = slice_index_or (section_bytes b t) k 0 in
      ap (λ site. site_byte l o k site (field_byte l o t k (find (is_in_field l o k) (relocations b t)) own))
      (no_site l given o t k there (λ code. let no = sym code ∙ is in cc))
      ∙ ap (λ (rs : List Relocation). field_byte l o t k (find (is_in_field l o k) rs) own)
      (no_relocations b whole t is)
      ∙ no_byte b whole t k is

  -- ** none does

  module _ (class : SectionClass) (range : HasRange class) (address : ℕ)
      (from : (extent_for class (layout l)).start ≤ address) (to : address < (extent_for class (layout l)).end) where
    above : base_of l.kind ≤ address
    above = omega (arith, from, class_above (layout l) class)

    module _ (none : spot_in l class address ≡ None)
        (zeros : class ≡ Writable true → spot_in l (Writable false) address ≡ None) where
      -- a section of an address lies elsewhere
      lies_apart : (o t begin : ℕ) → o < length l.objects → address_of (layout l) o t ≡ Some begin
          → (address < begin) ⊎ (begin + section_size (object l o) t ≤ address)
      lies_apart o t begin there at = of_order
        where
          place : HasPlace (object l o) t
          place = has_place l.kind l.objects o t begin (there, at)

          is : section_class (object l o) t ≡ Some place.class
          is = class_is place.class (section_class (object l o) t) place.is

          begins : begin_of (layout l) o t ≡ begin
          begins = ap (λ a. unwrap_or a 0) at

          same : (d : SectionClass) → section_class (object l o) t ≡ Some d → spot_in l d address ≡ None
              → (address < begin) ⊎ (begin + section_size (object l o) t ≤ address)
          same d is none = elim (none_stands l d address none o t there place.below is) [
            | inl before ↦ inl (omega (arith, before, begins))
            | inr behind ↦ inr (omega (arith, behind, begins))
          ]

          of_order : (address < begin) ⊎ (begin + section_size (object l o) t ≤ address)
          of_order =
              let found = finds_sections l.kind l.objects o t there in
              let lies = lie_in_classes (layout l) fits.lawful o t begin place.class (found.class_is ∙ is) at in
              let size = found.size_is (rw is refl) in
              elim (cases_lt (rank class) (rank place.class)) [
                | inl lower ↦
                    let before = class_before (layout l) class place.class lower in
                    inl (omega (arith, before, to, lies.begins))
                | inr more ↦ elim (cases_lt (rank place.class) (rank class)) [
                  | inl higher ↦
                      let before = class_before (layout l) place.class class higher in
                      inr (omega (arith, before, from, lies.ends, size))
                  | inr less ↦
                      let e : rank class ≡ rank place.class = omega (arith, more, less) in
                      elim (same_rank class place.class range place.has e) [
                        | inl one ↦ same class (is ∙ ap Some one) none
                        | inr two ↦ same (Writable false) (is ∙ ap Some two.1) (zeros two.0)
                      ]
                ]
              ]

      none_byte : slice_get (file l) (offset_of (layout l) address) ≡ Some 0
      none_byte =
          let last = class_ends (layout l) class (omega (arith, from, to)) in
          gap_is_zero l given fits address above (omega (arith, last, to)) lies_apart

    -- ** which of the two it is

    no_tls : class ≢ Tls false
    no_tls e = of_class class range e
      where
        of_class : (c : SectionClass) → HasRange c → c ≢ Tls false
        of_class Executable held e = cc
        of_class ReadOnly held e = cc
        of_class (Tls true) held e = cc
        of_class (Tls false) held e = held
        of_class (Writable initial) held e = cc

    gap_byte : spot_in l class address ≡ None → slice_get (file l) (offset_of (layout l) address) ≡ Some 0
    gap_byte none = of_zeros (spot_in l (Writable false) address) refl
      where
        of_zeros : (found : Option Spot) → spot_in l (Writable false) address ≡ found
            → slice_get (file l) (offset_of (layout l) address) ≡ Some 0
        of_zeros None e = none_byte none (λ same. e)
        of_zeros (Some spot) e =
            let x = standing l (Writable false) address spot e in
            found_byte (Writable false) (λ same. cc) address spot e
            ∙ ap Some (zero_meant spot.object spot.section spot.within x.there x.class_is)

    -- the byte at an address of the class
    pub class_byte : slice_get (file l) (offset_of (layout l) address) ≡ Some (filed_byte l (spot_in l class address))
    class_byte = of_spot (spot_in l class address) refl
      where
        of_spot : (found : Option Spot) → spot_in l class address ≡ found
            → slice_get (file l) (offset_of (layout l) address) ≡ Some (filed_byte l found)
        of_spot None e = gap_byte e
        of_spot (Some spot) e = found_byte class no_tls address spot e
