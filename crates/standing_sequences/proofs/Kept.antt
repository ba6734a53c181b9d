-- The image's bytes in a section, and those that no rewritten sequence has.
use Rattle.std.proofs.Common.{◌≡◌, ◌+◌, ◌-◌, ◌<◌, ◌∙◌, ℕ, Some, refl, sym, ap, arith}
use Rattle.std.specs.Prelude.{slice_get, slice_index_or, unwrap_or}
use Rattle.std.specs.List.{Contains, find}
use Rattle.std.proofs.lemmas.Option.{slice_get-get_or}
use Rattle.elf_object.specs.declared.relocation.Relocation.{Relocation}
use Rattle.elf_object.specs.Lent.{relocations, section_bytes, section_class, section_size}
use Rattle.link_core.proofs.Few.{table_fits}
use Rattle.link_core.proofs.Standing.{byte_stands}
use Rattle.link_core.proofs.StandingPlaces.{field_in, lies_at}
use Rattle.link_core.specs.Images.{image_of}
use Rattle.link_core.specs.Meant.{field_byte, is_in_field, meant_byte, site_byte}
use Rattle.link_needs.specs.Given.{FitsTable}
use Rattle.link_needs.specs.Linking.{Linking, layout, object}
use Rattle.link_needs.specs.Values.{field}
use Rattle.placed_sections.proofs.Rising.{class_is}
use Rattle.placed_sections.proofs.Standing.{HasPlace, has_place, memory_byte}
use Rattle.sequence_match.specs.Sites.{Covers}
use Rattle.tls_layout.proofs.LawsOfPlaces.{lie_in_classes}
use Rattle.tls_layout.proofs.LawsOfSections.{finds_sections}
use Rattle.tls_relocs.specs.declared.fields.Field.{Field}
use Rattle.tls_relocs.specs.declared.fields.Field.TheVariants.{Empty}
use Rattle.tls_relocs.specs.Fields.{field_bytes}
use Rattle.standing_sequences.specs.Bytes.{IsUnreplaced, IsPlain, IsSectionAt, byte_at, own_byte}
use Rattle.standing_sequences.specs.Laws.{FieldsStand, IsLinked, OwnBytesStand}
use Rattle.standing_sequences.proofs.Covering.{field_found, field_stays, none_field, none_rewritten}
use Rattle.standing_sequences.proofs.Parts.{part_byte}
use Rattle.standing_sequences.proofs.Values.{field_long, own_value}

module _ (l : Linking) (linked : IsLinked l) (o t address : ℕ) (at : IsSectionAt l o t address) where
  pub limits : FitsTable l
  limits = table_fits l linked.given linked.links.sound.limits

  -- the byte of a section that the image has
  pub image_byte : (k : ℕ) → k < section_size (object l o) t
      → byte_at (image_of l) (address + k) ≡ Some (meant_byte l o t k)
  image_byte k below =
      let place : HasPlace (object l o) t = has_place l.kind l.objects o t address (at.there, at.address_is) in
      let is : section_class (object l o) t ≡ Some place.class =
      class_is place.class (section_class (object l o) t) place.is in
      let found = finds_sections l.kind l.objects o t at.there in
      let lies = lie_in_classes (layout l) limits.lawful o t address place.class (found.class_is ∙ is) at.address_is in
      let size = found.size_is (rw is refl) in
      part_byte l (address + k) place.class (meant_byte l o t k) (omega (arith, lies.begins))
      (omega (arith, lies.ends, size, below))
      (byte_stands l linked.given linked.links o t k address at.there at.address_is below)

  -- where no rewritten sequence has it
  module _ (k : ℕ) (kept : IsUnreplaced l o t k) where
    abbrev own : ℕ
    own = slice_index_or (section_bytes (object l o) t) k 0

    by_field : meant_byte l o t k
        ≡ field_byte l o t k (find (is_in_field l o k) (relocations (object l o) t))
        (slice_index_or (section_bytes (object l o) t) k 0)
    unfolding meant_byte
    by_field =
        ap (λ found. site_byte l o k found (field_byte l o t k (find (is_in_field l o k) (relocations (object l o) t))
        own)) (none_rewritten l linked.given o t at.there k kept)

    pub own_stands : k < section_size (object l o) t → IsPlain l o t k
        → byte_at (image_of l) (address + k) ≡ own_byte l o t k
    own_stands below plain =
        image_byte k below
        ∙ ap Some (by_field
        ∙ ap (λ found. field_byte l o t k found own) (none_field l linked.given o t at.there k plain))
        ∙ sym (memory_byte (object l o) t k below)

    pub field_stands : (r : Relocation) → Contains (relocations (object l o) t) r → Covers r k
        → (value : Field) × (field l o t r ≡ Some value)
        × (byte_at (image_of l) (address + k) ≡ slice_get (field_bytes value) (k - r.offset))
    field_stands r has covers =
        let lies = lies_at l linked.given limits o t address at.there at.address_is in
        let stays = field_stays l linked o t at.there r k has covers kept in
        let value = own_value l linked.links o t r at.there lies.some has stays in
        let long = field_long l o t r value.0 value.1 in
        let inside = (field_in l linked.given limits o t r at.there has).fits in
        let low = covers.0 in
        let high = covers.1 in (
          value.0,
          value.1,
          image_byte k (omega (arith, inside, high))
              ∙ ap Some (by_field
              ∙ ap (λ found. field_byte l o t k found own)
              (field_found l linked.given o t at.there r k has covers stays)
              ∙ ap (λ v. slice_index_or (field_bytes (unwrap_or v Empty)) (k - r.offset) 0) value.1)
              ∙ sym (slice_get-get_or (field_bytes value.0) (k - r.offset) 0 (omega (arith, long, low, high))),
        )

pub own_bytes_stand : OwnBytesStand
own_bytes_stand l linked o t address k at below kept plain = own_stands l linked o t address at k kept below plain

pub fields_stand : FieldsStand
fields_stand l linked o t address k r at has covers kept = field_stands l linked o t address at k kept r has covers
