-- The fields of relocations and of sequences have room in their section.
use Rattle.std.proofs.Common.{◌≡◌, ◌+◌, ◌<◌, ◌≤◌, ◌^◌, ℕ, List, [], ◌∷◌, Option, Some, None, length, refl, IsSome}
use Rattle.std.proofs.Common.{arith}
use Rattle.std.proofs.lemmas.List.{take-append-drop}
use Rattle.std.proofs.lemmas.List.Elements.{All-contains}
use Rattle.std.specs.List.{Contains}
use Rattle.std.specs.Prelude.{unwrap_or}
use Rattle.elf_records.specs.Fields.{splice}
use Rattle.object_faults.specs.declared.class.SectionClass.{SectionClass}
use Rattle.elf_object.specs.declared.relocation.Relocation.{Relocation}
use Rattle.elf_object.specs.LawsOfSections.{kept_as}
use Rattle.elf_object.specs.Lent.{relocations, section_class, section_size}
use Rattle.elf_object.specs.Relocations.{field_width}
use Rattle.link_faults.specs.ImageKinds.{base_of}
use Rattle.placed_sections.specs.declared.part.SectionRef.{SectionRef}
use Rattle.placed_sections.specs.Laws.{IsOwn}
use Rattle.relax_sites.specs.declared.choices.Choice.{Choice}
use Rattle.relax_sites.specs.declared.rows.NewField.{NewField}
use Rattle.relax_sites.specs.Rows.{new_field}
use Rattle.relax_sites.proofs.Tables.{field_end}
use Rattle.sequence_forms.specs.declared.places.Site.{Site}
use Rattle.tls_layout.proofs.Bounds.{address_bounds}
use Rattle.tls_layout.proofs.Together.{page_up-above}
use Rattle.tls_layout.specs.Places.{address_of}
use Rattle.tls_relocs.specs.declared.fields.Field.{Field}
use Rattle.tls_relocs.specs.declared.fields.Field.TheVariants.{Empty, Word32, Word64}
use Rattle.tls_relocs.specs.FieldLaws.{field_patch, width_of}
use Rattle.tls_relocs.specs.Patches.{patched}
use Rattle.link_needs.proofs.UsableSites.{usable}
use Rattle.link_needs.specs.Given.{FitsTable, IsGiven}
use Rattle.link_needs.specs.Linking.{Linking, layout, object, place, sites_at}
use Rattle.link_needs.specs.Needs.{got_size, got_start, stub_start}
use Rattle.link_needs.specs.Plans.{IsUsable}
use Rattle.link_core.proofs.LengthsInside.{field_fits, is_object, is_relocated}
use Rattle.link_core.proofs.LengthsKept.{new_width}
use Rattle.link_core.proofs.LengthsPlaces.{base_before}
use Rattle.link_core.proofs.LengthsRaw.{stub_small}

-- ** the table and the stub

-- they lie above the base, and not far
pub record StandNear (l : Linking) : Type 0 where
  pub above : base_of l.kind ≤ got_start l
  pub after : got_start l ≤ stub_start l
  pub near : stub_start l + 2 < 2 ^ 29

pub stand_near : (l : Linking) → IsGiven l → FitsTable l → StandNear l
stand_near l given limits =
    let page = page_up-above (got_start l + got_size l) in
    record { above = base_before l; after = omega arith; near = stub_small l given limits }

-- ** sections

-- one of the objects' has few bytes
pub section_small : (l : Linking) → IsGiven l → (own : SectionRef) → IsOwn l.objects own
    → section_size (object l own.object) own.section ≤ 2 ^ 20
section_small l given own is = of_class (section_class (object l own.object) own.section) refl is.class
  where
    of_class : (class : Option SectionClass) → section_class (object l own.object) own.section ≡ class → IsSome class
        → section_size (object l own.object) own.section ≤ 2 ^ 20
    of_class None e some = absurd (cc)
    of_class (Some class) e some =
        (kept_as (object l own.object) (is_object l own.object given is.object) own.section class e).small

-- ** fields

-- a field with no bytes changes nothing
pub patched_nothing : (at : ℕ) (field : Field) (bytes : List ℕ) → width_of field ≤ 0
    → patched (field_patch at field ∷ []) bytes ≡ bytes
unfolding splice
patched_nothing at Empty bytes none = let same : at + 0 ≡ at = omega arith in rw same (take-append-drop at bytes)
patched_nothing at (Word32 word) bytes none = absurd (omega arith)
patched_nothing at (Word64 word) bytes none = absurd (omega arith)

-- a field has room in its section, and its address is no large number
pub record HasRoom (l : Linking) (o t at width : ℕ) : Type 0 where
  pub near : place l o t at < 2 ^ 64
  pub inside : at + width ≤ section_size (object l o) t

section_near : (l : Linking) (o t : ℕ) → FitsTable l → unwrap_or (address_of (layout l) o t) 0 ≤ 2 ^ 25
section_near l o t limits = of_address (address_of (layout l) o t) refl
  where
    of_address : (address : Option ℕ) → address_of (layout l) o t ≡ address → unwrap_or address 0 ≤ 2 ^ 25
    of_address None e = omega arith
    of_address (Some address) e = omega (arith, address_bounds (layout l) o t address e limits.lawful)

-- that of a relocation
pub field_room : (l : Linking) (o t : ℕ) (r : Relocation) → IsGiven l → FitsTable l → o < length l.objects
    → Contains (relocations (object l o) t) r → HasRoom l o t r.offset (field_width r.kind)
field_room l o t r given limits there is =
    let b = object l o in
    let whole = is_object l o given there in
    let found = is_relocated b whole t r is in
    let small = (kept_as b whole t found.class found.class_is).small in
    let inside = field_fits l o t r given there is in
    record { near = omega (arith, section_near l o t limits); inside = inside }

-- ** sequences

-- what is known of each
pub site_usable : (l : Linking) (o : ℕ) (site : Site) → IsGiven l → o < length l.objects
    → Contains (sites_at l o) site → IsUsable (object l o) site
site_usable l o site given there has =
    All-contains (IsUsable (object l o)) (sites_at l o) site (usable l o given there) has

-- the field of the bytes in its place has room, at a small offset
pub record HasNewRoom (l : Linking) (o : ℕ) (site : Site) (f : NewField) : Type 0 where
  pub room : HasRoom l o site.section (site.start + f.at) (field_width f.kind)
  pub small : site.start + f.at < 2 ^ 64

pub new_room : (l : Linking) (o : ℕ) (site : Site) (choice : Choice) (f : NewField) → FitsTable l
    → IsUsable (object l o) site → new_field site.form choice ≡ Some f → HasNewRoom l o site f
new_room l o site choice f limits known is =
    let end = (field_end site.form choice 0 f is).end in
    let width = new_width site.form choice f is in
    let whole = known.whole in
    let small = known.small in
    let inside = known.inside in
    record {
      room = record { near = omega (arith, section_near l o site.section limits); inside = omega arith };
      small = omega arith;
    }
