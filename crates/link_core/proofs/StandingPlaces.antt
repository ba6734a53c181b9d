-- Where sections lie, and what lies in them.
use Rattle.std.proofs.Common.{◌≡◌, ◌≢◌, ◌+◌, ◌<◌, ◌≤◌, ◌∙◌, ℕ, true, false, Option, Some, None, IsSome, length, refl}
use Rattle.std.proofs.Common.{ap, arith}
use Rattle.std.specs.Prelude.{unwrap_or}
use Rattle.std.specs.List.{Contains}
use Rattle.object_faults.specs.declared.class.SectionClass.{SectionClass}
use Rattle.object_faults.specs.declared.class.SectionClass.TheVariants.{Executable, Tls}
use Rattle.elf_object.specs.declared.relocation.Relocation.{Relocation}
use Rattle.elf_object.specs.Laws.{class_in_table}
use Rattle.elf_object.specs.Lent.{relocations, section_class, section_size}
use Rattle.elf_object.specs.Relocations.{field_width}
use Rattle.link_faults.specs.ImageKinds.{base_of}
use Rattle.placed_sections.proofs.Standing.{has_place}
use Rattle.sequence_forms.specs.declared.places.Site.{Site}
use Rattle.tls_layout.specs.Places.{address_of}
use Rattle.tls_layout.specs.Sections.{is_class}
use Rattle.tls_layout.proofs.LawsOfPlaces.{have_addresses, lie_in_classes}
use Rattle.tls_layout.proofs.LawsOfSections.{finds_sections}
use Rattle.link_needs.specs.Linking.{Linking, layout, object, place, sites_at}
use Rattle.link_needs.specs.Needs.{got_start}
use Rattle.link_needs.specs.Given.{FitsTable, IsGiven}
use Rattle.link_core.proofs.LengthsInside.{field_fits, is_object, is_relocated, site_code, site_fits}

-- ** where a section lies

-- section t of object o begins at the address, in the room of sections
pub record Lies (l : Linking) (o t address : ℕ) : Type 0 where
  pub there : o < length l.objects
  pub some : 0 < t
  pub address_is : address_of (layout l) o t ≡ Some address
  pub above : base_of l.kind ≤ address
  pub below : address + section_size (object l o) t ≤ got_start l

module _ (l : Linking) (given : IsGiven l) (limits : FitsTable l) where
  -- a section of a class that has an address
  lies_in : (o t address : ℕ) (class : SectionClass) → o < length l.objects → section_class (object l o) t ≡ Some class
      → address_of (layout l) o t ≡ Some address → Lies l o t address
  lies_in o t address class there is at =
      let found = finds_sections l.kind l.objects o t there in
      let lies = lie_in_classes (layout l) limits.lawful o t address class (found.class_is ∙ is) at in
      let size = found.size_is (rw is refl) in
      record {
        there = there;
        some = (class_in_table (object l o) t (rw is refl)).0;
        address_is = at;
        above = lies.above;
        below = omega (arith, lies.below, size);
      }

  -- one that has an address
  pub lies_at : (o t address : ℕ) → o < length l.objects → address_of (layout l) o t ≡ Some address
      → Lies l o t address
  lies_at o t address there at =
      let h = has_place l.kind l.objects o t address (there, at) in
      of_class (section_class (object l o) t) refl h.class h.is
    where
      of_class : (found : Option SectionClass) → section_class (object l o) t ≡ found → (class : SectionClass)
          → is_class class found ≡ true → Lies l o t address
      of_class None e class is = absurd (cc)
      of_class (Some found) e class is = lies_in o t address found there e at

  -- one that may have relocations
  pub lies_of : (o t : ℕ) (class : SectionClass) → o < length l.objects → section_class (object l o) t ≡ Some class
      → class ≢ Tls false → (address : ℕ) × Lies l o t address
  lies_of o t class there is other =
      let found = (finds_sections l.kind l.objects o t there).class_is in
      of_address (address_of (layout l) o t) refl (have_addresses (layout l) o t class (found ∙ is) other)
    where
      of_address : (at : Option ℕ) → address_of (layout l) o t ≡ at → IsSome at → (address : ℕ) × Lies l o t address
      of_address None e some = absurd (cc)
      of_address (Some address) e some = (address, lies_in o t address class there is e)

  -- ** what lies in it

  -- some bytes of a section
  pub record IsIn (o t from len : ℕ) : Type 0 where
    pub address : ℕ
    pub lies : Lies l o t address
    pub place_is : place l o t from ≡ address + from
    pub fits : from + len ≤ section_size (object l o) t

  -- that of a relocation
  pub field_in : (o t : ℕ) (r : Relocation) → o < length l.objects → Contains (relocations (object l o) t) r
      → IsIn o t r.offset (field_width r.kind)
  field_in o t r there has =
      let found = is_relocated (object l o) (is_object l o given there) t r has in
      let lies = lies_of o t found.class there found.class_is found.has_address in record {
        address = lies.0;
        lies = lies.1;
        place_is = ap (λ a. unwrap_or a 0 + r.offset) lies.1.address_is;
        fits = field_fits l o t r given there has;
      }

  -- a sequence
  pub site_in : (o : ℕ) (site : Site) → o < length l.objects → Contains (sites_at l o) site
      → IsIn o site.section site.start site.len
  site_in o site there has =
      let code = site_code l o site given there has in
      let lies = lies_of o site.section Executable there code.class_is (λ h. cc) in record {
        address = lies.0;
        lies = lies.1;
        place_is = ap (λ a. unwrap_or a 0 + site.start) lies.1.address_is;
        fits = site_fits l o site given there has;
      }
