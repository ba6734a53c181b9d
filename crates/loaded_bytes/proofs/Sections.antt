-- A section stands at its address, byte by byte.
use Rattle.std.proofs.Common.{◌≡◌, ◌+◌, ◌-◌, ◌∙◌, Some, refl, ap, arith}
use Rattle.std.specs.Prelude.{unwrap_or}
use Rattle.memory_image.proofs.Placing.{section_stands}
use Rattle.link_core.proofs.Few.{table_fits}
use Rattle.link_needs.specs.Linking.{layout, object}
use Rattle.placed_sections.proofs.Standing.{HasPlace, has_place}
use Rattle.tls_layout.proofs.LawsOfPlaces.{lie_in_classes}
use Rattle.tls_layout.proofs.LawsOfSections.{finds_sections}
use Rattle.whole_meaning.specs.Spots.{begin_of, spot_at, spot_in}
use Rattle.loaded_bytes.specs.Bytes.{byte_at, byte_of_spot, loaded_byte}
use Rattle.loaded_bytes.specs.Sections.{SectionsStandAsLoaded}

pub sections_stand : SectionsStandAsLoaded
unfolding spot_in byte_at
sections_stand l bias class o t address k given links range at below =
    let fits = table_fits l given links.sound.limits in
    let begins : begin_of (layout l) o t ≡ address = ap (λ a. unwrap_or a 0) at.address_is in
    let place : HasPlace (object l o) t = has_place l.kind l.objects o t address (at.there, at.address_is) in
    let found = finds_sections l.kind l.objects o t at.there in
    let inside = lie_in_classes (layout l) fits.lawful o t address class (found.class_is ∙ at.class_is) at.address_is in
    let size = found.size_is (rw at.class_is refl) in
    let spot : spot_in l class (address + k) ≡ Some (spot_at (layout l) o (address + k) t) =
    section_stands l.kind l.objects class range o t (address + k) at.there place.below at.class_is
    (omega (arith, begins))
    (omega (arith, begins, below)) in
    let within : address + k - begin_of (layout l) o t ≡ k = omega (arith, begins) in (
      (omega (arith, inside.begins), omega (arith, inside.ends, size, below)),
      ap (byte_of_spot l bias) spot ∙ ap (loaded_byte l bias o t) within,
    )
