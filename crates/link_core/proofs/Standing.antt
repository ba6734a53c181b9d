-- Each byte of a section stands at its place, as it is meant.
use Rattle.std.proofs.Common.{◌≡◌, ◌+◌, ◌<◌, ◌∙◌, ℕ, Some, length, ap, arith}
use Rattle.std.specs.Prelude.{fold, slice_get, slice_index_or}
use Rattle.std.specs.List.{find}
use Rattle.elf_object.specs.Lent.{relocations, section_bytes, section_size}
use Rattle.placed_sections.specs.Files.{memory_bytes, offset_of, sections_file}
use Rattle.placed_sections.proofs.Kept.{long_as_memory}
use Rattle.placed_sections.proofs.Standing.{memory_byte}
use Rattle.placed_sections.proofs.Told.{sections_fit, sections_stand}
use Rattle.tls_layout.specs.Places.{address_of}
use Rattle.tls_relocs.specs.Elements.{slice_get-append}
use Rattle.link_needs.specs.Linking.{Linking, layout, object}
use Rattle.link_core.specs.Bytes.{file, linked_section, with_field}
use Rattle.link_tables.specs.Faults.{Links}
use Rattle.link_needs.specs.Given.{FitsTable, IsGiven}
use Rattle.link_core.specs.Meant.{field_byte, is_in_field, meant_byte}
use Rattle.link_core.proofs.LengthsInside.{goes_on}
use Rattle.link_core.proofs.LengthsKept.{are_laid}
use Rattle.link_core.proofs.StandingPlaces.{lies_at}
use Rattle.link_core.proofs.StandingFields.{fields_write}
use Rattle.link_core.proofs.StandingSites.{sites_write}
use Rattle.link_core.proofs.Few.{table_fits}

-- what lies behind the sections leaves them
pub sections_stay : (l : Linking) (q : ℕ)
    → q < length (sections_file (layout l) (linked_section l) l.objects)
    → slice_get (file l) q ≡ slice_get (sections_file (layout l) (linked_section l) l.objects) q
sections_stay l q inside =
    let front = goes_on l in
    ap (λ xs. slice_get xs q) front.1
    ∙ slice_get-append (sections_file (layout l) (linked_section l) l.objects) front.0 q inside

-- each byte of a section, once it is linked, as it is meant
pub linked_byte : (l : Linking) → IsGiven l → Links l → (o t k : ℕ) → o < length l.objects
    → k < section_size (object l o) t → slice_get (linked_section l o t) k ≡ Some (meant_byte l o t k)
unfolding linked_section meant_byte
linked_byte l given links o t k there below =
    let b = object l o in
    let own = slice_index_or (section_bytes b t) k 0 in
    let r = find (is_in_field l o k) (relocations b t) in
    let filled = fold (with_field l o t) (memory_bytes b t) (relocations b t) in
    let fields = fields_write l given links o t k there own (memory_bytes b t)
    (long_as_memory b t, memory_byte b t k below) in
    (sites_write l given o t k there (field_byte l o t k r own) filled fields).1

-- each byte of a section in the file
pub byte_stands : (l : Linking) (given : IsGiven l) (links : Links l) (o t k address : ℕ) (there : o < length l.objects)
    (at : address_of (layout l) o t ≡ Some address) (below : k < section_size (object l o) t)
    → slice_get (file l) (offset_of (layout l) (address + k)) ≡ Some (meant_byte l o t k)
byte_stands l given links o t k address there at below =
    let contents = linked_section l in
    let sections = sections_file (layout l) (linked_section l) l.objects in
    let limits : FitsTable l = table_fits l given links.sound.limits in
    let laid = are_laid l given limits in
    let lies = lies_at l given limits o t address there at in
    let fits = sections_fit l.kind contents l.objects o t address laid (there, at) (omega arith) in
    let whole : offset_of (layout l) (address + k) ≡ offset_of (layout l) address + k = omega (arith, lies.above) in
    sections_stay l (offset_of (layout l) (address + k)) (omega (arith, fits))
    ∙ ap (slice_get sections) whole
    ∙ sections_stand l.kind contents l.objects o t address k laid (there, at) below
    ∙ linked_byte l given links o t k there below
