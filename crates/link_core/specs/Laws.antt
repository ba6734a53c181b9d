-- The laws of every linked image.
use Rattle.std.specs.Prelude.{◌≡◌, ◌+◌, ◌<◌, ◌≤◌, ◌⊎◌, ◌++◌, ℕ, pos, ◌-ℤ◌, true, false, Some, drop, length, slice_get}
use Rattle.std.specs.Int.{w32, cast_unsigned}
use Rattle.elf_object.specs.declared.relocation.Relocation.{Relocation}
use Rattle.elf_object.specs.Lent.{relocations, section_size}
use Rattle.elf_object.specs.Relocations.{field_width}
use Rattle.elf_records.specs.Fields.{bytes_of, part_at}
use Rattle.got_pairs.specs.declared.need.Need.{Need}
use Rattle.got_pairs.specs.declared.need.Need.TheVariants.{RuntimeWord}
use Rattle.got_pairs.specs.Needs.{start_of}
use Rattle.image_file.specs.declared.part.PartClass.TheVariants.{Executable, Writable}
use Rattle.image_file.specs.Spelled.{Part}
use Rattle.image_writer.specs.declared.draft.Draft.{Draft}
use Rattle.image_writer.specs.Contents.{contents_of}
use Rattle.image_writer.specs.Frames.{back_of, front_of, outline_told}
use Rattle.image_writer.specs.Loadable.{HoldsTls, IsLoadable}
use Rattle.image_writer.specs.Outlined.{outline_of}
use Rattle.image_writer.specs.Written.{written}
use Rattle.object_rules.specs.declared.fault.FaultKind.TheVariants.{Sequence, StrayCall}
use Rattle.relax_sites.specs.declared.rows.NewField.{NewField}
use Rattle.relax_sites.specs.Rows.{new_field}
use Rattle.placed_sections.specs.Files.{offset_of}
use Rattle.sequence_forms.specs.declared.places.Site.{Site}
use Rattle.sequence_match.specs.Faults.{Nowhere}
use Rattle.std.specs.List.{Contains}
use Rattle.tls_layout.specs.Places.{address_of}
use Rattle.tls_relocs.specs.declared.fields.Field.{Field}
use Rattle.link_core.specs.Bytes.{file, got_bytes, need_bytes, stub_bytes}
use Rattle.link_tables.specs.Faults.{Links}
use Rattle.link_needs.specs.Given.{IsGiven}
use Rattle.link_core.specs.Images.{contents, got_number, image_of, places, section_places}
use Rattle.link_needs.specs.Linking.{Linking, choice, layout, object, sites_at}
use Rattle.link_core.specs.Meant.{lies_in_rewritten, meant_byte, placed_byte}
use Rattle.link_needs.specs.Needs.{entries, got_size, got_start, has_stub, is_kept, need_address, new_relocation}
use Rattle.link_needs.specs.Needs.{stub_start}
use Rattle.link_needs.specs.Values.{field, is_replaced}

-- an image can be written: its TLS segment begins at or before the end of its last part
abbrev pub ImagesHoldTls : Type 0
ImagesHoldTls = (l : Linking) → IsGiven l → Links l → HoldsTls (outline_of (image_of l))

-- each byte of a section is at its place, as it is meant
abbrev pub BytesAreMeant : Type 0
BytesAreMeant = (l : Linking) (o t k address : ℕ) → IsGiven l → Links l → o < length l.objects
    → address_of (layout l) o t ≡ Some address → k < section_size (object l o) t
    → slice_get (file l) (offset_of (layout l) (address + k)) ≡ Some (meant_byte l o t k)

-- each entry of the table is at its place, with the numbers of its row
abbrev pub EntriesStand : Type 0
EntriesStand = (l : Linking) (need : Need) (at : ℕ) → IsGiven l → Links l → Contains (entries l) need
    → start_of (entries l) need ≡ Some at
    → part_at (length (need_bytes l need)) (offset_of (layout l) (got_start l + at)) (file l) ≡ need_bytes l need

-- the stub is at its place, and jumps through the word of the run time's function: its field holds the distance of the
-- word from the field's end
pub record StubStands (l : Linking) : Type 0 where
  pub stands : part_at 6 (offset_of (layout l) (stub_start l)) (file l) ≡ stub_bytes l
  pub jumps : part_at 4 2 (stub_bytes l)
      ≡ bytes_of 4 (cast_unsigned w32 (pos (need_address l (Some RuntimeWord)) -ℤ pos (stub_start l + 6)))

abbrev pub StubsStand : Type 0
StubsStand = (l : Linking) → IsGiven l → Links l → has_stub l ≡ true → StubStands l

-- no object has a relocation of a sequence, or a call of the run time, outside its sites
abbrev pub HasNoStray : Linking → Type 0
HasNoStray l = (o : ℕ) → o < length l.objects → Nowhere Sequence (object l o) × Nowhere StrayCall (object l o)

-- byte k of section t is in the field of a relocation, and in a site of object o
abbrev pub IsCovered : Relocation → ℕ → Type 0
IsCovered r k = (r.offset ≤ k) × (k < r.offset + field_width r.kind)

pub record IsInSite (l : Linking) (o t k : ℕ) (site : Site) : Type 0 where
  pub own : Contains (sites_at l o) site
  pub section : site.section ≡ t
  pub from : site.start ≤ k
  pub to : k < site.start + site.len

-- the field of a relocation is outside all rewritten sites; a relocation with no field is inside one
pub record GoWithTheirSites (l : Linking) (o t : ℕ) (r : Relocation) : Type 0 where
  pub outside : is_replaced l o r ≡ false → (k : ℕ) (site : Site) → IsCovered r k → IsInSite l o t k site
      → is_kept (choice l o site) ≡ true
  pub inside : is_replaced l o r ≡ true → (k : ℕ) → IsCovered r k
      → (site : Site) × IsInSite l o t k site × (is_kept (choice l o site) ≡ false)

abbrev pub FieldsGoWithTheirSites : Type 0
FieldsGoWithTheirSites = (l : Linking) (o t : ℕ) (r : Relocation) → IsGiven l → Links l → HasNoStray l
    → o < length l.objects → Contains (relocations (object l o) t) r → GoWithTheirSites l o t r

-- so a relocation has no field exactly if its place is in a rewritten sequence, whatever its type,
abbrev pub ReplacedFieldsLieInSites : Type 0
ReplacedFieldsLieInSites = (l : Linking) (o t : ℕ) (r : Relocation) → IsGiven l → Links l → HasNoStray l
    → o < length l.objects → Contains (relocations (object l o) t) r
    → is_replaced l o r ≡ lies_in_rewritten l o t r

-- and what a byte means depends only on its place
abbrev pub BytesAreMeantByPlace : Type 0
BytesAreMeantByPlace = (l : Linking) (o t k : ℕ) → IsGiven l → Links l → HasNoStray l → o < length l.objects
    → meant_byte l o t k ≡ placed_byte l o t k

-- the new field of a rewritten sequence holds its value
abbrev pub NewFieldsFit : Type 0
NewFieldsFit = (l : Linking) (o : ℕ) (site : Site) (new : NewField) → IsGiven l → Links l → o < length l.objects
    → Contains (sites_at l o) site → new_field site.form (choice l o site) ≡ Some new
    → (value : Field) × (field l o site.section (new_relocation site new) ≡ Some value)

-- ** parts of the image

-- no section has a byte at the address
abbrev pub IsGap : Linking → ℕ → Type 0
IsGap l address = (o t begin : ℕ) → o < length l.objects → address_of (layout l) o t ≡ Some begin
    → (address < begin) ⊎ (begin + section_size (object l o) t ≤ address)

-- a part of sections is zero there
abbrev pub GapsAreZero : Type 0
GapsAreZero = (l : Linking) (i k : ℕ) (part : Part) → IsGiven l → Links l → i < length (section_places (layout l))
    → slice_get (image_of l).parts i ≡ Some part → k < length part.bytes → IsGap l (part.address + k)
    → slice_get part.bytes k ≡ Some 0

-- the part that only the loader writes is the whole table
abbrev pub TablesAreParts : Type 0
TablesAreParts = (l : Linking) → IsGiven l → Links l → 0 < got_size l
    → (n : ℕ) × (got_number l ≡ Some n)
    × (slice_get (image_of l).parts n
    ≡ Some (record { class = Writable; address = got_start l; bytes = got_bytes l }))

-- and the stub is a part with code
abbrev pub StubsAreParts : Type 0
StubsAreParts = (l : Linking) → IsGiven l → Links l → has_stub l ≡ true
    → Contains (image_of l).parts (record { class = Executable; address = stub_start l; bytes = stub_bytes l })

-- ** the file

-- a draft says what is known of the link: where its parts lie, and with its file all contents
pub record IsDraftOf (l : Linking) (d : Draft) : Type 0 where
  pub parts : d.parts.now ≡ places l
  pub same : contents_of d (file l) ≡ contents l

-- such a draft has a frame, and in it the link's file, without its first page, is the file of the image
pub record IsFramed (l : Linking) (d : Draft) : Type 0 where
  pub loadable : IsLoadable (outline_told d)
  pub tls : HoldsTls (outline_told d)
  pub whole : written (image_of l) ≡ front_of d ++ (drop 4096 (file l) ++ back_of d)

abbrev pub ImagesAreFramed : Type 0
ImagesAreFramed = (l : Linking) (d : Draft) → IsGiven l → Links l → IsDraftOf l d → IsFramed l d
