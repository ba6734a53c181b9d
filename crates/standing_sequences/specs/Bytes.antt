-- Which bytes stand in an image, before a loader moves it, and which in the sections of its objects.
use Rattle.std.specs.Prelude.{◌≡◌, ◌+◌, ◌-◌, ◌<◌, ◌≤◌, ◌⊎◌, ◌&&◌, ℕ, Bool, List, Option, Some, None, length}
use Rattle.std.specs.Prelude.{nat_le, nat_lt, option_and_then, slice_get}
use Rattle.std.specs.List.{find}
use Rattle.elf_object.specs.Lent.{relocations}
use Rattle.elf_records.specs.Fields.{splice}
use Rattle.image_file.specs.Spelled.{Part, Spelled}
use Rattle.link_needs.specs.Linking.{Linking, layout, object}
use Rattle.link_needs.specs.Needs.{new_relocation}
use Rattle.link_needs.specs.Values.{field}
use Rattle.relax_sites.specs.declared.choices.Choice.{Choice}
use Rattle.relax_sites.specs.declared.rows.NewField.{NewField}
use Rattle.relax_sites.specs.Rows.{new_bytes, new_field}
use Rattle.placed_sections.specs.Files.{memory_bytes}
use Rattle.sequence_forms.specs.declared.places.Site.{Site}
use Rattle.sequence_match.specs.Sites.{IsBare}
use Rattle.tls_layout.specs.Places.{address_of}
use Rattle.tls_relocs.specs.declared.fields.Field.{Field}
use Rattle.tls_relocs.specs.Fields.{field_bytes}
use Rattle.standing_sequences.specs.Table.{IsSequence, Matches}

-- ** images

-- a part has a byte at the address
abbrev pub holds : ℕ → Part → Bool
holds address part = nat_le part.address address && nat_lt address (part.address + length part.bytes)

-- the byte at an address of an image: that of the part that holds the address; none if no part does
-- (gABI, "Program Loading")
unfoldable pub byte_at : Spelled → ℕ → Option ℕ
byte_at image address =
    option_and_then (λ (part : Part). slice_get part.bytes (address - part.address)) (find (holds address) image.parts)

-- these bytes stand in the image from the address on, one after another
abbrev pub Stand : Spelled → ℕ → List ℕ → Type 0
Stand image address bytes = (k : ℕ) → k < length bytes → byte_at image (address + k) ≡ slice_get bytes k

-- section t of object o begins at this address of their image
pub record IsSectionAt (l : Linking) (o t address : ℕ) : Type 0 where
  pub there : o < length l.objects
  pub address_is : address_of (layout l) o t ≡ Some address

-- ** bytes of a section

-- byte k of a section in its object; zero if the section has no bytes in the file
abbrev pub own_byte : Linking → ℕ → ℕ → ℕ → Option ℕ
own_byte l o t k = slice_get (memory_bytes (object l o) t) k

-- no relocation has a field there
abbrev pub IsPlain : Linking → ℕ → ℕ → ℕ → Type 0
IsPlain l o t k = IsBare (relocations (object l o) t) k

-- no sequence with another form in the table has the byte
abbrev pub IsUnreplaced : Linking → ℕ → ℕ → ℕ → Type 0
IsUnreplaced l o t k =
    (site : Site) (choice : Choice) → IsSequence l o t site → Matches l o site choice → site.start ≤ k
    → k < site.start + site.len → ⊥

-- ** what stands in a sequence's place

-- a row without a field stands as it is; in a row with a field stands the value that the psABI gives the field's
-- relocation, which fits
abbrev pub IsFilled : Linking → ℕ → Site → List ℕ → Option NewField → List ℕ → Type 0
IsFilled l o site row None bytes = bytes ≡ row
IsFilled l o site row (Some new) bytes =
    (value : Field) × (field l o site.section (new_relocation site new) ≡ Some value)
    × (bytes ≡ splice new.at (field_bytes value) row)

-- byte k of a row is not of its field
abbrev pub IsOutside : Option NewField → ℕ → Type 0
IsOutside None k = Unit {0}
IsOutside (Some new) k = (k < new.at) ⊎ (new.at + 4 ≤ k)

-- the bytes at the address look like a rewritten form: they are those of its row, except in its field
abbrev pub HasForm : Spelled → ℕ → Site → Choice → Type 0
HasForm image address site choice =
    (k byte : ℕ) → slice_get (new_bytes site.form choice site.reg) k ≡ Some byte
    → IsOutside (new_field site.form choice) k → byte_at image (address + k) ≡ Some byte

-- the bytes there look like the sequence itself: they are the object's own, except in its fields
abbrev pub HasOwnForm : Linking → Spelled → ℕ → ℕ → Site → Type 0
HasOwnForm l image o address site =
    (k : ℕ) → k < site.len → IsPlain l o site.section (site.start + k)
    → byte_at image (address + k) ≡ own_byte l o site.section (site.start + k)
