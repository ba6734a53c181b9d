-- What an image holds of its objects: rewritten forms of sequences where the table gives them, and everywhere else the
-- objects' own bytes, fields aside. This is said of any image, however it was made or read.
use Rattle.std.specs.Prelude.{◌≡◌, ◌+◌, ◌-◌, ◌<◌, ℕ, List, Some, length, slice_get}
use Rattle.std.specs.List.{Contains}
use Rattle.elf_object.specs.declared.relocation.Relocation.{Relocation}
use Rattle.elf_object.specs.Lent.{relocations, section_class, section_size}
use Rattle.image_file.specs.Spelled.{Spelled}
use Rattle.link_needs.specs.Linking.{Linking, object}
use Rattle.link_needs.specs.Values.{field}
use Rattle.object_faults.specs.declared.class.SectionClass.TheVariants.{Executable}
use Rattle.relax_sites.specs.declared.choices.Choice.{Choice}
use Rattle.relax_sites.specs.Rows.{new_bytes, new_field}
use Rattle.sequence_forms.specs.declared.places.Site.{Site}
use Rattle.sequence_match.specs.Sites.{Covers}
use Rattle.tls_relocs.specs.declared.fields.Field.{Field}
use Rattle.tls_relocs.specs.Fields.{field_bytes}
use Rattle.standing_sequences.specs.Bytes.{HasForm, HasOwnForm, IsFilled, IsUnreplaced, IsPlain, IsSectionAt, Stand}
use Rattle.standing_sequences.specs.Bytes.{byte_at, own_byte}
use Rattle.standing_sequences.specs.Table.{IsDue, IsSequence, Matches, MayReplace}

-- of the objects of this link, in this image
module _ (l : Linking) (image : Spelled) where
  -- ** sequence by sequence

  -- at the place of a sequence
  pub record StandsByTheTable (o address : ℕ) (site : Site) : Type 0 where
    -- there is a rewritten form if the table gives it, and only then
    pub given : (choice : Choice) → Matches l o site choice → HasForm image address site choice
    pub only_given : (choice : Choice) → MayReplace site.form choice → HasForm image address site choice
        → IsDue l o site choice
    -- and there is the sequence itself if the table gives none, and only then
    pub kept : ((choice : Choice) → Matches l o site choice → ⊥) → HasOwnForm l image o address site
    pub only_kept : HasOwnForm l image o address site → (choice : Choice) → Matches l o site choice → ⊥

  abbrev pub SequencesStand : Type 0
  SequencesStand = (o t address : ℕ) (site : Site) → IsSectionAt l o t address → IsSequence l o t site
      → StandsByTheTable o (address + site.start) site

  -- ** byte by byte

  -- if the table gives a sequence another form, that form stands, whole, in the sequence's place
  abbrev pub FormsStand : Type 0
  FormsStand = (o t address : ℕ) (site : Site) (choice : Choice) → IsSectionAt l o t address → IsSequence l o t site
      → Matches l o site choice
      → (bytes : List ℕ) × IsFilled l o site (new_bytes site.form choice site.reg) (new_field site.form choice) bytes
      × (length bytes ≡ site.len) × Stand image (address + site.start) bytes

  -- everywhere else the object's own bytes stand,
  abbrev pub OwnStand : Type 0
  OwnStand = (o t address k : ℕ) → IsSectionAt l o t address → k < section_size (object l o) t
      → IsUnreplaced l o t k → IsPlain l o t k → byte_at image (address + k) ≡ own_byte l o t k

  -- except in fields, which hold the values of their relocations, and these fit
  abbrev pub ValuesStand : Type 0
  ValuesStand = (o t address k : ℕ) (r : Relocation) → IsSectionAt l o t address
      → Contains (relocations (object l o) t) r → Covers r k → IsUnreplaced l o t k
      → (value : Field) × (field l o t r ≡ Some value)
      × (byte_at image (address + k) ≡ slice_get (field_bytes value) (k - r.offset))

  -- ** all of it

  -- the image holds a sequence's rewritten form exactly where its bytes, its relocations, its symbol's binding, the
  -- image's kind and the setting match the table; every other byte of a section is the object's own, fields aside
  pub record HoldsTheTable : Type 0 where
    -- each section of code begins somewhere in the image
    pub placed : (o t : ℕ) → o < length l.objects → section_class (object l o) t ≡ Some Executable
        → (address : ℕ) × IsSectionAt l o t address
    -- and of it, and of each other section that has an address:
    pub sequences : SequencesStand
    pub forms : FormsStand
    pub own : OwnStand
    pub values : ValuesStand
