-- The image of linked objects holds the table.
use Rattle.std.specs.Prelude.{◌≡◌, ◌≢◌, ◌+◌, ◌<◌, ℕ, false, Some, slice_get}
use Rattle.elf_object.specs.Lent.{section_size}
use Rattle.image_file.specs.Spelled.{Spelled}
use Rattle.link_core.specs.Images.{image_of}
use Rattle.link_core.specs.Laws.{HasNoStray}
use Rattle.link_needs.specs.Given.{IsGiven}
use Rattle.link_needs.specs.Linking.{Linking, choice, object}
use Rattle.link_tables.specs.Faults.{Links}
use Rattle.relax_sites.specs.declared.choices.Choice.{Choice}
use Rattle.relax_sites.specs.declared.choices.Choice.TheVariants.{Keep}
use Rattle.relax_sites.specs.Rows.{new_bytes, new_field}
use Rattle.sequence_forms.specs.declared.forms.Cell.{Cell}
use Rattle.sequence_forms.specs.declared.forms.Form.{Form}
use Rattle.sequence_forms.specs.declared.places.Site.{Site}
use Rattle.sequence_forms.specs.Forms.{fits, row}
use Rattle.sequence_match.specs.Sites.{IsLiteral}
use Rattle.standing_sequences.specs.Bytes.{IsOutside, IsSectionAt, byte_at}
use Rattle.standing_sequences.specs.Images.{FormsStand, HoldsTheTable, OwnStand, SequencesStand, ValuesStand}
use Rattle.standing_sequences.specs.Table.{Matches, MayReplace}

-- objects that link, whose thread-local accesses are all sequences: `link` makes `image_of` from them, and `run`
-- loads it
pub record IsLinked (l : Linking) : Type 0 where
  pub given : IsGiven l
  pub links : Links l
  pub stray : HasNoStray l

-- ** byte by byte

abbrev pub RewrittenFormsStand : Type 0
RewrittenFormsStand = (l : Linking) → IsLinked l → FormsStand l (image_of l)

abbrev pub OwnBytesStand : Type 0
OwnBytesStand = (l : Linking) → IsLinked l → OwnStand l (image_of l)

abbrev pub FieldsStand : Type 0
FieldsStand = (l : Linking) → IsLinked l → ValuesStand l (image_of l)

-- ** sequence by sequence

-- a byte of a rewritten form, outside its field, that no sequence of the form has there, and that
-- is in none of its fields
pub record Differs (form : Form) (choice : Choice) (reg : ℕ) : Type 0 where
  pub at : ℕ
  pub cell : Cell
  pub cell_is : slice_get (row form).cells at ≡ Some cell
  pub literal : IsLiteral cell
  pub byte : ℕ
  pub byte_is : slice_get (new_bytes form choice reg) at ≡ Some byte
  pub outside : IsOutside (new_field form choice) at
  pub other : fits cell byte ≡ false

-- so a rewritten form cannot be mistaken for the sequence that it replaces, whatever their fields hold
abbrev pub RowsDiffer : Type 0
RowsDiffer = (form : Form) (choice : Choice) (reg : ℕ) → MayReplace form choice → Differs form choice reg

abbrev pub SequencesStandByTheTable : Type 0
SequencesStandByTheTable = (l : Linking) → IsLinked l → SequencesStand l (image_of l)

-- ** all of it

abbrev pub LinkedImagesHoldTheTable : Type 0
LinkedImagesHoldTheTable = (l : Linking) → IsLinked l → HoldsTheTable l (image_of l)

-- and that is all of each section: two images that hold the table have the same bytes there
abbrev pub ImagesWithTheTableAgree : Type 0
ImagesWithTheTableAgree = (l : Linking) (image other : Spelled) → IsLinked l → HoldsTheTable l image
    → HoldsTheTable l other → (o t address k : ℕ) → IsSectionAt l o t address → k < section_size (object l o) t
    → byte_at image (address + k) ≡ byte_at other (address + k)

-- ** the linker's choice

-- the linker's choice for a sequence, other than to keep it, is that of the table
abbrev pub ChoicesAreTheTables : Type 0
ChoicesAreTheTables = (l : Linking) (o : ℕ) (site : Site) (chosen : Choice) → chosen ≢ Keep
    → (choice l o site ≡ chosen → Matches l o site chosen) × (Matches l o site chosen → choice l o site ≡ chosen)
