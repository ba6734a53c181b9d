-- The cells of code: for each byte, what it belongs to, and which byte of that it is.
use Rattle.std.specs.Prelude.{◌≡◌, ◌+◌, ◌-◌, ◌&&◌, ◌<◌, ◌≤◌, ◌^◌, ℕ, Bool, List, [], ◌∷◌, Option, None, Some}
use Rattle.std.specs.Prelude.{length, nat_le, nat_lt, slice_get, slice_index_or, option_and_then, if◌then◌else◌}
use Rattle.std.specs.List.{AllWithin}
use Rattle.elf_object.specs.declared.relocation.Relocation.{Relocation}
use Rattle.elf_object.specs.Lent.{relocations, section_class}
use Rattle.elf_object.specs.Object.{section_count}
use Rattle.link_needs.specs.Linking.{Linking, object, sites_at}
use Rattle.meant_images.specs.declared.entries.Entry.{Entry}
use Rattle.meant_images.specs.declared.entries.Entry.TheVariants.{Usual}
use Rattle.meant_images.specs.declared.kept.KeptObject.{KeptObject}
use Rattle.meant_images.specs.declared.painting.Cell.{Cell}
use Rattle.meant_images.specs.Entries.{mark_by, sequence_by}
use Rattle.object_faults.specs.declared.class.SectionClass.TheVariants.{Executable}
use Rattle.sequence_forms.specs.declared.places.Site.{Site}
use Rattle.whole_meaning.specs.Bytes.{covers}
use Rattle.whole_meaning.specs.Code.{is_in_site, sequence_in, spot_mark}
use Rattle.whole_meaning.specs.Spots.{Spot}

-- the cell of a byte that no field and no sequence covers: the first entry
abbrev pub no_cell : Cell
no_cell = record { entry = 0; byte = 0 }

abbrev pub cell_from : ℕ → ℕ → ℕ → Cell
cell_from entry start k = record { entry = entry; byte = k - start }

-- byte k is one of `width` bytes from a place on
abbrev pub is_within : ℕ → ℕ → ℕ → Bool
is_within start width k = nat_le start k && nat_lt k (start + width)

-- the cell of byte k of a section: of the first field that covers it; the entries of these relocations begin with
-- number first
abbrev pub field_cell : ℕ → List Relocation → ℕ → Cell → Cell
field_cell first [] k other = other
field_cell first (r ∷ more) k other =
    if covers k r then cell_from first r.offset k else field_cell (first + 1) more k other

-- likewise for the first sequence that covers it
abbrev pub site_cell : ℕ → List Site → ℕ → ℕ → Cell → Cell
site_cell first [] s k other = other
site_cell first (site ∷ more) s k other =
    if is_in_site s k site then cell_from first site.start k else site_cell (first + 1) more s k other

-- ** of all objects

abbrev pub fields_in : Option KeptObject → ℕ → ℕ
fields_in None s = 0
fields_in (Some it) s = slice_index_or it.fields.items s 0

abbrev pub sites_in : Option KeptObject → ℕ
sites_in None = 0
sites_in (Some it) = it.sites

-- the cell of byte k of section s of object o
unfoldable pub code_cell : List KeptObject → Linking → ℕ → ℕ → ℕ → Cell
code_cell kept l o s k =
    site_cell (sites_in (slice_get kept o)) (sites_at l o) s k
    (field_cell (fields_in (slice_get kept o) s) (relocations (object l o) s) k no_cell)

-- exactly the first n of an object's sequences are in sections below a number
pub record IsSplit (sites : List Site) (section n : ℕ) : Type 0 where
  pub few : n ≤ length sites
  pub below : AllWithin (λ (site : Site). site.section < section) sites 0 n
  pub above : AllWithin (λ (site : Site). section ≤ site.section) sites n (length sites)

-- the numbers of all entries are below 2^32
pub record HaveRoom (l : Linking) (kept : List KeptObject) : Type 0 where
  pub count : length kept ≡ length l.objects
  pub all : (o : ℕ) (it : KeptObject) → slice_get kept o ≡ Some it → length it.fields.items ≡ section_count (object l o)
  pub fields : (o s : ℕ) (it : KeptObject) → slice_get kept o ≡ Some it → s < section_count (object l o)
      → section_class (object l o) s ≡ Some Executable
      → slice_index_or it.fields.items s 0 + length (relocations (object l o) s) ≤ 2 ^ 32
  pub sites : (o : ℕ) (it : KeptObject) → slice_get kept o ≡ Some it → it.sites + length (sites_at l o) ≤ 2 ^ 32

-- ** what cells say

-- the cell says what the definitions find at the byte
pub record Shows (ls : List Linking) (l : Linking) (entries : List Entry) (spot : Option Spot) (cell : Cell) : Type 0
  where
    pub there : cell.entry < length entries
    pub marked : (bias : ℕ) → mark_by bias (slice_index_or entries cell.entry Usual) cell.byte ≡ spot_mark l bias spot
    pub begins : (image number place : ℕ)
        → sequence_by image number place (slice_index_or entries cell.entry Usual) cell.byte
        ≡ option_and_then (sequence_in ls image number l place) spot
