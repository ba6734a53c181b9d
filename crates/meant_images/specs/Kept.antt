-- The entries of the relocations and the sequences of each object.
use Rattle.std.specs.Prelude.{◌≡◌, ◌+◌, ◌<◌, ◌≤◌, ℕ, List, Some, length, slice_get, slice_index_or}
use Rattle.std.specs.List.{All}
use Rattle.elf_object.specs.declared.relocation.Relocation.{Relocation}
use Rattle.elf_object.specs.Lent.{relocations, section_class}
use Rattle.elf_object.specs.Object.{section_count}
use Rattle.link_needs.specs.Linking.{Linking, object, sites_at}
use Rattle.meant_images.specs.declared.entries.Entry.{Entry}
use Rattle.meant_images.specs.declared.entries.Entry.TheVariants.{Usual}
use Rattle.meant_images.specs.declared.kept.KeptObject.{KeptObject}
use Rattle.meant_images.specs.Entries.{IsFieldEntry, IsNumberedEntry, IsSiteEntry}
use Rattle.object_faults.specs.declared.class.SectionClass.TheVariants.{Executable}
use Rattle.sequence_forms.specs.declared.places.Site.{Site}

-- the new list has all entries of the old one, under their numbers
pub record Grows (old new : List Entry) : Type 0 where
  pub longer : length old ≤ length new
  pub kept : (e : ℕ) (it : Entry) → slice_get old e ≡ Some it → slice_get new e ≡ Some it

-- the entries of the first n relocations, from number first on
abbrev pub FieldsBelow : Linking → ℕ → List Entry → List Relocation → ℕ → ℕ → Type 0
FieldsBelow l o entries rs first n = (i : ℕ) (r : Relocation) → i < n → slice_get rs i ≡ Some r
    → (it : Entry) × ((slice_get entries (first + i) ≡ Some it) × IsFieldEntry l o r it)

-- the entries of all relocations
pub record AreFields (l : Linking) (o : ℕ) (entries : List Entry) (rs : List Relocation) (first : ℕ) : Type 0 where
  pub inside : first + length rs ≤ length entries
  pub each : FieldsBelow l o entries rs first (length rs)

-- the entries of the first n sequences
abbrev pub SequencesBelow : List Linking → Linking → ℕ → List Entry → List Site → ℕ → ℕ → Type 0
SequencesBelow ls l o entries sites first n = (i : ℕ) (site : Site) → i < n → slice_get sites i ≡ Some site
    → (it : Entry) × ((slice_get entries (first + i) ≡ Some it) × IsSiteEntry ls l o site it)

pub record AreSequences (ls : List Linking) (l : Linking) (o : ℕ) (entries : List Entry) (sites : List Site)
    (first : ℕ) : Type 0 where
  pub inside : first + length sites ≤ length entries
  pub each : SequencesBelow ls l o entries sites first (length sites)

-- the entries of the sections of code below number n
abbrev pub KeepsFields : Linking → ℕ → List Entry → List ℕ → ℕ → Type 0
KeepsFields l o entries firsts n = (s : ℕ) → s < n → section_class (object l o) s ≡ Some Executable
    → AreFields l o entries (relocations (object l o) s) (slice_index_or firsts s 0)

-- the entries of an object
pub record Keeps (ls : List Linking) (l : Linking) (o : ℕ) (entries : List Entry) (kept : KeptObject) : Type 0 where
  pub all : length kept.fields.items ≡ section_count (object l o)
  pub fields : KeepsFields l o entries kept.fields.items (section_count (object l o))
  pub sites : AreSequences ls l o entries (sites_at l o) kept.sites

-- the entries of the first n objects
pub record KeepAll (ls : List Linking) (l : Linking) (entries : List Entry) (kept : List KeptObject) (n : ℕ) : Type 0
  where
    pub count : length kept ≡ n
    pub each : (o : ℕ) (it : KeptObject) → slice_get kept o ≡ Some it → Keeps ls l o entries it

-- the first entry is what the program alone decides, and each sequence has its numbers
pub record AreEntries (entries : List Entry) : Type 0 where
  pub first : slice_get entries 0 ≡ Some Usual
  pub numbered : All IsNumberedEntry entries
