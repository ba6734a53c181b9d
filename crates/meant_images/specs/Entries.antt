-- What a byte of code can belong to, as the code keeps it, and what that makes of the byte.
use Rattle.std.specs.Prelude.{◌≡◌, ◌-◌, ◌+◌, ◌%◌, ◌^◌, ◌<◌, ℕ, zero, true, false, List, Option, Some, None, unwrap_or}
use Rattle.elf_object.specs.declared.relocation.Relocation.{Relocation}
use Rattle.link_faults.specs.declared.binding.Binding.{Binding}
use Rattle.link_faults.specs.declared.binding.Binding.TheVariants.{Here}
use Rattle.link_needs.specs.Linking.{Linking, address, binding}
use Rattle.meant_images.specs.declared.entries.Entry.{Entry}
use Rattle.meant_images.specs.declared.entries.Entry.TheVariants as entry
use Rattle.meant_images.specs.declared.entries.SitePart.{SitePart}
use Rattle.meant_images.specs.Targets.{IsNumbered, variable_seen}
use Rattle.sequence_forms.specs.declared.places.Site.{Site}
use Rattle.whole_meaning.specs.declared.marks.Mark.{Mark}
use Rattle.whole_meaning.specs.declared.marks.Mark.TheVariants as mark
use Rattle.whole_meaning.specs.Code.{Variable, field_mark, no_variable, sequence_with, variable_for}
use Rattle.whole_meaning.specs.declared.sequences.Sequence.{Sequence}

-- the mark of byte k of an entry, in an instance that is moved by a bias
abbrev pub mark_by : ℕ → Entry → ℕ → Mark
mark_by bias entry.Usual k = mark.Usual
mark_by bias (entry.Offset number) k = mark.Offset number k
mark_by bias (entry.Address number addend false) k = mark.Address number addend k
mark_by bias (entry.Address number addend true) k = mark.Address ((number + bias) % 2 ^ 64) addend k
mark_by bias (entry.Sequence part) k = mark.Inside

-- the sequence in an instance of an image
abbrev pub sequence_seen : ℕ → ℕ → SitePart → Variable → Sequence
sequence_seen number place part v = record {
  form = part.form;
  next = place + part.len;
  register = part.register;
  instance = number;
  symbol = v.symbol;
  target = v.target;
  offset = v.offset;
}

abbrev pub begun : ℕ → ℕ → ℕ → SitePart → Sequence
begun image number place part = sequence_seen number place part (variable_seen image number part.target)

-- the sequence that begins at byte k of an entry, if k is 0
abbrev pub sequence_by : ℕ → ℕ → ℕ → Entry → ℕ → Option Sequence
sequence_by image number place (entry.Sequence part) zero = Some (begun image number place part)
sequence_by image number place other k = None

-- ** what an entry is made from

abbrev pub address_entry : Linking → Relocation → Option Binding → Entry
address_entry l r (Some (Here found)) = entry.Address (address l found) r.addend true
address_entry l r bound = entry.Address 0 r.addend false

-- the entry is that of a relocation's field
pub record IsFieldEntry (l : Linking) (o : ℕ) (r : Relocation) (it : Entry) : Type 0 where
  pub marked : (bias k : ℕ) → mark_by bias it (k - r.offset) ≡ field_mark l bias k r (binding l o r) r.kind
  pub begins : (image number place k : ℕ) → sequence_by image number place it k ≡ None

-- the entry is that of a sequence
pub record IsSiteEntry (ls : List Linking) (l : Linking) (o : ℕ) (site : Site) (it : Entry) : Type 0 where
  pub marked : (bias k : ℕ) → mark_by bias it k ≡ mark.Inside
  pub begins : (image number place : ℕ) → sequence_by image number place it 0
      ≡ Some (sequence_with ls image number place site
      (unwrap_or (variable_for ls image number l o site site.form) no_variable))
  pub goes_on : (image number place k : ℕ) → 0 < k → sequence_by image number place it k ≡ None

-- the entry's sequence is short, and its variable has a number
abbrev pub IsNumberedEntry : Entry → Type 0
IsNumberedEntry (entry.Sequence part) = IsNumbered part.target × (part.len < 2 ^ 32)
IsNumberedEntry other = Unit {0}
