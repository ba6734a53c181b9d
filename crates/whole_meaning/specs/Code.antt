-- The mark of each address of an instance's code, and the sequence that begins there.
use Rattle.std.specs.Prelude.{ℕ, pos, ◌+ℤ◌, ◌+◌, ◌-◌, ◌*◌, ◌%◌, ◌^◌, ◌==◌, ◌&&◌, Bool, List, Option, Some, None, nat_le}
use Rattle.std.specs.Prelude.{nat_lt, unwrap_or, option_map, option_and_then}
use Rattle.std.specs.List.{find}
use Rattle.amd64_subset.specs.Register.{register_of as numbered_register}
use Rattle.elf_object.specs.declared.relocation.Relocation.{Relocation}
use Rattle.elf_object.specs.Lent.{relocations, symbol_name}
use Rattle.elf_records.specs.declared.relocation.RelocationKind.{RelocationKind}
use Rattle.elf_records.specs.declared.relocation_row.FieldValue.{FieldValue}
use Rattle.elf_records.specs.declared.relocation_row.FieldValue.TheVariants.{SegmentOffset}
use Rattle.elf_records.specs.declared.relocation_row.TableEntry.{TableEntry}
use Rattle.elf_records.specs.declared.relocation_row.TableEntry.TheVariants.{AddressWord}
use Rattle.elf_records.specs.RelocationRows.{row}
use Rattle.link_faults.specs.declared.binding.Binding.{Binding}
use Rattle.link_faults.specs.declared.binding.Binding.TheVariants.{Here, Startup}
use Rattle.link_faults.specs.declared.symbol_ref.SymbolRef.{SymbolRef}
use Rattle.link_needs.specs.Linking.{Linking, binding, object, offset, sites_at}
use Rattle.object_faults.specs.declared.class.SectionClass.TheVariants.{Executable}
use Rattle.sequence_forms.specs.declared.forms.Form.{Form}
use Rattle.sequence_forms.specs.declared.forms.Form.TheVariants.{Ld, LdInd}
use Rattle.sequence_forms.specs.declared.places.Site.{Site}
use Rattle.sequence_match.specs.Sites.{first_of}
use Rattle.thread_blocks.specs.Turns.{at_number}
use Rattle.tls_relocs.specs.Values.{modulo}
use Rattle.tls_symbols.specs.Definitions.{definition_of}
use Rattle.whole_meaning.specs.declared.marks.Mark.{Mark}
use Rattle.whole_meaning.specs.declared.marks.Mark.TheVariants.{Usual, Offset, Address, Inside}
use Rattle.whole_meaning.specs.Bytes.{covers, symbol_number}
use Rattle.whole_meaning.specs.declared.sequences.Sequence.{Sequence}
use Rattle.whole_meaning.specs.Spots.{Spot, bias_of, moved_spot}

-- ** sequences in sections

-- byte k of section s lies in the site
abbrev pub is_in_site : ℕ → ℕ → Site → Bool
is_in_site s k site = (site.section == s) && (nat_le site.start k && nat_lt k (site.start + site.len))

-- the site begins at byte k of section s
abbrev pub starts_at : ℕ → ℕ → Site → Bool
starts_at s k site = (site.section == s) && (site.start == k)

-- ** marks

-- bias: the instance's load bias
module _ (l : Linking) (bias : ℕ) where
  -- O + A, an integer that may be negative, as a word
  abbrev pub offset_number : Relocation → Option Binding → ℕ
  offset_number r (Some (Here found)) = modulo (2 ^ 64) (pos (offset l found) +ℤ r.addend)
  offset_number r bound = 0

  -- S at the instance's address
  abbrev pub address_number : Relocation → Option Binding → ℕ
  address_number r bound = symbol_number l bias r.kind bound % 2 ^ 64

  -- byte k of the field of a relocation, by its value and the table entry that it reaches
  abbrev pub mark_for : ℕ → Relocation → Option Binding → FieldValue → TableEntry → Mark
  mark_for k r bound SegmentOffset entry = Offset (offset_number r bound) (k - r.offset)
  mark_for k r bound value AddressWord = Address (address_number r bound) r.addend (k - r.offset)
  mark_for k r bound value entry = Usual

  abbrev pub field_mark : ℕ → Relocation → Option Binding → RelocationKind → Mark
  field_mark k r bound kind = mark_for k r bound (row kind).value (row kind).entry

  abbrev pub relocated_mark : ℕ → ℕ → Option Relocation → Mark
  relocated_mark o k None = Usual
  relocated_mark o k (Some r) = field_mark k r (binding l o r) r.kind

  abbrev pub site_mark : Option Site → Mark → Mark
  site_mark None other = other
  site_mark (Some site) other = Inside

  abbrev pub spot_mark : Option Spot → Mark
  spot_mark None = Usual
  spot_mark (Some spot) =
      site_mark (find (is_in_site spot.section spot.within) (sites_at l spot.object))
      (relocated_mark spot.object spot.within
      (find (covers spot.within) (relocations (object l spot.object) spot.section)))

  -- the mark of an address of the instance
  unfoldable pub mark_of : ℕ → Mark
  mark_of place = spot_mark (moved_spot l Executable bias place)

-- ** symbols as numbers

-- a symbol of an object of an image, as a number that no other symbol has, if an image has fewer than 2^32 objects,
-- and an object fewer than 2^24 symbols
abbrev pub definition_number : ℕ → SymbolRef → ℕ
definition_number image found = (image * 2 ^ 32 + found.object) * 2 ^ 24 + found.symbol

-- ** the sequence that begins at an address

-- a variable: the instance in whose blocks it lies, its offset there, and its definition's number
pub record Variable : Type 0 where
  pub target : ℕ
  pub offset : ℕ
  pub symbol : ℕ

abbrev pub no_variable : Variable
no_variable = record { target = 0; offset = 0; symbol = 0 }

-- the variable of a definition of image l, which has this number and this instance
abbrev pub defined_in : Linking → ℕ → ℕ → SymbolRef → Variable
defined_in l image number found =
    record { target = number; offset = offset l found; symbol = definition_number image found }

-- a startup image and its instance have the same number
abbrev pub shared_by : List ℕ → ℕ → Linking → Option Variable
shared_by name image l = option_map (defined_in l image image) (definition_of l.objects name)

-- ls: the images of the job; image, number: those of the instance whose code it is in
module _ (ls : List Linking) (image number : ℕ) where
  abbrev pub variable_by : Linking → ℕ → Site → Option Binding → Option Variable
  variable_by l o site (Some (Here found)) = Some (defined_in l image number found)
  variable_by l o site (Some (Startup k)) =
      option_and_then (shared_by (symbol_name (object l o) site.symbol) k) (at_number ls k)
  variable_by l o site bound = None

  -- a Local Dynamic sequence asks for the block of its own instance, whatever symbol it names
  abbrev pub variable_for : Linking → ℕ → Site → Form → Option Variable
  variable_for l o site Ld = Some (record { target = number; offset = 0; symbol = 0 })
  variable_for l o site LdInd = Some (record { target = number; offset = 0; symbol = 0 })
  variable_for l o site form = variable_by l o site (binding l o (first_of site))

  abbrev pub sequence_with : ℕ → Site → Variable → Sequence
  sequence_with place site v = record {
    form = site.form;
    next = place + site.len;
    register = numbered_register site.reg;
    instance = number;
    symbol = v.symbol;
    target = v.target;
    offset = v.offset;
  }

  abbrev pub sequence_in : Linking → ℕ → Spot → Option Sequence
  sequence_in l place spot = option_map
      (λ site. sequence_with place site (unwrap_or (variable_for l spot.object site site.form) no_variable))
      (find (starts_at spot.section spot.within) (sites_at l spot.object))

  -- the sequence at an address of the image's instance, if one begins there
  unfoldable pub sequence_of : Linking → ℕ → Option Sequence
  sequence_of l place =
      option_and_then (sequence_in l place) (moved_spot l Executable (bias_of l.kind number) place)
