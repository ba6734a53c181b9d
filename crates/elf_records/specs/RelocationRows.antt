-- The table of relocation types (psABI, "Relocation Types"; for thread-local storage: Drepper, "ELF Handling For
-- Thread-Local Storage", section 4), and the questions that a row answers.
use Rattle.std.specs.Prelude.{ℕ, Bool, true, false}
use Rattle.elf_records.specs.declared.relocation.RelocationKind.{RelocationKind}
use Rattle.elf_records.specs.declared.relocation.RelocationKind.TheVariants.{Nothing, Absolute64, Pc32, Plt32}
use Rattle.elf_records.specs.declared.relocation.RelocationKind.TheVariants.{GotPcRel, Absolute32, Absolute32Signed}
use Rattle.elf_records.specs.declared.relocation.RelocationKind.TheVariants.{TlsGd, TlsLd, DtpOff32, GotTpOff}
use Rattle.elf_records.specs.declared.relocation.RelocationKind.TheVariants.{TpOff32, GotPc32TlsDesc, TlsDescCall}
use Rattle.elf_records.specs.declared.relocation.RelocationKind.TheVariants.{GotPcRelX, RexGotPcRelX}
use Rattle.elf_records.specs.declared.relocation_row.FieldForm.{FieldForm}
use Rattle.elf_records.specs.declared.relocation_row.FieldForm.TheVariants.{NoField, Signed32, Unsigned32, Wrapped64}
use Rattle.elf_records.specs.declared.relocation_row.FieldPlace.{FieldPlace}
use Rattle.elf_records.specs.declared.relocation_row.FieldPlace.TheVariants.{Anywhere, InCode}
use Rattle.elf_records.specs.declared.relocation_row.FieldValue.{FieldValue}
use Rattle.elf_records.specs.declared.relocation_row.FieldValue.TheVariants.{NoValue, Address, Distance, EntryDistance}
use Rattle.elf_records.specs.declared.relocation_row.FieldValue.TheVariants.{SegmentOffset, ThreadOffset}
use Rattle.elf_records.specs.declared.relocation_row.FieldValue.TheVariants.{DescriptorDistance}
use Rattle.elf_records.specs.declared.relocation_row.Refused.{Refused}
use Rattle.elf_records.specs.declared.relocation_row.Refused.TheVariants.{Accepted, InModule, WhereMoved}
use Rattle.elf_records.specs.declared.relocation_row.RelocationRow.{RelocationRow}
use Rattle.elf_records.specs.declared.relocation_row.Replaced.{Replaced}
use Rattle.elf_records.specs.declared.relocation_row.Replaced.TheVariants.{Never, Always, WhereOwn, WhereRuntime}
use Rattle.elf_records.specs.declared.relocation_row.SequencePart.{SequencePart}
use Rattle.elf_records.specs.declared.relocation_row.SequencePart.TheVariants.{NoPart, First, Second}
use Rattle.elf_records.specs.declared.relocation_row.SymbolRole.{SymbolRole}
use Rattle.elf_records.specs.declared.relocation_row.SymbolRole.TheVariants.{NoSymbol, Ordinary, OwnVariable}
use Rattle.elf_records.specs.declared.relocation_row.SymbolRole.TheVariants.{AnyVariable}
use Rattle.elf_records.specs.declared.relocation_row.TableEntry.{TableEntry}
use Rattle.elf_records.specs.declared.relocation_row.TableEntry.TheVariants.{NoEntry, ModulePair, SymbolPair}
use Rattle.elf_records.specs.declared.relocation_row.TableEntry.TheVariants.{Descriptor}
use Rattle.elf_records.specs.declared.relocation_row.TableEntry.TheVariants.{SymbolWord, AddressWord}

abbrev pub row_of : FieldValue → FieldForm → SymbolRole → FieldPlace → TableEntry → SequencePart → Replaced → Refused
    → RelocationRow
row_of value form symbol place entry part replaced refused = record {
  value = value;
  form = form;
  symbol = symbol;
  place = place;
  entry = entry;
  part = part;
  replaced = replaced;
  refused = refused;
}

-- the table, by the psABI's letters; O is a symbol's offset in the TLS segment, and B how far the segment's block
-- begins below the thread pointer
abbrev pub row : RelocationKind → RelocationRow
-- nothing
row Nothing = row_of NoValue NoField NoSymbol Anywhere NoEntry NoPart Never Accepted
-- S + A, in 64 bits
row Absolute64 = row_of Address Wrapped64 Ordinary Anywhere NoEntry NoPart Never Accepted
-- S + A - P
row Pc32 = row_of Distance Signed32 Ordinary Anywhere NoEntry Second WhereRuntime Accepted
-- L + A - P: L is S, or the stub of a function that is called through a table
row Plt32 = row_of Distance Signed32 Ordinary InCode NoEntry Second WhereRuntime Accepted
-- G + A - P
row GotPcRel = row_of EntryDistance Signed32 Ordinary InCode AddressWord Second WhereRuntime Accepted
-- S + A, without a sign
row Absolute32 = row_of Address Unsigned32 Ordinary Anywhere NoEntry NoPart Never WhereMoved
-- S + A, with a sign
row Absolute32Signed = row_of Address Signed32 Ordinary Anywhere NoEntry NoPart Never WhereMoved
-- G + A - P, of the pair of a variable
row TlsGd = row_of EntryDistance Signed32 AnyVariable InCode SymbolPair First Always Accepted
-- G + A - P, of the pair of this module
row TlsLd = row_of EntryDistance Signed32 OwnVariable InCode ModulePair First Always Accepted
-- O + A
row DtpOff32 = row_of SegmentOffset Signed32 OwnVariable InCode NoEntry NoPart Never Accepted
-- G + A - P, of a variable's offset from the thread pointer
row GotTpOff = row_of EntryDistance Signed32 AnyVariable InCode SymbolWord First WhereOwn Accepted
-- O + A - B
row TpOff32 = row_of ThreadOffset Signed32 OwnVariable Anywhere NoEntry NoPart Never InModule
-- G + A - P, of a variable's descriptor
row GotPc32TlsDesc = row_of DescriptorDistance Signed32 AnyVariable InCode Descriptor First Always Accepted
-- nothing: it marks the call through a descriptor
row TlsDescCall = row_of NoValue NoField AnyVariable InCode NoEntry First Never Accepted
-- G + A - P, in an instruction that a linker may rewrite
row GotPcRelX = row_of EntryDistance Signed32 Ordinary InCode AddressWord Second WhereRuntime Accepted
-- the same, in an instruction with a REX prefix
row RexGotPcRelX = row_of EntryDistance Signed32 Ordinary InCode AddressWord Second WhereRuntime Accepted

-- ** the field

-- how many bytes it has
abbrev pub form_width : FieldForm → ℕ
form_width NoField = 0
form_width Signed32 = 4
form_width Unsigned32 = 4
form_width Wrapped64 = 8

-- the types whose field holds an address of 8 bytes
abbrev pub is_wide : FieldForm → Bool
is_wide Wrapped64 = true
is_wide form = false

abbrev pub is_absolute : RelocationKind → Bool
is_absolute kind = is_wide (row kind).form

-- the types whose field holds an offset in a TLS segment
abbrev pub is_tls_offset : FieldValue → Bool
is_tls_offset SegmentOffset = true
is_tls_offset ThreadOffset = true
is_tls_offset value = false

abbrev pub is_offset : RelocationKind → Bool
is_offset kind = is_tls_offset (row kind).value

-- the types whose field holds an address, a distance or a thread offset, with no table of the linker involved
abbrev pub is_own_value : FieldValue → Bool
is_own_value Address = true
is_own_value Distance = true
is_own_value ThreadOffset = true
is_own_value value = false

abbrev pub has_value : RelocationKind → Bool
has_value kind = is_own_value (row kind).value

-- ** its symbol

-- a relocation of type NONE names nothing
abbrev pub is_named : SymbolRole → Bool
is_named NoSymbol = false
is_named role = true

abbrev pub names_symbol : RelocationKind → Bool
names_symbol kind = is_named (row kind).symbol

-- the types for thread-local storage
abbrev pub is_variable : SymbolRole → Bool
is_variable OwnVariable = true
is_variable AnyVariable = true
is_variable role = false

abbrev pub is_tls_kind : RelocationKind → Bool
is_tls_kind kind = is_variable (row kind).symbol

-- the types that may name another image's variable: the loader fills in what they need
abbrev pub is_any_variable : SymbolRole → Bool
is_any_variable AnyVariable = true
is_any_variable role = false

abbrev pub may_import : RelocationKind → Bool
may_import kind = is_any_variable (row kind).symbol

-- ** the global offset table

-- the types whose field reaches an entry that holds an address
abbrev pub is_address_word : TableEntry → Bool
is_address_word AddressWord = true
is_address_word entry = false

abbrev pub is_address_kind : RelocationKind → Bool
is_address_kind kind = is_address_word (row kind).entry
