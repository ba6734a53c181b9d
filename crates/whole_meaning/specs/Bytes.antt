-- The bytes in the sections of an instance, by the table of relocations alone (psABI, "Relocation Types"), and its
-- variables and functions. No table that a linker makes is used.
use Rattle.std.specs.Prelude.{ℕ, ◌+◌, ◌-◌, ◌&&◌, ◌++◌, Bool, true, List, Option, Some, None, length, map, nat_le}
use Rattle.std.specs.Prelude.{nat_lt, replicate, slice_index_or, unwrap_or, option_and_then, if◌then◌else◌}
use Rattle.std.specs.List.{find, range_with_len}
use Rattle.elf_object.specs.declared.relocation.Relocation.{Relocation}
use Rattle.elf_object.specs.declared.symbol.SymbolPlace.{SymbolPlace}
use Rattle.elf_object.specs.declared.symbol.SymbolPlace.TheVariants.{InSection}
use Rattle.elf_object.specs.Lent.{relocations, section_bytes, section_class, symbol_place}
use Rattle.elf_records.specs.declared.relocation.RelocationKind.{RelocationKind}
use Rattle.elf_records.specs.declared.relocation_row.FieldValue.{FieldValue}
use Rattle.elf_records.specs.declared.relocation_row.FieldValue.TheVariants.{ThreadOffset}
use Rattle.elf_records.specs.RelocationRows.{row, is_offset}
pub use Rattle.elf_records.specs.RelocationRows.{has_value}
use Rattle.elf_records.specs.Relocations.{field_width}
use Rattle.link_faults.specs.declared.binding.Binding.{Binding}
use Rattle.link_faults.specs.declared.binding.Binding.TheVariants.{Here}
use Rattle.link_faults.specs.declared.symbol_ref.SymbolRef.{SymbolRef}
use Rattle.link_needs.specs.Linking.{Linking, address, binding, block_offset, layout, object, offset, place}
use Rattle.object_faults.specs.declared.class.SectionClass.{SectionClass}
use Rattle.object_faults.specs.declared.class.SectionClass.TheVariants.{Executable, Tls}
use Rattle.tls_layout.specs.Places.{extent_for}
use Rattle.tls_layout.specs.Places.{executable, tls_size}
use Rattle.tls_layout.specs.Sections.{is_class}
use Rattle.tls_relocs.specs.declared.fields.Field.{Field}
use Rattle.tls_relocs.specs.declared.fields.Field.TheVariants.{Empty}
use Rattle.tls_relocs.specs.Fields.{field_bytes}
use Rattle.tls_relocs.specs.Values.{stored_field}
use Rattle.tls_symbols.specs.Bindings.{is_tls_symbol}
use Rattle.tls_symbols.specs.Definitions.{definition_of}
use Rattle.whole_meaning.specs.Spots.{Spot, spot_in}

-- ** fields

-- byte k of a section lies in the relocation's field
abbrev pub covers : ℕ → Relocation → Bool
covers k r = nat_le r.offset k && nat_lt k (r.offset + field_width r.kind)

-- bias: the instance's load bias
module _ (l : Linking) (bias : ℕ) where
  -- S, the symbol's address in the instance, or O, its offset in the TLS segment; a field that names the run time's
  -- function lies in a sequence, of which no byte is read
  abbrev pub symbol_number : RelocationKind → Option Binding → ℕ
  symbol_number kind (Some (Here found)) = if is_offset kind then offset l found else address l found + bias
  symbol_number kind bound = 0

  -- the number that is subtracted from an offset from the thread pointer
  abbrev pub subtracted : FieldValue → ℕ
  subtracted ThreadOffset = block_offset l
  subtracted value = 0

  -- the field of a relocation of section s of object o, at the instance's address
  unfoldable pub value_of : ℕ → ℕ → Relocation → Option Field
  value_of o s r =
      stored_field r.kind (symbol_number r.kind (binding l o r)) r.addend (place l o s r.offset + bias)
      (subtracted (row r.kind).value)

  -- ** bytes

  abbrev pub byte_by : ℕ → ℕ → ℕ → Option Relocation → ℕ
  byte_by o s k None = slice_index_or (section_bytes (object l o) s) k 0
  byte_by o s k (Some r) = slice_index_or (field_bytes (unwrap_or (value_of o s r) Empty)) (k - r.offset) 0

  -- a byte of a section: that of the field that covers it, or else the section's own
  abbrev pub byte_of : Option Spot → ℕ
  byte_of None = 0
  byte_of (Some spot) = byte_by spot.object spot.section spot.within
      (find (λ r. has_value r.kind && covers spot.within r) (relocations (object l spot.object) spot.section))

  -- the bytes of a class, from its start to its end; between sections they are zeros
  unfoldable pub class_bytes : SectionClass → List ℕ
  class_bytes class =
      let extent = extent_for class (layout l) in
      map (λ address. byte_of (spot_in l class address)) (range_with_len extent.start (extent.end - extent.start))

  -- a thread's block before any write: the initial image and then zeros (gABI, "Program Loading")
  abbrev pub block_bytes : List ℕ
  block_bytes = let initial = class_bytes (Tls true) in
      initial ++ replicate (tls_size (layout l).sections - length initial) 0

-- ** functions and variables

-- a symbol of object o at this offset in its section, if it is a byte of the executable class
abbrev pub below : ℕ → ℕ → Option ℕ
below end at = if nat_lt at end then Some at else None

abbrev pub code_place : Linking → SymbolRef → SymbolPlace → Option ℕ
code_place l found (InSection s) = if is_class Executable (section_class (object l found.object) s)
    then below (executable (layout l).kind (layout l).sections).end (address l found)
    else None
code_place l found at = None

abbrev pub function_at : Linking → SymbolRef → Option ℕ
function_at l found = code_place l found (symbol_place (object l found.object) found.symbol)

abbrev pub variable_at : Linking → SymbolRef → Option ℕ
variable_at l found =
    if is_tls_symbol (object l found.object) found.symbol then Some (offset l found) else None

-- the address of a function by its name, before the load bias is added, and the offset of a variable in a block
unfoldable pub function_of : Linking → List ℕ → Option ℕ
function_of l name = option_and_then (function_at l) (definition_of l.objects name)

unfoldable pub variable_of : Linking → List ℕ → Option ℕ
variable_of l name = option_and_then (variable_at l) (definition_of l.objects name)
