-- What a field holds (elf_records, RelocationRows and Relocations; tls_relocs, Values), with one word changed. Each
-- makes `fields_are_stored` (field_laws) false.
use Rattle.std.specs.Prelude.{◌≡◌, ◌↔◌, ◌-◌, ◌%◌, ◌^◌, ◌==◌, ℕ, ℤ, pos, negsuc, ◌+ℤ◌, ◌-ℤ◌, Bool, false, nat_lt, nat_le}
use Rattle.std.specs.Prelude.{Option, Some, None, if◌then◌else◌}
use Rattle.elf_records.specs.declared.relocation.RelocationKind.{RelocationKind}
use Rattle.elf_records.specs.declared.relocation.RelocationKind.TheVariants.{Absolute32, TpOff32}
use Rattle.elf_records.specs.declared.relocation.TheConstants.{R_X86_64_GOTTPOFF}
use Rattle.elf_records.specs.declared.relocation_row.FieldForm.{FieldForm}
use Rattle.elf_records.specs.declared.relocation_row.FieldForm.TheVariants.{NoField, Signed32, Unsigned32, Wrapped64}
use Rattle.elf_records.specs.declared.relocation_row.FieldPlace.TheVariants.{Anywhere}
use Rattle.elf_records.specs.declared.relocation_row.FieldValue.{FieldValue}
use Rattle.elf_records.specs.declared.relocation_row.FieldValue.TheVariants.{Address, EntryDistance, ThreadOffset}
use Rattle.elf_records.specs.declared.relocation_row.Refused.TheVariants.{WhereMoved}
use Rattle.elf_records.specs.declared.relocation_row.RelocationRow.{RelocationRow}
use Rattle.elf_records.specs.declared.relocation_row.Replaced.TheVariants.{Never}
use Rattle.elf_records.specs.declared.relocation_row.SequencePart.TheVariants.{NoPart}
use Rattle.elf_records.specs.declared.relocation_row.SymbolRole.TheVariants.{Ordinary}
use Rattle.elf_records.specs.declared.relocation_row.TableEntry.TheVariants.{NoEntry}
use Rattle.elf_records.specs.RelocationRows.{row, row_of}
use Rattle.elf_records.specs.Relocations.{relocation_kind}
use Rattle.tls_relocs.specs.declared.fields.Field.{Field}
use Rattle.tls_relocs.specs.declared.fields.Field.TheVariants.{Empty, Word32, Word64}
use Rattle.tls_relocs.specs.Values.{fits_signed, fits_unsigned, held, modulo, stored_field}
use Rattle.field_laws.specs.Laws.{letters_of}
use Rattle.field_laws.specs.Table.{IsAnswer}

-- the statement, of any definition
abbrev pub FieldsAreStoredBy : (ℕ → Option RelocationKind) → (RelocationKind → ℕ → ℤ → ℕ → ℕ → Option Field) → Type 0
FieldsAreStoredBy numbered stored = (number : ℕ) (kind : RelocationKind) → numbered number ≡ Some kind
    → (s : ℕ) (a : ℤ) (p g : ℕ) (answer : Option Field)
    → (stored kind s a p g ≡ answer) ↔ IsAnswer number (letters_of s a p g) answer

-- `stored_field`, over any table, sums, ranges and rest
module _ (row : RelocationKind → RelocationRow) (held : FieldValue → ℕ → ℤ → ℕ → ℕ → ℤ) (signed unsigned : ℤ → Bool)
    (modulo : ℕ → ℤ → ℕ) where
  abbrev pub word32 : Bool → ℤ → Option Field
  word32 fits z = if fits then Some (Word32 (modulo (2 ^ 32) z)) else None

  abbrev pub formed : FieldForm → ℤ → Option Field
  formed NoField z = Some Empty
  formed Signed32 z = word32 (signed z) z
  formed Unsigned32 z = word32 (unsigned z) z
  formed Wrapped64 z = Some (Word64 (modulo (2 ^ 64) z))

  abbrev pub stored_by : RelocationKind → ℕ → ℤ → ℕ → ℕ → Option Field
  stored_by kind s a p g = formed (row kind).form (held (row kind).value s a p g)

-- `fits_signed`: 2^31 fits, since `<` is `≤`
abbrev pub fits_above : ℤ → Bool
fits_above (pos n) = nat_le n (2 ^ 31)
fits_above (negsuc n) = nat_lt n (2 ^ 31)

-- `fits_signed`: -2^31 - 1 fits
abbrev pub fits_below : ℤ → Bool
fits_below (pos n) = nat_lt n (2 ^ 31)
fits_below (negsuc n) = nat_le n (2 ^ 31)

-- `fits_unsigned`: 31 bits for 32
abbrev pub fits_half : ℤ → Bool
fits_half (pos n) = nat_lt n (2 ^ 31)
fits_half (negsuc n) = false

-- `modulo`: m for m - 1, so that each negative number is one too large
abbrev pub modulo_above : ℕ → ℤ → ℕ
modulo_above m (pos n) = n % m
modulo_above m (negsuc n) = m - n % m

-- `held`: an entry's distance is the symbol's, s for g
abbrev pub held_of_symbols : FieldValue → ℕ → ℤ → ℕ → ℕ → ℤ
held_of_symbols EntryDistance s a p g = (pos s +ℤ a) -ℤ pos p
held_of_symbols value s a p g = held value s a p g

-- `held`: offsets from the thread pointer upwards, + for -
abbrev pub held_upwards : FieldValue → ℕ → ℤ → ℕ → ℕ → ℤ
held_upwards ThreadOffset o a p b = (pos o +ℤ a) +ℤ pos b
held_upwards value s a p g = held value s a p g

-- `row`: R_X86_64_32 with a sign
abbrev pub row_with_sign : RelocationKind → RelocationRow
row_with_sign Absolute32 = row_of Address Signed32 Ordinary Anywhere NoEntry NoPart Never WhereMoved
row_with_sign kind = row kind

-- `relocation_kind`: R_X86_64_GOTTPOFF is taken for R_X86_64_TPOFF32
abbrev pub kind_without_entry : ℕ → Option RelocationKind
kind_without_entry n = if n == R_X86_64_GOTTPOFF then Some TpOff32 else relocation_kind n

pub record FieldsAreRefuted : Type 0 where
  -- with no word changed it is the definition
  pub copy : (kind : RelocationKind) (s : ℕ) (a : ℤ) (p g : ℕ)
      → stored_by row held fits_signed fits_unsigned modulo kind s a p g ≡ stored_field kind s a p g
  pub one_more_fits_above : FieldsAreStoredBy relocation_kind (stored_by row held fits_above fits_unsigned modulo) → ⊥
  pub one_more_fits_below : FieldsAreStoredBy relocation_kind (stored_by row held fits_below fits_unsigned modulo) → ⊥
  pub unsigned_has_a_sign : FieldsAreStoredBy relocation_kind (stored_by row held fits_signed fits_half modulo) → ⊥
  pub negative_is_one_too_large :
      FieldsAreStoredBy relocation_kind (stored_by row held fits_signed fits_unsigned modulo_above) → ⊥
  pub entries_mean_symbols :
      FieldsAreStoredBy relocation_kind (stored_by row held_of_symbols fits_signed fits_unsigned modulo) → ⊥
  pub thread_offsets_count_upwards :
      FieldsAreStoredBy relocation_kind (stored_by row held_upwards fits_signed fits_unsigned modulo) → ⊥
  pub absolute_fields_have_a_sign :
      FieldsAreStoredBy relocation_kind (stored_by row_with_sign held fits_signed fits_unsigned modulo) → ⊥
  pub initial_exec_is_local_exec : FieldsAreStoredBy kind_without_entry stored_field → ⊥
