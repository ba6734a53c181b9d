-- What each relocation stores (psABI, "Relocation Types"; for thread-local storage: Drepper, "ELF Handling For
-- Thread-Local Storage", section 4.4). All sums are over whole numbers, before the field's range is checked.
use Rattle.std.specs.Prelude.{◌-◌, ◌%◌, ◌^◌, ℕ, ℤ, pos, negsuc, ◌+ℤ◌, ◌-ℤ◌, Bool, false, nat_lt, Option, Some, None}
use Rattle.std.specs.Prelude.{if◌then◌else◌}
use Rattle.elf_records.specs.declared.relocation.RelocationKind.{RelocationKind}
use Rattle.elf_records.specs.declared.relocation_row.FieldForm.{FieldForm}
use Rattle.elf_records.specs.declared.relocation_row.FieldForm.TheVariants.{NoField, Signed32, Unsigned32, Wrapped64}
use Rattle.elf_records.specs.declared.relocation_row.FieldValue.{FieldValue}
use Rattle.elf_records.specs.declared.relocation_row.FieldValue.TheVariants.{NoValue, Address, Distance, EntryDistance}
use Rattle.elf_records.specs.declared.relocation_row.FieldValue.TheVariants.{SegmentOffset, ThreadOffset}
use Rattle.elf_records.specs.declared.relocation_row.FieldValue.TheVariants.{DescriptorDistance}
use Rattle.elf_records.specs.RelocationRows.{row}
use Rattle.tls_relocs.specs.declared.fields.Field.{Field}
use Rattle.tls_relocs.specs.declared.fields.Field.TheVariants.{Empty, Word32, Word64}

-- z modulo m; for -(n + 1), that is `negsuc n`, it is m - 1 - n % m
abbrev pub modulo : ℕ → ℤ → ℕ
modulo m (pos n) = n % m
modulo m (negsuc n) = m - 1 - n % m

-- z lies from -2^31 to 2^31 - 1
abbrev pub fits_signed : ℤ → Bool
fits_signed (pos n) = nat_lt n (2 ^ 31)
fits_signed (negsuc n) = nat_lt n (2 ^ 31)

-- z lies from 0 to 2^32 - 1
abbrev pub fits_unsigned : ℤ → Bool
fits_unsigned (pos n) = nat_lt n (2 ^ 32)
fits_unsigned (negsuc n) = false

-- a field of 4 bytes, if z fits
abbrev pub word32 : Bool → ℤ → Option Field
word32 fits z = if fits then Some (Word32 (modulo (2 ^ 32) z)) else None

abbrev pub signed_field : ℤ → Option Field
signed_field z = word32 (fits_signed z) z

abbrev pub unsigned_field : ℤ → Option Field
unsigned_field z = word32 (fits_unsigned z) z

-- a field of 8 bytes, which holds every z
abbrev pub wrapped_field : ℤ → Option Field
wrapped_field z = Some (Word64 (modulo (2 ^ 64) z))

-- the number in a field of this form, None if it does not fit
abbrev pub formed : FieldForm → ℤ → Option Field
formed NoField z = Some Empty
formed Signed32 z = signed_field z
formed Unsigned32 z = unsigned_field z
formed Wrapped64 z = wrapped_field z

-- the number that a field holds, in the psABI's letters: s is S, the symbol's address; a is A, the addend; p is P,
-- the address of the field; g is G, the address of the GOT entry; for offsets in a TLS segment, s is the symbol's
-- offset there, o, and g the number b that is subtracted
abbrev pub held : FieldValue → ℕ → ℤ → ℕ → ℕ → ℤ
held NoValue s a p g = pos 0
held Address s a p g = pos s +ℤ a
held Distance s a p g = (pos s +ℤ a) -ℤ pos p
held EntryDistance s a p g = (pos g +ℤ a) -ℤ pos p
held SegmentOffset o a p b = (pos o +ℤ a) -ℤ pos b
held ThreadOffset o a p b = (pos o +ℤ a) -ℤ pos b
held DescriptorDistance s a p g = (pos g +ℤ a) -ℤ pos p

-- the field that a relocation stores, None if the value does not fit
abbrev pub stored_field : RelocationKind → ℕ → ℤ → ℕ → ℕ → Option Field
stored_field kind s a p g = formed (row kind).form (held (row kind).value s a p g)
