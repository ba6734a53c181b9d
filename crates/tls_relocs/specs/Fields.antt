-- What a relocated field holds: a number of 0, 4 or 8 bytes, the lowest byte first (gABI, "Data Representation").
use Rattle.std.specs.Prelude.{ℕ, List, []}
use Rattle.elf_records.specs.Fields.{bytes_of}
use Rattle.tls_relocs.specs.declared.fields.Field.{Field}
use Rattle.tls_relocs.specs.declared.fields.Field.TheVariants.{Empty, Word32, Word64}

-- its bytes
abbrev pub field_bytes : Field → List ℕ
field_bytes Empty = []
field_bytes (Word32 w) = bytes_of 4 w
field_bytes (Word64 w) = bytes_of 8 w
