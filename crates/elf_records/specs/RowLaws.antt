-- Which rows of relocations are distances, and which reach an entry.
use Rattle.std.specs.Prelude.{Bool, true, false}
use Rattle.elf_records.specs.declared.relocation.RelocationKind.{RelocationKind}
use Rattle.elf_records.specs.declared.relocation_row.FieldValue.{FieldValue}
use Rattle.elf_records.specs.declared.relocation_row.FieldValue.TheVariants.{Distance}
use Rattle.elf_records.specs.declared.relocation_row.SequencePart.{SequencePart}
use Rattle.elf_records.specs.declared.relocation_row.SequencePart.TheVariants.{First}
use Rattle.elf_records.specs.declared.relocation_row.TableEntry.{TableEntry}
use Rattle.elf_records.specs.declared.relocation_row.TableEntry.TheVariants.{NoEntry}
use Rattle.elf_records.specs.RelocationRows.{row}

-- the types whose field holds the distance from the field to a symbol
abbrev pub is_place_distance : FieldValue → Bool
is_place_distance Distance = true
is_place_distance value = false

abbrev pub is_distance : RelocationKind → Bool
is_distance kind = is_place_distance (row kind).value

-- the types whose field reaches an entry of it
abbrev pub is_entry : TableEntry → Bool
is_entry NoEntry = false
is_entry entry = true

abbrev pub reaches_entry : RelocationKind → Bool
reaches_entry kind = is_entry (row kind).entry

-- ** sequences

-- the types that stand only in sequences, as the first relocation
abbrev pub is_first : SequencePart → Bool
is_first First = true
is_first part = false

abbrev pub is_of_sequence : RelocationKind → Bool
is_of_sequence kind = is_first (row kind).part
