-- The words of the table of entries, as bytes.
use Rattle.std.specs.Prelude.{ℕ, List}
use Rattle.std.specs.List.{flat_map}
use Rattle.elf_records.specs.Fields.{bytes_of}
use Rattle.got_pairs.specs.Entries.{entry_of, words}
use Rattle.got_pairs.specs.Plans.{Table}

-- the words of all entries of a table
abbrev pub table_bytes : Table → List ℕ
table_bytes t =
    flat_map (λ need. flat_map (λ w. bytes_of 8 w.number) (words (entry_of t.kind t.block_offset need))) t.entries
