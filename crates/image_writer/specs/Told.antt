-- What a draft says of an image's dynamic tables, wherever the bytes of its parts stand.
use Rattle.std.specs.Prelude.{◌+◌, ◌-◌, ◌*◌, ◌^◌, ◌<◌, ◌==◌, ℕ, Bool, true, false, List, [], ◌∷◌, ◌++◌, length}
use Rattle.std.specs.Prelude.{replicate}
use Rattle.std.specs.Prelude.{FitsSigned, if◌then◌else◌}
use Rattle.std.specs.List.{flat_map}
use Rattle.std.specs.Int.{w64, next_multiple_of}
use Rattle.elf_records.specs.declared.dynamic.DynamicEntry.{DynamicEntry}
use Rattle.elf_records.specs.declared.dynamic.TheConstants.{DT_HASH, DT_STRTAB, DT_SYMTAB, DT_RELA, DT_RELASZ}
use Rattle.elf_records.specs.declared.dynamic.TheConstants.{DT_RELAENT, DT_STRSZ, DT_SYMENT, DT_NULL}
use Rattle.elf_records.specs.Fields.{bytes_of}
use Rattle.elf_records.specs.Records.{dynamic_bytes, symbol_bytes, rela_bytes}
use Rattle.image_rules.specs.declared.places.FileKind.{FileKind}
use Rattle.image_file.specs.declared.part.PartClass.TheVariants.{ReadOnly}
use Rattle.image_file.specs.declared.relocation.ImageRelocation.{ImageRelocation}
use Rattle.image_writer.specs.declared.outline.PartPlace.{PartPlace}
use Rattle.image_writer.specs.declared.draft.NamedSymbol.{NamedSymbol}
use Rattle.image_writer.specs.declared.draft.Draft.{Draft}
use Rattle.image_writer.specs.declared.layout.Layout.{Layout}
use Rattle.image_writer.specs.Page.{base_of}
use Rattle.image_writer.specs.Contents.{Contents, contents_of}
use Rattle.image_writer.specs.Tables.{array_size, hash_size, symbols_start, relocations_start, strings_start, strings}
use Rattle.image_writer.specs.Tables.{array_entry, flags_entries, has_relocations, hash_words, relocation_entry}
use Rattle.image_writer.specs.Tables.{symbol_rows, symbol_total}

-- the contents that a draft describes, without the bytes of its parts
abbrev pub told : Draft → Contents
told d = contents_of d []

-- where the last part ends; the base if there is none
abbrev pub places_end : FileKind → List PartPlace → ℕ
places_end kind [] = base_of kind
places_end kind (p ∷ []) = p.address + p.size
places_end kind (p ∷ (q ∷ more)) = places_end kind (q ∷ more)

-- the page after it
abbrev pub next_page : Draft → ℕ
next_page d = next_multiple_of (places_end d.kind d.parts.now) 4096

-- where each table begins, and how many bytes they have
unfoldable pub layout_of : Contents → Layout
layout_of c = record {
  array_size = array_size c;
  symbols_start = symbols_start c;
  relocations_start = relocations_start c;
  strings_start = strings_start c;
  strings_size = length (strings c);
}

-- the place of the part of tables, by its address and its size
abbrev pub tables_place : ℕ → ℕ → PartPlace
tables_place address size = record { class = ReadOnly; address = address; size = size }

-- how many bytes the tables have
abbrev pub tables_size : Contents → ℕ
tables_size c = strings_start c + length (strings c)

-- the entries of the array that every image has, without the last, and those that lead to relocations
abbrev pub place_entries : Layout → ℕ → List DynamicEntry
place_entries l address =
    array_entry DT_HASH (address + l.array_size)
    ∷ array_entry DT_STRTAB (address + l.strings_start)
    ∷ array_entry DT_SYMTAB (address + l.symbols_start)
    ∷ array_entry DT_STRSZ l.strings_size
    ∷ array_entry DT_SYMENT 24
    ∷ []

abbrev pub leading_entries : Bool → ℕ → ℕ → List DynamicEntry
leading_entries false place count = []
leading_entries true place count =
    array_entry DT_RELA place ∷ array_entry DT_RELASZ (24 * count) ∷ array_entry DT_RELAENT 24 ∷ []

-- the word of the one bucket
abbrev pub bucket : ℕ → ℕ
bucket total = if total == 1 then 0 else 1

-- the array and the tables of contents whose part begins at an address
abbrev pub array_at : ℕ → Contents → List DynamicEntry
array_at address c =
    place_entries (layout_of c) address
    ++ (leading_entries (has_relocations c) (address + relocations_start c) (length c.relocations)
    ++ (flags_entries c.is_flagged c.kind ++ (array_entry DT_NULL 0 ∷ [])))

unfoldable pub tables_at : ℕ → Contents → List ℕ
tables_at address c =
    flat_map dynamic_bytes (array_at address c)
    ++ (flat_map (bytes_of 4) (hash_words (symbol_total c))
    ++ (replicate (symbols_start c - (array_size c + hash_size c)) 0
    ++ (flat_map symbol_bytes (symbol_rows c)
    ++ (flat_map (λ r. rela_bytes (relocation_entry r)) c.relocations
    ++ strings c))))

-- numbers in the range of their types, as in everything that code holds
abbrev pub IsSymbolFitting : NamedSymbol → Type 0
IsSymbolFitting s = (s.symbol.value < 2 ^ 64) × (s.symbol.size < 2 ^ 64)

abbrev pub IsRelocationFitting : ImageRelocation → Type 0
IsRelocationFitting r = (r.place < 2 ^ 64) × FitsSigned w64 r.addend
