-- The rows of the symbol table, as they are put.
use Rattle.std.proofs.Common.{ℕ, ◌+◌, ◌*◌, ◌<◌, ◌≤◌, ◌≡◌, List, ◌++◌, length, get_or, refl, sym, ap, ◌∙◌, arith}
use Rattle.std.proofs.Common.{add-one}
use Rattle.std.specs.List.{flat_map}
use Rattle.std.proofs.lemmas.List.{append-nil, get_or-map}
use Rattle.elf_records.specs.Fields.{splice}
use Rattle.elf_records.specs.Records.{symbol_bytes}
use Rattle.elf_records.specs.RecordLaws.{length-symbol_bytes}
use Rattle.elf_records.specs.declared.symbol.SymbolEntry.{SymbolEntry}
use Rattle.image_file.specs.Tabled.{tabled, length-tabled}
use Rattle.image_writer.specs.declared.draft.NamedSymbol.{NamedSymbol}
use Rattle.image_writer.specs.declared.draft.Draft.{Draft}
use Rattle.image_writer.specs.Contents.{Contents, null_symbol, symbol}
use Rattle.image_writer.specs.Tables.{symbol_entry, name_start, symbol_rows, symbol_total}
use Rattle.image_writer.specs.Told.{told}
use Rattle.image_writer.proofs.Puts.{flat_map-last, length-items, put_next, tabled-next}
use Rattle.image_writer.proofs.Strings.{no_symbol}

-- the row of a symbol
abbrev pub row : Contents → ℕ → SymbolEntry
row c k = symbol_entry (symbol c k) (name_start c k)

-- the rows of the symbols below a number
unfoldable pub rows_below : Contents → ℕ → List ℕ
rows_below c n = flat_map symbol_bytes (tabled (row c) n)

-- all of them
pub rows_below-all : (c : Contents) → rows_below c (symbol_total c) ≡ flat_map symbol_bytes (symbol_rows c)
unfolding rows_below symbol_rows
rows_below-all c = refl

-- one more
pub rows_below-next : (c : Contents) (n : ℕ) → rows_below c (n + 1) ≡ rows_below c n ++ symbol_bytes (row c n)
unfolding rows_below
rows_below-next c n = ap (flat_map symbol_bytes) (tabled-next (row c) n)
    ∙ flat_map-last symbol_bytes (tabled (row c) n) (row c n)

-- how many bytes they have
pub length-rows_below : (c : Contents) (n : ℕ) → length (rows_below c n) ≡ 24 * n
unfolding rows_below
length-rows_below c n =
    length-items symbol_bytes 24 (tabled (row c) n) length-symbol_bytes ∙ ap (λ k. 24 * k) (length-tabled (row c) n)

-- the first
pub rows_below-start : (d : Draft) → symbol_bytes (symbol_entry null_symbol 0) ≡ rows_below (told d) 1
unfolding rows_below tabled
rows_below-start d = sym (append-nil (symbol_bytes (symbol_entry null_symbol 0)))

-- a symbol that a draft tells
pub symbol-told : (d : Draft) (i : ℕ) → i < length d.symbols.now
    → symbol (told d) (i + 1) ≡ (get_or d.symbols.now i no_symbol).symbol
symbol-told d i below =
    rw (add-one i) (get_or-map (λ (s : NamedSymbol). s.symbol) d.symbols.now i no_symbol null_symbol below)

-- the row of the next symbol, put behind those before it
pub rows_below-put : (d : Draft) (i at name : ℕ) (entry : SymbolEntry) (bytes out new : List ℕ)
    → i < length d.symbols.now
    → at ≤ length bytes → name ≡ name_start (told d) (i + 1)
    → entry ≡ symbol_entry (get_or d.symbols.now i no_symbol).symbol name
    → out ≡ splice at (rows_below (told d) (i + 1)) bytes → new ≡ splice (at + 24 * (i + 1)) (symbol_bytes entry) out
    → new ≡ splice at (rows_below (told d) (i + 1 + 1)) bytes
rows_below-put d i at name entry bytes out new below inside starts is was wrote =
    let long = length-rows_below (told d) (i + 1) in
    let right : entry ≡ row (told d) (i + 1) =
    is ∙ ap (λ n. symbol_entry (get_or d.symbols.now i no_symbol).symbol n) starts
    ∙ ap (λ s. symbol_entry s (name_start (told d) (i + 1))) (sym (symbol-told d i below)) in
    put_next at (at + 24 * (i + 1)) (rows_below (told d) (i + 1)) (symbol_bytes (row (told d) (i + 1))) bytes out new
    (omega arith) inside was (wrote ∙ ap (λ e. splice (at + 24 * (i + 1)) (symbol_bytes e) out) right)
    ∙ ap (λ rows. splice at rows bytes) (sym (rows_below-next (told d) (i + 1)))
