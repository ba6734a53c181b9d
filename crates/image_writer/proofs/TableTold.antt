-- What a file that holds the dynamic tables tells at the places of their rows.
use Rattle.std.proofs.Common.{◌≡◌, ◌+◌, ◌-◌, ◌*◌, ◌^◌, ◌<◌, ◌≤◌, ℕ, List, [], length, get_or, refl, sym, ap, ◌∙◌}
use Rattle.std.proofs.Common.{arith, append-nil, replicate}
use Rattle.std.specs.List.{flat_map}
use Rattle.elf_records.specs.Fields.{bytes_of, number_at, part_at}
use Rattle.elf_records.specs.Laws.{length-bytes_of}
use Rattle.elf_records.specs.declared.dynamic.DynamicEntry.{DynamicEntry}
use Rattle.elf_records.specs.declared.symbol.SymbolEntry.{SymbolEntry}
use Rattle.elf_records.specs.declared.relocation.Rela.{Rela}
use Rattle.elf_records.specs.Records.{dynamic_at, dynamic_bytes, symbol_at, symbol_bytes, rela_at, rela_bytes}
use Rattle.elf_records.specs.FittingRecords.{FitsDynamicEntry, FitsSymbolEntry, FitsRela}
use Rattle.elf_records.specs.RecordLaws.{dynamic_again, dynamic_at-own, symbol_again, symbol_at-own, rela_again}
use Rattle.elf_records.specs.RecordLaws.{rela_at-own}
use Rattle.elf_records.specs.RecordLaws.{length-dynamic_bytes, length-symbol_bytes, length-rela_bytes}
use Rattle.image_file.specs.declared.relocation.ImageRelocation.{ImageRelocation}
use Rattle.image_file.specs.Tabled.{length-tabled, tabled_at}
use Rattle.std.proofs.lemmas.Option.{get_or_from_slice_get}
use Rattle.image_writer.specs.Contents.{Contents, symbol}
use Rattle.image_writer.specs.Tables.{array, array_size, hash_size, hash_words, name_start, relocation_entry}
use Rattle.image_writer.specs.Tables.{relocations_start, strings, strings_start, symbol_entry, symbol_rows}
use Rattle.image_writer.specs.Tables.{symbol_total}
use Rattle.image_writer.specs.Tables.{symbols_start, tables}
use Rattle.image_writer.proofs.TableRows.{in_first, in_second, in_fourth, in_fifth, in_last, in_file, number_there}
use Rattle.image_writer.proofs.TableRows.{row_at}
use Rattle.image_writer.proofs.TableSizes.{array_long, gap_long, hash_long, length-array, length-words}
use Rattle.image_writer.proofs.TableSizes.{relocations_long}
use Rattle.image_writer.proofs.TableSizes.{symbols_long, tables_long, not_below}

-- a record whose bytes stand at a place is read there
dynamic_there : (at : ℕ) (f : List ℕ) (r : DynamicEntry) → part_at 16 at f ≡ dynamic_bytes r → FitsDynamicEntry r
    → dynamic_at at f ≡ r
dynamic_there at f r here fits =
    sym (dynamic_at-own at f) ∙ ap (dynamic_at 0) (here ∙ sym (append-nil (dynamic_bytes r)))
    ∙ dynamic_again 0 r [] [] refl fits

-- the same of a symbol
symbol_there : (at : ℕ) (f : List ℕ) (r : SymbolEntry) → part_at 24 at f ≡ symbol_bytes r → FitsSymbolEntry r
    → symbol_at at f ≡ r
symbol_there at f r here fits =
    sym (symbol_at-own at f) ∙ ap (symbol_at 0) (here ∙ sym (append-nil (symbol_bytes r)))
    ∙ symbol_again 0 r [] [] refl fits

-- the same of a relocation
rela_there : (at : ℕ) (f : List ℕ) (r : Rela) → part_at 24 at f ≡ rela_bytes r → FitsRela r → rela_at at f ≡ r
rela_there at f r here fits =
    sym (rela_at-own at f) ∙ ap (rela_at 0) (here ∙ sym (append-nil (rela_bytes r)))
    ∙ rela_again 0 r [] [] refl fits

-- entry j of the array, in the tables
array_in : (c : Contents) (j : ℕ) (d : DynamicEntry) → j < length (array c)
    → part_at 16 (16 * j) (tables c) ≡ dynamic_bytes (get_or (array c) j d)
unfolding tables
array_in c j d below =
    let long = array_long c in
    let count = length-array c in
    let within : 16 * j + 16 ≤ length (flat_map dynamic_bytes (array c)) = omega (arith, long, count, below) in
    in_first 16 (16 * j) (flat_map dynamic_bytes (array c)) _ within
    ∙ row_at dynamic_bytes 16 length-dynamic_bytes (array c) j d below

-- word j of the hash table
hash_in : (c : Contents) (j : ℕ) (d : ℕ) → j < length (hash_words (symbol_total c))
    → part_at 4 (array_size c + 4 * j) (tables c) ≡ bytes_of 4 (get_or (hash_words (symbol_total c)) j d)
unfolding tables
hash_in c j d below =
    let long = hash_long c in
    let count = length-words (symbol_total c) in
    let within : 4 * j + 4 ≤ length (flat_map (bytes_of 4) (hash_words (symbol_total c))) =
    omega (arith, long, count, below) in
    in_second 4 (array_size c) (4 * j) (flat_map dynamic_bytes (array c))
    (flat_map (bytes_of 4) (hash_words (symbol_total c))) _
    (sym (array_long c)) within
    ∙ row_at (bytes_of 4) 4 (length-bytes_of 4) (hash_words (symbol_total c)) j d below

-- the symbols begin behind the array, the hash table and the gap
symbols_begin : (a h p first second start : ℕ) → a ≡ first → h ≡ second → p + (first + second) ≡ start
    → start ≡ a + h + p
symbols_begin a h p first second start at_a at_h at_p = omega arith

-- the row of symbol k
symbols_in : (c : Contents) (k : ℕ) (d : SymbolEntry) → k < symbol_total c
    → part_at 24 (symbols_start c + 24 * k) (tables c) ≡ symbol_bytes (get_or (symbol_rows c) k d)
unfolding tables symbol_rows
symbols_in c k d below =
    let long = symbols_long c in
    let count : length (symbol_rows c) ≡ symbol_total c = length-tabled _ (symbol_total c) in
    let within : 24 * k + 24 ≤ length (flat_map symbol_bytes (symbol_rows c)) = omega (arith, long, below) in
    in_fourth 24 (symbols_start c) (24 * k) (flat_map dynamic_bytes (array c))
    (flat_map (bytes_of 4) (hash_words (symbol_total c))) (replicate (symbols_start c - (array_size c + hash_size c)) 0)
    (flat_map symbol_bytes (symbol_rows c)) _
    (symbols_begin _ _ _ _ _ _ (array_long c) (hash_long c) (gap_long c)) within
    ∙ row_at symbol_bytes 24 length-symbol_bytes (symbol_rows c) k d (omega (arith, count, below))

-- the relocations begin behind the symbols
relocations_begin : (a h p d first second start fourth : ℕ) → a ≡ first → h ≡ second → p + (first + second) ≡ start
    → d ≡ fourth → start + fourth ≡ a + h + p + d
relocations_begin a h p d first second start fourth at_a at_h at_p at_d = omega arith

-- the row of relocation k
relocations_in : (c : Contents) (k : ℕ) (d : ImageRelocation) → k < length c.relocations
    → part_at 24 (relocations_start c + 24 * k) (tables c) ≡ rela_bytes (relocation_entry (get_or c.relocations k d))
unfolding tables
relocations_in c k d below =
    let long = relocations_long c in
    let within : 24 * k + 24 ≤ length
    (flat_map (λ (r : ImageRelocation). rela_bytes (relocation_entry r)) c.relocations) =
    omega (arith, long, below) in
    in_fifth 24 (relocations_start c) (24 * k) (flat_map dynamic_bytes (array c))
    (flat_map (bytes_of 4) (hash_words (symbol_total c))) (replicate (symbols_start c - (array_size c + hash_size c)) 0)
    (flat_map symbol_bytes (symbol_rows c)) (flat_map (λ r. rela_bytes (relocation_entry r)) c.relocations) _
    (relocations_begin _ _ _ _ _ _ _ _ (array_long c) (hash_long c) (gap_long c) (symbols_long c)) within
    ∙ row_at (λ r. rela_bytes (relocation_entry r)) 24
    (λ r. length-rela_bytes (relocation_entry r)) c.relocations k d below

-- the names begin behind the relocations
strings_begin : (a h p d e first second start fourth fifth : ℕ) → a ≡ first → h ≡ second
    → p + (first + second) ≡ start → d ≡ fourth → e ≡ fifth → start + fourth + fifth ≡ a + h + p + d + e
strings_begin a h p d e first second start fourth fifth at_a at_h at_p at_d at_e = omega arith

-- the names
strings_in : (c : Contents) → part_at (length (strings c)) (strings_start c) (tables c) ≡ strings c
unfolding tables
strings_in c =
    in_last (strings_start c) (flat_map dynamic_bytes (array c))
    (flat_map (bytes_of 4) (hash_words (symbol_total c))) (replicate (symbols_start c - (array_size c + hash_size c)) 0)
    (flat_map symbol_bytes (symbol_rows c)) (flat_map (λ r. rela_bytes (relocation_entry r)) c.relocations) (strings c)
    (strings_begin _ _ _ _ _ _ _ _ _ _ (array_long c) (hash_long c) (gap_long c) (symbols_long c) (relocations_long c))

-- in a file that holds the tables from an offset on: entry j of the array
pub entry_told : (c : Contents) (f : List ℕ) (at : ℕ) → part_at (length (tables c)) at f ≡ tables c
    → (j : ℕ) (d : DynamicEntry)
    → j < length (array c) → FitsDynamicEntry (get_or (array c) j d) → dynamic_at (at + 16 * j) f ≡ get_or (array c) j d
entry_told c f at here j d below fits =
    let whole = tables_long c in
    let above = not_below (array_size c + hash_size c) in
    let count = length-array c in
    let within : 16 * j + 16 ≤ length (tables c) = omega (arith, whole, above, count, below) in
    dynamic_there (at + 16 * j) f (get_or (array c) j d)
    (in_file (length (tables c)) at 16 (16 * j) f (tables c) here within ∙ array_in c j d below) fits

-- word j of the hash table
word_told : (c : Contents) (f : List ℕ) (at : ℕ) → part_at (length (tables c)) at f ≡ tables c → (j : ℕ)
    → j < length (hash_words (symbol_total c)) → get_or (hash_words (symbol_total c)) j 0 < 2 ^ 32
    → number_at 4 (at + (array_size c + 4 * j)) f ≡ get_or (hash_words (symbol_total c)) j 0
word_told c f at here j below fits =
    let whole = tables_long c in
    let above = not_below (array_size c + hash_size c) in
    let count = length-words (symbol_total c) in
    let within : array_size c + 4 * j + 4 ≤ length (tables c) = omega (arith, whole, above, count, below) in
    number_there 4 (get_or (hash_words (symbol_total c)) j 0) (at + (array_size c + 4 * j)) f
    (in_file (length (tables c)) at 4 (array_size c + 4 * j) f (tables c) here within ∙ hash_in c j 0 below) fits

-- there is one bucket
pub bucket_told : (c : Contents) (f : List ℕ) (at : ℕ) → part_at (length (tables c)) at f ≡ tables c
    → number_at 4 (at + array_size c) f ≡ 1
unfolding hash_words
bucket_told c f at here =
    let count = length-words (symbol_total c) in
    let place : at + array_size c ≡ at + (array_size c + 4 * 0) = omega arith in
    ap (λ p. number_at 4 p f) place ∙ word_told c f at here 0 (omega (arith, count)) (omega arith)

-- and a chain for each symbol
pub count_told : (c : Contents) (f : List ℕ) (at : ℕ) → part_at (length (tables c)) at f ≡ tables c
    → symbol_total c < 2 ^ 32 → number_at 4 (at + array_size c + 4) f ≡ symbol_total c
unfolding hash_words
count_told c f at here fits =
    let count = length-words (symbol_total c) in
    let place : at + array_size c + 4 ≡ at + (array_size c + 4 * 1) = omega arith in
    ap (λ p. number_at 4 p f) place ∙ word_told c f at here 1 (omega (arith, count)) fits

-- row k is that of symbol k
row_is : (c : Contents) (k : ℕ) (d : SymbolEntry) → k < symbol_total c
    → get_or (symbol_rows c) k d ≡ symbol_entry (symbol c k) (name_start c k)
unfolding symbol_rows
row_is c k d below = get_or_from_slice_get (symbol_rows c) k (symbol_entry (symbol c k) (name_start c k)) d
    (tabled_at (λ n. symbol_entry (symbol c n) (name_start c n)) (symbol_total c) k below)

-- symbol k
pub symbol_told : (c : Contents) (f : List ℕ) (at : ℕ) → part_at (length (tables c)) at f ≡ tables c → (k : ℕ)
    → k < symbol_total c → FitsSymbolEntry (symbol_entry (symbol c k) (name_start c k))
    → symbol_at (at + symbols_start c + 24 * k) f ≡ symbol_entry (symbol c k) (name_start c k)
symbol_told c f at here k below fits =
    let whole = tables_long c in
    let within : symbols_start c + 24 * k + 24 ≤ length (tables c) = omega (arith, whole, below) in
    let place : at + symbols_start c + 24 * k ≡ at + (symbols_start c + 24 * k) = omega arith in
    let row = symbol_entry (symbol c k) (name_start c k) in
    ap (λ p. symbol_at p f) place ∙ symbol_there (at + (symbols_start c + 24 * k)) f row
    (in_file (length (tables c)) at 24 (symbols_start c + 24 * k) f (tables c) here within
    ∙ symbols_in c k row below ∙ ap symbol_bytes (row_is c k row below)) fits

-- relocation k
pub rela_told : (c : Contents) (f : List ℕ) (at : ℕ) → part_at (length (tables c)) at f ≡ tables c
    → (k : ℕ) (d : ImageRelocation)
    → k < length c.relocations → FitsRela (relocation_entry (get_or c.relocations k d))
    → rela_at (at + relocations_start c + 24 * k) f ≡ relocation_entry (get_or c.relocations k d)
rela_told c f at here k d below fits =
    let whole = tables_long c in
    let within : relocations_start c + 24 * k + 24 ≤ length (tables c) = omega (arith, whole, below) in
    let place : at + relocations_start c + 24 * k ≡ at + (relocations_start c + 24 * k) = omega arith in
    ap (λ p. rela_at p f) place
    ∙ rela_there (at + (relocations_start c + 24 * k)) f (relocation_entry (get_or c.relocations k d))
    (in_file (length (tables c)) at 24 (relocations_start c + 24 * k) f (tables c) here within
    ∙ relocations_in c k d below) fits

-- the names
pub strings_told : (c : Contents) (f : List ℕ) (at : ℕ) → part_at (length (tables c)) at f ≡ tables c
    → part_at (length (strings c)) (at + strings_start c) f ≡ strings c
strings_told c f at here =
    let whole = tables_long c in
    in_file (length (tables c)) at (length (strings c)) (strings_start c) f (tables c) here (omega (arith, whole))
    ∙ strings_in c
