-- How long the pieces of the dynamic tables are, and where each begins.
use Rattle.std.proofs.Common.{◌≡◌, ◌+◌, ◌-◌, ◌*◌, ◌%◌, ◌≤◌, ℕ, Bool, true, false, List, [], ◌∷◌, ◌++◌, length}
use Rattle.std.proofs.Common.{refl, ap, ◌∙◌, arith, length-append, if◌then◌else◌, replicate}
use Rattle.std.specs.List.{flat_map}
use Rattle.std.specs.Int.{next_multiple_of}
use Rattle.std.proofs.lemmas.List.{length-replicate}
use Rattle.elf_records.specs.Fields.{bytes_of}
use Rattle.elf_records.specs.Laws.{length-bytes_of}
use Rattle.elf_records.specs.Records.{dynamic_bytes, symbol_bytes, rela_bytes}
use Rattle.elf_records.specs.RecordLaws.{length-dynamic_bytes, length-symbol_bytes, length-rela_bytes}
use Rattle.image_file.specs.Tabled.{length-tabled}
use Rattle.image_writer.specs.Contents.{Contents}
use Rattle.image_writer.specs.Tables.{array, array_entry, array_size, chain, flags_entries, has_relocations, hash_size}
use Rattle.image_writer.specs.Tables.{hash_words}
use Rattle.image_writer.specs.Tables.{relocation_entries, relocation_entry, strings, strings_start}
use Rattle.image_writer.specs.Tables.{symbol_rows, symbol_total, symbols_start, tables}
use Rattle.image_writer.proofs.TableRows.{length-rows, length-pieces}

-- the least multiple of 8 from a number on
pub aligned : (x : ℕ) → next_multiple_of x 8 % 8 ≡ 0
aligned x = omega arith

-- which is no less than that number
pub not_below : (x : ℕ) → x ≤ next_multiple_of x 8
not_below x = omega arith

-- three entries of relocations, or none
relocation_entry_count : (c : Contents) (b : Bool) → length (relocation_entries c b) ≡ (if b then 3 else 0)
relocation_entry_count c true = refl
relocation_entry_count c false = refl

-- five entries, those of relocations, that of a flag and the end
five_more : {X : Type 0} (u v w x y end : X) (relocations flags : List X) (r f : ℕ)
    → length relocations ≡ r → length flags ≡ f
    → length ((u ∷ v ∷ w ∷ x ∷ y ∷ []) ++ (relocations ++ (flags ++ (end ∷ [])))) ≡ 6 + r + f
five_more u v w x y end relocations flags r f long_relocations long_flags =
    let outer = length-append relocations (flags ++ (end ∷ [])) in
    let inner = length-append flags (end ∷ []) in
    omega arith

-- how many bytes the array takes
pub length-array : (c : Contents) → 16 * length (array c) ≡ array_size c
unfolding array
length-array c =
    let e = array_entry 0 0 in
    ap (λ n. 16 * n) (five_more e e e e e e (relocation_entries c (has_relocations c))
    (flags_entries c.is_flagged c.kind)
    _ _ (relocation_entry_count c (has_relocations c)) refl)

-- how many words the hash table has
pub length-words : (n : ℕ) → length (hash_words n) ≡ 3 + n
unfolding hash_words
length-words n = omega (arith, length-tabled (chain n) n)

-- the array takes the bytes that its size says
pub array_long : (c : Contents) → length (flat_map dynamic_bytes (array c)) ≡ array_size c
array_long c = length-rows dynamic_bytes 16 length-dynamic_bytes (array c) ∙ length-array c

-- the hash table takes the bytes that its size says
pub hash_long : (c : Contents) → length (flat_map (bytes_of 4) (hash_words (symbol_total c))) ≡ hash_size c
hash_long c =
    let rows = length-rows (bytes_of 4) 4 (length-bytes_of 4) (hash_words (symbol_total c)) in
    let words = length-words (symbol_total c) in
    omega arith

-- each symbol takes 24 bytes
pub symbols_long : (c : Contents) → length (flat_map symbol_bytes (symbol_rows c)) ≡ 24 * symbol_total c
unfolding symbol_rows
symbols_long c = length-rows symbol_bytes 24 length-symbol_bytes (symbol_rows c)
    ∙ ap (λ n. 24 * n) (length-tabled _ (symbol_total c))

-- each relocation takes 24 bytes
pub relocations_long : (c : Contents)
    → length (flat_map (λ r. rela_bytes (relocation_entry r)) c.relocations) ≡ 24 * length c.relocations
relocations_long c =
    length-rows (λ r. rela_bytes (relocation_entry r)) 24 (λ r. length-rela_bytes (relocation_entry r)) c.relocations

-- the zeros before the next multiple of 8
filled : (x : ℕ) → length (replicate {A = ℕ} (next_multiple_of x 8 - x) 0) + x ≡ next_multiple_of x 8
filled x =
    let long = length-replicate {A = ℕ} (next_multiple_of x 8 - x) 0 in
    let above = not_below x in
    omega (arith, long, above)

-- they fill what is left before the symbols
pub gap_long : (c : Contents)
    → length (replicate {A = ℕ} (symbols_start c - (array_size c + hash_size c)) 0) + (array_size c + hash_size c)
    ≡ symbols_start c
gap_long c = filled (array_size c + hash_size c)

-- the sum of the pieces
sum_is : (a b p d e s first second start fourth fifth : ℕ) → a ≡ first → b ≡ second → p + (first + second) ≡ start
    → d ≡ fourth → e ≡ fifth → a + b + p + d + e + s ≡ start + fourth + fifth + s
sum_is a b p d e s first second start fourth fifth at_a at_b at_p at_d at_e = omega arith

-- the tables end with the names
pub tables_long : (c : Contents) → length (tables c) ≡ strings_start c + length (strings c)
unfolding tables
tables_long c =
    length-pieces (flat_map dynamic_bytes (array c)) (flat_map (bytes_of 4) (hash_words (symbol_total c)))
    (replicate (symbols_start c - (array_size c + hash_size c)) 0) (flat_map symbol_bytes (symbol_rows c))
    (flat_map (λ r. rela_bytes (relocation_entry r)) c.relocations) (strings c)
    ∙ sum_is _ _ _ _ _ _ _ _ _ _ _ (array_long c) (hash_long c) (gap_long c) (symbols_long c) (relocations_long c)
