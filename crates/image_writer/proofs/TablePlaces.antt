-- The rows of the dynamic tables of a file of finished contents, as its array places and counts them.
use Rattle.std.proofs.Common.{◌≡◌, ◌+◌, ◌-◌, ◌*◌, ◌/◌, ◌^◌, ◌<◌, ◌≤◌, ℕ, true, List, length, get_or}
use Rattle.std.proofs.Common.{ap, ◌∙◌, arith, if◌then◌else◌, inl, inr, slice_range}
use Rattle.std.proofs.lemmas.Bool.{cases_Bool, lt-ltb, ltb-false, and_from, and_left}
use Rattle.elf_records.specs.Fields.{number_at, part_at}
use Rattle.elf_records.specs.Records.{symbol_at, rela_at}
use Rattle.elf_records.specs.FittingRecords.{FitsSymbolEntry, FitsRela}
use Rattle.elf_records.specs.declared.dynamic.TheConstants.{DT_RELA, DT_RELASZ, DT_STRSZ}
use Rattle.image_faults.specs.Parts.{last}
use Rattle.image_faults.specs.Array as seen
use Rattle.image_faults.specs.Array.{has_tag, entry, bucket_count, symbol_count, relocation_count}
use Rattle.image_faults.specs.Symbols as seen_symbols
use Rattle.image_faults.specs.Relocations as seen_relocations
use Rattle.image_file.specs.declared.relocation.ImageRelocation.{ImageRelocation}
use Rattle.image_file.specs.Spelled as spelled
use Rattle.image_writer.specs.Contents.{Contents, symbol, tables_address}
use Rattle.image_writer.specs.Tables.{array_size, has_relocations, name_start, relocation_entry, relocations_start}
use Rattle.image_writer.specs.Tables.{strings, strings_start, symbol_entry, symbol_total, symbols_start}
use Rattle.image_writer.proofs.TableSizes.{tables_long}
use Rattle.image_writer.proofs.TableTold.{bucket_told, count_told, rela_told, strings_told, symbol_told}
use Rattle.image_writer.proofs.TableSeen.{IsSeen, at, has_relocations_is, hash_seen, relocations_seen}
use Rattle.image_writer.proofs.TableSeen.{relocations_size_seen}
use Rattle.image_writer.proofs.TableSeen.{strings_seen, strings_size_seen, symbols_seen, test_true}

-- an address of the last part, as a place of the file
shifted : (offset address base value start further : ℕ) → base ≡ address → value ≡ address + further → offset ≡ start
    → offset + (value - base) ≡ start + further
shifted offset address base value start further at_base at_value at_start = omega arith

-- the same, said of a file
pub place_is : (f : List ℕ) (c : Contents) → IsSeen f c → (value further : ℕ) → value ≡ tables_address c + further
    → seen.place f value ≡ at c + further
place_is f c s value further value_is =
    shifted (last f).offset (tables_address c) (last f).vaddr value (at c) further s.address_is value_is s.offset_is

-- where the hash table stands
pub hash_place_is : (f : List ℕ) (c : Contents) → IsSeen f c → seen.hash_place f ≡ at c + array_size c
hash_place_is f c s = place_is f c s (entry f 0).value (array_size c) (hash_seen f c s).1

-- where the names stand
pub strings_place_is : (f : List ℕ) (c : Contents) → IsSeen f c → seen.strings_place f ≡ at c + strings_start c
strings_place_is f c s = place_is f c s (entry f 1).value (strings_start c) (strings_seen f c s).1

-- where the symbols stand
pub symbols_place_is : (f : List ℕ) (c : Contents) → IsSeen f c → seen.symbols_place f ≡ at c + symbols_start c
symbols_place_is f c s = place_is f c s (entry f 2).value (symbols_start c) (symbols_seen f c s).1

-- where the relocations stand, if there are any
pub relocations_place_is : (f : List ℕ) (c : Contents) → IsSeen f c → has_relocations c ≡ true
    → seen.relocations_place f ≡ at c + relocations_start c
relocations_place_is f c s some = place_is f c s (entry f 5).value (relocations_start c) (relocations_seen f c s some).1

-- there is one bucket
pub bucket_count_is : (f : List ℕ) (c : Contents) → IsSeen f c → bucket_count f ≡ 1
unfolding bucket_count
bucket_count_is f c s = ap (λ p. number_at 4 p f) (hash_place_is f c s) ∙ bucket_told c f (at c) s.here

-- the tables are small
pub count_small : (f : List ℕ) (c : Contents) → IsSeen f c → symbol_total c < 2 ^ 32
count_small f c s =
    let whole = tables_long c in
    let small = s.small in
    omega (arith, whole, small)

-- as many symbols as the contents have
pub symbol_count_is : (f : List ℕ) (c : Contents) → IsSeen f c → symbol_count f ≡ symbol_total c
unfolding symbol_count
symbol_count_is f c s =
    ap (λ p. number_at 4 (p + 4) f) (hash_place_is f c s) ∙ count_told c f (at c) s.here (count_small f c s)

-- how many bytes the names take
pub strings_size_is : (f : List ℕ) (c : Contents) → IsSeen f c → seen.strings_size f ≡ length (strings c)
strings_size_is f c s =
    let told = strings_size_seen f c s in
    ap (λ b. if b then (entry f 3).value else 0) (test_true f 3 DT_STRSZ told.0) ∙ told.1

-- what is left of a sum
cut : (a n : ℕ) → a + n - a ≡ n
cut a n = omega arith

-- the names that the file spells
pub strings_are : (f : List ℕ) (c : Contents) → IsSeen f c → spelled.strings f ≡ strings c
unfolding part_at
strings_are f c s =
    ap (λ n. slice_range f (seen.strings_place f) (seen.strings_place f + n)) (strings_size_is f c s)
    ∙ ap (λ p. slice_range f p (p + length (strings c))) (strings_place_is f c s)
    ∙ ap (λ n. part_at n (at c + strings_start c) f) (cut (at c + strings_start c) (length (strings c)))
    ∙ strings_told c f (at c) s.here

-- the bytes at their place
pub strings_there : (f : List ℕ) (c : Contents) → IsSeen f c
    → part_at (length (strings c)) (seen.strings_place f) f ≡ strings c
strings_there f c s =
    ap (λ p. part_at (length (strings c)) p f) (strings_place_is f c s) ∙ strings_told c f (at c) s.here

-- a symbol
pub symbol_is : (f : List ℕ) (c : Contents) → IsSeen f c → (k : ℕ) → k < symbol_total c
    → FitsSymbolEntry (symbol_entry (symbol c k) (name_start c k))
    → seen_symbols.symbol f k ≡ symbol_entry (symbol c k) (name_start c k)
unfolding seen_symbols.symbol
symbol_is f c s k below fits =
    ap (λ p. symbol_at (p + 24 * k) f) (symbols_place_is f c s) ∙ symbol_told c f (at c) s.here k below fits

-- how many relocations there are
twenty_fourth : (n : ℕ) → 24 * n / 24 ≡ n
twenty_fourth n = omega arith

-- how many bytes the relocations take, none where there are none
pub relocations_size_is : (f : List ℕ) (c : Contents) → IsSeen f c → seen.relocations_size f ≡ 24 * length c.relocations
relocations_size_is f c s = elim (cases_Bool (has_relocations c)) [
  | inl some ↦
      let told = relocations_size_seen f c s some in
      ap (λ b. if b then (entry f 6).value else 0)
      (and_from (has_tag f 5 DT_RELA) (has_tag f 6 DT_RELASZ) (has_relocations_is f c s ∙ some)
      (test_true f 6 DT_RELASZ told.0))
      ∙ told.1
  | inr lacking ↦
      let few : length c.relocations ≤ 0 = ltb-false 0 (length c.relocations) lacking in
      let zeros : 0 ≡ 24 * length c.relocations = omega (arith, few) in
      ap (λ b. if b then (entry f 6).value else 0)
      (and_left (has_tag f 5 DT_RELA) (has_tag f 6 DT_RELASZ) (has_relocations_is f c s ∙ lacking)) ∙ zeros
]

-- as many as the contents have
pub relocation_count_is : (f : List ℕ) (c : Contents) → IsSeen f c → relocation_count f ≡ length c.relocations
unfolding relocation_count
relocation_count_is f c s = ap (λ n. n / 24) (relocations_size_is f c s) ∙ twenty_fourth (length c.relocations)

-- a relocation
pub rela_is : (f : List ℕ) (c : Contents) → IsSeen f c → (k : ℕ) (d : ImageRelocation) → k < length c.relocations
    → FitsRela (relocation_entry (get_or c.relocations k d))
    → seen_relocations.rela f k ≡ relocation_entry (get_or c.relocations k d)
unfolding seen_relocations.rela
rela_is f c s k d below fits =
    let some : has_relocations c ≡ true = lt-ltb 0 (length c.relocations) (omega (arith, below)) in
    ap (λ p. rela_at (p + 24 * k) f) (relocations_place_is f c s some) ∙ rela_told c f (at c) s.here k d below fits
