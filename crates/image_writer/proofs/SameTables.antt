-- Two files whose headers say the same, and whose last LOAD holds the same bytes, have the same tables: the hash table,
-- the names, the symbols and the relocations, where those of one lie in its last LOAD.
use Rattle.std.proofs.Common.{◌≡◌, ◌+◌, ◌*◌, ◌<◌, ◌≤◌, ◌∙◌, ℕ, List, Bool, true, false, refl, inl, inr, sym, ap, arith}
use Rattle.std.proofs.Common.{nat_le, ◌==◌, ◌&&◌}
use Rattle.std.proofs.Common.{if◌then◌else◌, slice_index, slice_range}
use Rattle.std.proofs.lemmas.Bool.Decides.{nat_tests}
use Rattle.elf_records.specs.Fields.{number_at, part_at}
use Rattle.elf_records.specs.Records.{symbol_at, rela_at}
use Rattle.elf_records.specs.declared.dynamic.TheConstants.{DT_RELA, DT_RELASZ}
use Rattle.image_rules.specs.declared.rule.EntryRule.TheVariants.{Hash, Strings, Symbols, Relocations}
use Rattle.image_faults.specs.Parts.{last}
use Rattle.image_faults.specs.Array.{array_size, entry, HasTag, has_tag, place, HoldsTable, IsRightEntry, hash_place}
use Rattle.image_faults.specs.Array.{bucket_count, symbol_count}
use Rattle.image_faults.specs.Array.{strings_place, strings_size, symbols_place, relocations_size, relocations_place}
use Rattle.image_faults.specs.Array.{relocation_count}
use Rattle.image_faults.specs.Symbols.{symbol}
use Rattle.image_faults.specs.Relocations.{rela}
use Rattle.image_file.specs.Spelled.{strings}
use Rattle.image_writer.proofs.SameBytes.{same_number, same_part, same_byte, same_symbol, same_rela, same_range}
use Rattle.image_writer.proofs.SameArray.{SameHeaders, same_value, same_place, same_strings_size}
use Rattle.image_faults.proofs.TablesInside.{count_of_size}

-- a table in the last LOAD begins no earlier than this in the file
table_from : (b : List ℕ) (address n : ℕ) → HoldsTable b address n → (last b).offset ≤ place b address
table_from b address n holds = omega arith

-- and ends no later
table_to : (b : List ℕ) (address n : ℕ) → HoldsTable b address n
    → place b address + n ≤ (last b).offset + (last b).filesz
table_to b address n holds = omega (arith, holds.0, holds.2)

-- the address that an entry gives stands at the same place
same_entry_place : (f b : List ℕ) → SameHeaders f b → (j : ℕ) → 16 * (j + 1) ≤ array_size b
    → place f (entry f j).value ≡ place b (entry b j).value
same_entry_place f b same j within = same_place f b same (entry f j).value ∙ ap (place b) (same_value f b same j within)

-- the hash table
pub same_hash_place : (f b : List ℕ) → SameHeaders f b → IsRightEntry Hash b → hash_place f ≡ hash_place b
same_hash_place f b same right = same_entry_place f b same 0 right.0.0

-- its number of buckets
pub same_bucket_count : (f b : List ℕ) → SameHeaders f b → IsRightEntry Hash b → bucket_count f ≡ bucket_count b
unfolding bucket_count
same_bucket_count f b same right =
    ap (λ at. number_at 4 at f) (same_hash_place f b same right)
    ∙ same_number (last b).filesz (last b).offset f b same.last_bytes 4 (hash_place b)
    (table_from b (entry b 0).value (12 + 4 * symbol_count b) right.1)
    (omega (arith, table_to b (entry b 0).value (12 + 4 * symbol_count b) right.1))

-- where the number of chains stands
count_of : (b : List ℕ) → symbol_count b ≡ number_at 4 (hash_place b + 4) b
unfolding symbol_count
count_of b = refl

-- its number of chains, one a symbol
pub same_symbol_count : (f b : List ℕ) → SameHeaders f b → IsRightEntry Hash b → symbol_count f ≡ symbol_count b
same_symbol_count f b same right =
    let from = table_from b (entry b 0).value (12 + 4 * symbol_count b) right.1 in
    let to = table_to b (entry b 0).value (12 + 4 * symbol_count b) right.1 in
    count_of f
    ∙ ap (λ at. number_at 4 (at + 4) f) (same_hash_place f b same right)
    ∙ same_number (last b).filesz (last b).offset f b same.last_bytes 4 (hash_place b + 4) (omega (arith, from))
    (omega (arith, to))
    ∙ sym (count_of b)

-- the names begin at the same place
pub same_strings_place : (f b : List ℕ) → SameHeaders f b → IsRightEntry Strings b → strings_place f ≡ strings_place b
same_strings_place f b same right = same_entry_place f b same 1 right.0.0

-- a byte among them is the same
pub same_string_byte : (f b : List ℕ) → SameHeaders f b → IsRightEntry Strings b → (k : ℕ) → k < strings_size b
    → slice_index f (strings_place b + k) ≡ slice_index b (strings_place b + k)
same_string_byte f b same right k within =
    let from = table_from b (entry b 1).value (strings_size b) right.1 in
    let to = table_to b (entry b 1).value (strings_size b) right.1 in
    same_byte (last b).filesz (last b).offset f b same.last_bytes (strings_place b + k)
    (further _ _ k from) (less _ _ k _ to within)
  where
    further : (at from k : ℕ) → at ≤ from → at ≤ from + k
    further at from k h = omega arith

    less : (from n k end : ℕ) → from + n ≤ end → k < n → from + k < end
    less from n k end h within = omega arith

-- bytes among them are the same
pub same_string_part : (f b : List ℕ) → SameHeaders f b → IsRightEntry Strings b → (n k : ℕ) → k + n ≤ strings_size b
    → part_at n (strings_place b + k) f ≡ part_at n (strings_place b + k) b
same_string_part f b same right n k within =
    let from = table_from b (entry b 1).value (strings_size b) right.1 in
    let to = table_to b (entry b 1).value (strings_size b) right.1 in
    same_part (last b).filesz (last b).offset f b same.last_bytes n (strings_place b + k)
    (further _ _ k from) (less _ _ k n _ to within)
  where
    further : (at from k : ℕ) → at ≤ from → at ≤ from + k
    further at from k h = omega arith

    less : (from size k n end : ℕ) → from + size ≤ end → k + n ≤ size → from + k + n ≤ end
    less from size k n end h within = omega arith

-- and so are they all
pub same_strings : (f b : List ℕ) → SameHeaders f b → IsRightEntry Strings b → strings f ≡ strings b
same_strings f b same right =
    let from = table_from b (entry b 1).value (strings_size b) right.1 in
    let to = table_to b (entry b 1).value (strings_size b) right.1 in
    ap (λ at. slice_range f at (at + strings_size f)) (same_strings_place f b same right)
    ∙ ap (λ n. slice_range f (strings_place b) (strings_place b + n)) (same_strings_size f b same)
    ∙ same_range (last b).filesz (last b).offset f b same.last_bytes (strings_place b) (strings_size b) from to

-- the symbols begin at the same place
pub same_symbols_place : (f b : List ℕ) → SameHeaders f b → IsRightEntry Symbols b → symbols_place f ≡ symbols_place b
same_symbols_place f b same right = same_entry_place f b same 2 right.0.0

-- where a record of a table begins
record_from : (at from k : ℕ) → at ≤ from → at ≤ from + 24 * k
record_from at from k h = omega arith

-- and ends
record_to : (from n k size end : ℕ) → from + size ≤ end → 24 * n ≤ size → k < n → from + 24 * k + 24 ≤ end
record_to from n k size end h few within = omega arith

-- each of them is the same
pub same_symbol_entry : (f b : List ℕ) → SameHeaders f b → IsRightEntry Symbols b → (k : ℕ) → k < symbol_count b
    → symbol f k ≡ symbol b k
unfolding symbol
same_symbol_entry f b same right k within =
    let n : ℕ = symbol_count b in
    let from = table_from b (entry b 2).value (24 * n) right.1 in
    let to = table_to b (entry b 2).value (24 * n) right.1 in
    ap (λ at. symbol_at (at + 24 * k) f) (same_symbols_place f b same right)
    ∙ same_symbol (last b).filesz (last b).offset f b same.last_bytes (symbols_place b + 24 * k)
    (record_from _ _ k from) (record_to _ n k (24 * n) _ to (omega arith) within)

-- where there is a relocation, the array names their table
size_named : (p q : Bool) (n : ℕ) → 0 < (if p && q then n else 0) → p ≡ true
size_named true q n some = refl
size_named false q n some = absurd (omega arith)

-- a test that passes says that the entry is there
tag_of_test : (n a t k : ℕ) → (nat_le n a && (t == k)) ≡ true → (n ≤ a) × (t ≡ k)
tag_of_test n a t k passes = grind (arith, nat_tests)

-- where there is a relocation, their table lies in the last LOAD
pub relocations_held : (b : List ℕ) → IsRightEntry Relocations b → 0 < relocation_count b
    → HasTag b 5 DT_RELA × HoldsTable b (entry b 5).value (relocations_size b)
relocations_held b right some =
    let sized : 0 < relocations_size b = omega (arith, count_of_size b) in
    let named = size_named (has_tag b 5 DT_RELA) (has_tag b 6 DT_RELASZ) (entry b 6).value sized in
    elim right [
      | inl none ↦ absurd (none (tag_of_test _ _ _ _ named))
      | inr holds ↦ holds
    ]

-- each of them is the same
pub same_rela_entry : (f b : List ℕ) → SameHeaders f b → IsRightEntry Relocations b → (k : ℕ) → k < relocation_count b
    → rela f k ≡ rela b k
unfolding rela
same_rela_entry f b same right k within =
    let held = relocations_held b right (omega arith) in
    let from = table_from b (entry b 5).value (relocations_size b) held.1 in
    let to = table_to b (entry b 5).value (relocations_size b) held.1 in
    ap (λ at. rela_at (at + 24 * k) f) (same_entry_place f b same 5 held.0.0)
    ∙ same_rela (last b).filesz (last b).offset f b same.last_bytes (relocations_place b + 24 * k)
    (record_from _ _ k from) (record_to _ (relocation_count b) k (relocations_size b) _ to (count_of_size b) within)
