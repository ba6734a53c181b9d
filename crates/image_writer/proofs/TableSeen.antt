-- What a file of finished contents tells of its dynamic tables: where they lie, what the array says, and each row.
use Rattle.std.proofs.Common.{◌≡◌, ◌≢◌, ◌+◌, ◌*◌, ◌<◌, ◌≤◌, ◌==◌, ℕ, Bool, true, false, List, [], ◌∷◌, ◌++◌}
use Rattle.std.proofs.Common.{length, get_or, refl, sym, ap, ◌∙◌, arith, if◌then◌else◌, nat_le, subst, inl, inr, ◌⊎◌}
use Rattle.std.proofs.lemmas.Bool.{le-leb, eq-eqb, ne_eqb, cases_Bool, and_from, and_right}
use Rattle.elf_records.specs.Fields.{part_at}
use Rattle.elf_records.specs.Records.{dynamic_at}
use Rattle.elf_records.specs.declared.dynamic.DynamicEntry.{DynamicEntry}
use Rattle.elf_records.specs.declared.dynamic.TheConstants.{DT_NULL, DT_HASH, DT_STRTAB, DT_SYMTAB, DT_RELA, DT_RELASZ}
use Rattle.elf_records.specs.declared.dynamic.TheConstants.{DT_RELAENT, DT_STRSZ, DT_SYMENT, DT_FLAGS, DT_FLAGS_1}
use Rattle.elf_records.specs.declared.dynamic.TheConstants.{DF_STATIC_TLS, DF_1_PIE}
use Rattle.image_rules.specs.declared.places.FileKind.{FileKind}
use Rattle.image_rules.specs.declared.places.FileKind.TheVariants.{Exe, Pie, Module}
use Rattle.image_faults.specs.Parts.{last}
use Rattle.image_faults.specs.Array as seen
use Rattle.image_faults.specs.Array.{HasTag, has_tag, entry}
use Rattle.image_writer.specs.Page.{file_offset}
use Rattle.image_writer.specs.Contents.{Contents, tables_address}
use Rattle.image_writer.specs.Tables.{array, array_entry, array_size, has_relocations}
use Rattle.image_writer.specs.Tables.{flags_entries, relocations_start, strings, strings_start, symbols_start}
use Rattle.image_writer.specs.Tables.{tables}
use Rattle.image_writer.proofs.TableSizes.{length-array}
use Rattle.image_writer.proofs.TableTold.{entry_told}
use Rattle.image_writer.proofs.TableArray.{entry_fits, hash_entry, next_entry, none, relocation_size_entry}
use Rattle.image_writer.proofs.TableArray.{relocations_entry}
use Rattle.image_writer.proofs.TableArray.{relocations_size_entry, rest, rest_entry, strings_entry, strings_size_entry}
use Rattle.image_writer.proofs.TableArray.{symbol_size_entry, symbols_entry}

-- the tables are the last part
pub record IsSeen (f : List ℕ) (c : Contents) : Type 0 where
  pub offset_is : (last f).offset ≡ file_offset c.kind (tables_address c)
  pub address_is : (last f).vaddr ≡ tables_address c
  pub size_is : (last f).filesz ≡ length (tables c)
  pub array_is : seen.array_size f ≡ array_size c
  pub here : part_at (length (tables c)) (file_offset c.kind (tables_address c)) f ≡ tables c
  pub small : tables_address c + length (tables c) ≤ 71303168

-- where they begin in the file
abbrev pub at : Contents → ℕ
at c = file_offset c.kind (tables_address c)

-- an entry of the array
pub entry_is : (f : List ℕ) (c : Contents) → IsSeen f c → (j : ℕ) → 16 * (j + 1) ≤ array_size c
    → entry f j ≡ get_or (array c) j none
unfolding entry
entry_is f c s j within =
    let count = length-array c in
    let below : j < length (array c) = omega (arith, count, within) in
    ap (λ p. dynamic_at (p + 16 * j) f) s.offset_is
    ∙ entry_told c f (at c) s.here j none below (entry_fits c j s.small below)

-- it has its tag, and its value
pub tagged : (f : List ℕ) (c : Contents) → IsSeen f c → (j tag value : ℕ) → 16 * (j + 1) ≤ array_size c
    → get_or (array c) j none ≡ array_entry tag value → HasTag f j tag × ((entry f j).value ≡ value)
tagged f c s j tag value within told =
    let long = s.array_is in
    let same : entry f j ≡ array_entry tag value = entry_is f c s j within ∙ told in
    let reach : 16 * (j + 1) ≤ seen.array_size f = omega (arith, long, within) in
    ((reach, ap (λ e. e.tag) same), ap (λ e. e.value) same)

-- the test of a tag
pub test_true : (f : List ℕ) (j tag : ℕ) → HasTag f j tag → has_tag f j tag ≡ true
test_true f j tag has = and_from _ _ (le-leb _ _ has.0) (eq-eqb _ _ has.1)

-- the test of another tag
pub test_false : (f : List ℕ) (j tag other : ℕ) → HasTag f j other → other ≢ tag → has_tag f j tag ≡ false
test_false f j tag other has apart =
    and_right (nat_le (16 * (j + 1)) (seen.array_size f)) ((entry f j).tag == tag)
    (ap (λ t. t == tag) has.1 ∙ ne_eqb other tag apart)

-- the first entry of the file: that of the hash table
pub hash_seen : (f : List ℕ) (c : Contents) → IsSeen f c
    → HasTag f 0 DT_HASH × ((entry f 0).value ≡ tables_address c + array_size c)
hash_seen f c s = tagged f c s 0 DT_HASH (tables_address c + array_size c) (omega arith) (hash_entry c)

-- that of the string table
pub strings_seen : (f : List ℕ) (c : Contents) → IsSeen f c
    → HasTag f 1 DT_STRTAB × ((entry f 1).value ≡ tables_address c + strings_start c)
strings_seen f c s = tagged f c s 1 DT_STRTAB (tables_address c + strings_start c) (omega arith) (strings_entry c)

-- that of the symbols
pub symbols_seen : (f : List ℕ) (c : Contents) → IsSeen f c
    → HasTag f 2 DT_SYMTAB × ((entry f 2).value ≡ tables_address c + symbols_start c)
symbols_seen f c s = tagged f c s 2 DT_SYMTAB (tables_address c + symbols_start c) (omega arith) (symbols_entry c)

-- that of the size of the names
pub strings_size_seen : (f : List ℕ) (c : Contents) → IsSeen f c
    → HasTag f 3 DT_STRSZ × ((entry f 3).value ≡ length (strings c))
strings_size_seen f c s = tagged f c s 3 DT_STRSZ (length (strings c)) (omega arith) (strings_size_entry c)

-- that of the size of a symbol
pub symbol_size_seen : (f : List ℕ) (c : Contents) → IsSeen f c → HasTag f 4 DT_SYMENT × ((entry f 4).value ≡ 24)
symbol_size_seen f c s = tagged f c s 4 DT_SYMENT 24 (omega arith) (symbol_size_entry c)

-- three entries, or none
abbrev three_if : Bool → ℕ
three_if b = if b then 3 else 0

-- where there are relocations, there are three
three : (c : Contents) → has_relocations c ≡ true → three_if (has_relocations c) ≡ 3
three c some = ap three_if some

-- that of their place
pub relocations_seen : (f : List ℕ) (c : Contents) → IsSeen f c → has_relocations c ≡ true
    → HasTag f 5 DT_RELA × ((entry f 5).value ≡ tables_address c + relocations_start c)
relocations_seen f c s some =
    tagged f c s 5 DT_RELA (tables_address c + relocations_start c) (omega (arith, three c some))
    (relocations_entry c some)

-- that of their size
pub relocations_size_seen : (f : List ℕ) (c : Contents) → IsSeen f c → has_relocations c ≡ true
    → HasTag f 6 DT_RELASZ × ((entry f 6).value ≡ 24 * length c.relocations)
relocations_size_seen f c s some =
    tagged f c s 6 DT_RELASZ (24 * length c.relocations) (omega (arith, three c some)) (relocations_size_entry c some)

-- that of the size of each
pub relocation_size_seen : (f : List ℕ) (c : Contents) → IsSeen f c → has_relocations c ≡ true
    → HasTag f 7 DT_RELAENT × ((entry f 7).value ≡ 24)
relocation_size_seen f c s some =
    tagged f c s 7 DT_RELAENT 24 (omega (arith, three c some)) (relocation_size_entry c some)

-- what stands behind those of the tables: a flag of static TLS, that of a program, or neither
IsFirst : Bool → FileKind → DynamicEntry → Type 0
IsFirst flagged kind e =
    ((flagged ≡ true) × (e ≡ array_entry DT_FLAGS DF_STATIC_TLS))
    ⊎ (((flagged ≡ false) × (kind ≡ Pie) × (e ≡ array_entry DT_FLAGS_1 DF_1_PIE))
    ⊎ ((flagged ≡ false) × (kind ≢ Pie) × (e ≡ none)))

-- the first entry behind those of the tables is one of these
first_is : (flagged : Bool) (kind : FileKind)
    → IsFirst flagged kind (get_or (flags_entries flagged kind ++ (none ∷ [])) 0 none)
unfolding IsFirst
first_is true kind = inl (refl, refl)
first_is false Exe = inr (inr (refl, λ e. cc, refl))
first_is false Pie = inr (inl (refl, refl, refl))
first_is false Module = inr (inr (refl, λ e. cc, refl))

-- behind a flag the array ends
second_is : (flagged : Bool) (kind : FileKind) → length (flags_entries flagged kind) ≡ 1
    → get_or (flags_entries flagged kind ++ (none ∷ [])) 1 none ≡ none
second_is true kind some = refl
second_is false Exe some = absurd (cc)
second_is false Pie some = refl
second_is false Module some = absurd (cc)

-- its number in the array
abbrev pub flags_place : Contents → ℕ
flags_place c = if has_relocations c then 8 else 5

-- the five entries of each array, and those of relocations
place_sum : (b : Bool) → (if b then 8 else 5) ≡ 5 + three_if b
place_sum true = refl
place_sum false = refl

-- the array has an entry behind those of the tables
flags_reach : (c : Contents) → 16 * (flags_place c + 1) ≤ array_size c
flags_reach c = omega (arith, place_sum (has_relocations c))

-- and another behind a flag
next_reach : (c : Contents) → length (flags_entries c.is_flagged c.kind) ≡ 1 → 16 *
    (flags_place c + 1 + 1) ≤ array_size c
next_reach c some = omega (arith, place_sum (has_relocations c), some)

-- the entry behind it ends the array
end_seen : (f : List ℕ) (c : Contents) → IsSeen f c → length (flags_entries c.is_flagged c.kind) ≡ 1
    → HasTag f (flags_place c + 1) DT_NULL
end_seen f c s some =
    (tagged f c s (flags_place c + 1) DT_NULL 0 (next_reach c some)
    (next_entry c ∙ second_is c.is_flagged c.kind some)).0

-- what the file says there
unfoldable pub IsFlagsSeen : List ℕ → Contents → ℕ → Type 0
IsFlagsSeen f c j =
    ((c.is_flagged ≡ true) × HasTag f j DT_FLAGS × ((entry f j).value ≡ DF_STATIC_TLS) × HasTag f (j + 1) DT_NULL)
    ⊎ (((c.is_flagged ≡ false) × (c.kind ≡ Pie) × HasTag f j DT_FLAGS_1 × ((entry f j).value ≡ DF_1_PIE)
    × HasTag f (j + 1) DT_NULL)
    ⊎ ((c.is_flagged ≡ false) × (c.kind ≢ Pie) × HasTag f j DT_NULL))

-- by what the contents have there
flags_seen_by : (f : List ℕ) (c : Contents) → IsSeen f c → IsFirst c.is_flagged c.kind (get_or (rest c) 0 none)
    → IsFlagsSeen f c (flags_place c)
unfolding IsFirst IsFlagsSeen
flags_seen_by f c s (inl told) =
    let here = tagged f c s (flags_place c) DT_FLAGS DF_STATIC_TLS (flags_reach c) (rest_entry c ∙ told.1) in
    let some : length (flags_entries c.is_flagged c.kind) ≡ 1 = ap (λ b. length (flags_entries b c.kind)) told.0 in
    inl (told.0, here.0, here.1, end_seen f c s some)
flags_seen_by f c s (inr (inl told)) =
    let here = tagged f c s (flags_place c) DT_FLAGS_1 DF_1_PIE (flags_reach c) (rest_entry c ∙ told.2) in
    let some : length (flags_entries c.is_flagged c.kind) ≡ 1 =
    ap (λ b. length (flags_entries b c.kind)) told.0 ∙ ap (λ k. length (flags_entries false k)) told.1 in
    inr (inl (told.0, told.1, here.0, here.1, end_seen f c s some))
flags_seen_by f c s (inr (inr told)) =
    let here = tagged f c s (flags_place c) DT_NULL 0 (flags_reach c) (rest_entry c ∙ told.2) in
    inr (inr (told.0, told.1, here.0))

-- the file names relocations just where there are any
no_relocations : (f : List ℕ) (c : Contents) → IsFlagsSeen f c 5 → has_tag f 5 DT_RELA ≡ false
unfolding IsFlagsSeen
no_relocations f c (inl told) = test_false f 5 DT_RELA DT_FLAGS told.1 (λ e. omega (arith, e))
no_relocations f c (inr (inl told)) = test_false f 5 DT_RELA DT_FLAGS_1 told.2 (λ e. omega (arith, e))
no_relocations f c (inr (inr told)) = test_false f 5 DT_RELA DT_NULL told.2 (λ e. omega (arith, e))

-- the array names relocations just where the contents have some
pub has_relocations_is : (f : List ℕ) (c : Contents) → IsSeen f c → has_tag f 5 DT_RELA ≡ has_relocations c
has_relocations_is f c s = elim (cases_Bool (has_relocations c)) [
  | inl some ↦ test_true f 5 DT_RELA (relocations_seen f c s some).0 ∙ sym some
  | inr lacking ↦
      let place : flags_place c ≡ 5 = ap (λ b. if b then 8 else 5) lacking in
      no_relocations f c (subst (IsFlagsSeen f c) place (flags_seen_by f c s (first_is c.is_flagged c.kind)))
      ∙ sym lacking
]

-- what the file says where it looks for a flag
pub flags_seen : (f : List ℕ) (c : Contents) → IsSeen f c → IsFlagsSeen f c (seen.flags_entry f)
flags_seen f c s =
    let place : flags_place c ≡ seen.flags_entry f = ap (λ b. if b then 8 else 5) (sym (has_relocations_is f c s)) in
    subst (IsFlagsSeen f c) place (flags_seen_by f c s (first_is c.is_flagged c.kind))
