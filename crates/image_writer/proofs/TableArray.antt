-- The entries of the dynamic array.
use Rattle.std.proofs.Common.{◌≡◌, ◌+◌, ◌*◌, ◌^◌, ◌<◌, ◌≤◌, ℕ, zero, suc, Bool, true, false, List, [], ◌∷◌, ◌++◌}
use Rattle.std.proofs.Common.{length, get_or}
use Rattle.std.proofs.Common.{refl, ap, arith, if◌then◌else◌}
use Rattle.elf_records.specs.declared.dynamic.DynamicEntry.{DynamicEntry}
use Rattle.elf_records.specs.FittingRecords.{FitsDynamicEntry}
use Rattle.elf_records.specs.declared.dynamic.TheConstants.{DT_NULL, DT_HASH, DT_STRTAB, DT_SYMTAB, DT_RELA, DT_RELASZ}
use Rattle.elf_records.specs.declared.dynamic.TheConstants.{DT_RELAENT, DT_STRSZ, DT_SYMENT, DT_FLAGS, DT_FLAGS_1}
use Rattle.elf_records.specs.declared.dynamic.TheConstants.{DF_STATIC_TLS, DF_1_PIE}
use Rattle.image_rules.specs.declared.places.FileKind.{FileKind}
use Rattle.image_rules.specs.declared.places.FileKind.TheVariants.{Exe, Pie, Module}
use Rattle.image_writer.specs.Contents.{Contents, tables_address}
use Rattle.image_writer.specs.Tables.{array, array_entry, array_size, flags_entries, has_relocations, hash_size}
use Rattle.image_writer.specs.Tables.{relocation_entries}
use Rattle.image_writer.specs.Tables.{relocations_start, strings, strings_start, symbols_start, tables}
use Rattle.image_writer.proofs.TableSizes.{not_below, tables_long}

-- the entry that stands past the end
abbrev pub none : DynamicEntry
none = array_entry DT_NULL 0

-- the entries behind those of the tables
abbrev pub rest : Contents → List DynamicEntry
rest c = flags_entries c.is_flagged c.kind ++ (none ∷ [])

-- entry 0 names the hash table
pub hash_entry : (c : Contents) → get_or (array c) 0 none ≡ array_entry DT_HASH (tables_address c + array_size c)
unfolding array
hash_entry c = refl

-- entry 1 names the string table
pub strings_entry : (c : Contents)
    → get_or (array c) 1 none ≡ array_entry DT_STRTAB (tables_address c + strings_start c)
unfolding array
strings_entry c = refl

-- entry 2 names the symbols
pub symbols_entry : (c : Contents)
    → get_or (array c) 2 none ≡ array_entry DT_SYMTAB (tables_address c + symbols_start c)
unfolding array
symbols_entry c = refl

-- entry 3 says how many bytes the names take
pub strings_size_entry : (c : Contents) → get_or (array c) 3 none ≡ array_entry DT_STRSZ (length (strings c))
unfolding array
strings_size_entry c = refl

-- entry 4 says how many bytes a symbol takes
pub symbol_size_entry : (c : Contents) → get_or (array c) 4 none ≡ array_entry DT_SYMENT 24
unfolding array
symbol_size_entry c = refl

-- entry 5 names the relocations, where there are any
pub relocations_entry : (c : Contents) → has_relocations c ≡ true
    → get_or (array c) 5 none ≡ array_entry DT_RELA (tables_address c + relocations_start c)
unfolding array
relocations_entry c some = ap (λ b. get_or (relocation_entries c b ++ rest c) 0 none) some

-- entry 6 then says how many bytes the relocations take
pub relocations_size_entry : (c : Contents) → has_relocations c ≡ true
    → get_or (array c) 6 none ≡ array_entry DT_RELASZ (24 * length c.relocations)
unfolding array
relocations_size_entry c some = ap (λ b. get_or (relocation_entries c b ++ rest c) 1 none) some

-- entry 7 then says how many bytes each of them takes
pub relocation_size_entry : (c : Contents) → has_relocations c ≡ true
    → get_or (array c) 7 none ≡ array_entry DT_RELAENT 24
unfolding array
relocation_size_entry c some = ap (λ b. get_or (relocation_entries c b ++ rest c) 2 none) some

-- what follows the first five entries and those of relocations
rest_behind : (c : Contents) (b : Bool) (u v w x y : DynamicEntry)
    → get_or ((u ∷ v ∷ w ∷ x ∷ y ∷ []) ++ (relocation_entries c b ++ rest c)) (if b then 8 else 5) none
    ≡ get_or (rest c) 0 none
rest_behind c true u v w x y = refl
rest_behind c false u v w x y = refl

-- and the entry behind that
next_behind : (c : Contents) (b : Bool) (u v w x y : DynamicEntry)
    → get_or ((u ∷ v ∷ w ∷ x ∷ y ∷ []) ++ (relocation_entries c b ++ rest c)) ((if b then 8 else 5) + 1) none
    ≡ get_or (rest c) 1 none
next_behind c true u v w x y = refl
next_behind c false u v w x y = refl

-- the first entry behind those of the tables
pub rest_entry : (c : Contents) → get_or (array c) (if has_relocations c then 8 else 5) none ≡ get_or (rest c) 0 none
unfolding array
rest_entry c = rest_behind c (has_relocations c) _ _ _ _ _

-- and the one behind it
pub next_entry : (c : Contents)
    → get_or (array c) ((if has_relocations c then 8 else 5) + 1) none ≡ get_or (rest c) 1 none
unfolding array
next_entry c = next_behind c (has_relocations c) _ _ _ _ _

-- each entry of a list fits
FitsEach : List DynamicEntry → Type 0
FitsEach [] = Unit {0}
FitsEach (e ∷ es) = FitsDynamicEntry e × FitsEach es

-- entries of two lists that fit, fit in the lists joined
fits_both : (xs ys : List DynamicEntry) → FitsEach xs → FitsEach ys → FitsEach (xs ++ ys)
unfolding FitsEach
fits_both [] ys first second = second
fits_both (x ∷ xs) ys first second = (first.0, fits_both xs ys first.1 second)

-- each of a list of entries that fit, fits
fits_at : (xs : List DynamicEntry) (j : ℕ) (d : DynamicEntry) → FitsEach xs → j < length xs
    → FitsDynamicEntry (get_or xs j d)
unfolding FitsEach
fits_at [] j d each below = absurd (omega arith)
fits_at (x ∷ xs) zero d each below = each.0
fits_at (x ∷ xs) (suc j) d each below = fits_at xs j d each.1 (omega arith)

-- an entry of two small numbers fits
fits : (tag value : ℕ) → tag < 2 ^ 64 → value < 2 ^ 64 → FitsDynamicEntry (array_entry tag value)
fits tag value tag_below value_below = (tag_below, (value_below, tt))

-- the entry of a flag fits
flags_fit : (flagged : Bool) (kind : FileKind) → FitsEach (flags_entries flagged kind)
unfolding FitsEach
flags_fit true kind = (fits DT_FLAGS DF_STATIC_TLS (omega arith) (omega arith), tt)
flags_fit false Exe = tt
flags_fit false Pie = (fits DT_FLAGS_1 DF_1_PIE (omega arith) (omega arith), tt)
flags_fit false Module = tt

-- the entries of relocations fit
relocations_fit : (c : Contents) (b : Bool) → tables_address c + length (tables c) ≤ 71303168
    → FitsEach (relocation_entries c b)
unfolding FitsEach
relocations_fit c false small = tt
relocations_fit c true small =
    let whole = tables_long c in
    let place : tables_address c + relocations_start c < 2 ^ 64 = omega (arith, whole, small) in
    let size : 24 * length c.relocations < 2 ^ 64 = omega (arith, whole, small) in (
      fits DT_RELA (tables_address c + relocations_start c) (omega arith) place,
      (
        fits DT_RELASZ (24 * length c.relocations) (omega arith) size,
        (fits DT_RELAENT 24 (omega arith) (omega arith), tt),
      ),
    )

-- so do all entries of the array
pub entry_fits : (c : Contents) (j : ℕ) → tables_address c + length (tables c) ≤ 71303168 → j < length (array c)
    → FitsDynamicEntry (get_or (array c) j none)
unfolding array FitsEach
entry_fits c j small below =
    let whole = tables_long c in
    let above = not_below (array_size c + hash_size c) in
    let hash : tables_address c + array_size c < 2 ^ 64 = omega (arith, whole, above, small) in
    let names : tables_address c + strings_start c < 2 ^ 64 = omega (arith, whole, small) in
    let symbols : tables_address c + symbols_start c < 2 ^ 64 = omega (arith, whole, small) in
    let size : length (strings c) < 2 ^ 64 = omega (arith, whole, small) in
    let end : FitsEach (none ∷ []) = (fits DT_NULL 0 (omega arith) (omega arith), tt) in
    let more = fits_both (flags_entries c.is_flagged c.kind) (none ∷ []) (flags_fit c.is_flagged c.kind) end in
    let rest = fits_both (relocation_entries c (has_relocations c)) (rest c)
    (relocations_fit c (has_relocations c) small) more in
    fits_at (array c) j none (
      fits DT_HASH (tables_address c + array_size c) (omega arith) hash,
      (
        fits DT_STRTAB (tables_address c + strings_start c) (omega arith) names,
        (
          fits DT_SYMTAB (tables_address c + symbols_start c) (omega arith) symbols,
          (
            fits DT_STRSZ (length (strings c)) (omega arith) size,
            (fits DT_SYMENT 24 (omega arith) (omega arith), rest),
          ),
        ),
      ),
    ) below
