-- A file of finished contents keeps the rules of the array's entries, and tells the contents' kind and flag.
use Rattle.std.proofs.Common.{◌≡◌, ◌≢◌, ◌+◌, ◌-◌, ◌*◌, ◌%◌, ◌≤◌, ◌==◌, ◌⊎◌, ℕ, Bool, true, false, List, length}
use Rattle.std.proofs.Common.{refl, sym, ap, ◌∙◌, arith, if◌then◌else◌, inl, inr, subst}
use Rattle.std.proofs.lemmas.Bool.{cases_Bool, both_ways}
use Rattle.elf_records.specs.declared.file_header.TheConstants.{ET_DYN}
use Rattle.elf_records.specs.declared.dynamic.TheConstants.{DT_NULL, DT_RELA}
use Rattle.elf_records.specs.declared.dynamic.TheConstants.{DT_FLAGS, DT_FLAGS_1}
use Rattle.image_rules.specs.declared.places.FileKind.{FileKind}
use Rattle.image_rules.specs.declared.places.FileKind.TheVariants.{Exe, Pie, Module}
use Rattle.image_rules.specs.declared.rule.EntryRule.{EntryRule}
use Rattle.image_rules.specs.declared.rule.EntryRule.TheVariants.{Hash, Strings, Symbols, StringsSize, SymbolSize}
use Rattle.image_rules.specs.declared.rule.EntryRule.TheVariants.{Relocations, RelocationsSize, RelocationSize, Flags}
use Rattle.image_rules.specs.declared.rule.EntryRule.TheVariants.{End}
use Rattle.image_rules.specs.declared.rule.Rule.TheVariants.{Entry}
use Rattle.image_faults.specs.Parts.{header, last}
use Rattle.image_faults.specs.Array.{HasTag, HoldsTable, IsRightEntry, entry, flags_entry, has_tag}
use Rattle.image_faults.specs.Faults.{Breaks, Keeps}
use Rattle.image_faults.specs.Places.{file_kind, is_flagged}
use Rattle.image_writer.specs.Page.{type_of}
use Rattle.image_writer.specs.Contents.{Contents, tables_address}
use Rattle.image_writer.specs.Tables.{array_size, has_relocations, hash_size, relocations_start, strings, strings_start}
use Rattle.image_writer.specs.Tables.{symbol_total, symbols_start, tables}
use Rattle.image_writer.proofs.TableSizes.{aligned, tables_long, not_below}
use Rattle.image_writer.proofs.TableSeen.{IsFlagsSeen, IsSeen, flags_seen, has_relocations_is, hash_seen}
use Rattle.image_writer.proofs.TableSeen.{relocation_size_seen}
use Rattle.image_writer.proofs.TableSeen.{relocations_seen, relocations_size_seen, strings_seen, strings_size_seen}
use Rattle.image_writer.proofs.TableSeen.{symbol_size_seen, symbols_seen, test_true, test_false}
use Rattle.image_writer.proofs.TablePlaces.{bucket_count_is, relocations_size_is, strings_size_is, symbol_count_is}

-- a table lies in the last part
held : (vaddr filesz address long value further n : ℕ) → vaddr ≡ address → filesz ≡ long → value ≡ address + further
    → further % 8 ≡ 0 → further + n ≤ long → (vaddr ≤ value) × ((value - vaddr) % 8 ≡ 0) × (value + n ≤ vaddr + filesz)
held vaddr filesz address long value further n at_vaddr at_filesz at_value even within =
    let difference : value - vaddr ≡ further = omega (arith, at_vaddr, at_value) in
    (omega arith, ap (λ x. x % 8) difference ∙ even, omega arith)

-- the same, said of the last part of a file
holds : (f : List ℕ) (c : Contents) → IsSeen f c → (value further n : ℕ) → value ≡ tables_address c + further
    → further % 8 ≡ 0 → further + n ≤ length (tables c) → HoldsTable f value n
holds f c s value further n at_value even within =
    held (last f).vaddr (last f).filesz (tables_address c) (length (tables c)) value further n s.address_is s.size_is
    at_value even within

-- the tables begin at multiples of 8
sixteens : (x : ℕ) → 16 * x % 8 ≡ 0
sixteens x = omega arith

-- rows of 24 bytes keep a multiple of 8
more_rows : (x n : ℕ) → x % 8 ≡ 0 → (x + 24 * n) % 8 ≡ 0
more_rows x n even = omega arith

-- the entry of the hash table is right
hash_right : (f : List ℕ) (c : Contents) → IsSeen f c → IsRightEntry Hash f
hash_right f c s =
    let told = hash_seen f c s in
    let whole = tables_long c in
    let above = not_below (array_size c + hash_size c) in
    let within : array_size c + (12 + 4 * symbol_total c) ≤ length (tables c) = omega (arith, whole, above) in (
      told.0,
      subst (λ n. HoldsTable f (entry f 0).value (12 + 4 * n)) (sym (symbol_count_is f c s))
          (holds f c s (entry f 0).value (array_size c) (12 + 4 * symbol_total c) told.1 (sixteens _) within),
      bucket_count_is f c s,
    )

-- that of the string table
strings_right : (f : List ℕ) (c : Contents) → IsSeen f c → IsRightEntry Strings f
strings_right f c s =
    let told = strings_seen f c s in
    let whole = tables_long c in
    let within : strings_start c + length (strings c) ≤ length (tables c) = omega (arith, whole) in
    let first = more_rows (symbols_start c) (symbol_total c) (aligned (array_size c + hash_size c)) in
    let even = more_rows (relocations_start c) (length c.relocations) first in (
      told.0,
      subst (λ n. HoldsTable f (entry f 1).value n) (sym (strings_size_is f c s))
          (holds f c s (entry f 1).value (strings_start c) (length (strings c)) told.1 even within),
    )

-- that of the symbols
symbols_right : (f : List ℕ) (c : Contents) → IsSeen f c → IsRightEntry Symbols f
symbols_right f c s =
    let told = symbols_seen f c s in
    let whole = tables_long c in
    let within : symbols_start c + 24 * symbol_total c ≤ length (tables c) = omega (arith, whole) in (
      told.0,
      subst (λ n. HoldsTable f (entry f 2).value (24 * n)) (sym (symbol_count_is f c s))
          (holds f c s (entry f 2).value (symbols_start c) (24 * symbol_total c) told.1
          (aligned (array_size c + hash_size c)) within),
    )

-- where there are none, the array names none
none_named : (f : List ℕ) (c : Contents) → IsSeen f c → has_relocations c ≡ false → HasTag f 5 DT_RELA → ⊥
none_named f c s lacking has =
    both_ways (has_tag f 5 DT_RELA) (has_relocations_is f c s ∙ lacking) (test_true f 5 DT_RELA has)

-- that of the relocations
relocations_right : (f : List ℕ) (c : Contents) → IsSeen f c → IsRightEntry Relocations f
relocations_right f c s = elim (cases_Bool (has_relocations c)) [
  | inl some ↦
      let told = relocations_seen f c s some in
      let whole = tables_long c in
      let within : relocations_start c + 24 * length c.relocations ≤ length (tables c) = omega (arith, whole) in
      let even = more_rows (symbols_start c) (symbol_total c) (aligned (array_size c + hash_size c)) in
      inr (
        told.0,
        subst (λ n. HoldsTable f (entry f 5).value n) (sym (relocations_size_is f c s))
            (holds f c s (entry f 5).value (relocations_start c) (24 * length c.relocations) told.1 even within),
      )
  | inr lacking ↦ inl (none_named f c s lacking)
]

-- whole rows of 24 bytes
whole_rows : (x n : ℕ) → x ≡ 24 * n → x % 24 ≡ 0
whole_rows x n same = omega arith

-- that of the size of the relocations
relocations_size_right : (f : List ℕ) (c : Contents) → IsSeen f c → IsRightEntry RelocationsSize f
relocations_size_right f c s = elim (cases_Bool (has_relocations c)) [
  | inl some ↦
      let told = relocations_size_seen f c s some in
      inr (told.0, whole_rows (entry f 6).value (length c.relocations) told.1)
  | inr lacking ↦ inl (none_named f c s lacking)
]

-- that of the size of each relocation
relocation_size_right : (f : List ℕ) (c : Contents) → IsSeen f c → IsRightEntry RelocationSize f
relocation_size_right f c s = elim (cases_Bool (has_relocations c)) [
  | inl some ↦ inr (relocation_size_seen f c s some)
  | inr lacking ↦ inl (none_named f c s lacking)
]

-- that of the flags
flags_right : (f : List ℕ) (c : Contents) → (header f).e_type ≡ type_of c.kind → IsFlagsSeen f c (flags_entry f)
    → IsRightEntry Flags f
unfolding IsFlagsSeen
flags_right f c type_is (inl told) = inr (inl (told.1, told.2))
flags_right f c type_is (inr (inl told)) = inr (inr (told.2, told.3, type_is ∙ ap type_of told.1))
flags_right f c type_is (inr (inr told)) = inl told.2

-- that of the end
end_right : (f : List ℕ) (c : Contents) → IsFlagsSeen f c (flags_entry f) → IsRightEntry End f
unfolding IsFlagsSeen
end_right f c (inl told) = inr told.3
end_right f c (inr (inl told)) = inr told.4
end_right f c (inr (inr told)) = inl told.2

-- all of them
pub entry_right : (f : List ℕ) (c : Contents) → IsSeen f c → (header f).e_type ≡ type_of c.kind → (rule : EntryRule)
    → IsRightEntry rule f
entry_right f c s type_is Hash = hash_right f c s
entry_right f c s type_is Strings = strings_right f c s
entry_right f c s type_is Symbols = symbols_right f c s
entry_right f c s type_is StringsSize = (strings_size_seen f c s).0
entry_right f c s type_is SymbolSize = symbol_size_seen f c s
entry_right f c s type_is Relocations = relocations_right f c s
entry_right f c s type_is RelocationsSize = relocations_size_right f c s
entry_right f c s type_is RelocationSize = relocation_size_right f c s
entry_right f c s type_is Flags = flags_right f c type_is (flags_seen f c s)
entry_right f c s type_is End = end_right f c (flags_seen f c s)

-- so the rules of the entries are kept
pub entries_kept : (f : List ℕ) (c : Contents) → IsSeen f c → (header f).e_type ≡ type_of c.kind → (rule : EntryRule)
    → Keeps (Entry rule) f
unfolding Breaks
entries_kept f c s type_is rule e broken = broken.1 (entry_right f c s type_is rule)

-- the flag, by what the file says there
flagged_by : (f : List ℕ) (c : Contents) → IsFlagsSeen f c (flags_entry f) → is_flagged f ≡ c.is_flagged
unfolding IsFlagsSeen
flagged_by f c (inl told) = test_true f (flags_entry f) DT_FLAGS told.1 ∙ sym told.0
flagged_by f c (inr (inl told)) =
    test_false f (flags_entry f) DT_FLAGS DT_FLAGS_1 told.2 (λ e. omega (arith, e)) ∙ sym told.0
flagged_by f c (inr (inr told)) =
    test_false f (flags_entry f) DT_FLAGS DT_NULL told.2 (λ e. omega (arith, e)) ∙ sym told.0

-- the file asks for thread-local data at a fixed distance just where the contents do
pub flagged_is : (f : List ℕ) (c : Contents) → IsSeen f c → is_flagged f ≡ c.is_flagged
flagged_is f c s = flagged_by f c (flags_seen f c s)

-- whether the file names itself a program
program_by : (f : List ℕ) (c : Contents) → IsFlagsSeen f c (flags_entry f) → (c.is_flagged ≡ true → c.kind ≡ Module)
    → ((c.kind ≡ Pie) × (has_tag f (flags_entry f) DT_FLAGS_1 ≡ true))
    ⊎ ((c.kind ≢ Pie) × (has_tag f (flags_entry f) DT_FLAGS_1 ≡ false))
unfolding IsFlagsSeen
program_by f c (inl told) flagged =
    let loaded : c.kind ≡ Module = flagged told.0 in
    inr (λ pie. cc, test_false f (flags_entry f) DT_FLAGS_1 DT_FLAGS told.1 (λ e. omega (arith, e)))
program_by f c (inr (inl told)) flagged = inl (told.1, test_true f (flags_entry f) DT_FLAGS_1 told.2)
program_by f c (inr (inr told)) flagged =
    inr (told.1, test_false f (flags_entry f) DT_FLAGS_1 DT_NULL told.2 (λ e. omega (arith, e)))

-- the kind by the type of the file and by whether it names itself a program
kind_by : (type : ℕ) (program : Bool) (kind : FileKind) → type ≡ type_of kind
    → ((kind ≡ Pie) × (program ≡ true)) ⊎ ((kind ≢ Pie) × (program ≡ false))
    → (if type == ET_DYN then (if program then Pie else Module) else Exe) ≡ kind
kind_by type program Exe type_is told = ap (λ t. if t == ET_DYN then (if program then Pie else Module) else Exe) type_is
kind_by type program Pie type_is (inl told) =
    ap (λ t. if t == ET_DYN then (if program then Pie else Module) else Exe) type_is
    ∙ ap (λ b. if b then Pie else Module) told.1
kind_by type program Pie type_is (inr told) = absurd (told.0 refl)
kind_by type program Module type_is (inl told) = absurd (cc told.0)
kind_by type program Module type_is (inr told) =
    ap (λ t. if t == ET_DYN then (if program then Pie else Module) else Exe) type_is
    ∙ ap (λ b. if b then Pie else Module) told.1

-- the file is of the kind of the contents
pub kind_is : (f : List ℕ) (c : Contents) → IsSeen f c → (header f).e_type ≡ type_of c.kind
    → (c.is_flagged ≡ true → c.kind ≡ Module) → file_kind f ≡ c.kind
kind_is f c s type_is flagged =
    kind_by (header f).e_type (has_tag f (flags_entry f) DT_FLAGS_1) c.kind type_is
    (program_by f c (flags_seen f c s) flagged)
