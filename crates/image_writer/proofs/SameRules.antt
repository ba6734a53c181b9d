-- Two files whose headers say the same, and whose last LOAD holds the same bytes: what the entries of the array, the
-- symbols and the relocations of one keep, those of the other keep.
use Rattle.std.proofs.Common.{◌≡◌, ◌≢◌, ◌+◌, ◌-◌, ◌*◌, ◌%◌, ◌<◌, ◌≤◌, ◌⊎◌, ◌∙◌, ℕ, ℤ, List, Bool, Option, Some, None}
use Rattle.std.proofs.Common.{inl, inr, sym, ap, subst, arith}
use Rattle.std.proofs.Common.{slice_index}
use Rattle.std.specs.Prelude.{IsTrue, ◌<ℤ◌, pos}
use Rattle.elf_records.specs.Fields.{part_at}
use Rattle.elf_records.specs.Records.{rela_symbol, rela_kind, symbol_binding, symbol_kind}
use Rattle.elf_records.specs.declared.symbol.SymbolEntry.{SymbolEntry}
use Rattle.elf_records.specs.declared.relocation.Rela.{Rela}
use Rattle.elf_records.specs.declared.dynamic.TheConstants.{DT_NULL, DT_HASH, DT_STRTAB, DT_SYMTAB, DT_RELA, DT_RELASZ}
use Rattle.elf_records.specs.declared.dynamic.TheConstants.{DT_RELAENT, DT_STRSZ}
use Rattle.elf_records.specs.declared.dynamic.TheConstants.{DT_SYMENT, DT_FLAGS, DT_FLAGS_1}
use Rattle.elf_records.specs.declared.symbol.TheConstants.{SHN_UNDEF, STB_GLOBAL, STB_WEAK, STT_COMMON, STT_TLS}
use Rattle.image_rules.specs.declared.rule.EntryRule.{EntryRule}
use Rattle.image_rules.specs.declared.rule.EntryRule.TheVariants.{Hash, Strings, Symbols, StringsSize, SymbolSize}
use Rattle.image_rules.specs.declared.rule.EntryRule.TheVariants.{Relocations, RelocationsSize}
use Rattle.image_rules.specs.declared.rule.EntryRule.TheVariants.{RelocationSize, Flags, End}
use Rattle.image_faults.specs.declared.loader_kind.LoaderKind.{LoaderKind}
use Rattle.image_faults.specs.declared.loader_kind.LoaderKind.TheVariants.{JumpSlot, Relative, Module, ModuleOffset}
use Rattle.image_faults.specs.declared.loader_kind.LoaderKind.TheVariants.{ThreadOffset, Descriptor}
use Rattle.image_faults.specs.declared.symbol_tests.TheConstants.{GET_ADDRESS_STRING}
use Rattle.image_faults.specs.Parts.{loads, has_tls, tls_size}
use Rattle.image_faults.specs.Array.{HasTag, HoldsTable, IsRightEntry, entry, flags_entry, symbol_count}
use Rattle.image_faults.specs.Array.{relocation_count, relocations_size}
use Rattle.image_faults.specs.Array.{strings_size, strings_place}
use Rattle.elf_records.specs.Strings.{Ends}
use Rattle.image_faults.specs.Symbols.{symbol, IsRightSymbol, IsImport, IsRuntime, IsPastTls}
use Rattle.image_faults.specs.Relocations.{rela, loader_kind, field_width, MayName, NamesRight, HoldsField}
use Rattle.image_faults.specs.Relocations.{IsBehindLast, IsRightRelocation}
use Rattle.image_faults.specs.Relocations.{IsOutsideTls, LacksOwnTls, IsOwnOutside}
use Rattle.image_writer.proofs.SameArray.{SameHeaders, tag_there, tag_back, table_there, same_value, same_flags_entry}
use Rattle.image_writer.proofs.SameArray.{same_strings_size}
use Rattle.image_writer.proofs.SameArray.{same_relocations_size}
use Rattle.image_writer.proofs.SameTables.{same_bucket_count, same_symbol_count, same_strings_place, same_string_byte}
use Rattle.image_writer.proofs.SameTables.{same_string_part}
use Rattle.image_writer.proofs.SameTables.{same_symbol_entry, same_rela_entry}
use Rattle.image_faults.specs.PlaceLaws.{AreRightTables as AreRight}

-- a table at an address that is the same, of a size that is the same
table_moved : (f b : List ℕ) → SameHeaders f b → (v w m n : ℕ) → v ≡ w → m ≡ n → HoldsTable b w n → HoldsTable f v m
table_moved f b same v w m n address size holds =
    let P : ℕ → Type 0 = λ a. HoldsTable f a m in
    let Q : ℕ → Type 0 = λ k. HoldsTable f w k in
    subst P (sym address) (subst Q (sym size) (table_there f b same w n holds))

-- an entry at a number that is the same
tag_moved : (f b : List ℕ) → SameHeaders f b → (i j tag : ℕ) → i ≡ j → HasTag b j tag → HasTag f i tag
tag_moved f b same i j tag number has =
    let P : ℕ → Type 0 = λ k. HasTag f k tag in
    subst P (sym number) (tag_there f b same j tag has)

-- its value
value_moved : (f b : List ℕ) → SameHeaders f b → (i j tag value : ℕ) → i ≡ j → HasTag b j tag
    → (entry b j).value ≡ value → (entry f i).value ≡ value
value_moved f b same i j tag value number has is = ap (λ k. (entry f k).value) number ∙ same_value f b same j has.0 ∙ is

-- what is only said where there are relocations
where_relocated : (f b : List ℕ) → SameHeaders f b → {P Q : Type 0} → (P → Q) → (HasTag b 5 DT_RELA → ⊥) ⊎ P
    → (HasTag f 5 DT_RELA → ⊥) ⊎ Q
where_relocated f b same more right = elim right [
  | inl none ↦ inl (λ has. none (tag_back f b same 5 DT_RELA has))
  | inr holds ↦ inr (more holds)
]

-- each entry of the array that is right in one is right in the other
pub entry_there : (f b : List ℕ) → SameHeaders f b → IsRightEntry Hash b → (rule : EntryRule) → IsRightEntry rule b
    → IsRightEntry rule f
entry_there f b same hash Hash right = (
  tag_there f b same 0 DT_HASH right.0,
  table_moved f b same (entry f 0).value (entry b 0).value (12 + 4 * symbol_count f) (12 + 4 * symbol_count b)
      (same_value f b same 0 right.0.0) (ap (λ n. 12 + 4 * n) (same_symbol_count f b same right)) right.1,
  same_bucket_count f b same right ∙ right.2,
)
entry_there f b same hash Strings right = (
  tag_there f b same 1 DT_STRTAB right.0,
  table_moved f b same (entry f 1).value (entry b 1).value (strings_size f) (strings_size b)
      (same_value f b same 1 right.0.0) (same_strings_size f b same) right.1,
)
entry_there f b same hash Symbols right = (
  tag_there f b same 2 DT_SYMTAB right.0,
  table_moved f b same (entry f 2).value (entry b 2).value (24 * symbol_count f) (24 * symbol_count b)
      (same_value f b same 2 right.0.0) (ap (λ n. 24 * n) (same_symbol_count f b same hash)) right.1,
)
entry_there f b same hash StringsSize right = tag_there f b same 3 DT_STRSZ right
entry_there f b same hash SymbolSize right =
    (tag_there f b same 4 DT_SYMENT right.0, same_value f b same 4 right.0.0 ∙ right.1)
entry_there f b same hash Relocations right =
    where_relocated f b same
    (λ (h : HasTag b 5 DT_RELA × HoldsTable b (entry b 5).value (relocations_size b)). (
      tag_there f b same 5 DT_RELA h.0,
      table_moved f b same (entry f 5).value (entry b 5).value (relocations_size f) (relocations_size b)
          (same_value f b same 5 h.0.0) (same_relocations_size f b same) h.1,
    ))
    right
entry_there f b same hash RelocationsSize right =
    where_relocated f b same
    (λ (h : HasTag b 6 DT_RELASZ × ((entry b 6).value % 24 ≡ 0)).
    (tag_there f b same 6 DT_RELASZ h.0, ap (λ n. n % 24) (same_value f b same 6 h.0.0) ∙ h.1))
    right
entry_there f b same hash RelocationSize right =
    where_relocated f b same
    (λ (h : HasTag b 7 DT_RELAENT × ((entry b 7).value ≡ 24)).
    (tag_there f b same 7 DT_RELAENT h.0, same_value f b same 7 h.0.0 ∙ h.1))
    right
entry_there f b same hash Flags right =
    let number = same_flags_entry f b same in
    elim right [
      | inl end ↦ inl (tag_moved f b same (flags_entry f) (flags_entry b) DT_NULL number end)
      | inr other ↦ elim other [
        | inl flagged ↦ inr (inl (
          tag_moved f b same (flags_entry f) (flags_entry b) DT_FLAGS number flagged.0,
          value_moved f b same (flags_entry f) (flags_entry b) DT_FLAGS _ number flagged.0 flagged.1,
        ))
        | inr program ↦ inr (inr (
          tag_moved f b same (flags_entry f) (flags_entry b) DT_FLAGS_1 number program.0,
          value_moved f b same (flags_entry f) (flags_entry b) DT_FLAGS_1 _ number program.0 program.1,
          same.file_type ∙ program.2,
        ))
      ]
    ]
entry_there f b same hash End right =
    let number = same_flags_entry f b same in
    elim right [
      | inl end ↦ inl (tag_moved f b same (flags_entry f) (flags_entry b) DT_NULL number end)
      | inr end ↦ inr (tag_moved f b same (flags_entry f + 1) (flags_entry b + 1) DT_NULL (ap (λ n. n + 1) number) end)
    ]

-- a name that ends in one ends in the other
ends_there : (f b : List ℕ) → SameHeaders f b → IsRightEntry Strings b → (at : ℕ)
    → Ends b (strings_place b) (strings_size b) at
    → Ends f (strings_place f) (strings_size f) at
ends_there f b same right at ends = (
  ends.0,
  ends.1,
  omega (arith, same_strings_size f b same, ends.2),
  ap (λ p. slice_index f (p + ends.0)) (same_strings_place f b same right)
      ∙ same_string_byte f b same right ends.0 ends.2 ∙ ends.3,
)

-- a symbol that is right in one is right in the other
pub symbol_there : (f b : List ℕ) → SameHeaders f b → AreRight b → (k : ℕ) → k < symbol_count b → IsRightSymbol b k
    → IsRightSymbol f k
symbol_there f b same tables k within right =
    let P : SymbolEntry → Type 0 = λ s.
    Ends f (strings_place f) (strings_size f) s.name
    × (symbol_kind s ≤ STT_TLS) × (symbol_kind s ≢ STT_COMMON)
    × ((k ≡ 0) ⊎ (symbol_binding s ≡ STB_GLOBAL) ⊎ (symbol_binding s ≡ STB_WEAK)) in
    subst P (sym (same_symbol_entry f b same tables.symbols k within))
    (ends_there f b same tables.strings (symbol b k).name right.0, right.1, right.2, right.3)

-- an import is one in the other
import_there : (f b : List ℕ) → SameHeaders f b → AreRight b → (k : ℕ) → k < symbol_count b → IsImport b k
    → IsImport f k
import_there f b same tables k within imported =
    let P : SymbolEntry → Type 0 = λ s. (k ≢ 0) × (s.shndx ≡ SHN_UNDEF) × (symbol_kind s ≡ STT_TLS) in
    subst P (sym (same_symbol_entry f b same tables.symbols k within)) imported

-- and so is the function of the run time
runtime_there : (f b : List ℕ) → SameHeaders f b → AreRight b → (k : ℕ) → k < symbol_count b → IsRuntime b k
    → IsRuntime f k
runtime_there f b same tables k within named =
    let P : SymbolEntry → Type 0 = λ s.
    (s.shndx ≡ SHN_UNDEF) × (s.name + 15 ≤ strings_size f)
    × (part_at 15 (strings_place f + s.name) f ≡ GET_ADDRESS_STRING) in
    subst P (sym (same_symbol_entry f b same tables.symbols k within)) (
      named.0,
      omega (arith, same_strings_size f b same, named.1),
      ap (λ p. part_at 15 (p + (symbol b k).name) f) (same_strings_place f b same tables.strings)
          ∙ same_string_part f b same tables.strings 15 (symbol b k).name named.1 ∙ named.2,
    )

-- what a relocation may name in one, it may in the other
may_name_there : (f b : List ℕ) → SameHeaders f b → AreRight b → (kind : Option LoaderKind) (k : ℕ) → k < symbol_count b
    → MayName b kind k → MayName f kind k
may_name_there f b same tables None k within may = may
may_name_there f b same tables (Some JumpSlot) k within may = runtime_there f b same tables k within may
may_name_there f b same tables (Some Relative) k within may = may
may_name_there f b same tables (Some Module) k within may =
    elim may [ inl own ↦ inl own | inr imported ↦ inr (import_there f b same tables k within imported) ]
may_name_there f b same tables (Some ModuleOffset) k within may = import_there f b same tables k within may
may_name_there f b same tables (Some ThreadOffset) k within may =
    elim may [ inl own ↦ inl own | inr imported ↦ inr (import_there f b same tables k within imported) ]
may_name_there f b same tables (Some Descriptor) k within may =
    elim may [ inl own ↦ inl own | inr imported ↦ inr (import_there f b same tables k within imported) ]

-- a LOAD of one that holds the bytes holds them in the other
field_there : (f b : List ℕ) → SameHeaders f b → (r : Rela) (i : ℕ) → HoldsField b r i → HoldsField f r i
field_there f b same r i holds =
    let below : i < loads b = omega (arith, holds.0) in (
      omega (arith, same.loads_are, holds.0),
      omega (arith, same.vaddr_is i below, holds.1),
      within _ _ _ _ _ (same.vaddr_is i below) (same.memsz_is i below) holds.2,
    )
  where
    within : (n v w m l : ℕ) → v ≡ w → m ≡ l → n ≤ w + l → n ≤ v + m
    within n v w m l vaddr memsz h = omega arith

-- relocations rise in one where they rise in the other
behind_there : (f b : List ℕ) → SameHeaders f b → AreRight b → (k : ℕ) → k < relocation_count b → IsBehindLast b k
    → IsBehindLast f k
behind_there f b same tables k within behind =
    let P : Rela → Type 0 = λ r. (k ≡ 0)
    ⊎ ((rela b (k - 1)).offset + field_width (rela_kind (rela b (k - 1))) ≤ r.offset) in
    let Q : Rela → Type 0 = λ r. (k ≡ 0) ⊎ (r.offset + field_width (rela_kind r) ≤ (rela f k).offset) in
    subst Q (sym (same_rela_entry f b same tables.relocations (k - 1) (omega (arith, within))))
    (subst P (sym (same_rela_entry f b same tables.relocations k within)) behind)

-- a relocation that is right in one is right in the other
pub relocation_there : (f b : List ℕ) → SameHeaders f b → AreRight b → (k : ℕ) → k < relocation_count b
    → IsRightRelocation b k → IsRightRelocation f k
relocation_there f b same tables k within right =
    let r : Rela = rela b k in
    let P : Rela → Type 0 = λ r. NamesRight f r × ((i : ℕ) × HoldsField f r i) × IsBehindLast f k in
    subst P (sym (same_rela_entry f b same tables.relocations k within)) (
      (
        omega (arith, same_symbol_count f b same tables.hash, right.0.0),
        may_name_there f b same tables (loader_kind (rela_kind r)) (rela_symbol r) right.0.0 right.0.1,
      ),
      (right.1.0, field_there f b same r right.1.0 right.1.1),
      behind_there f b same tables k within right.2,
    )

-- a thread-local symbol that lies outside in one does so in the other
pub past_back : (f b : List ℕ) → SameHeaders f b → AreRight b → (k : ℕ) → k < symbol_count b → IsPastTls f k
    → IsPastTls b k
past_back f b same tables k within past =
    let P : SymbolEntry → Type 0 = λ s. (symbol_kind s ≡ STT_TLS) × (s.shndx ≢ SHN_UNDEF) × (tls_size f < s.value) in
    let there = subst P (same_symbol_entry f b same tables.symbols k within) past in
    (there.0, there.1, omega (arith, same.tls_size_is, there.2))

-- an image of no TLS segment is one in both
none_back : (f b : List ℕ) → SameHeaders f b → (IsTrue (has_tls f) → ⊥) → IsTrue (has_tls b) → ⊥
none_back f b same = let P : Bool → Type 0 = λ t. IsTrue t → ⊥ in subst P same.has_tls_is

-- an offset outside of it is so in both
outside_back : (f b : List ℕ) → SameHeaders f b → (addend : ℤ) → IsOutsideTls f addend → IsOutsideTls b addend
outside_back f b same addend =
    let P : ℕ → Type 0 = λ n. (addend <ℤ pos 0) ⊎ (pos n <ℤ addend) in
    subst P same.tls_size_is

-- what a relocation lacks in one, it lacks in the other
lacks_back : (f b : List ℕ) → SameHeaders f b → (kind : Option LoaderKind) (addend : ℤ) → LacksOwnTls f kind addend
    → LacksOwnTls b kind addend
lacks_back f b same None addend lacks = lacks
lacks_back f b same (Some JumpSlot) addend lacks = lacks
lacks_back f b same (Some Relative) addend lacks = lacks
lacks_back f b same (Some ModuleOffset) addend lacks = lacks
lacks_back f b same (Some Module) addend lacks = none_back f b same lacks
lacks_back f b same (Some ThreadOffset) addend lacks =
    elim lacks [ inl none ↦ inl (none_back f b same none) | inr outside ↦ inr (outside_back f b same addend outside) ]
lacks_back f b same (Some Descriptor) addend lacks =
    elim lacks [ inl none ↦ inl (none_back f b same none) | inr outside ↦ inr (outside_back f b same addend outside) ]

-- a relocation that lies outside in one does so in the other
pub outside_tls_back : (f b : List ℕ) → SameHeaders f b → AreRight b → (k : ℕ) → k < relocation_count b
    → IsOwnOutside f k → IsOwnOutside b k
outside_tls_back f b same tables k within own =
    let P : Rela → Type 0 = λ r. (rela_symbol r ≡ 0) × LacksOwnTls f (loader_kind (rela_kind r)) r.addend in
    let there = subst P (same_rela_entry f b same tables.relocations k within) own in
    (there.0, lacks_back f b same (loader_kind (rela_kind (rela b k))) (rela b k).addend there.1)
