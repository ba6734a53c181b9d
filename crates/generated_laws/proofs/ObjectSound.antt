-- The headers and symbols of an object have no fault.
use Rattle.std.proofs.Common.{◌≡◌, ◌≢◌, ◌+◌, ◌*◌, ◌/◌, ◌%◌, ◌^◌, ◌<◌, ◌≤◌, ◌⊎◌, inl, inr, ℕ, Bool, true, false, List}
use Rattle.std.proofs.Common.{length}
use Rattle.std.proofs.Common.{Some, IsNone, bit_and, refl, sym, ap, subst, ◌∙◌, arith, if◌then◌else◌, ◌==◌}
use Rattle.elf_records.specs.declared.section_header.SectionHeader.{SectionHeader}
use Rattle.elf_records.specs.declared.symbol.SymbolEntry.{SymbolEntry}
use Rattle.elf_records.specs.Records.{HasBytes, symbol_binding, symbol_kind}
use Rattle.object_rules.specs.declared.fault.FaultKind.TheVariants.{Truncated, NotElf, NotRelocatable, SectionName}
use Rattle.object_rules.specs.declared.fault.FaultKind.TheVariants.{SectionKind, SectionAlign, TooLarge, SymbolTable}
use Rattle.object_rules.specs.declared.fault.FaultKind.TheVariants.{SymbolName, SymbolSection, SymbolRange}
use Rattle.object_rules.specs.declared.fault.FaultKind.TheVariants.{SymbolKind}
use Rattle.object_faults.specs.declared.class.SectionClass.TheVariants.{Executable, Tls}
use Rattle.elf_object.specs.Classes.{class_of, kept_class, IsKeptSection}
use Rattle.elf_records.specs.Alignments.{IsAlignment}
use Rattle.elf_object.specs.Faults.{Nowhere, Stands, IsElf, IsRelocatable, PassesEnd, IsRefused}
use Rattle.elf_object.specs.Faults.{IsBadTable, IsSymbol, IsMisplaced, symbol_strings, IsDropped}
use Rattle.elf_object.specs.Faults.{IsMisdefined, IsTlsSection, IsMistyped}
use Rattle.elf_object.specs.Names.{byte_of, Ends}
use Rattle.elf_object.specs.Parts.{header, section, symbol, symbol_count}
use Rattle.elf_object.specs.Parts.{IsSection, IsStrings, IsTable, IsRela}
use Rattle.generated_job.specs.Shapes.{Shape, file_header, sections_of, symbols_of, names_of, zeros_alignment}
use Rattle.generated_laws.specs.Reading.{IsSmall}
use Rattle.generated_laws.proofs.ObjectLaid.{IsLaid, few_symbols, few_names}
use Rattle.generated_laws.proofs.ObjectSections.{symbol_table_is}
use Rattle.generated_laws.proofs.ObjectEach.{each_section, each_symbol, is_table, within_eight, row, entry, getter_of}
use Rattle.generated_laws.proofs.ObjectNames.{IsNameAt, function_at, variable_at, getter_at, strings_are, name_ends}
use Rattle.generated_laws.proofs.ObjectNames.{name_begins, section_name_ends}

-- ** the file

fits_file : (b : List ℕ) (s : Shape) → IsLaid b s → (k : ℕ) → IsSection b k → HasBytes (section b k)
    → (section b k).offset + (section b k).size ≤ length b
unfolding sections_of
fits_file b s laid =
    let long = laid.length_is in
    each_section b s laid (λ k h. HasBytes h → h.offset + h.size ≤ length b)
    (λ has. omega arith) (λ has. omega arith) (λ has. omega arith) (λ has. absurd (has.1 refl))
    (λ has. omega arith) (λ has. omega arith) (λ has. omega arith)

passes_not : (b : List ℕ) (s : Shape) → IsLaid b s → (k : ℕ) → PassesEnd b k → ⊥
unfolding file_header
passes_not b s laid k (inl table) =
    omega (arith, table.1, ap (λ h. h.e_shoff + 64 * h.e_shnum) laid.header_is, laid.length_is)
passes_not b s laid k (inr part) = omega (arith, fits_file b s laid k part.0 part.1, part.2)

pub not_truncated : (b : List ℕ) (s : Shape) → IsLaid b s → Nowhere Truncated b
unfolding Stands
not_truncated b s laid k e stands = cut_not stands.1
  where
    cut_not : ((k ≡ 0) × (length b < 64))
        ⊎ ((64 ≤ length b) × IsElf (header b) × IsRelocatable (header b) × PassesEnd b k) → ⊥
    cut_not (inl short) = omega (arith, short.1, laid.length_is)
    cut_not (inr passes) = passes_not b s laid k passes.3

pub is_elf : (b : List ℕ) (s : Shape) → IsLaid b s → Nowhere NotElf b
unfolding Stands file_header
is_elf b s laid k e stands = stands.3 (rw laid.header_is (refl, refl))

pub is_relocatable : (b : List ℕ) (s : Shape) → IsLaid b s → Nowhere NotRelocatable b
unfolding Stands file_header
is_relocatable b s laid k e stands =
    stands.3 (rw laid.header_is (refl, refl, refl, omega arith, omega arith, omega arith, omega arith))

-- ** sections

sections_named : (b : List ℕ) (s : Shape) → IsLaid b s → (k : ℕ) → IsSection b k
    → (k ≡ 7 → (section b k).kind ≡ 3) × ((section b k).name ≤ 56)
unfolding sections_of
sections_named b s laid = each_section b s laid (λ k h. (k ≡ 7 → h.kind ≡ 3) × (h.name ≤ 56))
    (λ last. omega arith, omega arith) (λ last. omega arith, omega arith) (λ last. omega arith, omega arith)
    (λ last. omega arith, omega arith) (λ last. omega arith, omega arith) (λ last. omega arith, omega arith)
    (λ last. refl, omega arith)

pub sections_have_names : (b : List ℕ) (s : Shape) → IsLaid b s → Nowhere SectionName b
unfolding Stands file_header
sections_have_names b s laid k e stands = bad_not stands.2
  where
    names : (header b).e_shstrndx ≡ 7
    names = ap (λ h. h.e_shstrndx) laid.header_is

    bad_not : ((k ≡ (header b).e_shstrndx) × ((section b k).kind ≢ 3))
        ⊎ (IsStrings b (header b).e_shstrndx × (Ends b (header b).e_shstrndx (section b k).name → ⊥)) → ⊥
    bad_not (inl other) = other.1 ((sections_named b s laid k stands.1).0 (other.0 ∙ names))
    bad_not (inr endless) = endless.1 (subst (λ n. Ends b n (section b k).name) (sym names)
        (section_name_ends b s laid (section b k).name (sections_named b s laid k stands.1).1))

refused_not : (h : SectionHeader) → h.kind < 9 → (bit_and h.flags 2 ≡ 0 → bit_and h.flags 0x400 ≡ 0)
    → (bit_and h.flags 2 ≢ 0 → IsNone (class_of h) → ⊥) → IsRefused h → ⊥
refused_not h low loose classed (inl kind) = omega arith
refused_not h low loose classed (inr (inl kind)) = omega arith
refused_not h low loose classed (inr (inr (inl kind))) = omega arith
refused_not h low loose classed (inr (inr (inr (inl tls)))) = tls.0 (loose tls.1)
refused_not h low loose classed (inr (inr (inr (inr none)))) = classed none.0 none.1

sections_classed : (b : List ℕ) (s : Shape) → IsLaid b s → (k : ℕ) → IsSection b k → IsRefused (section b k) → ⊥
unfolding sections_of class_of
sections_classed b s laid = each_section b s laid (λ k h. IsRefused h → ⊥)
    (refused_not (row s 1) (omega arith) (λ bare. omega arith) (λ some none. let bad : true ≡ false = none in (cc)))
    (refused_not (row s 2) (omega arith) (λ bare. refl) (λ some none. some refl))
    (refused_not (row s 3) (omega arith) (λ bare. omega arith) (λ some none. let bad : true ≡ false = none in (cc)))
    (refused_not (row s 4) (omega arith) (λ bare. omega arith) (λ some none. let bad : true ≡ false = none in (cc)))
    (refused_not (row s 5) (omega arith) (λ bare. refl) (λ some none. some refl))
    (refused_not (row s 6) (omega arith) (λ bare. refl) (λ some none. some refl))
    (refused_not (row s 7) (omega arith) (λ bare. refl) (λ some none. some refl))

pub sections_have_kinds : (b : List ℕ) (s : Shape) → IsLaid b s → Nowhere SectionKind b
unfolding Stands
sections_have_kinds b s laid k e stands = sections_classed b s laid k stands.1 stands.2

abbrev IsAligned : ℕ → Type 0
IsAligned n = (n ≡ 0) ⊎ IsAlignment n

zeros_aligned : (n : ℕ) → IsAligned (zeros_alignment n)
zeros_aligned n = aligned (n == 0)
  where
    aligned : (t : Bool) → IsAligned (if t then 1 else 4)
    aligned true = inr (0, omega arith, refl)
    aligned false = inr (2, omega arith, refl)

sections_stand : (b : List ℕ) (s : Shape) → IsLaid b s → (k : ℕ) → IsSection b k → IsAligned (section b k).addralign
unfolding sections_of
sections_stand b s laid = each_section b s laid (λ k h. IsAligned h.addralign)
    (inr (4, omega arith, refl)) (inr (3, omega arith, refl)) (inr (2, omega arith, refl)) (zeros_aligned s.zeros)
    (inr (3, omega arith, refl)) (inr (0, omega arith, refl)) (inr (0, omega arith, refl))

pub sections_are_aligned : (b : List ℕ) (s : Shape) → IsLaid b s → Nowhere SectionAlign b
unfolding Stands
sections_are_aligned b s laid k e stands = stands.2 (sections_stand b s laid k stands.1.0)

sizes_small : (b : List ℕ) (s : Shape) → IsLaid b s → IsSmall s → (k : ℕ) → IsSection b k → (section b k).size < 2 ^ 20
unfolding sections_of
sizes_small b s laid small =
    let symbols = few_symbols s in
    let names = few_names s small in
    let code = small.few_code in
    let initial = small.few_initial in
    let relocations = small.few_relocations in
    let few = small.few_zeros in
    each_section b s laid (λ k h. h.size < 2 ^ 20)
    (omega arith) (omega arith) (omega arith) (omega arith) (omega arith) (omega arith) (omega arith)

pub sections_are_small : (b : List ℕ) (s : Shape) → IsLaid b s → IsSmall s → Nowhere TooLarge b
unfolding Stands
sections_are_small b s laid small k e stands = large_not stands.1
  where
    is_section : (IsTable b k) ⊎ (IsRela b k × IsKeptSection b (section b k).info) → IsSection b k
    is_section (inl table) = table.0
    is_section (inr rela) = rela.0.0

    large_not : (IsKeptSection b k × (2 ^ 20 < (section b k).size))
        ⊎ ((IsTable b k ⊎ (IsRela b k × IsKeptSection b (section b k).info)) × (24 * 2 ^ 20 < (section b k).size)) → ⊥
    large_not (inl kept) = omega (arith, sizes_small b s laid small k kept.0.0, kept.1)
    large_not (inr table) = omega (arith, sizes_small b s laid small k (is_section table.0), table.1)

-- ** the symbol table

bad_table : (b : List ℕ) (s : Shape) → IsLaid b s → IsBadTable b 5 → ⊥
unfolding sections_of symbols_of
bad_table b s laid (inl other) = other (sym (symbol_table_is b s laid))
bad_table b s laid (inr (inl wide)) = wide (ap (λ h. h.entsize) (laid.sections_are 5 (omega arith)))
bad_table b s laid (inr (inr (inl part))) =
    part (rw (laid.sections_are 5 (omega arith)) (whole (length (symbols_of s))))
  where
    whole : (n : ℕ) → (24 * n) % 24 ≡ 0
    whole n = omega arith
bad_table b s laid (inr (inr (inr (inl strings)))) = strings (rw (laid.sections_are 5 (omega arith))
    (within_eight b s laid 6 (omega arith) (omega arith), ap (λ h. h.kind) (laid.sections_are 6 (omega arith))))
bad_table b s laid (inr (inr (inr (inr few)))) =
    let low : (24 * length (symbols_of s)) / 24 < 1 = rw (laid.sections_are 5 (omega arith)) at few in
    omega arith

-- the table of a symbol is the fifth section
table_of : (b : List ℕ) (s : Shape) → IsLaid b s → (t e : ℕ) → IsSymbol b t e → t ≡ 5
table_of b s laid t e is = is.1 ∙ symbol_table_is b s laid

first_is : (b : List ℕ) (s : Shape) → IsLaid b s → (t : ℕ) → t ≡ 5 → (section b t).info ≡ 1
unfolding sections_of
first_is b s laid t same = ap (λ n. (section b n).info) same ∙ ap (λ h. h.info) (laid.sections_are 5 (omega arith))

-- ** symbols

pub code_kept : (b : List ℕ) (s : Shape) → IsLaid b s → kept_class (section b 1) ≡ Some Executable
unfolding sections_of kept_class class_of
code_kept b s laid = rw (laid.sections_are 1 (omega arith)) refl

initial_kept : (b : List ℕ) (s : Shape) → IsLaid b s → kept_class (section b 3) ≡ Some (Tls true)
unfolding sections_of kept_class class_of
initial_kept b s laid = rw (laid.sections_are 3 (omega arith)) refl

pub code_is_kept : (b : List ℕ) (s : Shape) → IsLaid b s → IsKeptSection b 1
code_is_kept b s laid = (within_eight b s laid 1 (omega arith) (omega arith), rw (code_kept b s laid) refl)

initial_is_kept : (b : List ℕ) (s : Shape) → IsLaid b s → IsKeptSection b 3
initial_is_kept b s laid = (within_eight b s laid 3 (omega arith) (omega arith), rw (initial_kept b s laid) refl)

-- what is asked of a symbol
pub record IsWell (b : List ℕ) (s : Shape) (y : SymbolEntry) : Type 0 where
  pub binding : symbol_binding y ≡ 1
  pub named : IsNameAt (names_of s) y.name
  pub placed : (y.shndx ≡ 0) ⊎ IsKeptSection b y.shndx
  pub low : y.shndx < 4
  pub within : IsSection b y.shndx → y.value + y.size ≤ (section b y.shndx).size
  pub kind_is : symbol_kind y ≢ 5
  pub kind_low : symbol_kind y ≤ 6
  pub of_tls : IsTlsSection b y.shndx → symbol_kind y ≡ 6
  pub tls_of : symbol_kind y ≡ 6 → IsTlsSection b y.shndx

function_well : (b : List ℕ) (s : Shape) → IsLaid b s → IsSmall s → IsWell b s (entry s 1)
unfolding symbols_of sections_of
function_well b s laid small = record {
  binding = refl;
  named = function_at s small;
  placed = inr (code_is_kept b s laid);
  low = omega arith;
  within = λ is. omega (arith, ap (λ h. h.size) (laid.sections_are 1 (omega arith)));
  kind_is = λ is. omega arith;
  kind_low = omega arith;
  of_tls = λ tls. absurd (rw (code_kept b s laid) at tls.1);
  tls_of = λ is. absurd (omega arith);
}

variable_well : (b : List ℕ) (s : Shape) → IsLaid b s → IsSmall s → IsWell b s (entry s 2)
unfolding symbols_of sections_of
variable_well b s laid small = record {
  binding = refl;
  named = variable_at s small;
  placed = inr (initial_is_kept b s laid);
  low = omega arith;
  within = λ is. omega (arith, ap (λ h. h.size) (laid.sections_are 3 (omega arith)));
  kind_is = λ is. omega arith;
  kind_low = omega arith;
  of_tls = λ tls. refl;
  tls_of = λ is. ((initial_is_kept b s laid).0, rw (initial_kept b s laid) tt);
}

getter_well : (b : List ℕ) (s : Shape) → IsLaid b s → s.calls ≡ true → IsWell b s (getter_of s)
getter_well b s laid calls = record {
  binding = refl;
  named = getter_at s calls;
  placed = inl refl;
  low = omega arith;
  within = λ is. absurd (omega (arith, is.0));
  kind_is = λ is. omega arith;
  kind_low = omega arith;
  of_tls = λ tls. absurd (omega (arith, tls.0.0));
  tls_of = λ is. absurd (omega arith);
}

pub symbols_well : (b : List ℕ) (s : Shape) → IsLaid b s → IsSmall s → (e : ℕ) → 0 < e → e < symbol_count b
    → IsWell b s (symbol b e)
symbols_well b s laid small = each_symbol b s laid (λ e y. IsWell b s y) (function_well b s laid small)
    (variable_well b s laid small) (getter_well b s laid)

pub symbols_are_ordered : (b : List ℕ) (s : Shape) → IsLaid b s → IsSmall s → Nowhere SymbolTable b
unfolding Stands
symbols_are_ordered b s laid small k e stands = bad_not stands
  where
    misplaced_not : IsSymbol b k e → IsMisplaced (symbol b e) e (section b k).info → ⊥
    misplaced_not is (inl local) = omega (arith, local.0, (symbols_well b s laid small e is.2 is.3).binding)
    misplaced_not is (inr early) =
        omega (arith, early.1, is.2, first_is b s laid k (table_of b s laid k e is))

    bad_not : ((e ≡ 0) × IsTable b k × IsBadTable b k)
        ⊎ (IsSymbol b k e × IsMisplaced (symbol b e) e (section b k).info) → ⊥
    bad_not (inl table) = bad_table b s laid (subst (IsBadTable b) (is_table b s laid k table.1) table.2)
    bad_not (inr misplaced) = misplaced_not misplaced.0 misplaced.1

pub symbols_have_names : (b : List ℕ) (s : Shape) → IsLaid b s → IsSmall s → Nowhere SymbolName b
unfolding Stands
symbols_have_names b s laid small k e stands = bad_not stands.1.1
  where
    well : IsWell b s (symbol b e)
    well = symbols_well b s laid small e stands.0.2 stands.0.3

    bad_not : (Ends b (symbol_strings b) (symbol b e).name → ⊥)
        ⊎ ((byte_of b (symbol_strings b) (symbol b e).name ≡ 0) × (symbol_binding (symbol b e) ≢ 0)) → ⊥
    bad_not (inl endless) = endless (subst (λ n. Ends b n (symbol b e).name) (sym (strings_are b s laid))
        (name_ends b s laid (symbol b e).name well.named))
    bad_not (inr empty) = name_begins b s laid (symbol b e).name well.named
        (subst (λ n. byte_of b n (symbol b e).name ≡ 0) (strings_are b s laid) empty.0)

-- a section that is none is not dropped, and neither is one that is kept
pub dropped_not : (b : List ℕ) (n : ℕ) → (n ≡ 0) ⊎ IsKeptSection b n → IsDropped b n → ⊥
dropped_not b n (inl none) dropped = omega (arith, dropped.0.0)
dropped_not b n (inr kept) dropped = dropped.1 kept.1

misdefined_not : (b : List ℕ) (s : Shape) (y : SymbolEntry) → IsWell b s y → IsMisdefined b y → ⊥
misdefined_not b s y well (inl nowhere) = section_of_it well.placed
  where
    section_of_it : (y.shndx ≡ 0) ⊎ IsKeptSection b y.shndx → ⊥
    section_of_it (inl none) = nowhere.0 none
    section_of_it (inr kept) = nowhere.2 kept.0
misdefined_not b s y well (inr (inl local)) = omega (arith, local.0, well.binding)
misdefined_not b s y well (inr (inr other)) = place_not other.1
  where
    place_not : (y.shndx ≡ 0xfff1) ⊎ IsDropped b y.shndx → ⊥
    place_not (inl absolute) = omega (arith, well.low)
    place_not (inr dropped) = dropped_not b y.shndx well.placed dropped

pub symbols_have_places : (b : List ℕ) (s : Shape) → IsLaid b s → IsSmall s → Nowhere SymbolSection b
unfolding Stands
symbols_have_places b s laid small k e stands =
    misdefined_not b s (symbol b e) (symbols_well b s laid small e stands.0.2 stands.0.3) stands.1

pub symbols_lie_inside : (b : List ℕ) (s : Shape) → IsLaid b s → IsSmall s → Nowhere SymbolRange b
unfolding Stands
symbols_lie_inside b s laid small k e stands =
    omega (arith, (symbols_well b s laid small e stands.0.2 stands.0.3).within stands.1.0, stands.2)

mistyped_not : (b : List ℕ) (s : Shape) (y : SymbolEntry) → IsWell b s y → IsMistyped b y → ⊥
mistyped_not b s y well (inl weak) = omega (arith, well.binding)
mistyped_not b s y well (inr (inl (inl five))) = well.kind_is five
mistyped_not b s y well (inr (inl (inr high))) = omega (arith, well.kind_low)
mistyped_not b s y well (inr (inr (inl tls))) = other_not tls.1
  where
    other_not : (symbol_kind y ≡ 2) ⊎ (symbol_kind y ≡ 4) → ⊥
    other_not (inl code) = omega (arith, well.of_tls tls.0)
    other_not (inr file) = omega (arith, well.of_tls tls.0)
mistyped_not b s y well (inr (inr (inr outside))) = outside.2 (well.tls_of outside.0)

pub symbols_have_kinds : (b : List ℕ) (s : Shape) → IsLaid b s → IsSmall s → Nowhere SymbolKind b
unfolding Stands
symbols_have_kinds b s laid small k e stands =
    mistyped_not b s (symbol b e) (symbols_well b s laid small e stands.0.2 stands.0.3) stands.1
