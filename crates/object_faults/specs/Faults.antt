-- When an object is at fault: what each kind means, and which fault is the first (gABI; psABI).
use Rattle.std.specs.Prelude.{◌≡◌, ◌≢◌, ◌+◌, ◌*◌, ◌%◌, ◌^◌, ◌<◌, ◌≤◌, ◌⊎◌, ℕ, List, Option, Result, Ok, Err, Some}
use Rattle.std.specs.Prelude.{None, IsNone, IsSome, length, bit_and}
use Rattle.elf_records.specs.Alignments.{IsAlignment}
use Rattle.elf_records.specs.declared.file_header.Header.{Header}
use Rattle.elf_records.specs.declared.section_header.SectionHeader.{SectionHeader}
use Rattle.elf_records.specs.declared.symbol.SymbolEntry.{SymbolEntry}
use Rattle.object_rules.specs.declared.fault.FaultKind.{FaultKind}
use Rattle.object_rules.specs.declared.fault.FaultKind.TheVariants.{Truncated, NotElf, NotRelocatable, SectionName}
use Rattle.object_rules.specs.declared.fault.FaultKind.TheVariants.{SectionKind, SectionAlign, TooLarge, SymbolTable}
use Rattle.object_rules.specs.declared.fault.FaultKind.TheVariants.{SymbolName, SymbolSection, SymbolRange}
use Rattle.object_rules.specs.declared.fault.FaultKind.TheVariants.{SymbolKind, RelocTarget, RelocSymbol, RelocKind}
use Rattle.object_rules.specs.declared.fault.FaultKind.TheVariants.{RelocRange, RelocOverlap, Sequence, StrayCall}
use Rattle.object_rules.specs.declared.fault.FaultKind.TheVariants.{WritableData}
use Rattle.object_rules.specs.declared.fault.ObjectFault.{ObjectFault}
use Rattle.object_rules.specs.declared.fault.ObjectFault.TheVariants.{OutOfMemory, At}
use Rattle.elf_records.specs.declared.file_header.TheConstants.{ET_REL, EM_X86_64}
use Rattle.elf_records.specs.declared.section_header.TheConstants.{SHT_STRTAB, SHT_REL, SHT_GROUP, SHT_SYMTAB_SHNDX}
use Rattle.elf_records.specs.declared.section_header.TheConstants.{SHT_NOBITS, SHF_ALLOC, SHF_TLS}
use Rattle.elf_records.specs.declared.symbol.TheConstants.{SHN_UNDEF, SHN_ABS, STB_LOCAL, STB_GLOBAL, STB_WEAK}
use Rattle.elf_records.specs.declared.symbol.TheConstants.{STT_FUNC, STT_FILE, STT_TLS, SHN_LORESERVE}
use Rattle.object_faults.specs.declared.class.SectionClass.{SectionClass}
use Rattle.object_faults.specs.declared.class.SectionClass.TheVariants.{Executable}
use Rattle.elf_records.specs.declared.relocation.RelocationKind.{RelocationKind}
use Rattle.object_faults.specs.Parts.{header, section, symbol, rela, symbol_table, symbol_count, entry_count}
use Rattle.object_faults.specs.Parts.{HasBytes, IsSection, IsStrings, IsTable, IsRela}
use Rattle.object_faults.specs.Classes.{class_of, kept_class, IsKeptSection, IsTls}
use Rattle.object_faults.specs.Names.{byte_of, Ends}
use Rattle.elf_records.specs.Records.{symbol_binding, symbol_kind, rela_symbol, rela_kind}
pub use Rattle.elf_records.specs.Records.{IsElf}
use Rattle.object_faults.specs.Relocations.{relocation_kind, width_at, IsOfCode, IsReloc, Covers}
pub use Rattle.elf_records.specs.Firsts.{IsFirstAt}

-- the order of the kinds
abbrev pub number : FaultKind → ℕ
number Truncated = 0
number NotElf = 1
number NotRelocatable = 2
number SectionName = 3
number SectionKind = 4
number SectionAlign = 5
number TooLarge = 6
number SymbolTable = 7
number SymbolName = 8
number SymbolSection = 9
number SymbolRange = 10
number SymbolKind = 11
number RelocTarget = 12
number RelocSymbol = 13
number RelocKind = 14
number RelocRange = 15
number RelocOverlap = 16
number Sequence = 17
number StrayCall = 18
number WritableData = 19

-- a relocatable file for x86-64, with a table of section headers
abbrev pub IsRelocatable : Header → Type 0
IsRelocatable h =
    (h.e_type ≡ ET_REL) × (h.e_machine ≡ EM_X86_64) × (h.e_shentsize ≡ 64)
    × (0 < h.e_shnum) × (h.e_shnum < SHN_LORESERVE) × (0 < h.e_shstrndx) × (h.e_shstrndx < h.e_shnum)

-- the bytes of section s pass the end of the file
abbrev pub HasPartPastEnd : List ℕ → ℕ → Type 0
HasPartPastEnd b s = IsSection b s × HasBytes (section b s) × (length b < (section b s).offset + (section b s).size)

-- the table of section headers, for s 0, or else the bytes of section s pass the end of the file
abbrev pub PassesEnd : List ℕ → ℕ → Type 0
PassesEnd b s = ((s ≡ 0) × (length b < (header b).e_shoff + 64 * (header b).e_shnum)) ⊎ HasPartPastEnd b s

-- the section's flags and type fit no class, or linking refuses its type
abbrev pub IsRefused : SectionHeader → Type 0
IsRefused h =
    (h.kind ≡ SHT_REL) ⊎ (h.kind ≡ SHT_GROUP) ⊎ (h.kind ≡ SHT_SYMTAB_SHNDX)
    ⊎ ((bit_and h.flags SHF_TLS ≢ 0) × (bit_and h.flags SHF_ALLOC ≡ 0))
    ⊎ ((bit_and h.flags SHF_ALLOC ≢ 0) × IsNone (class_of h))

-- a section of symbols that is a second one, or whose entry size, size, string table or first global symbol is wrong
abbrev pub IsBadTable : List ℕ → ℕ → Type 0
IsBadTable b s =
    (s ≢ symbol_table b) ⊎ ((section b s).entsize ≢ 24) ⊎ ((section b s).size % 24 ≢ 0)
    ⊎ (IsStrings b (section b s).link → ⊥) ⊎ (entry_count (section b s) < (section b s).info)

-- e numbers a symbol of the symbol table s, not the reserved first one
abbrev pub IsSymbol : List ℕ → ℕ → ℕ → Type 0
IsSymbol b s e = (0 < s) × (s ≡ symbol_table b) × (0 < e) × (e < symbol_count b)

-- a LOCAL symbol among the others, or another among the LOCAL ones, which come first
abbrev pub IsMisplaced : SymbolEntry → ℕ → ℕ → Type 0
IsMisplaced symbol e first =
    ((symbol_binding symbol ≡ STB_LOCAL) × (first ≤ e)) ⊎ ((symbol_binding symbol ≢ STB_LOCAL) × (e < first))

-- the string table of the symbol table
abbrev pub symbol_strings : List ℕ → ℕ
symbol_strings b = (section b (symbol_table b)).link

-- the name does not end, or it is empty and the symbol is not LOCAL
abbrev pub IsMisnamed : List ℕ → SymbolEntry → Type 0
IsMisnamed b symbol =
    IsStrings b (symbol_strings b)
    × ((Ends b (symbol_strings b) symbol.name → ⊥)
    ⊎ ((byte_of b (symbol_strings b) symbol.name ≡ 0) × (symbol_binding symbol ≢ STB_LOCAL)))

-- section s is one, but linking drops it
abbrev pub IsDropped : List ℕ → ℕ → Type 0
IsDropped b s = IsSection b s × (IsSome (kept_class (section b s)) → ⊥)

-- the symbol's place is not one where a symbol of its binding may be defined
abbrev pub IsMisdefined : List ℕ → SymbolEntry → Type 0
IsMisdefined b symbol =
    ((symbol.shndx ≢ SHN_UNDEF) × (symbol.shndx ≢ SHN_ABS) × (IsSection b symbol.shndx → ⊥))
    ⊎ ((symbol_binding symbol ≡ STB_LOCAL) × (symbol.shndx ≡ SHN_UNDEF))
    ⊎ (((symbol_binding symbol ≡ STB_GLOBAL) ⊎ (symbol_binding symbol ≡ STB_WEAK)) ×
    ((symbol.shndx ≡ SHN_ABS) ⊎ IsDropped b symbol.shndx))

-- section s is one of thread-local storage
abbrev pub IsTlsSection : List ℕ → ℕ → Type 0
IsTlsSection b s = IsSection b s × IsTls (kept_class (section b s))

-- a binding or a type that linking does not know, or a type that does not fit the section
abbrev pub IsMistyped : List ℕ → SymbolEntry → Type 0
IsMistyped b symbol =
    (STB_WEAK < symbol_binding symbol) ⊎ ((symbol_kind symbol ≡ 5) ⊎ (STT_TLS < symbol_kind symbol))
    ⊎ (IsTlsSection b symbol.shndx × ((symbol_kind symbol ≡ STT_FUNC) ⊎ (symbol_kind symbol ≡ STT_FILE)))
    ⊎ ((symbol_kind symbol ≡ STT_TLS) × (symbol.shndx ≢ SHN_UNDEF) × (IsTlsSection b symbol.shndx → ⊥))

-- another section of relocations before r has the same target
abbrev pub IsSecond : List ℕ → ℕ → Type 0
IsSecond b r = (q : ℕ) × (q < r) × IsRela b q × ((section b q).info ≡ (section b r).info)

-- a section of relocations has no target, or linking keeps the target and the section does not fit it
abbrev pub IsMistargeted : List ℕ → ℕ → Type 0
IsMistargeted b r =
    (IsSection b (section b r).info → ⊥)
    ⊎ (IsKeptSection b (section b r).info
    × (((section b r).entsize ≢ 24) ⊎ ((section b r).size % 24 ≢ 0)
    ⊎ (IsTable b (section b r).link → ⊥)
    ⊎ (((section b (section b r).info).kind ≡ SHT_NOBITS) × ((section b r).size ≢ 0))
    ⊎ IsSecond b r))

-- a relocation names no symbol, or a symbol that has no place
abbrev pub IsUnplaced : List ℕ → ℕ → Type 0
IsUnplaced b e =
    (e ≡ 0) ⊎ (symbol_count b ≤ e)
    ⊎ ((e < symbol_count b) × (((symbol b e).shndx ≡ SHN_ABS) ⊎ IsDropped b (symbol b e).shndx))

-- the type is not in the list, or it belongs to an instruction and the target is not code
abbrev pub IsMiskinded : Option RelocationKind → Option SectionClass → Type 0
IsMiskinded None class = Unit {0}
IsMiskinded (Some kind) class = IsOfCode kind × (class ≢ Some Executable)

-- the field of entry e of section r shares a byte with the field of an earlier entry
abbrev pub Overlaps : List ℕ → ℕ → ℕ → Type 0
Overlaps b r e = (f : ℕ) × (f < e) × ((k : ℕ) × Covers b r f k × Covers b r e k)

-- the kind of fault stands at section s, entry e: what each kind means; an alignment of 0 means 1
unfoldable pub Stands : FaultKind → List ℕ → ℕ → ℕ → Type 0
Stands Truncated b s e =
    (e ≡ 0) × (((s ≡ 0) × (length b < 64)) ⊎ ((64 ≤ length b) × IsElf (header b) × IsRelocatable (header b) ×
    PassesEnd b s))
Stands NotElf b s e = (s ≡ 0) × (e ≡ 0) × (64 ≤ length b) × (IsElf (header b) → ⊥)
Stands NotRelocatable b s e = (s ≡ 0) × (e ≡ 0) × (64 ≤ length b) × (IsRelocatable (header b) → ⊥)
Stands SectionName b s e =
    (e ≡ 0) × IsSection b s
    × (((s ≡ (header b).e_shstrndx) × ((section b s).kind ≢ SHT_STRTAB))
    ⊎ (IsStrings b (header b).e_shstrndx × (Ends b (header b).e_shstrndx (section b s).name → ⊥)))
Stands SectionKind b s e = (e ≡ 0) × IsSection b s × IsRefused (section b s)
Stands SectionAlign b s e =
    (e ≡ 0) × IsKeptSection b s × (((section b s).addralign ≡ 0) ⊎ IsAlignment (section b s).addralign → ⊥)
Stands TooLarge b s e =
    (e ≡ 0) × ((IsKeptSection b s × (2 ^ 20 < (section b s).size))
    ⊎ ((IsTable b s ⊎ (IsRela b s × IsKeptSection b (section b s).info)) × (24 * 2 ^ 20 < (section b s).size)))
Stands SymbolTable b s e =
    ((e ≡ 0) × IsTable b s × IsBadTable b s) ⊎ (IsSymbol b s e × IsMisplaced (symbol b e) e (section b s).info)
Stands SymbolName b s e = IsSymbol b s e × IsMisnamed b (symbol b e)
Stands SymbolSection b s e = IsSymbol b s e × IsMisdefined b (symbol b e)
Stands SymbolRange b s e =
    IsSymbol b s e × IsKeptSection b (symbol b e).shndx
    × ((section b (symbol b e).shndx).size < (symbol b e).value + (symbol b e).size)
Stands SymbolKind b s e = IsSymbol b s e × IsMistyped b (symbol b e)
Stands RelocTarget b s e = (e ≡ 0) × IsRela b s × IsMistargeted b s
Stands RelocSymbol b s e = IsReloc b s e × (rela_kind (rela b s e) ≢ 0) × IsUnplaced b (rela_symbol (rela b s e))
Stands RelocKind b s e =
    IsReloc b s e × IsMiskinded (relocation_kind (rela_kind (rela b s e))) (kept_class (section b (section b s).info))
Stands RelocRange b s e = IsReloc b s e × ((section b (section b s).info).size < (rela b s e).offset + width_at b s e)
Stands RelocOverlap b s e = IsReloc b s e × Overlaps b s e
Stands Sequence b s e = ⊥
Stands StrayCall b s e = ⊥
Stands WritableData b s e = ⊥

-- the kind stands nowhere
abbrev pub Nowhere : FaultKind → List ℕ → Type 0
Nowhere kind b = (s e : ℕ) → Stands kind b s e → ⊥

-- none of the first n kinds stands anywhere
abbrev pub NoneBelow : ℕ → List ℕ → Type 0
NoneBelow n b = (kind : FaultKind) → number kind < n → Nowhere kind b

-- the bytes stand for an object: no kind of fault stands anywhere
abbrev pub IsObject : List ℕ → Type 0
IsObject b = (kind : FaultKind) (s e : ℕ) → Stands kind b s e → ⊥

-- one place comes before another: a lower section, or a lower entry of the same
abbrev pub Earlier : ℕ → ℕ → ℕ → ℕ → Type 0
Earlier t f s e = (t < s) ⊎ ((t ≡ s) × (f < e))

-- the first fault, by what each kind means: it stands here, at no earlier place, and no earlier kind stands anywhere
pub record IsFirst (stands : FaultKind → List ℕ → ℕ → ℕ → Type 0) (b : List ℕ) (s e : ℕ) (kind : FaultKind) : Type 0
  where
    pub here : stands kind b s e
    pub nowhere_earlier : (t f : ℕ) → Earlier t f s e → stands kind b t f → ⊥
    pub earlier_kinds : (earlier : FaultKind) → number earlier < number kind → (t f : ℕ) → stands earlier b t f → ⊥

-- what a refusal says of the bytes; nothing when memory runs out
abbrev pub IsFault : List ℕ → ObjectFault → Type 0
IsFault b OutOfMemory = Unit {0}
IsFault b (At s e kind) = IsFirst Stands b s e kind

-- what a step returns that checked all kinds up to number n
abbrev pub Answers : {X : Type 0} → ℕ → List ℕ → Result X ObjectFault → Type 0
Answers n b (Ok _) = NoneBelow (n + 1) b
Answers n b (Err fault) = IsFault b fault
