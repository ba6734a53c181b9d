-- A file of finished contents keeps the rules of its symbols and relocations.
use Rattle.std.proofs.Common.{◌≡◌, ◌+◌, ◌-◌, ◌^◌, ◌<◌, ◌≤◌, ◌⊎◌, ℕ, zero, suc}
use Rattle.std.proofs.Common.{List, [], ◌∷◌, Some, All, length, get_or, FitsSigned}
use Rattle.std.proofs.Common.{refl, sym, ap, ◌∙◌, arith, inl, inr, subst}
use Rattle.std.specs.Int.{w64}
use Rattle.elf_records.specs.Records.{rela_kind, rela_symbol, symbol_binding, symbol_kind}
use Rattle.elf_records.specs.declared.symbol.SymbolEntry.{SymbolEntry}
use Rattle.elf_records.specs.declared.relocation.Rela.{Rela}
use Rattle.elf_records.specs.declared.symbol.TheConstants.{STB_GLOBAL, STB_WEAK, STT_TLS}
use Rattle.image_faults.specs.declared.loader_kind.LoaderKind.{LoaderKind}
use Rattle.image_faults.specs.declared.loader_kind.LoaderKind.TheVariants.{JumpSlot, Relative, Module, ModuleOffset}
use Rattle.image_faults.specs.declared.loader_kind.LoaderKind.TheVariants.{ThreadOffset, Descriptor}
use Rattle.image_faults.specs.Parts.{segment}
use Rattle.image_faults.specs.Array.{strings_place, strings_size}
use Rattle.elf_records.specs.Strings.{Ends}
use Rattle.image_faults.specs.Symbols as found
use Rattle.image_faults.specs.Relocations as found_relocations
use Rattle.elf_records.specs.Fields.{part_at}
use Rattle.elf_records.specs.declared.program_header.Segment.{Segment}
use Rattle.image_faults.specs.Relocations.{HoldsField, IsBehindLast, NamesRight, field_width, loader_kind, rela}
use Rattle.image_file.specs.declared.relocation.ImageRelocation.{ImageRelocation}
use Rattle.image_writer.specs.Outlined.{outline_of, part}
use Rattle.image_writer.specs.Page.{load_header}
use Rattle.image_writer.specs.Contents.{Contents, all_names, symbol}
use Rattle.image_writer.specs.Tables.{finished, name_start, relocation_entry, strings, symbol_entry, symbol_total}
use Rattle.elf_records.specs.Symbols.{type_number}
use Rattle.image_writer.specs.Linkable.{AreRising, Holds, IsImport, IsRightRelocation, IsRightSymbol, IsRuntime}
use Rattle.image_writer.specs.Linkable.{MayName, width}
use Rattle.image_writer.proofs.Headed.{IsHeaded}
use Rattle.image_writer.proofs.TableSizes.{tables_long}
use Rattle.image_writer.proofs.TableSeen.{IsSeen}
use Rattle.image_writer.proofs.TablePlaces.{rela_is, strings_size_is, strings_there, symbol_count_is, symbol_is}
use Rattle.image_writer.proofs.TablePlaces.{count_small}
use Rattle.image_writer.proofs.TableNames.{name_ends, name_inside, runtime_named}
use Rattle.image_writer.proofs.TableKinds.{binding_of_entry, binding_shared, kind_back, kind_of_entry, relocation_fits}
use Rattle.image_writer.proofs.TableKinds.{symbol_fits, symbol_of_entry, type_of_entry, type_small, type_uncommon}
use Rattle.image_writer.proofs.TableKinds.{undefined_is, width_back}
use Rattle.image_writer.proofs.TableOutline.{part_count}

-- what is read of the rows
pub record IsRead (f : List ℕ) (c : Contents) : Type 0 where
  pub seen : IsSeen f c
  pub named : length c.names ≡ length c.symbols
  pub symbols_are : (k : ℕ) → k < symbol_total c → found.symbol f k ≡ symbol_entry (symbol c k) (name_start c k)
  pub relocations_are : (k : ℕ) (d : ImageRelocation) → k < length c.relocations
      → rela f k ≡ relocation_entry (get_or c.relocations k d)

-- there are as many names as symbols
name_count : (c : Contents) → length c.names ≡ length c.symbols → length (all_names c) ≡ symbol_total c
name_count c named = omega (arith, named)

-- a name begins below 2 ^ 32
start_small : (f : List ℕ) (c : Contents) → IsSeen f c → length c.names ≡ length c.symbols → (k : ℕ)
    → k < symbol_total c
    → name_start c k < 2 ^ 32
unfolding strings
start_small f c s named k below =
    let count = name_count c named in
    let inside = name_inside (all_names c) k (omega (arith, count, below)) in
    let whole = tables_long c in
    let small = s.small in
    omega (arith, inside, whole, small)

-- the rows are read, where each number fits
pub is_read : (f : List ℕ) (c : Contents) → IsSeen f c → length c.names ≡ length c.symbols
    → ((k : ℕ) → k < symbol_total c → (symbol c k).value < 2 ^ 64)
    → ((k : ℕ) → k < symbol_total c → (symbol c k).size < 2 ^ 64)
    → All (λ (r : ImageRelocation). r.place < 2 ^ 64) c.relocations
    → All (λ (r : ImageRelocation). FitsSigned w64 r.addend) c.relocations → All (IsRightRelocation c) c.relocations
    → IsRead f c
is_read f c s named values sizes places addends right = record {
  seen = s;
  named = named;
  symbols_are = λ k below. symbol_is f c s k below
      (symbol_fits (symbol c k) (name_start c k) (start_small f c s named k below) (values k below) (sizes k below));
  relocations_are = λ k d below.
      let small = count_small f c s in
      let within = (right k d below).symbol_in in
      rela_is f c s k d below
      (relocation_fits (get_or c.relocations k d) (omega (arith, small, within)) (places k d below)
      (addends k d below));
}

-- the name of a symbol ends
ends : (f : List ℕ) (c : Contents) → IsRead f c → (k : ℕ) → k < symbol_total c
    → Ends f (strings_place f) (strings_size f) (name_start c k)
unfolding strings
ends f c r k below =
    let count = name_count c r.named in
    subst (λ n. Ends f (strings_place f) n (name_start c k)) (sym (strings_size_is f c r.seen))
    (name_ends (all_names c) k (strings_place f) f (omega (arith, count, below)) (strings_there f c r.seen))

-- a symbol's row says that it is shared, but for number 0
row_shared : (c : Contents) (k : ℕ) (e : SymbolEntry) → e ≡ symbol_entry (symbol c k) (name_start c k)
    → (k ≡ 0) ⊎ IsRightSymbol c k → (k ≡ 0) ⊎ ((symbol_binding e ≡ STB_GLOBAL) ⊎ (symbol_binding e ≡ STB_WEAK))
row_shared c k e same (inl first) = inl first
row_shared c k e same (inr right) =
    let number = ap symbol_binding same ∙ binding_of_entry (symbol c k) (name_start c k) in
    inr (elim (binding_shared (symbol c k).binding right.shared) [
      | inl is ↦ inl (number ∙ is)
      | inr is ↦ inr (number ∙ is)
    ])

-- so a symbol of the file is right
pub symbol_right : (f : List ℕ) (c : Contents) → IsRead f c → (k : ℕ) → k < symbol_total c → (k ≡ 0) ⊎ IsRightSymbol c k
    → found.IsRightSymbol f k
unfolding symbol_entry
symbol_right f c r k below right =
    let same = r.symbols_are k below in
    let kind : symbol_kind (found.symbol f k) ≡ type_number (symbol c k).kind =
    ap symbol_kind same ∙ kind_of_entry (symbol c k) (name_start c k) in
    let start : (found.symbol f k).name ≡ name_start c k = ap (λ (e : SymbolEntry). e.name) same in (
      subst (Ends f (strings_place f) (strings_size f)) (sym start) (ends f c r k below),
      subst (λ n. n ≤ STT_TLS) (sym kind) (type_small (symbol c k).kind),
      (λ common. type_uncommon (symbol c k).kind (sym kind ∙ common)),
      row_shared c k (found.symbol f k) same right,
    )

-- a thread-local symbol of another image
import_is : (f : List ℕ) (c : Contents) → IsRead f c → (k : ℕ) → k < symbol_total c → IsImport c k → found.IsImport f k
unfolding symbol_entry
import_is f c r k below import =
    let same = r.symbols_are k below in (
      import.0,
      ap (λ (e : SymbolEntry). e.shndx) same ∙ undefined_is (symbol c k).is_defined import.1,
      ap symbol_kind same ∙ kind_of_entry (symbol c k) (name_start c k) ∙ ap type_number import.2,
    )

-- the function of the run time
runtime_is : (f : List ℕ) (c : Contents) → IsRead f c → (k : ℕ) → k < symbol_total c → IsRuntime c k
    → found.IsRuntime f k
unfolding symbol_entry strings
runtime_is f c r k below runtime =
    let same = r.symbols_are k below in
    let start : (found.symbol f k).name ≡ name_start c k = ap (λ (e : SymbolEntry). e.name) same in
    let count = name_count c r.named in
    let here = runtime_named (all_names c) k (strings_place f) f (omega (arith, count, below))
    (strings_there f c r.seen)
    runtime.1 in
    let size = strings_size_is f c r.seen in
    let within : (found.symbol f k).name + 15 ≤ strings_size f = omega (arith, start, size, here.0) in (
      ap (λ (e : SymbolEntry). e.shndx) same ∙ undefined_is (symbol c k).is_defined runtime.0,
      within,
      ap (λ n. part_at 15 (strings_place f + n) f) start ∙ here.1,
    )

-- a relocation names what it may
names_told : (f : List ℕ) (c : Contents) → IsRead f c → (kind : LoaderKind) (k : ℕ) → k < symbol_total c
    → MayName c kind k
    → found_relocations.MayName f (Some kind) k
names_told f c r JumpSlot k below may = runtime_is f c r k below may
names_told f c r Relative k below may = may
names_told f c r Module k below may = elim may [
  | inl own ↦ inl own
  | inr import ↦ inr (import_is f c r k below import)
]
names_told f c r ModuleOffset k below may = import_is f c r k below may
names_told f c r ThreadOffset k below may = elim may [
  | inl own ↦ inl own
  | inr import ↦ inr (import_is f c r k below import)
]
names_told f c r Descriptor k below may = elim may [
  | inl own ↦ inl own
  | inr import ↦ inr (import_is f c r k below import)
]

-- the type that the row of a relocation says
pub type_told : (q : Rela) (r : ImageRelocation) → q ≡ relocation_entry r → loader_kind (rela_kind q) ≡ Some r.kind
type_told q r same = ap (λ e. loader_kind (rela_kind e)) same ∙ ap loader_kind (type_of_entry r) ∙ kind_back r.kind

-- how many bytes it writes
width_told : (q : Rela) (r : ImageRelocation) → q ≡ relocation_entry r → field_width (rela_kind q) ≡ width r.kind
width_told q r same = ap (λ e. field_width (rela_kind e)) same ∙ ap field_width (type_of_entry r) ∙ width_back r.kind

-- the symbol that it names
pub symbol_told : (q : Rela) (r : ImageRelocation) → q ≡ relocation_entry r → rela_symbol q ≡ r.symbol
symbol_told q r same = ap rela_symbol same ∙ symbol_of_entry r

-- its place
place_told : (q : Rela) (r : ImageRelocation) → q ≡ relocation_entry r → q.offset ≡ r.place
unfolding relocation_entry
place_told q r same = ap (λ (e : Rela). e.offset) same

-- its addend
pub addend_told : (q : Rela) (r : ImageRelocation) → q ≡ relocation_entry r → q.addend ≡ r.addend
unfolding relocation_entry
addend_told q r same = ap (λ (e : Rela). e.addend) same

-- so it names what it may
names_right : (f : List ℕ) (c : Contents) → IsRead f c → (q : Rela) (r : ImageRelocation) → q ≡ relocation_entry r
    → IsRightRelocation c r → NamesRight f q
names_right f c read q r same right =
    let count = symbol_count_is f c read.seen in
    let number = symbol_told q r same in
    let within = right.symbol_in in
    let below : r.symbol < symbol_total c = omega (arith, within) in
    let names = names_told f c read r.kind r.symbol below right.names in (
      omega (arith, count, number, below),
      subst (λ k. found_relocations.MayName f (loader_kind (rela_kind q)) k) (sym number)
          (subst (λ o. found_relocations.MayName f o r.symbol) (sym (type_told q r same)) names),
    )

-- a part holds what it writes
fields_held : (f : List ℕ) (c : Contents) → IsHeaded f (outline_of (finished c)) → (q : Rela) (r : ImageRelocation)
    → q ≡ relocation_entry r → (i : ℕ) → Holds c r i → HoldsField f q i
unfolding finished load_header
fields_held f c headed q r same i holds =
    let count = part_count c in
    let many = headed.loads_are in
    let inside : i < length c.parts = holds.0 in
    let load = headed.load_is i (omega (arith, count, inside)) in
    let address : (segment f i).vaddr ≡ (part (outline_of (finished c)) i).address =
    ap (λ (s : Segment). s.vaddr) load in
    let size : (segment f i).memsz ≡ (part (outline_of (finished c)) i).size = ap (λ (s : Segment). s.memsz) load in
    let place = place_told q r same in
    let wide = width_told q r same in
    let above : (part (outline_of (finished c)) i).address ≤ r.place = holds.1 in
    let below : r.place + width r.kind
    ≤ (part (outline_of (finished c)) i).address + (part (outline_of (finished c)) i).size = holds.2 in (
      omega (arith, count, many, inside),
      omega (arith, address, place, above),
      omega (arith, address, size, place, wide, below),
    )

-- relocations lie behind each other
rises : (rs : List ImageRelocation) (k : ℕ) (d : ImageRelocation) → AreRising rs → suc k < length rs
    → (get_or rs k d).place + width (get_or rs k d).kind ≤ (get_or rs (suc k) d).place
rises [] k d rising below = absurd (omega arith)
rises (r ∷ []) k d rising below = absurd (omega arith)
rises (r ∷ (s ∷ more)) zero d rising below = rising.0
rises (r ∷ (s ∷ more)) (suc k) d rising below = rises (s ∷ more) k d rising.1 (omega arith)

-- so a relocation of the file lies behind the one before it
behind_last : (f : List ℕ) (c : Contents) → IsRead f c → AreRising c.relocations → (k : ℕ) (d : ImageRelocation)
    → k < length c.relocations → IsBehindLast f k
behind_last f c read rising zero d below = inl refl
behind_last f c read rising (suc k) d below =
    let before : suc k - 1 ≡ k = omega arith in
    let last = read.relocations_are k d (omega (arith, below)) in
    let this = read.relocations_are (suc k) d below in
    let place = place_told (rela f k) (get_or c.relocations k d) last in
    let wide = width_told (rela f k) (get_or c.relocations k d) last in
    let next = place_told (rela f (suc k)) (get_or c.relocations (suc k) d) this in
    let apart = rises c.relocations k d rising below in
    let here : (rela f k).offset + field_width (rela_kind (rela f k)) ≤ (rela f (suc k)).offset =
    omega (arith, place, wide, next, apart) in
    inr (subst (λ n. (rela f n).offset + field_width (rela_kind (rela f n)) ≤ (rela f (suc k)).offset)
    (sym before) here)

-- so a relocation of the file is right
pub relocation_right : (f : List ℕ) (c : Contents) → IsRead f c → IsHeaded f (outline_of (finished c))
    → All (IsRightRelocation c) c.relocations → AreRising c.relocations → (k : ℕ) (d : ImageRelocation)
    → k < length c.relocations → found_relocations.IsRightRelocation f k
relocation_right f c read headed right rising k d below =
    let this = right k d below in
    let same = read.relocations_are k d below in (
      names_right f c read (rela f k) (get_or c.relocations k d) same this,
      (this.held.0, fields_held f c headed (rela f k) (get_or c.relocations k d) same this.held.0 this.held.1),
      behind_last f c read rising k d below,
    )
