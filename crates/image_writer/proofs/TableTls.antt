-- A file of finished contents keeps the rules of its thread-local symbols and relocations, and so all rules of its tables.
use Rattle.std.proofs.Common.{◌≡◌, ◌+◌, ◌<◌, ◌≤◌, ◌⊎◌, ◌<ℤ◌, ℕ, ℤ, pos, zero, suc, Bool, true, false, List}
use Rattle.std.proofs.Common.{Option, Some, None, All, IsSome, IsTrue, length, get_or, if◌then◌else◌}
use Rattle.std.proofs.Common.{refl, sym, ap, ◌∙◌, arith, inl, inr, subst}
use Rattle.std.specs.Int.Signed.{<ℤ-≤ℤ_trans, <ℤ_irrefl}
use Rattle.std.specs.Option.{option_map}
use Rattle.elf_records.specs.Records.{symbol_kind}
use Rattle.elf_records.specs.declared.program_header.Segment.{Segment}
use Rattle.elf_records.specs.declared.symbol.SymbolEntry.{SymbolEntry}
use Rattle.image_faults.specs.declared.loader_kind.LoaderKind.{LoaderKind}
use Rattle.image_faults.specs.declared.loader_kind.LoaderKind.TheVariants.{JumpSlot, Relative, Module, ModuleOffset}
use Rattle.image_faults.specs.declared.loader_kind.LoaderKind.TheVariants.{ThreadOffset, Descriptor}
use Rattle.image_rules.specs.declared.rule.TableRule.{TableRule}
use Rattle.image_rules.specs.declared.rule.TableRule.TheVariants.{Symbol, Relocation, TlsSymbol, TlsRelocation}
use Rattle.image_rules.specs.declared.rule.Rule.TheVariants.{Table}
use Rattle.image_faults.specs.Parts.{has_tls, loads, segment, tls_size}
use Rattle.image_faults.specs.Symbols as found
use Rattle.image_faults.specs.Symbols.{IsPastTls}
use Rattle.image_faults.specs.Relocations.{IsOutsideTls, IsOwnOutside, LacksOwnTls, rela}
use Rattle.image_faults.specs.Faults.{Breaks, Keeps}
use Rattle.image_file.specs.declared.part.TlsPart.{TlsPart}
use Rattle.elf_records.specs.declared.symbol.SymbolType.TheVariants.{Tls}
use Rattle.image_file.specs.declared.relocation.ImageRelocation.{ImageRelocation}
use Rattle.image_file.specs.Spelled.{tls_part}
use Rattle.image_writer.specs.Outlined.{outline_of}
use Rattle.image_writer.specs.Contents.{Contents, symbol}
use Rattle.image_writer.specs.Tables.{finished, name_start, symbol_entry, symbol_total}
use Rattle.image_writer.specs.Linkable as owed
use Rattle.image_writer.specs.Linkable.{AreRising, HasOwnTls, IsOffset, IsRightRelocation, IsRightSymbol}
use Rattle.image_writer.proofs.Headed.{IsHeaded}
use Rattle.image_writer.proofs.TableKinds.{defined_is, kind_of_entry, type_tls}
use Rattle.image_writer.proofs.TablePlaces.{relocation_count_is, symbol_count_is}
use Rattle.image_writer.proofs.TableRules.{IsRead, addend_told, relocation_right, symbol_right, symbol_told, type_told}

-- some relocation
no_relocation : ImageRelocation
no_relocation = record { place = 0; kind = Relative; symbol = 0; addend = pos 0 }

-- how many bytes the TLS segment has, by its header
size_by : (b : Bool) (s : Segment) (o : Option TlsPart) → option_map tls_part (if b then Some s else None) ≡ o
    → (if b then s.memsz else 0) ≡ owed.tls_size o
size_by true s o told = ap owed.tls_size told
size_by false s o told = ap owed.tls_size told

-- the segment of the file has as many bytes as that of the contents
tls_size_is : (f : List ℕ) (c : Contents) → IsHeaded f (outline_of (finished c)) → tls_size f ≡ owed.tls_size c.tls
unfolding finished
tls_size_is f c headed = size_by (has_tls f) (segment f (loads f + 1)) c.tls headed.tls_is

-- the file has a segment where the contents have one
has_tls_is : (f : List ℕ) (c : Contents) → IsHeaded f (outline_of (finished c)) → IsSome c.tls → IsTrue (has_tls f)
unfolding finished
has_tls_is f c headed some = headed.has_tls_is ∙ some

-- a thread-local symbol lies in the segment
symbol_inside : (f : List ℕ) (c : Contents) → IsHeaded f (outline_of (finished c)) → IsRead f c → (k : ℕ)
    → k < symbol_total c
    → (k ≡ 0) ⊎ IsRightSymbol c k → IsPastTls f k → ⊥
unfolding symbol_entry
symbol_inside f c headed r k below right past =
    let same = r.symbols_are k below in
    let kind : (symbol c k).kind ≡ Tls =
    type_tls (symbol c k).kind
    (sym (kind_of_entry (symbol c k) (name_start c k)) ∙ ap symbol_kind (sym same) ∙ past.0) in
    let section = ap (λ (e : SymbolEntry). e.shndx) same in
    let defined : (symbol c k).is_defined ≡ true =
    defined_is (symbol c k).is_defined (λ none. past.1 (section ∙ none)) in
    let value : (found.symbol f k).value ≡ (symbol c k).value = ap (λ (e : SymbolEntry). e.value) same in
    let size = tls_size_is f c headed in
    elim right [
      | inl first ↦
          let none : (symbol c 0).kind ≡ Tls = subst (λ n. (symbol c n).kind ≡ Tls) first kind in cc
      | inr it ↦
          let inside = it.inside kind defined in
          let beyond = past.2 in
          omega (arith, size, value, inside, beyond)
    ]

-- an offset in the segment does not lie outside
not_outside : (f : List ℕ) (c : Contents) → tls_size f ≡ owed.tls_size c.tls → (addend : ℤ) → IsOffset c addend
    → IsOutsideTls f addend → ⊥
not_outside f c size addend within (inl below) = <ℤ_irrefl (<ℤ-≤ℤ_trans below within.0)
not_outside f c size addend within (inr above) =
    <ℤ_irrefl (<ℤ-≤ℤ_trans (subst (λ n. pos n <ℤ addend) size above) within.1)

-- a relocation lacks nothing of the segment that the contents have for it
not_lacking : (f : List ℕ) (c : Contents) → IsHeaded f (outline_of (finished c)) → (kind : LoaderKind) (addend : ℤ)
    → HasOwnTls c kind addend → LacksOwnTls f (Some kind) addend → ⊥
not_lacking f c headed JumpSlot addend own lacks = lacks
not_lacking f c headed Relative addend own lacks = lacks
not_lacking f c headed Module addend own lacks = lacks (has_tls_is f c headed own)
not_lacking f c headed ModuleOffset addend own lacks = lacks
not_lacking f c headed ThreadOffset addend own (inl lacks) = lacks (has_tls_is f c headed own.0)
not_lacking f c headed ThreadOffset addend own (inr outside) =
    not_outside f c (tls_size_is f c headed) addend own.1 outside
not_lacking f c headed Descriptor addend own (inl lacks) = lacks (has_tls_is f c headed own.0)
not_lacking f c headed Descriptor addend own (inr outside) =
    not_outside f c (tls_size_is f c headed) addend own.1 outside

-- a relocation of the image itself lies in the segment
relocation_inside : (f : List ℕ) (c : Contents) → IsHeaded f (outline_of (finished c)) → IsRead f c
    → All (IsRightRelocation c) c.relocations → (k : ℕ) (d : ImageRelocation) → k < length c.relocations
    → IsOwnOutside f k → ⊥
relocation_inside f c headed r right k d below outside =
    let same = r.relocations_are k d below in
    let it = get_or c.relocations k d in
    let number : it.symbol ≡ 0 = sym (symbol_told (rela f k) it same) ∙ outside.0 in
    let own = (right k d below).own number in
    not_lacking f c headed it.kind it.addend own
    (subst (LacksOwnTls f (Some it.kind)) (addend_told (rela f k) it same)
    (subst (λ o. LacksOwnTls f o (rela f k).addend) (type_told (rela f k) it same) outside.1))

-- each symbol but number 0 is right
right_or_first : (c : Contents) → ((k : ℕ) → 0 < k → k ≤ length c.symbols → IsRightSymbol c k) → (k : ℕ)
    → k < symbol_total c
    → (k ≡ 0) ⊎ IsRightSymbol c k
right_or_first c symbols zero below = inl refl
right_or_first c symbols (suc k) below = inr (symbols (suc k) (omega arith) (omega (arith, below)))

-- the rules of the tables
pub tables_kept : (f : List ℕ) (c : Contents) → IsHeaded f (outline_of (finished c)) → IsRead f c
    → ((k : ℕ) → 0 < k → k ≤ length c.symbols → IsRightSymbol c k) → All (IsRightRelocation c) c.relocations
    → AreRising c.relocations → (rule : TableRule) → Keeps (Table rule) f
unfolding Breaks
tables_kept f c headed r symbols right rising Symbol e broken =
    let below : e < symbol_total c = subst (λ n. e < n) (symbol_count_is f c r.seen) broken.0 in
    broken.1 (symbol_right f c r e below (right_or_first c symbols e below))
tables_kept f c headed r symbols right rising Relocation e broken =
    let below : e < length c.relocations = subst (λ n. e < n) (relocation_count_is f c r.seen) broken.0 in
    broken.1 (relocation_right f c r headed right rising e no_relocation below)
tables_kept f c headed r symbols right rising TlsSymbol e broken =
    let below : e < symbol_total c = subst (λ n. e < n) (symbol_count_is f c r.seen) broken.0 in
    symbol_inside f c headed r e below (right_or_first c symbols e below) broken.1
tables_kept f c headed r symbols right rising TlsRelocation e broken =
    let below : e < length c.relocations = subst (λ n. e < n) (relocation_count_is f c r.seen) broken.0 in
    relocation_inside f c headed r right e no_relocation below broken.1
