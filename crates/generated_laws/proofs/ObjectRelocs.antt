-- The relocations of an object have no fault, where those of its shape are in order.
use Rattle.std.proofs.Common.{◌≡◌, ◌≢◌, ◌+◌, ◌*◌, ◌%◌, ◌<◌, ◌≤◌, ◌⊎◌, inl, inr, ℕ, List, length, slice_index_or}
use Rattle.std.proofs.Common.{Some, pos, refl, sym, ap, subst, ◌∙◌, arith}
use Rattle.std.specs.List.{All, AllPairs}
use Rattle.elf_records.specs.declared.relocation.Rela.{Rela}
use Rattle.elf_records.specs.Records.{rela_symbol, rela_kind}
use Rattle.object_rules.specs.declared.fault.FaultKind.TheVariants.{Truncated, NotElf, NotRelocatable, SectionName}
use Rattle.object_rules.specs.declared.fault.FaultKind.TheVariants.{SectionKind, SectionAlign, TooLarge, SymbolTable}
use Rattle.object_rules.specs.declared.fault.FaultKind.TheVariants.{SymbolName, SymbolSection, SymbolRange}
use Rattle.object_rules.specs.declared.fault.FaultKind.TheVariants.{SymbolKind, RelocTarget, RelocSymbol, RelocKind}
use Rattle.object_rules.specs.declared.fault.FaultKind.TheVariants.{RelocRange, RelocOverlap, Sequence, StrayCall}
use Rattle.object_rules.specs.declared.fault.FaultKind.TheVariants.{WritableData}
use Rattle.object_faults.specs.declared.class.SectionClass.TheVariants.{Executable}
use Rattle.elf_object.specs.Classes.{kept_class}
use Rattle.elf_object.specs.Faults.{Nowhere, Stands, IsObject, IsDropped, IsMistargeted, IsMiskinded, IsSecond}
use Rattle.elf_object.specs.Faults.{IsUnplaced}
use Rattle.elf_object.specs.Parts.{section, symbol, rela, IsSection, IsTable}
use Rattle.object_faults.specs.Relocations.{relocation_kind, width_of, IsReloc}
use Rattle.generated_job.specs.Shapes.{Shape, sections_of}
use Rattle.generated_laws.specs.Reading.{IsSmall, known_of}
use Rattle.generated_laws.proofs.ObjectLaid.{IsLaid}
use Rattle.generated_laws.proofs.ObjectReads.{count_is}
use Rattle.generated_laws.proofs.ObjectEach.{is_rela, is_reloc, rela_read, row, within_eight}
use Rattle.generated_laws.proofs.ObjectSound as sound
use Rattle.generated_laws.proofs.ObjectSound.{code_is_kept, code_kept, dropped_not, symbols_well}

-- where the field of a relocation ends
abbrev pub field_end : Rela → ℕ
field_end x = x.offset + width_of (relocation_kind (rela_kind x))

-- each names a symbol, is of a type that code may have, and its field lies in the code, behind the one before it
pub record AreInOrder (s : Shape) : Type 0 where
  pub symbols : All (λ x. (0 < rela_symbol x) × (rela_symbol x < length (known_of s))) s.relocations
  pub kinds : All (λ x. IsMiskinded (relocation_kind (rela_kind x)) (Some Executable) → ⊥) s.relocations
  pub within : All (λ x. field_end x ≤ length s.code) s.relocations
  pub rising : AllPairs (λ x y. field_end x ≤ y.offset) s.relocations

-- ** the target

info_is : (b : List ℕ) (s : Shape) → IsLaid b s → (section b 2).info ≡ 1
unfolding sections_of
info_is b s laid = ap (λ h. h.info) (laid.sections_are 2 (omega arith))

-- the target's header, for any table of relocations
target_is : (b : List ℕ) (s : Shape) → IsLaid b s → (r : ℕ) → r ≡ 2 → section b (section b r).info ≡ row s 1
target_is b s laid r same =
    ap (λ n. section b (section b n).info) same ∙ ap (section b) (info_is b s laid)
    ∙ laid.sections_are 1 (omega arith)

mistargeted_not : (b : List ℕ) (s : Shape) → IsLaid b s → IsMistargeted b 2 → ⊥
unfolding sections_of
mistargeted_not b s laid (inl none) = none (subst (IsSection b) (sym (info_is b s laid)) (code_is_kept b s laid).0)
mistargeted_not b s laid (inr kept) = bad_not kept.1
  where
    whole : (n : ℕ) → (24 * n) % 24 ≡ 0
    whole n = omega arith

    table : IsTable b (section b 2).link
    table = rw (laid.sections_are 2 (omega arith)) (
      within_eight b s laid 5 (omega arith) (omega arith),
      ap (λ h. h.kind) (laid.sections_are 5 (omega arith)),
    )

    bad_not : ((section b 2).entsize ≢ 24) ⊎ ((section b 2).size % 24 ≢ 0) ⊎ (IsTable b (section b 2).link → ⊥)
        ⊎ (((section b (section b 2).info).kind ≡ 8) × ((section b 2).size ≢ 0)) ⊎ IsSecond b 2 → ⊥
    bad_not (inl wide) = wide (ap (λ h. h.entsize) (laid.sections_are 2 (omega arith)))
    bad_not (inr (inl part)) = part (rw (laid.sections_are 2 (omega arith)) (whole (length s.relocations)))
    bad_not (inr (inr (inl other))) = other table
    bad_not (inr (inr (inr (inl empty)))) =
        omega (arith, empty.0, ap (λ h. h.kind) (target_is b s laid 2 refl))
    bad_not (inr (inr (inr (inr second)))) = omega (arith, second.1, is_rela b s laid second.0 second.2)

pub targets_are_right : (b : List ℕ) (s : Shape) → IsLaid b s → Nowhere RelocTarget b
unfolding Stands
targets_are_right b s laid r e stands =
    mistargeted_not b s laid (subst (IsMistargeted b) (is_rela b s laid r stands.1) stands.2)

-- ** each relocation

pub each_reloc : (b : List ℕ) (s : Shape) → IsLaid b s → (P : Rela → Type 0) → All P s.relocations
    → (r e : ℕ) → IsReloc b r e → P (rela b r e)
each_reloc b s laid P all r e is =
    let found = is_reloc b s laid r e is in
    let d : Rela = record { offset = 0; info = 0; addend = pos 0 } in
    subst (λ q. P (rela b q e)) (sym found.0) (subst P (sym (rela_read b s laid e d found.1)) (all e d found.1))

unplaced_not : (b : List ℕ) (s : Shape) → IsLaid b s → IsSmall s → (e : ℕ) → 0 < e → e < length (known_of s)
    → IsUnplaced b e → ⊥
unplaced_not b s laid small e above below (inl none) = omega arith
unplaced_not b s laid small e above below (inr (inl past)) = omega (arith, count_is b s laid)
unplaced_not b s laid small e above below (inr (inr placed)) = place_not placed.1
  where
    place_not : ((symbol b e).shndx ≡ 0xfff1) ⊎ IsDropped b (symbol b e).shndx → ⊥
    place_not (inl absolute) = omega (arith, absolute, (symbols_well b s laid small e above placed.0).low)
    place_not (inr dropped) =
        dropped_not b (symbol b e).shndx (symbols_well b s laid small e above placed.0).placed dropped

pub relocations_have_symbols : (b : List ℕ) (s : Shape) → IsLaid b s → IsSmall s → AreInOrder s → Nowhere RelocSymbol b
unfolding Stands
relocations_have_symbols b s laid small order r e stands =
    let named = each_reloc b s laid (λ x. (0 < rela_symbol x) × (rela_symbol x < length (known_of s))) order.symbols
    r e stands.0 in
    unplaced_not b s laid small (rela_symbol (rela b r e)) named.0 named.1 stands.2

pub relocations_have_kinds : (b : List ℕ) (s : Shape) → IsLaid b s → AreInOrder s → Nowhere RelocKind b
unfolding Stands
relocations_have_kinds b s laid order r e stands =
    let second = (is_reloc b s laid r e stands.0).0 in
    let info : (section b r).info ≡ 1 = ap (λ n. (section b n).info) second ∙ info_is b s laid in
    let class : kept_class (section b (section b r).info) ≡ Some Executable =
    ap (λ n. kept_class (section b n)) info ∙ code_kept b s laid in
    each_reloc b s laid (λ x. IsMiskinded (relocation_kind (rela_kind x)) (Some Executable) → ⊥) order.kinds
    r e stands.0 (subst (IsMiskinded (relocation_kind (rela_kind (rela b r e)))) class stands.1)

pub relocations_lie_inside : (b : List ℕ) (s : Shape) → IsLaid b s → AreInOrder s → Nowhere RelocRange b
unfolding Stands sections_of
relocations_lie_inside b s laid order r e stands =
    let second = (is_reloc b s laid r e stands.0).0 in
    omega (
      arith,
      ap (λ h. h.size) (target_is b s laid r second),
      stands.1,
      each_reloc b s laid (λ x. field_end x ≤ length s.code) order.within r e stands.0,
    )

-- two fields that share a byte
overlap_not : (x y : Rela) (k : ℕ) → field_end x ≤ y.offset → k < field_end x → y.offset ≤ k → ⊥
overlap_not x y k rise below above = omega arith

pub relocations_are_apart : (b : List ℕ) (s : Shape) → IsLaid b s → AreInOrder s → Nowhere RelocOverlap b
unfolding Stands
relocations_are_apart b s laid order r e stands =
    let found = is_reloc b s laid r e stands.0 in
    let d : Rela = record { offset = 0; info = 0; addend = pos 0 } in
    let f : ℕ = stands.1.0 in
    let k : ℕ = stands.1.2.0 in
    let earlier : f < e = stands.1.1 in
    let here : rela b r e ≡ slice_index_or s.relocations e d = ap (λ q. rela b q e) found.0
    ∙ rela_read b s laid e d found.1 in
    let there : rela b r f ≡ slice_index_or s.relocations f d = ap (λ q. rela b q f) found.0
    ∙ rela_read b s laid f d (omega (arith, earlier, found.1)) in
    let below : k < field_end (slice_index_or s.relocations f d) =
    subst (λ x. k < field_end x) there stands.1.2.1.1 in
    let above : (slice_index_or s.relocations e d).offset ≤ k =
    subst (λ (x : Rela). x.offset ≤ k) here stands.1.2.2.0 in
    overlap_not (slice_index_or s.relocations f d) (slice_index_or s.relocations e d) k
    (order.rising f e d earlier found.1) below above

-- ** every kind

pub is_object : (b : List ℕ) (s : Shape) → IsLaid b s → IsSmall s → AreInOrder s → IsObject b
unfolding Stands
is_object b s laid small order Truncated = sound.not_truncated b s laid
is_object b s laid small order NotElf = sound.is_elf b s laid
is_object b s laid small order NotRelocatable = sound.is_relocatable b s laid
is_object b s laid small order SectionName = sound.sections_have_names b s laid
is_object b s laid small order SectionKind = sound.sections_have_kinds b s laid
is_object b s laid small order SectionAlign = sound.sections_are_aligned b s laid
is_object b s laid small order TooLarge = sound.sections_are_small b s laid small
is_object b s laid small order SymbolTable = sound.symbols_are_ordered b s laid small
is_object b s laid small order SymbolName = sound.symbols_have_names b s laid small
is_object b s laid small order SymbolSection = sound.symbols_have_places b s laid small
is_object b s laid small order SymbolRange = sound.symbols_lie_inside b s laid small
is_object b s laid small order SymbolKind = sound.symbols_have_kinds b s laid small
is_object b s laid small order RelocTarget = targets_are_right b s laid
is_object b s laid small order RelocSymbol = relocations_have_symbols b s laid small order
is_object b s laid small order RelocKind = relocations_have_kinds b s laid order
is_object b s laid small order RelocRange = relocations_lie_inside b s laid order
is_object b s laid small order RelocOverlap = relocations_are_apart b s laid order
is_object b s laid small order Sequence = λ r e stands. stands
is_object b s laid small order StrayCall = λ r e stands. stands
is_object b s laid small order WritableData = λ r e stands. stands
