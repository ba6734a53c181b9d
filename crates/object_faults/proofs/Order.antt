-- The order of the kinds: what is asked in turn, kind after kind, place after place, finds the first fault.
use Rattle.std.proofs.Common.{◌≡◌, ◌+◌, ◌<◌, ◌⊎◌, ◌∙◌, ℕ, List, [], ◌∷◌, get_or, inl, inr, refl, sym, ap, subst, arith}
use Rattle.object_rules.specs.declared.fault.FaultKind.{FaultKind}
use Rattle.object_rules.specs.declared.fault.FaultKind.TheVariants.{Truncated, NotElf, NotRelocatable, SectionName}
use Rattle.object_rules.specs.declared.fault.FaultKind.TheVariants.{SectionKind, SectionAlign, TooLarge, SymbolTable}
use Rattle.object_rules.specs.declared.fault.FaultKind.TheVariants.{SymbolName, SymbolSection, SymbolRange, SymbolKind}
use Rattle.object_rules.specs.declared.fault.FaultKind.TheVariants.{RelocTarget, RelocSymbol, RelocKind, RelocRange}
use Rattle.object_rules.specs.declared.fault.FaultKind.TheVariants.{RelocOverlap, Sequence, StrayCall, WritableData}
use Rattle.object_rules.specs.declared.kinds.SectionFault.{SectionFault}
use Rattle.object_rules.specs.declared.kinds.SectionFault.TheVariants as section
use Rattle.object_rules.specs.declared.kinds.SymbolFault.{SymbolFault}
use Rattle.object_rules.specs.declared.kinds.SymbolFault.TheVariants as symbol
use Rattle.object_rules.specs.declared.kinds.RelocFault.{RelocFault}
use Rattle.object_rules.specs.declared.kinds.RelocFault.TheVariants as reloc
use Rattle.object_rules.specs.Kinds.{of_section, of_symbol, of_reloc}
use Rattle.object_faults.specs.Parts.{IsSection}
use Rattle.object_faults.specs.Relocations.{IsReloc}
use Rattle.object_faults.specs.Faults.{number, Stands, Nowhere, NoneBelow, IsObject, IsFirst, IsSymbol}

-- the kinds in their order
abbrev pub kinds : List FaultKind
kinds = Truncated ∷ NotElf ∷ NotRelocatable ∷ SectionName ∷ SectionKind ∷ SectionAlign ∷ TooLarge ∷ SymbolTable
    ∷ SymbolName ∷ SymbolSection ∷ SymbolRange ∷ SymbolKind ∷ RelocTarget ∷ RelocSymbol ∷ RelocKind ∷ RelocRange
    ∷ RelocOverlap ∷ Sequence ∷ StrayCall ∷ WritableData ∷ []

pub kind_at_number : (kind : FaultKind) → get_or kinds (number kind) Truncated ≡ kind
kind_at_number Truncated = refl
kind_at_number NotElf = refl
kind_at_number NotRelocatable = refl
kind_at_number SectionName = refl
kind_at_number SectionKind = refl
kind_at_number SectionAlign = refl
kind_at_number TooLarge = refl
kind_at_number SymbolTable = refl
kind_at_number SymbolName = refl
kind_at_number SymbolSection = refl
kind_at_number SymbolRange = refl
kind_at_number SymbolKind = refl
kind_at_number RelocTarget = refl
kind_at_number RelocSymbol = refl
kind_at_number RelocKind = refl
kind_at_number RelocRange = refl
kind_at_number RelocOverlap = refl
kind_at_number Sequence = refl
kind_at_number StrayCall = refl
kind_at_number WritableData = refl

-- a kind's number tells the kind
pub same_kind : (j k : FaultKind) → number j ≡ number k → j ≡ k
same_kind j k e = sym (kind_at_number j) ∙ ap (λ n. get_or kinds n Truncated) e ∙ kind_at_number k

-- below number 0 there is no kind
pub none_at_first : (b : List ℕ) → NoneBelow 0 b
none_at_first b kind h = absurd (omega arith)

-- once a kind stands nowhere, and none before it, there is none up to it
pub none_more : (k : FaultKind) (b : List ℕ) → NoneBelow (number k) b → Nowhere k b → NoneBelow (number k + 1) b
none_more k b below here kind h =
    elim (cases_of (number kind) (number k) h) [
      | inl lt ↦ below kind lt
      | inr eq ↦ let P : FaultKind → Type 0 = λ j. Nowhere j b in subst P (sym (same_kind kind k eq)) here
    ]
  where
    cases_of : (m n : ℕ) → m < n + 1 → (m < n) ⊎ (m ≡ n)
    cases_of m n h = grind arith

-- with no kind up to the last one that is asked of an object alone, the bytes stand for an object
pub object_of : (b : List ℕ) → NoneBelow 17 b → IsObject b
unfolding Stands
object_of b below Truncated = below Truncated (omega arith)
object_of b below NotElf = below NotElf (omega arith)
object_of b below NotRelocatable = below NotRelocatable (omega arith)
object_of b below SectionName = below SectionName (omega arith)
object_of b below SectionKind = below SectionKind (omega arith)
object_of b below SectionAlign = below SectionAlign (omega arith)
object_of b below TooLarge = below TooLarge (omega arith)
object_of b below SymbolTable = below SymbolTable (omega arith)
object_of b below SymbolName = below SymbolName (omega arith)
object_of b below SymbolSection = below SymbolSection (omega arith)
object_of b below SymbolRange = below SymbolRange (omega arith)
object_of b below SymbolKind = below SymbolKind (omega arith)
object_of b below RelocTarget = below RelocTarget (omega arith)
object_of b below RelocSymbol = below RelocSymbol (omega arith)
object_of b below RelocKind = below RelocKind (omega arith)
object_of b below RelocRange = below RelocRange (omega arith)
object_of b below RelocOverlap = below RelocOverlap (omega arith)
object_of b below Sequence = λ s e h. h
object_of b below StrayCall = λ s e h. h
object_of b below WritableData = λ s e h. h

-- a kind of fault of sections stands at no entry but number 0, and at sections alone
pub in_section : (fault : SectionFault) (b : List ℕ) (s e : ℕ) → Stands (of_section fault) b s e
    → (e ≡ 0) × IsSection b s
unfolding Stands
in_section section.Name b s e h = (h.0, h.1)
in_section section.Kind b s e h = (h.0, h.1)
in_section section.Align b s e h = (h.0, h.1.0)
in_section section.Large b s e h = (
  h.0,
  elim h.1 [
    | inl kept ↦ kept.0.0
    | inr table ↦ elim table.0
        [ inl symbols ↦ symbols.0 | inr relocs ↦ relocs.0.0 ]
  ],
)

-- a kind of fault of symbols stands at symbols alone
pub at_symbol : (fault : SymbolFault) (b : List ℕ) (s e : ℕ) → Stands (of_symbol fault) b s e → IsSymbol b s e
unfolding Stands
at_symbol symbol.Name b s e h = h.0
at_symbol symbol.Section b s e h = h.0
at_symbol symbol.Range b s e h = h.0
at_symbol symbol.Kind b s e h = h.0

-- the order of symbols is a fault of symbols behind number 0
pub at_order : (b : List ℕ) (s e : ℕ) → 0 < e → Stands SymbolTable b s e → IsSymbol b s e
unfolding Stands
at_order b s e above h = elim h [ inl table ↦ absurd (omega (arith, table.0)) | inr symbol ↦ symbol.0 ]

-- a kind of fault of relocations stands at relocations alone
pub at_reloc : (fault : RelocFault) (b : List ℕ) (s e : ℕ) → Stands (of_reloc fault) b s e → IsReloc b s e
unfolding Stands
at_reloc reloc.Symbol b s e h = h.0
at_reloc reloc.Kind b s e h = h.0
at_reloc reloc.Range b s e h = h.0

-- a fault that stands in no section before this one, and at no entry of it before this one, is the first
pub first_of : (kind : FaultKind) (b : List ℕ) (s e : ℕ) → NoneBelow (number kind) b → Stands kind b s e
    → ((t : ℕ) → t < s → (f : ℕ) → Stands kind b t f → ⊥) → ((f : ℕ) → f < e → Stands kind b s f → ⊥)
    → IsFirst Stands b s e kind
first_of kind b s e below here sections entries = record {
  here = here;
  nowhere_earlier = λ t f h w. elim h [
    | inl lt ↦ sections t lt f w
    | inr same ↦ let P : ℕ → Type 0 = λ x. Stands kind b x f in entries f same.1 (subst P same.0 w)
  ];
  earlier_kinds = below;
}

-- a fault of a target stands at a section
pub at_target : (b : List ℕ) (s e : ℕ) → Stands RelocTarget b s e → (e ≡ 0) × IsSection b s
unfolding Stands
at_target b s e h = (h.0, h.1.0)
