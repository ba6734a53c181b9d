-- When bytes are an image: when a rule is broken, and which fault is the first.
use Rattle.std.specs.Prelude.{◌≡◌, ◌+◌, ◌*◌, ◌<◌, ℕ, List, Result, Ok, Err, length}
use Rattle.image_rules.specs.declared.fault.FaultKind.{FaultKind}
use Rattle.image_rules.specs.declared.fault.ImageFault.{ImageFault}
use Rattle.image_rules.specs.declared.fault.ImageFault.TheVariants.{OutOfMemory, At}
use Rattle.image_rules.specs.declared.rule.Rule.{Rule}
use Rattle.image_rules.specs.declared.rule.Rule.TheVariants.{Length, Ident, Field, Extent, Segment, Entry, Table}
use Rattle.image_rules.specs.declared.rule.TableRule.TheVariants.{Symbol, Relocation, TlsSymbol, TlsRelocation}
use Rattle.image_rules.specs.Rules.{number, kind_of}
use Rattle.image_faults.specs.Parts.{header, last}
use Rattle.image_faults.specs.Fields.{IsWrongIdent, IsRightField, field_offset}
use Rattle.image_faults.specs.Segments.{PassesEnd, IsWrongSegment}
use Rattle.image_faults.specs.Array.{IsRightEntry, entry_place, symbol_count, symbols_place, relocation_count}
use Rattle.image_faults.specs.Array.{relocations_place}
use Rattle.image_faults.specs.Symbols.{IsRightSymbol, IsPastTls}
use Rattle.image_faults.specs.Relocations.{IsRightRelocation, IsOwnOutside}
pub use Rattle.elf_records.specs.Firsts.{IsFirstAt}

-- entry e breaks the rule: a byte of the identification, a program header, an entry of the array or of a table; e is 0
-- for a rule about the whole file
unfoldable pub Breaks : Rule → List ℕ → ℕ → Type 0
Breaks Length b e = (e ≡ 0) × (length b < 64)
Breaks Ident b e = IsWrongIdent (header b) e
Breaks (Field rule) b e = (e ≡ 0) × (IsRightField rule (header b) → ⊥)
Breaks Extent b e = (e ≡ 0) × PassesEnd b
Breaks Segment b e = IsWrongSegment b e
Breaks (Entry rule) b e = (e ≡ entry_place rule b) × (IsRightEntry rule b → ⊥)
Breaks (Table Symbol) b e = (e < symbol_count b) × (IsRightSymbol b e → ⊥)
Breaks (Table Relocation) b e = (e < relocation_count b) × (IsRightRelocation b e → ⊥)
Breaks (Table TlsSymbol) b e = (e < symbol_count b) × IsPastTls b e
Breaks (Table TlsRelocation) b e = (e < relocation_count b) × IsOwnOutside b e

-- the offset in the file of the fault of a rule at an entry
abbrev pub offset_of : Rule → List ℕ → ℕ → ℕ
offset_of Length b e = length b
offset_of Ident b e = e
offset_of (Field rule) b e = field_offset rule
offset_of Extent b e = length b
offset_of Segment b e = 64 + 56 * e
offset_of (Entry rule) b e = (last b).offset + 16 * e
offset_of (Table Symbol) b e = symbols_place b + 24 * e
offset_of (Table Relocation) b e = relocations_place b + 24 * e
offset_of (Table TlsSymbol) b e = symbols_place b + 24 * e
offset_of (Table TlsRelocation) b e = relocations_place b + 24 * e

-- no entry breaks the rule
abbrev pub Keeps : Rule → List ℕ → Type 0
Keeps rule b = (e : ℕ) → Breaks rule b e → ⊥

-- the first n rules are kept
abbrev pub KeepsBelow : ℕ → List ℕ → Type 0
KeepsBelow n b = (rule : Rule) → number rule < n → Keeps rule b

-- the bytes stand for an image: no entry breaks a rule
abbrev pub IsImage : List ℕ → Type 0
IsImage b = (rule : Rule) (e : ℕ) → Breaks rule b e → ⊥

-- the first fault: the rule is broken here, at no earlier entry, and all earlier rules are kept
pub record IsFirst (b : List ℕ) (rule : Rule) (e : ℕ) : Type 0 where
  pub here : Breaks rule b e
  pub nowhere_earlier : (f : ℕ) → f < e → Breaks rule b f → ⊥
  pub earlier_rules : (earlier : Rule) → number earlier < number rule → (f : ℕ) → Breaks earlier b f → ⊥

-- a fault of this kind at this offset is the first
pub record IsFirstFault (b : List ℕ) (offset : ℕ) (kind : FaultKind) : Type 0 where
  pub rule : Rule
  pub entry : ℕ
  pub first : IsFirst b rule entry
  pub offset_is : offset ≡ offset_of rule b entry
  pub kind_is : kind ≡ kind_of rule

-- what a refusal says of the bytes; a check allocates no memory
abbrev pub IsFault : List ℕ → ImageFault → Type 0
IsFault b OutOfMemory = ⊥
IsFault b (At offset kind) = IsFirstFault b offset kind

-- what a step returns that checked all rules up to number n
abbrev pub Answers : {X : Type 0} → ℕ → List ℕ → Result X ImageFault → Type 0
Answers n b (Ok _) = KeepsBelow (n + 1) b
Answers n b (Err fault) = IsFault b fault
