-- The sites of an object, and what is wrong with one that has a thread-local access that is not a site.
use Rattle.std.specs.Prelude.{◌≡◌, ◌≢◌, ◌<◌, ℕ, List, [], Option, Some}
use Rattle.std.specs.List.{All, AllPairs, Contains}
use Rattle.object_faults.specs.declared.class.SectionClass.{SectionClass}
use Rattle.object_faults.specs.declared.class.SectionClass.TheVariants.{Executable}
use Rattle.object_rules.specs.declared.fault.FaultKind.{FaultKind}
use Rattle.object_rules.specs.declared.fault.FaultKind.TheVariants.{Sequence, StrayCall}
use Rattle.object_rules.specs.declared.fault.ObjectFault.{ObjectFault}
use Rattle.object_rules.specs.declared.fault.ObjectFault.TheVariants.{OutOfMemory, At}
use Rattle.elf_records.specs.declared.relocation.RelocationKind.{RelocationKind}
use Rattle.elf_records.specs.declared.relocation.RelocationKind.TheVariants.{Nothing}
use Rattle.elf_records.specs.declared.relocation_row.SequencePart.TheVariants.{First}
use Rattle.elf_records.specs.RelocationRows.{row as kind_row}
use Rattle.elf_records.specs.Symbols.{get_address}
use Rattle.elf_object.specs.declared.relocation.Relocation.{Relocation}
use Rattle.elf_object.specs.declared.symbol.SymbolPlace.TheVariants.{Undefined}
use Rattle.elf_object.specs.Parts.{symbol_count}
use Rattle.elf_object.specs.Faults.{Earlier, IsFirst}
use Rattle.elf_object.specs.Lent.{section_bytes, section_class, relocations, kept_relocation_table, symbol_name}
use Rattle.elf_object.specs.Lent.{symbol_place}
use Rattle.sequence_forms.specs.declared.places.Site.{Site}
use Rattle.sequence_forms.specs.Forms.{row}
use Rattle.sequence_match.specs.Sites.{IsEntry, IsSecond, IsSiteOf}

-- the bytes of a section of this class, if it is executable
abbrev pub bytes_of_code : Option SectionClass → List ℕ → List ℕ
bytes_of_code (Some Executable) bytes = bytes
bytes_of_code _ bytes = []

-- the code of section s: its bytes, if it is executable
unfoldable pub code_of : List ℕ → ℕ → List ℕ
code_of b s = bytes_of_code (section_class b s) (section_bytes b s)

-- symbol n is `__tls_get_addr`, and the object does not define it
abbrev pub IsGetter : List ℕ → ℕ → Type 0
IsGetter b n =
    (n < symbol_count b) × (symbol_place b n ≡ Undefined) × (symbol_name b n ≡ get_address)

-- a sequence of the object
abbrev pub IsSite : List ℕ → Site → Type 0
IsSite b site =
    (e : ℕ) × IsSiteOf (code_of b site.section) (relocations b site.section) (IsGetter b) e site

-- the types that stand only in sequences, as the first relocation
abbrev pub IsOfSequence : RelocationKind → Type 0
IsOfSequence kind = (kind_row kind).part ≡ First

-- relocation number e is of such a type, and is not the first one of a sequence
abbrev pub IsLoose : List ℕ → List Relocation → (ℕ → Type 0) → ℕ → Type 0
IsLoose code xs getter e =
    (x : Relocation) × IsEntry xs e x × IsOfSequence x.kind × ((site : Site) → IsSiteOf code xs getter e site → ⊥)

-- relocation number f names `__tls_get_addr`, and is not the second one of a sequence
abbrev pub IsStray : List ℕ → List Relocation → (ℕ → Type 0) → ℕ → Type 0
IsStray code xs getter f =
    (x : Relocation) × IsEntry xs f x × (x.kind ≢ Nothing) × getter x.symbol
    × ((e : ℕ) (site : Site) → IsSiteOf code xs getter e site
    → IsSecond (row site.form).second getter xs site.start f → ⊥)

-- the kind stands at relocation number e of these
abbrev pub StandsAt : FaultKind → List ℕ → List Relocation → (ℕ → Type 0) → ℕ → Type 0
StandsAt Sequence code xs getter e = IsLoose code xs getter e
StandsAt StrayCall code xs getter e = IsStray code xs getter e
StandsAt _ code xs getter e = ⊥

-- the kind stands at relocation number e of section s
abbrev pub StandsOf : FaultKind → List ℕ → ℕ → ℕ → Type 0
StandsOf kind b s e = StandsAt kind (code_of b s) (relocations b s) (IsGetter b) e

-- the kind stands at entry e of section r, which holds the relocations of a section that linking keeps
abbrev pub Stands : FaultKind → List ℕ → ℕ → ℕ → Type 0
Stands kind b r e =
    (0 < r) × ((s : ℕ) × (kept_relocation_table b s ≡ r)
    × StandsAt kind (code_of b s) (relocations b s) (IsGetter b) e)

-- the kind stands nowhere
abbrev pub Nowhere : FaultKind → List ℕ → Type 0
Nowhere kind b = (r e : ℕ) → Stands kind b r e → ⊥

-- what a refusal says of the object; nothing when memory runs out
abbrev pub IsFault : List ℕ → ObjectFault → Type 0
IsFault b OutOfMemory = Unit {0}
IsFault b (At r e kind) = IsFirst Stands b r e kind

-- one site stands before another: in a lower section, or at a lower offset of the same
abbrev pub Before : Site → Site → Type 0
Before p q = Earlier p.section p.start q.section q.start

-- exactly the sites of the object, each once, rising by section and start
pub record AreSites (b : List ℕ) (sites : List Site) : Type 0 where
  pub only : All (IsSite b) sites
  pub every : (site : Site) → IsSite b site → Contains sites site
  pub rising : AllPairs (λ p q. Earlier p.section p.start q.section q.start) sites
