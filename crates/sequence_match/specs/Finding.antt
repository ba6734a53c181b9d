-- What the search through an object keeps: which symbols are `__tls_get_addr`, and what it has found.
use Rattle.std.specs.Prelude.{◌≡◌, ◌≢◌, ◌↔◌, ◌+◌, ◌<◌, ◌≤◌, ◌⊎◌, ◌||◌, ℕ, Bool, false, List, Option, Some}
use Rattle.std.specs.Prelude.{None, IfSome, slice_index_or}
use Rattle.std.specs.List.{All, AllPairs, Contains}
use Rattle.std.specs.List.Sorted.{IsNonDecreasingBy, IsPermutation}
use Rattle.object_rules.specs.declared.fault.FaultKind.{FaultKind}
use Rattle.object_rules.specs.declared.fault.FaultKind.TheVariants.{Sequence, StrayCall}
pub use Rattle.elf_records.specs.RowLaws.{is_of_sequence}
use Rattle.elf_object.specs.declared.relocation.Relocation.{Relocation}
use Rattle.elf_object.specs.Faults.{Earlier, IsFirstAt}
use Rattle.elf_object.specs.Lent.{kept_relocation_table}
use Rattle.sequence_match.specs.declared.finding.Asked.{Asked}
use Rattle.sequence_match.specs.declared.finding.Asked.TheVariants.{Loose, Stray}
use Rattle.sequence_match.specs.declared.finding.Findings.{Findings}
use Rattle.sequence_match.specs.declared.finding.Spot.{Spot}
use Rattle.sequence_match.specs.declared.finding.Survey.{Survey}
use Rattle.sequence_match.specs.declared.matching.Code.{Code}
use Rattle.sequence_forms.specs.declared.places.Site.{Site}
use Rattle.sequence_match.specs.Code.{HasSite, Names}
use Rattle.sequence_match.specs.Faults.{AreSites, Before, IsGetter, IsLoose, IsSite, IsStray, Nowhere, Stands, StandsOf}

-- the kind of fault
abbrev pub kind_of : Asked → FaultKind
kind_of Loose = Sequence
kind_of Stray = StrayCall

-- exactly the undefined symbols `__tls_get_addr` are marked
abbrev pub AreGetters : List ℕ → List Bool → Type 0
AreGetters b getters = (n : ℕ) → Names getters n ↔ IsGetter b n

-- a relocation of such a type, or one that names `__tls_get_addr`
abbrev pub is_use : List Bool → Relocation → Bool
is_use getters x = is_of_sequence x.kind || slice_index_or getters x.symbol false

-- a sequence of the code, with the number of its section
abbrev pub IsOf : Code → Site → Type 0
IsOf code site = (site.section ≡ code.section) × HasSite code site

-- relocation number e of the code belongs in a sequence and opens none
abbrev pub IsLooseIn : Code → ℕ → Type 0
IsLooseIn code e = IsLoose code.bytes.now code.relocations.now (Names code.getters.now) e

-- it names `__tls_get_addr` outside a sequence
abbrev pub IsStrayIn : Code → ℕ → Type 0
IsStrayIn code e = IsStray code.bytes.now code.relocations.now (Names code.getters.now) e

-- the least number at which P holds; None only if P holds at none below n
abbrev pub IsLeastBelow : (ℕ → Type 0) → ℕ → Option ℕ → Type 0
IsLeastBelow P n None = (e : ℕ) → e < n → P e → ⊥
IsLeastBelow P n (Some e) = P e × ((f : ℕ) → f < e → P f → ⊥)

-- exactly the sequences of the code, no two at one place
pub record AreSitesIn (code : Code) (sites : List Site) : Type 0 where
  pub only : All (IsOf code) sites
  pub every : (site : Site) → IsOf code site → Contains sites site
  pub apart : AllPairs (λ p q. p.start ≢ q.start) sites

-- exactly the sequences of the sections from one to another, rising
pub record AreSitesFrom (b : List ℕ) (from to : ℕ) (sites : List Site) : Type 0 where
  pub only : All (λ site. IsSite b site × (from ≤ site.section) × (site.section < to)) sites
  pub every : (site : Site) → IsSite b site → from ≤ site.section → site.section < to → Contains sites site
  pub rising : AllPairs Before sites

-- the findings in code
pub record AreFindingsIn (code : Code) (found : Findings) : Type 0 where
  pub sites : (unsorted : List Site) × AreSitesIn code unsorted × IsPermutation unsorted found.sites.items
  pub rising : IsNonDecreasingBy (λ site. site.start) found.sites.items
  pub loose : IsFirstAt (IsLoose code.bytes.now code.relocations.now (Names code.getters.now)) found.loose
  pub stray : IsFirstAt (IsStray code.bytes.now code.relocations.now (Names code.getters.now)) found.stray

-- the findings in section s
pub record AreFindings (b : List ℕ) (s : ℕ) (found : Findings) : Type 0 where
  pub sites : AreSitesFrom b s (s + 1) found.sites.items
  pub loose : IsFirstAt (StandsOf Sequence b s) found.loose
  pub stray : IsFirstAt (StandsOf StrayCall b s) found.stray

-- the lower of two entries
pub record IsLower (first : Option Spot) (second lower : Spot) : Type 0 where
  pub one : (first ≡ Some lower) ⊎ (second ≡ lower)
  pub not_after_second : Earlier second.table second.entry lower.table lower.entry → ⊥
  pub not_after_first : IfSome first (λ spot. Earlier spot.table spot.entry lower.table lower.entry → ⊥)

-- the kind stands at relocation number e of a section below n that has a table
abbrev pub StandsBelow : FaultKind → List ℕ → ℕ → ℕ → ℕ → Type 0
StandsBelow kind b n s e = (s < n) × (0 < kept_relocation_table b s) × StandsOf kind b s e

-- the first entry, in the tables of the sections below n, at which the kind stands
abbrev pub IsFirstBelow : FaultKind → List ℕ → ℕ → Option Spot → Type 0
IsFirstBelow kind b n None = (s e : ℕ) → StandsBelow kind b n s e → ⊥
IsFirstBelow kind b n (Some spot) =
    Stands kind b spot.table spot.entry
    × ((s e : ℕ) → StandsBelow kind b n s e → Earlier (kept_relocation_table b s) e spot.table spot.entry → ⊥)

-- the first entry at which the kind stands
abbrev pub IsFirstOf : FaultKind → List ℕ → Option Spot → Type 0
IsFirstOf kind b None = Nowhere kind b
IsFirstOf kind b (Some spot) =
    Stands kind b spot.table spot.entry
    × ((t f : ℕ) → Earlier t f spot.table spot.entry → Stands kind b t f → ⊥)

-- the findings in an object
pub record IsSurvey (b : List ℕ) (found : Survey) : Type 0 where
  pub sites : AreSites b found.sites.items
  pub loose : IsFirstOf Sequence b found.loose
  pub stray : IsFirstOf StrayCall b found.stray
