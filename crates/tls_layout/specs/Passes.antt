-- What one pass over the sections does, and what all passes together leave.
use Rattle.std.specs.Prelude.{◌≡◌, ◌<◌, ◌≤◌, ℕ, List, length, take, sum, Option, None, Some, slice_index}
use Rattle.std.specs.Prelude.{slice_index_or, if◌then◌else◌}
use Rattle.object_faults.specs.declared.class.SectionClass.{SectionClass}
use Rattle.link_faults.specs.declared.image_kind.ImageKind.{ImageKind}
use Rattle.tls_layout.specs.declared.sections.Section.{Section}
use Rattle.tls_layout.specs.Sections.{section_at, is_in}
use Rattle.tls_layout.specs.Places.{place_in, address_at, offset_at}

-- a pass gives each section of a class its place, and leaves the others as they are
abbrev pub GivesPlaces : SectionClass → ℕ → List Section → List (Option ℕ) → List (Option ℕ) → Type 0
GivesPlaces class from sections old new =
    (k : ℕ) → k < length sections
    → slice_index_or new k None
    ≡ (if is_in class (section_at sections k) then Some (place_in class from sections k)
    else slice_index_or old k None)

-- the same for a pass that has reached section i
abbrev pub GivesPlacesBelow : ℕ → SectionClass → ℕ → List Section → List (Option ℕ) → List (Option ℕ) → Type 0
GivesPlacesBelow i class from sections old new =
    (k : ℕ) → k < i
    → slice_index_or new k None
    ≡ (if is_in class (section_at sections k) then Some (place_in class from sections k)
    else slice_index_or old k None)

abbrev pub KeepsFrom : ℕ → List (Option ℕ) → List (Option ℕ) → Type 0
KeepsFrom i old new = (k : ℕ) → i ≤ k → slice_index_or new k None ≡ slice_index_or old k None

-- nothing has a place yet
abbrev pub HaveNone : List (Option ℕ) → Type 0
HaveNone places = (k : ℕ) → slice_index_or places k None ≡ None

-- each section has its address, or each its offset
abbrev pub AreAddresses : ImageKind → List Section → List (Option ℕ) → Type 0
AreAddresses kind sections addresses = (k : ℕ) → slice_index_or addresses k None ≡ address_at kind sections k

abbrev pub AreOffsets : List Section → List (Option ℕ) → Type 0
AreOffsets sections offsets = (k : ℕ) → slice_index_or offsets k None ≡ offset_at sections k

-- where the sections of each object begin in the order of all
pub record AreFirsts (counts firsts : List ℕ) : Type 0 where
  pub len : length firsts ≡ length counts
  pub sums : (o : ℕ) → o < length counts → slice_index firsts o ≡ sum (take o counts)
