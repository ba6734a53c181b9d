-- Where sections go in an image and in its TLS segment, once more: each at the least place that those before it leave.
-- It watches `address_at`, `offset_at`, `room`, `tls_size` and `tls_alignment` (tls_layout, Places), `position`
-- (Sections) and `tls_offset` (Statics). By the gABI, edition 4.1, "Sections" (`sh_addralign`) and "Program Loading",
-- and Drepper, "ELF Handling For Thread-Local Storage", version 0.21, section 3.
use Rattle.std.specs.Prelude.{◌≡◌, ◌↔◌, ◌⊎◌, ◌+◌, ◌*◌, ◌<◌, ◌≤◌, ℕ, suc, Bool, true, false, List, length, slice_get}
use Rattle.std.specs.Prelude.{Option, Some, None, if◌then◌else◌}
use Rattle.object_faults.specs.declared.class.SectionClass.{SectionClass}
use Rattle.object_faults.specs.declared.class.SectionClass.TheVariants.{Executable, ReadOnly, Tls, Writable}
use Rattle.link_faults.specs.declared.image_kind.ImageKind.{ImageKind}
use Rattle.link_faults.specs.ImageKinds.{base_of}
use Rattle.tls_layout.specs.declared.sections.Section.{Section}
use Rattle.tls_layout.specs.declared.statics.TlsSize.{TlsSize}
use Rattle.tls_layout.specs.Places.{address_at, offset_at, room, tls_alignment, tls_size}
use Rattle.tls_layout.specs.Sections.{position, section_at}
use Rattle.tls_layout.specs.Statics.{tls_offset}

-- ** the order

-- code, constants, the initial image of thread-local storage, data that programs write
abbrev pub class_number : SectionClass → ℕ
class_number Executable = 1
class_number ReadOnly = 2
class_number (Tls initial) = 3
class_number (Writable initial) = 4

-- without bytes in the file
abbrev pub is_zeros : SectionClass → Bool
is_zeros Executable = false
is_zeros ReadOnly = false
is_zeros (Tls initial) = if initial then false else true
is_zeros (Writable initial) = if initial then false else true

-- sections are numbered in the order of objects and then of their sections. In a class what has bytes stands before
-- zeros, and each of the two in the order of numbers
abbrev pub StandsBefore : (before : SectionClass) → ℕ → (after : SectionClass) → ℕ → Type 0
StandsBefore before i after k = (class_number before ≡ class_number after)
    × (((is_zeros before ≡ false) × (is_zeros after ≡ true))
    ⊎ ((is_zeros before ≡ is_zeros after) × (i < k)))

-- ** the least place

-- the least multiple of a unit of which this holds
pub record IsLeast (unit : ℕ) (Holds : ℕ → Type 0) (place : ℕ) : Type 0 where
  pub times : ℕ
  pub multiple : place ≡ times * unit
  pub holds : Holds place
  pub least : (fewer : ℕ) → Holds (fewer * unit) → place ≤ fewer * unit

-- takes: which classes have places; base: the least place; place: the places of sections
module _ (takes : SectionClass → Bool) (base : ℕ) (sections : List Section) (place : ℕ → Option ℕ) where
  -- past all sections of earlier classes
  abbrev pub IsPastClasses : SectionClass → ℕ → Type 0
  IsPastClasses class at = (base ≤ at) × ((i other : ℕ) (earlier : SectionClass)
      → (section_at sections i).class ≡ Some earlier → place i ≡ Some other
      → class_number earlier < class_number class → other + (section_at sections i).size ≤ at)

  -- past the start of its class, and past all sections that stand before section k in it
  abbrev pub IsPastSections : ℕ → SectionClass → ℕ → ℕ → Type 0
  IsPastSections start class k at = (start ≤ at) × ((i other : ℕ) (before : SectionClass)
      → (section_at sections i).class ≡ Some before → place i ≡ Some other
      → StandsBefore before i class k → other + (section_at sections i).size ≤ at)

  -- section k of a class lies here: the class begins on the first page that is left, and the section at the first
  -- multiple of its alignment
  pub record LiesAt (class : SectionClass) (k at : ℕ) : Type 0 where
    pub start : ℕ
    pub begins : IsLeast 4096 (IsPastClasses class) start
    pub lies : IsLeast (section_at sections k).alignment (IsPastSections start class k) at

  -- each section of these classes, an empty one too, lies so, and no other has a place
  pub record ArePlaces : Type 0 where
    pub placed : (k : ℕ) (class : SectionClass) → (section_at sections k).class ≡ Some class → takes class ≡ true
        → (at : ℕ) × ((place k ≡ Some at) × LiesAt class k at)
    pub others : (k : ℕ) (class : SectionClass) → (section_at sections k).class ≡ Some class → takes class ≡ false
        → place k ≡ None
    pub dropped : (k : ℕ) → (section_at sections k).class ≡ None → place k ≡ None

-- ** the laws

-- thread-local zeros have no address
abbrev pub has_address : SectionClass → Bool
has_address Executable = true
has_address ReadOnly = true
has_address (Tls initial) = initial
has_address (Writable initial) = true

-- only thread-local sections have an offset
abbrev pub has_offset : SectionClass → Bool
has_offset Executable = false
has_offset ReadOnly = false
has_offset (Tls initial) = true
has_offset (Writable initial) = false

-- a section that linking drops has alignment 1
abbrev pub AreAligned : List Section → Type 0
AreAligned sections = (k : ℕ) → 0 < (section_at sections k).alignment

-- the addresses are the only places of this kind, and so are the offsets
abbrev pub AddressesAreOnly : Type 0
AddressesAreOnly = (kind : ImageKind) (sections : List Section) → AreAligned sections → (place : ℕ → Option ℕ)
    → ArePlaces has_address (base_of kind) sections place ↔ ((k : ℕ) → place k ≡ address_at kind sections k)

abbrev pub OffsetsAreOnly : Type 0
OffsetsAreOnly = (sections : List Section) → AreAligned sections → (place : ℕ → Option ℕ)
    → ArePlaces has_offset 0 sections place ↔ ((k : ℕ) → place k ≡ offset_at sections k)

-- ** the order of sections

-- sections are numbered by objects, and in an object by their own numbers
abbrev pub PositionsAreInOrder : Type 0
PositionsAreInOrder = (counts : List ℕ) (object section k object' section' k' : ℕ)
    → position counts object section ≡ Some k → position counts object' section' ≡ Some k'
    → (k < k') ↔ ((object < object') ⊎ ((object ≡ object') × (section < section')))

-- ** the room

-- what a linker adds begins on the first page past all sections
abbrev pub IsPastAll : ImageKind → List Section → ℕ → Type 0
IsPastAll kind sections at = (base_of kind ≤ at) × ((k other : ℕ) → address_at kind sections k ≡ Some other
    → other + (section_at sections k).size ≤ at)

abbrev pub RoomIsLeast : Type 0
RoomIsLeast = (kind : ImageKind) (sections : List Section) → AreAligned sections
    → IsLeast 4096 (IsPastAll kind sections) (room kind sections)

-- ** the TLS segment

-- thread-local section k has this alignment
abbrev pub Asks : List Section → ℕ → ℕ → Type 0
Asks sections k alignment = (initial : Bool) × (((section_at sections k).class ≡ Some (Tls initial))
    × ((section_at sections k).alignment ≡ alignment))

-- its size is the least that holds all sections; its alignment is the greatest that one of them asks for, and 1 if it
-- has no bytes
pub record IsSegment (sections : List Section) (size alignment : ℕ) : Type 0 where
  pub holds : (k other : ℕ) → offset_at sections k ≡ Some other → other + (section_at sections k).size ≤ size
  pub least : (fewer : ℕ) → ((k other : ℕ) → offset_at sections k ≡ Some other
      → other + (section_at sections k).size ≤ fewer) → size ≤ fewer
  pub empty : size ≡ 0 → alignment ≡ 1
  pub greatest : 0 < size → (k asked : ℕ) → Asks sections k asked → asked ≤ alignment
  pub asked : 0 < size → (alignment ≡ 1) ⊎ ((k : ℕ) × Asks sections k alignment)

abbrev pub SegmentsAreLeast : Type 0
SegmentsAreLeast = (sections : List Section) → IsSegment sections (tls_size sections) (tls_alignment sections)

-- ** blocks below a thread pointer

-- offset: how far below the thread pointer the block of each module begins, from 1 on: at the least multiple of its
-- alignment with room for it past the block before
pub record AreBlocks (sizes : List TlsSize) (offset : ℕ → ℕ) : Type 0 where
  pub first : offset 0 ≡ 0
  pub next : (m : ℕ) (tls : TlsSize) → slice_get sizes m ≡ Some tls
      → IsLeast tls.alignment (λ at. offset m + tls.size ≤ at) (offset (suc m))

abbrev pub BlocksAreOnly : Type 0
BlocksAreOnly = (sizes : List TlsSize) → ((m : ℕ) (tls : TlsSize) → slice_get sizes m ≡ Some tls → 0 < tls.alignment)
    → (offset : ℕ → ℕ)
    → AreBlocks sizes offset ↔ ((m : ℕ) → m ≤ length sizes → offset m ≡ tls_offset sizes m)
