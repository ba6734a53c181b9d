-- What holds of every layout, whatever finds it.
use Rattle.std.specs.Prelude.{◌≡◌, ◌≢◌, ◌+◌, ◌<◌, ◌≤◌, ◌⊎◌, ℕ, Bool, false, List, [], length, slice_index_or, Some}
use Rattle.std.specs.Prelude.{IsSome}
use Rattle.object_faults.specs.declared.class.SectionClass.{SectionClass}
use Rattle.object_faults.specs.declared.class.SectionClass.TheVariants.{Tls}
use Rattle.elf_object.specs.Lent.{section_class, section_size, section_alignment}
use Rattle.link_faults.specs.declared.image_kind.ImageKind.{ImageKind}
use Rattle.link_faults.specs.ImageKinds.{base_of}
use Rattle.tls_layout.specs.declared.sections.Section.{Section}
use Rattle.tls_layout.specs.declared.statics.TlsSize.{TlsSize}
use Rattle.tls_layout.specs.Rounding.{IsMultiple}
use Rattle.tls_layout.specs.Sections.{Layout, layout_of}
use Rattle.tls_layout.specs.Places.{section_named, class_of, address_of, tls_offset_of, executable, read_only}
use Rattle.tls_layout.specs.Places.{tls_image, writable, room, initial_tls, tls_size, tls_alignment}
use Rattle.tls_layout.specs.Statics.{tls_of, tls_offset}
use Rattle.tls_layout.specs.Places.{extent_for}

-- ---- what a layout knows of objects

-- a section is what the object says of it; of a dropped section only that it is dropped
pub record IsSectionOf (b : List ℕ) (s : ℕ) (section : Section) : Type 0 where
  pub class_is : section.class ≡ section_class b s
  pub size_is : IsSome (section_class b s) → section.size ≡ section_size b s
  pub alignment_is : IsSome (section_class b s) → section.alignment ≡ section_alignment b s

-- section s of object o is found by these two numbers
abbrev pub FindsSections : ImageKind → List (List ℕ) → Type 0
FindsSections kind objects =
    (o s : ℕ) → o < length objects
    → IsSectionOf (slice_index_or objects o []) s (section_named (layout_of kind objects) o s)

-- ---- addresses

-- a section lies at a multiple of its alignment, in its class, at or above the base and below the room
pub record LiesAt (p : Layout) (class : SectionClass) (section : Section) (address : ℕ) : Type 0 where
  pub aligned : IsMultiple address section.alignment
  pub begins : (extent_for class p).start ≤ address
  pub ends : address + section.size ≤ (extent_for class p).end
  pub above : base_of p.kind ≤ address
  pub below : address + section.size ≤ room p.kind p.sections

abbrev pub LieInTheirClasses : Layout → Type 0
LieInTheirClasses p =
    (o s address : ℕ) (class : SectionClass) → class_of p o s ≡ Some class → address_of p o s ≡ Some address
    → LiesAt p class (section_named p o s) address

-- every section that linking keeps has an address, except thread-local sections without bytes in the file
abbrev pub HaveAddresses : Layout → Type 0
HaveAddresses p = (o s : ℕ) (class : SectionClass) → class_of p o s ≡ Some class → class ≢ Tls false
    → IsSome (address_of p o s)

-- of two sections, one ends at or before the start of the other; else they are the same
abbrev pub AddressesAreApart : Layout → Type 0
AddressesAreApart p =
    (o s address o' s' address' : ℕ) → address_of p o s ≡ Some address → address_of p o' s' ≡ Some address'
    → ((o ≡ o') × (s ≡ s'))
    ⊎ ((address + (section_named p o s).size ≤ address') ⊎ (address' + (section_named p o' s').size ≤ address))

-- each class begins on a page, at or after the end of the one before it
pub record ClassesFollow (p : Layout) : Type 0 where
  pub first : (executable p.kind p.sections).start ≡ base_of p.kind
  pub pages : (class : SectionClass) → IsMultiple (extent_for class p).start 4096
  pub rise : (class : SectionClass) → (extent_for class p).start ≤ (extent_for class p).end
  pub second : (executable p.kind p.sections).end ≤ (read_only p.kind p.sections).start
  pub third : (read_only p.kind p.sections).end ≤ (tls_image p.kind p.sections).start
  pub fourth : (tls_image p.kind p.sections).end ≤ (writable p.kind p.sections).start
  pub last : (writable p.kind p.sections).end ≤ room p.kind p.sections
  pub room_page : IsMultiple (room p.kind p.sections) 4096

-- ---- the TLS segment

-- a section lies at a multiple of its alignment, inside the segment
pub record LiesInTls (p : Layout) (section : Section) (offset : ℕ) : Type 0 where
  pub aligned : IsMultiple offset section.alignment
  pub inside : offset + section.size ≤ tls_size p.sections

abbrev pub LieInTheSegment : Layout → Type 0
LieInTheSegment p = (o s offset : ℕ) → tls_offset_of p o s ≡ Some offset → LiesInTls p (section_named p o s) offset

-- every thread-local section has an offset
abbrev pub HaveOffsets : Layout → Type 0
HaveOffsets p = (o s : ℕ) (initial : Bool) → class_of p o s ≡ Some (Tls initial) → IsSome (tls_offset_of p o s)

abbrev pub OffsetsAreApart : Layout → Type 0
OffsetsAreApart p =
    (o s offset o' s' offset' : ℕ) → tls_offset_of p o s ≡ Some offset → tls_offset_of p o' s' ≡ Some offset'
    → ((o ≡ o') × (s ≡ s'))
    ⊎ ((offset + (section_named p o s).size ≤ offset') ⊎ (offset' + (section_named p o' s').size ≤ offset))

-- if the segment lies at a multiple of its alignment, each of its sections lies at a multiple of its own
abbrev pub AlignmentSuits : Layout → Type 0
AlignmentSuits p =
    (o s : ℕ) (initial : Bool) → 0 < tls_size p.sections → class_of p o s ≡ Some (Tls initial)
    → IsMultiple (tls_alignment p.sections) (section_named p o s).alignment

-- the initial image is the start of the segment: it has the same layout in the image as in a block
pub record IsFrontOfSegment (p : Layout) : Type 0 where
  pub places : (o s address offset : ℕ) → address_of p o s ≡ Some address → tls_offset_of p o s ≡ Some offset
      → address ≡ (tls_image p.kind p.sections).start + offset
  pub len : (tls_image p.kind p.sections).end ≡ (tls_image p.kind p.sections).start + (initial_tls p.sections).end
  pub inside : (initial_tls p.sections).end ≤ tls_size p.sections

-- ---- blocks below a thread pointer

-- module m's block, which begins `tlsoffset` bytes below the thread pointer, has the byte d bytes
-- below the thread pointer
abbrev pub Holds : List TlsSize → ℕ → ℕ → Type 0
Holds sizes m d = (m < length sizes) × (d ≤ tls_offset sizes (m + 1))
    × (tls_offset sizes (m + 1) < d + (tls_of sizes m).size)

-- no byte is in two blocks
abbrev pub BlocksAreApart : List TlsSize → Type 0
BlocksAreApart sizes = (m n d : ℕ) → Holds sizes m d → Holds sizes n d → m ≡ n

-- each block ends at or below the thread pointer, and its distance from it is a multiple of its alignment
pub record IsBelowThreadPointer (sizes : List TlsSize) (m : ℕ) : Type 0 where
  pub below : (tls_of sizes m).size ≤ tls_offset sizes (m + 1)
  pub aligned : IsMultiple (tls_offset sizes (m + 1)) (tls_of sizes m).alignment
