-- What the file of sections holds, offset by offset, whatever lays it out.
use Rattle.std.specs.Prelude.{◌≡◌, ◌+◌, ◌<◌, ◌≤◌, ◌^◌, ◌⊎◌, ℕ, true, List, [], IsSome, Some, length, nat_lt}
use Rattle.std.specs.Prelude.{slice_get, slice_index_or, if◌then◌else◌}
use Rattle.std.specs.List.{All}
use Rattle.std.specs.Option.{IfSome}
use Rattle.object_faults.specs.declared.class.SectionClass.TheVariants.{Executable, ReadOnly, Tls, Writable}
use Rattle.elf_object.specs.Faults.{IsObject}
use Rattle.elf_object.specs.Lent.{section_class, section_size}
use Rattle.link_faults.specs.declared.image_kind.ImageKind.{ImageKind}
use Rattle.link_faults.specs.ImageKinds.{base_of}
use Rattle.tls_layout.specs.declared.extent.Extent.{Extent}
use Rattle.tls_layout.specs.Places.{extent_for}
use Rattle.tls_layout.specs.Places.{address_of, IsLawful}
use Rattle.tls_layout.specs.Sections.{Layout, layout_of}
use Rattle.elf_object.specs.Object.{section_count}
use Rattle.placed_sections.specs.Files.{AreWhole, Contents, offset_of, sections_file}
use Rattle.placed_sections.specs.declared.part.SectionRef.{SectionRef}
use Rattle.placed_sections.specs.declared.part.PlacedPart.{PlacedPart}

-- the end of an extent that has bytes, else the other number
abbrev pub end_or : Extent → ℕ → ℕ
end_or extent rest = if nat_lt extent.start extent.end then extent.end else rest

-- where the last class with bytes ends; the base if no class has any
unfoldable pub sections_end : Layout → ℕ
sections_end p =
    end_or (extent_for (Writable true) p)
    (end_or (extent_for (Tls true) p)
    (end_or (extent_for ReadOnly p) (end_or (extent_for Executable p) (base_of p.kind))))

-- objects that a layout within the limits places, and what stands in their sections
pub record AreLaid (kind : ImageKind) (contents : Contents) (objects : List (List ℕ)) : Type 0 where
  pub lawful : IsLawful (layout_of kind objects)
  pub are_objects : All IsObject objects
  pub whole : AreWhole contents objects

-- a section of one of the objects, which has a class: an image keeps it
pub record IsOwn (objects : List (List ℕ)) (own : SectionRef) : Type 0 where
  pub object : own.object < length objects
  pub section : own.section < section_count (slice_index_or objects own.object [])
  pub class : IsSome (section_class (slice_index_or objects own.object []) own.section)

-- a part in the first 64 MiB of the file, so that sums of offsets stay small; its section, if it has one, is one of the
-- objects'
pub record IsNear (objects : List (List ℕ)) (part : PlacedPart) : Type 0 where
  pub near : part.place ≤ 2 ^ 26
  pub own : IfSome part.section (IsOwn objects)

-- the file ends where the sections end
abbrev pub FilesEnd : Type 0
FilesEnd = (kind : ImageKind) (contents : Contents) (objects : List (List ℕ)) → AreLaid kind contents objects
    → length (sections_file (layout_of kind objects) contents objects)
    ≡ offset_of (layout_of kind objects) (sections_end (layout_of kind objects))

-- section s of object o begins at the address
abbrev pub StandsAt : ImageKind → List (List ℕ) → ℕ → ℕ → ℕ → Type 0
StandsAt kind objects o s address =
    (o < length objects) × (address_of (layout_of kind objects) o s ≡ Some address)

-- byte k of a section is at its place
abbrev pub SectionsStand : Type 0
SectionsStand = (kind : ImageKind) (contents : Contents) (objects : List (List ℕ)) (o s address k : ℕ)
    → AreLaid kind contents objects
    → StandsAt kind objects o s address → k < section_size (slice_index_or objects o []) s
    → slice_get (sections_file (layout_of kind objects) contents objects)
    (offset_of (layout_of kind objects) address + k)
    ≡ slice_get (contents o s) k

-- a section with bytes lies in the file
abbrev pub SectionsFit : Type 0
SectionsFit = (kind : ImageKind) (contents : Contents) (objects : List (List ℕ)) (o s address : ℕ)
    → AreLaid kind contents objects
    → StandsAt kind objects o s address → 0 < section_size (slice_index_or objects o []) s
    → offset_of (layout_of kind objects) address + section_size (slice_index_or objects o []) s
    ≤ length (sections_file (layout_of kind objects) contents objects)

-- the offset k belongs to no section
abbrev pub IsOutside : ImageKind → List (List ℕ) → ℕ → Type 0
IsOutside kind objects k = (o s address : ℕ) → StandsAt kind objects o s address
    → (k < offset_of (layout_of kind objects) address)
    ⊎ (offset_of (layout_of kind objects) address + section_size (slice_index_or objects o []) s ≤ k)

-- all other bytes are zero
abbrev pub GapsAreZero : Type 0
GapsAreZero = (kind : ImageKind) (contents : Contents) (objects : List (List ℕ)) (k : ℕ)
    → AreLaid kind contents objects
    → k < length (sections_file (layout_of kind objects) contents objects) → IsOutside kind objects k
    → slice_get (sections_file (layout_of kind objects) contents objects) k ≡ Some 0
