-- The tables of sections and places, and what they must hold.
use Rattle.std.specs.Prelude.{◌≡◌, ◌+◌, ◌≤◌, ◌^◌, ℕ, List, length, sum, All, Option}
use Rattle.elf_records.specs.Alignments.{IsAlignment}
use Rattle.link_faults.specs.declared.image_kind.ImageKind.{ImageKind}
use Rattle.link_faults.specs.ImageKinds.{base_of}
use Rattle.tls_layout.specs.declared.sections.Section.{Section}
use Rattle.tls_layout.specs.declared.tls_places.TlsPlaces.{TlsPlaces}
use Rattle.tls_layout.specs.declared.image_places.ImageExtents.{ImageExtents}
use Rattle.tls_layout.specs.Places.{tls_size, tls_alignment, executable, read_only, tls_image, writable, IsLawful}
use Rattle.tls_layout.specs.declared.section_list.SectionList.{SectionList}
use Rattle.tls_layout.specs.Sections.{all_sections, section_counts, IsOrdinary}
use Rattle.tls_layout.specs.Passes.{AreFirsts, AreAddresses, AreOffsets}

-- these are the sections of the objects
pub record IsListOf (objects : List (List ℕ)) (list : SectionList) : Type 0 where
  pub sections_are : list.sections.items ≡ all_sections objects
  pub counts_are : list.counts.items ≡ section_counts objects
  pub ordinary : All IsOrdinary list.sections.items
  pub firsts_are : AreFirsts list.counts.items list.firsts.items
  pub total : sum list.counts.items ≡ length list.sections.items

-- these are the places of thread-local storage
pub record IsTlsOf (sections : List Section) (tls : TlsPlaces) : Type 0 where
  pub offsets_are : AreOffsets sections tls.offsets.items
  pub size_is : tls.size ≡ tls_size sections
  pub alignment_is : tls.alignment ≡ tls_alignment sections
  pub power : IsAlignment tls.alignment
  pub small : tls.size ≤ 2 ^ 20

-- these are the ends of the classes
pub record AreExtents (kind : ImageKind) (sections : List Section) (extents : ImageExtents) : Type 0 where
  pub executable_is : extents.executable ≡ executable kind sections
  pub read_only_is : extents.read_only ≡ read_only kind sections
  pub tls_is : extents.tls ≡ tls_image kind sections
  pub writable_is : extents.writable ≡ writable kind sections
  pub small : extents.writable.end ≤ base_of kind + 2 ^ 24

-- a placement's tables hold the layout's places
pub record IsPlacement (kind : ImageKind) (list : SectionList) (addresses : List (Option ℕ)) (extents : ImageExtents)
    (tls : TlsPlaces) : Type 0 where
  pub lawful : IsLawful (record { kind = kind; counts = list.counts.items; sections = list.sections.items })
  pub firsts_are : AreFirsts list.counts.items list.firsts.items
  pub total : sum list.counts.items ≡ length list.sections.items
  pub addresses_are : AreAddresses kind list.sections.items addresses
  pub extents_are : AreExtents kind list.sections.items extents
  pub tls_are : IsTlsOf list.sections.items tls
