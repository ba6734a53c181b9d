-- Where sections go in an image and in its block of thread-local storage (gABI, "Program Loading" and "Section
-- Attributes"; Drepper, "ELF Handling For Thread-Local Storage", section 3).
use Rattle.std.specs.Prelude.{◌+◌, ◌-◌, ◌≤◌, ◌^◌, ◌==◌, ℕ, true, false, List, take, fold, max, All, Option, None}
use Rattle.std.specs.Prelude.{Some, option_and_then, if◌then◌else◌}
use Rattle.object_faults.specs.declared.class.SectionClass.{SectionClass}
use Rattle.object_faults.specs.declared.class.SectionClass.TheVariants.{Executable, ReadOnly, Tls, Writable}
use Rattle.link_faults.specs.declared.image_kind.ImageKind.{ImageKind}
use Rattle.link_faults.specs.ImageKinds.{base_of}
use Rattle.tls_layout.specs.declared.sections.Section.{Section}
use Rattle.tls_layout.specs.declared.extent.Extent.{Extent}
use Rattle.tls_layout.specs.Rounding.{round_up, page_up}
use Rattle.tls_layout.specs.Sections.{Layout, dropped, position, section_at, is_in, IsOrdinary}
use Rattle.elf_object.specs.Lent.{is_tls_class}

-- ---- the sections of one class, one after another

-- where a section ends that follows one ending at a place
abbrev pub end_after : ℕ → Section → ℕ
end_after end section = round_up end section.alignment + section.size

-- where the sections so far end, after one more section
abbrev pub next_end : SectionClass → ℕ → Section → ℕ
next_end class end section = if is_in class section then end_after end section else end

-- where the sections of a class end, if they begin at a place
unfoldable pub end_of : SectionClass → ℕ → List Section → ℕ
end_of class from sections = fold (next_end class) from sections

-- the place of the k-th section, if it is of the class: the least multiple of its alignment at or after the
-- end of those before it
unfoldable pub place_in : SectionClass → ℕ → List Section → ℕ → ℕ
place_in class from sections k = round_up (end_of class from (take k sections)) (section_at sections k).alignment

-- the sections of a class, from a place on
abbrev pub extent_of : SectionClass → ℕ → List Section → Extent
extent_of class from sections = record { start = from; end = end_of class from sections }

-- ---- addresses: four classes, each on pages of its own

unfoldable pub executable : ImageKind → List Section → Extent
executable kind sections = extent_of Executable (base_of kind) sections

unfoldable pub read_only : ImageKind → List Section → Extent
read_only kind sections = extent_of ReadOnly (page_up (executable kind sections).end) sections

-- the initial image of thread-local storage
unfoldable pub tls_image : ImageKind → List Section → Extent
tls_image kind sections = extent_of (Tls true) (page_up (read_only kind sections).end) sections

-- the part of the writable class that has bytes in the file
unfoldable pub initial_data : ImageKind → List Section → Extent
initial_data kind sections = extent_of (Writable true) (page_up (tls_image kind sections).end) sections

-- the part that has no bytes in the file
unfoldable pub zero_data : ImageKind → List Section → Extent
zero_data kind sections = extent_of (Writable false) (initial_data kind sections).end sections

abbrev pub writable : ImageKind → List Section → Extent
writable kind sections = record { start = (initial_data kind sections).start; end = (zero_data kind sections).end }

-- where the room begins, in which no section of an object lies
unfoldable pub room : ImageKind → List Section → ℕ
room kind sections = page_up (zero_data kind sections).end

-- how many bytes the sections span
abbrev pub span : ImageKind → List Section → ℕ
span kind sections = (zero_data kind sections).end - base_of kind

-- the address of the k-th section; a thread-local section without bytes in the file has none
abbrev pub address_by : Option SectionClass → ImageKind → List Section → ℕ → Option ℕ
address_by (Some Executable) kind sections k = Some (place_in Executable (executable kind sections).start sections k)
address_by (Some ReadOnly) kind sections k = Some (place_in ReadOnly (read_only kind sections).start sections k)
address_by (Some (Tls true)) kind sections k = Some (place_in (Tls true) (tls_image kind sections).start sections k)
address_by (Some (Tls false)) kind sections k = None
address_by (Some (Writable true)) kind sections k =
    Some (place_in (Writable true) (initial_data kind sections).start sections k)
address_by (Some (Writable false)) kind sections k =
    Some (place_in (Writable false) (zero_data kind sections).start sections k)
address_by None kind sections k = None

unfoldable pub address_at : ImageKind → List Section → ℕ → Option ℕ
address_at kind sections k = address_by (section_at sections k).class kind sections k

-- ---- offsets in the TLS segment: the initial image, and then zeros

unfoldable pub initial_tls : List Section → Extent
initial_tls sections = extent_of (Tls true) 0 sections

unfoldable pub zero_tls : List Section → Extent
zero_tls sections = extent_of (Tls false) (initial_tls sections).end sections

abbrev pub tls_size : List Section → ℕ
tls_size sections = (zero_tls sections).end

-- the greater alignment, if the section is thread-local
abbrev pub next_alignment : ℕ → Section → ℕ
next_alignment greatest section = if is_tls_class section.class then max greatest section.alignment else greatest

unfoldable pub greatest_alignment : List Section → ℕ
greatest_alignment sections = fold next_alignment 1 sections

-- the alignment of the segment
unfoldable pub tls_alignment : List Section → ℕ
tls_alignment sections = if tls_size sections == 0 then 1 else greatest_alignment sections

-- the offset of the k-th section
abbrev pub offset_by : Option SectionClass → List Section → ℕ → Option ℕ
offset_by (Some Executable) sections k = None
offset_by (Some ReadOnly) sections k = None
offset_by (Some (Tls true)) sections k = Some (place_in (Tls true) (initial_tls sections).start sections k)
offset_by (Some (Tls false)) sections k = Some (place_in (Tls false) (zero_tls sections).start sections k)
offset_by (Some (Writable initial)) sections k = None
offset_by None sections k = None

unfoldable pub offset_at : List Section → ℕ → Option ℕ
offset_at sections k = offset_by (section_at sections k).class sections k

-- ---- by object and section

-- section s of object o; if there is none, a section that takes no room
abbrev pub section_found : Option ℕ → List Section → Section
section_found None sections = dropped
section_found (Some k) sections = section_at sections k

unfoldable pub section_named : Layout → ℕ → ℕ → Section
section_named p o s = section_found (position p.counts o s) p.sections

abbrev pub class_of : Layout → ℕ → ℕ → Option SectionClass
class_of p o s = (section_named p o s).class

unfoldable pub address_of : Layout → ℕ → ℕ → Option ℕ
address_of p o s = option_and_then (address_at p.kind p.sections) (position p.counts o s)

unfoldable pub tls_offset_of : Layout → ℕ → ℕ → Option ℕ
tls_offset_of p o s = option_and_then (offset_at p.sections) (position p.counts o s)

-- ---- limits

-- all sections are ordinary, the TLS segment has at most 2^20 bytes, and the sections span at most 2^24
pub record IsLawful (p : Layout) : Type 0 where
  pub ordinary : All IsOrdinary p.sections
  pub small_tls : tls_size p.sections ≤ 2 ^ 20
  pub small_span : span p.kind p.sections ≤ 2 ^ 24

abbrev pub extent_for : SectionClass → Layout → Extent
extent_for Executable p = executable p.kind p.sections
extent_for ReadOnly p = read_only p.kind p.sections
extent_for (Tls initial) p = tls_image p.kind p.sections
extent_for (Writable initial) p = writable p.kind p.sections
