-- The sections of objects in their order, as a layout uses them (gABI, "Sections").
use Rattle.std.specs.Prelude.{◌+◌, ◌≤◌, ◌^◌, ℕ, Bool, true, false, List, map, take, sum, Option, None, Some}
use Rattle.std.specs.Prelude.{slice_index, slice_index_or, nat_lt, if◌then◌else◌}
use Rattle.std.specs.List.{range_with_len, flat_map}
use Rattle.object_faults.specs.declared.class.SectionClass.{SectionClass}
use Rattle.object_faults.specs.declared.class.SectionClass.TheVariants.{Executable, ReadOnly, Tls, Writable}
use Rattle.elf_object.specs.Lent.{section_class, section_size, section_alignment}
use Rattle.elf_records.specs.Alignments.{IsAlignment}
use Rattle.elf_object.specs.Object.{section_count}
use Rattle.link_faults.specs.declared.image_kind.ImageKind.{ImageKind}
use Rattle.tls_layout.specs.declared.sections.Section.{Section}

-- a section that linking drops takes no room
abbrev pub dropped : Section
dropped = record { class = None; size = 0; alignment = 1 }

abbrev pub seen_as : Option SectionClass → ℕ → ℕ → Section
seen_as None size alignment = dropped
seen_as (Some class) size alignment = record { class = Some class; size = size; alignment = alignment }

-- section s of an object
unfoldable pub section_of : List ℕ → ℕ → Section
section_of b s = seen_as (section_class b s) (section_size b s) (section_alignment b s)

-- all sections of an object, by number
unfoldable pub sections_of : List ℕ → List Section
sections_of b = map (section_of b) (range_with_len 0 (section_count b))

-- all sections of all objects, in order of objects and then of sections
unfoldable pub all_sections : List (List ℕ) → List Section
all_sections objects = flat_map sections_of objects

-- how many sections each object has
unfoldable pub section_counts : List (List ℕ) → List ℕ
section_counts objects = map section_count objects

-- all that decides where sections go: the kind of the image, how many sections each object has, and all
-- sections in their order
pub record Layout : Type 0 where
  pub kind : ImageKind
  pub counts : List ℕ
  pub sections : List Section

-- the layout of objects
abbrev pub layout_of : ImageKind → List (List ℕ) → Layout
layout_of kind objects = record { kind = kind; counts = section_counts objects; sections = all_sections objects }

-- the place of section s of object o in the order of all; None if there is no such section
unfoldable pub position : List ℕ → ℕ → ℕ → Option ℕ
position counts o s = if nat_lt s (slice_index counts o) then Some (sum (take o counts) + s) else None

-- the section at a place of the order
abbrev pub section_at : List Section → ℕ → Section
section_at sections k = slice_index_or sections k dropped

-- whether two classes are the same
abbrev pub same_class : SectionClass → SectionClass → Bool
same_class Executable Executable = true
same_class ReadOnly ReadOnly = true
same_class (Tls true) (Tls true) = true
same_class (Tls false) (Tls false) = true
same_class (Writable true) (Writable true) = true
same_class (Writable false) (Writable false) = true
same_class _ _ = false

abbrev pub is_class : SectionClass → Option SectionClass → Bool
is_class class None = false
is_class class (Some other) = same_class class other

-- whether a section has this class
abbrev pub is_in : SectionClass → Section → Bool
is_in class section = is_class class section.class

-- a section that linking keeps has at most 2^20 bytes, and its alignment is a power of two up to 4,096
abbrev pub IsOrdinary : Section → Type 0
IsOrdinary section = (section.size ≤ 2 ^ 20) × IsAlignment section.alignment
