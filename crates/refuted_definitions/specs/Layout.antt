-- Where sections and blocks lie (tls_layout, Rounding, Places and Statics), with one word changed. Each makes a law of
-- layout_laws false.
use Rattle.std.specs.Prelude.{◌≡◌, ◌↔◌, ◌+◌, ◌<◌, ◌≤◌, ◌==◌, ℕ, zero, suc, true, false, List, take, fold, length}
use Rattle.std.specs.Prelude.{slice_get, Option, Some, None, if◌then◌else◌}
use Rattle.object_faults.specs.declared.class.SectionClass.{SectionClass}
use Rattle.object_faults.specs.declared.class.SectionClass.TheVariants.{Executable, ReadOnly, Tls, Writable}
use Rattle.elf_object.specs.Lent.{is_tls_class}
use Rattle.link_faults.specs.declared.image_kind.ImageKind.{ImageKind}
use Rattle.link_faults.specs.ImageKinds.{base_of}
use Rattle.tls_layout.specs.declared.sections.Section.{Section}
use Rattle.tls_layout.specs.declared.statics.TlsSize.{TlsSize}
use Rattle.tls_layout.specs.Places.{address_at, end_after, offset_at, tls_alignment, tls_size}
use Rattle.tls_layout.specs.Rounding.{page_up, round_up}
use Rattle.tls_layout.specs.Sections.{is_in, section_at}
use Rattle.tls_layout.specs.Statics.{tls_of, tls_offset}
use Rattle.layout_laws.specs.Layout.{AreAligned, AreBlocks, ArePlaces, IsSegment, has_address, has_offset}

-- the statements, of any definition
abbrev pub AddressesAreOnlyBy : (ImageKind → List Section → ℕ → Option ℕ) → Type 0
AddressesAreOnlyBy address_at = (kind : ImageKind) (sections : List Section) → AreAligned sections
    → (place : ℕ → Option ℕ)
    → ArePlaces has_address (base_of kind) sections place ↔ ((k : ℕ) → place k ≡ address_at kind sections k)

abbrev pub OffsetsAreOnlyBy : (List Section → ℕ → Option ℕ) → Type 0
OffsetsAreOnlyBy offset_at = (sections : List Section) → AreAligned sections → (place : ℕ → Option ℕ)
    → ArePlaces has_offset 0 sections place ↔ ((k : ℕ) → place k ≡ offset_at sections k)

abbrev pub SegmentsAreLeastBy : (List Section → ℕ) → Type 0
SegmentsAreLeastBy tls_alignment = (sections : List Section)
    → IsSegment sections (tls_size sections) (tls_alignment sections)

abbrev pub BlocksAreOnlyBy : (List TlsSize → ℕ → ℕ) → Type 0
BlocksAreOnlyBy tls_offset = (sizes : List TlsSize)
    → ((m : ℕ) (tls : TlsSize) → slice_get sizes m ≡ Some tls → 0 < tls.alignment)
    → (offset : ℕ → ℕ)
    → AreBlocks sizes offset ↔ ((m : ℕ) → m ≤ length sizes → offset m ≡ tls_offset sizes m)

-- `end_of` and `place_in`, over any end of a section
module _ (end_after : ℕ → Section → ℕ) where
  abbrev pub next_end : SectionClass → ℕ → Section → ℕ
  next_end class end section = if is_in class section then end_after end section else end

  abbrev pub end_of : SectionClass → ℕ → List Section → ℕ
  end_of class from sections = fold (next_end class) from sections

  abbrev pub place_in : SectionClass → ℕ → List Section → ℕ → ℕ
  place_in class from sections k = round_up (end_of class from (take k sections)) (section_at sections k).alignment

-- `address_at`, over any pages, any start of constants after the end of code, and any class that zeros come after
module _ (end_after : ℕ → Section → ℕ) (page_up constants_from : ℕ → ℕ) (before_zeros : SectionClass) where
  abbrev pub constants_start : ImageKind → List Section → ℕ
  constants_start kind sections = constants_from (end_of end_after Executable (base_of kind) sections)

  abbrev pub tls_start : ImageKind → List Section → ℕ
  tls_start kind sections = page_up (end_of end_after ReadOnly (constants_start kind sections) sections)

  abbrev pub data_start : ImageKind → List Section → ℕ
  data_start kind sections = page_up (end_of end_after (Tls true) (tls_start kind sections) sections)

  abbrev pub zeros_start : ImageKind → List Section → ℕ
  zeros_start kind sections = end_of end_after before_zeros (data_start kind sections) sections

  abbrev pub address_by : Option SectionClass → ImageKind → List Section → ℕ → Option ℕ
  address_by (Some Executable) kind sections k = Some (place_in end_after Executable (base_of kind) sections k)
  address_by (Some ReadOnly) kind sections k =
      Some (place_in end_after ReadOnly (constants_start kind sections) sections k)
  address_by (Some (Tls true)) kind sections k =
      Some (place_in end_after (Tls true) (tls_start kind sections) sections k)
  address_by (Some (Tls false)) kind sections k = None
  address_by (Some (Writable true)) kind sections k =
      Some (place_in end_after (Writable true) (data_start kind sections) sections k)
  address_by (Some (Writable false)) kind sections k =
      Some (place_in end_after (Writable false) (zeros_start kind sections) sections k)
  address_by None kind sections k = None

  abbrev pub address_of : ImageKind → List Section → ℕ → Option ℕ
  address_of kind sections k = address_by (section_at sections k).class kind sections k

-- `page_up`: pages of 2,048 bytes
abbrev pub half_page_up : ℕ → ℕ
half_page_up n = round_up n 2048

-- `read_only`: constants follow code at once
abbrev pub at_once : ℕ → ℕ
at_once end = end

-- `end_after`: an empty section does not move the next one
abbrev pub end_without_gap : ℕ → Section → ℕ
end_without_gap end section = round_up (end + section.size) section.alignment

-- `zero_tls`: from the start of the initial image, in place of its end
abbrev pub offset_by : Option SectionClass → List Section → ℕ → Option ℕ
offset_by (Some (Tls true)) sections k = Some (place_in end_after (Tls true) 0 sections k)
offset_by (Some (Tls false)) sections k = Some (place_in end_after (Tls false) 0 sections k)
offset_by class sections k = None

abbrev pub offset_from_start : List Section → ℕ → Option ℕ
offset_from_start sections k = offset_by (section_at sections k).class sections k

-- `next_alignment`: without `max`
abbrev pub next_alignment : ℕ → Section → ℕ
next_alignment greatest section = if is_tls_class section.class then section.alignment else greatest

abbrev pub last_alignment : List Section → ℕ
last_alignment sections = if tls_size sections == 0 then 1 else fold next_alignment 1 sections

-- `tls_offset`: blocks take no room
abbrev pub offset_without_size : List TlsSize → ℕ → ℕ
offset_without_size sizes zero = 0
offset_without_size sizes (suc m) = round_up (offset_without_size sizes m) (tls_of sizes m).alignment

pub record LayoutsAreRefuted : Type 0 where
  -- with no word changed it is the definition
  pub copy : (kind : ImageKind) (sections : List Section) (k : ℕ)
      → address_of end_after page_up page_up (Writable true) kind sections k ≡ address_at kind sections k
  pub pages_are_half : AddressesAreOnlyBy
      (address_of end_after half_page_up half_page_up (Writable true)) → ⊥
  pub constants_follow_code : AddressesAreOnlyBy
      (address_of end_after page_up at_once (Writable true)) → ⊥
  pub empty_sections_do_not_count : AddressesAreOnlyBy
      (address_of end_without_gap page_up page_up (Writable true)) → ⊥
  -- `zero_data`: after the end of zeros, in place of that of data
  pub zeros_before_data : AddressesAreOnlyBy
      (address_of end_after page_up page_up (Writable false)) → ⊥
  pub segment_begins_with_zeros : OffsetsAreOnlyBy offset_from_start → ⊥
  pub alignment_is_the_last_ones : SegmentsAreLeastBy last_alignment → ⊥
  pub blocks_take_no_room : BlocksAreOnlyBy offset_without_size → ⊥
