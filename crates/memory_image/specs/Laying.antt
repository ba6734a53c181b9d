-- The cells of a class of sections, laid out address by address: one for each byte, and a gap where there is no
-- section.
use Rattle.std.specs.Prelude.{◌≡◌, ◌+◌, ◌-◌, ◌<◌, ℕ, true, false, List, Option, None, Some, length, map, sum, take}
use Rattle.std.specs.List.{range_with_len}
use Rattle.elf_object.specs.Lent.{section_class, section_size}
use Rattle.elf_object.specs.Object.{section_count}
use Rattle.link_needs.specs.Linking.{Linking, layout, object}
use Rattle.object_faults.specs.declared.class.SectionClass.{SectionClass}
use Rattle.object_faults.specs.declared.class.SectionClass.TheVariants.{Executable, ReadOnly, Tls, Writable}
use Rattle.tls_layout.specs.Places.{extent_for}
use Rattle.tls_layout.specs.Places.{end_of}
use Rattle.whole_meaning.specs.Spots.{Spot, spot_in}

-- the classes of which an instance has a range. Data that is zero comes at the end of data that has bytes, and
-- thread-local storage that is zero has no address
abbrev pub HasRange : SectionClass → Type 0
HasRange Executable = Unit {0}
HasRange ReadOnly = Unit {0}
HasRange (Tls true) = Unit {0}
HasRange (Tls false) = ⊥
HasRange (Writable true) = Unit {0}
HasRange (Writable false) = ⊥

-- section s of object o is in the class
pub record IsOfClass (l : Linking) (class : SectionClass) (o s : ℕ) : Type 0 where
  pub object_there : o < length l.objects
  pub section_there : s < section_count (object l o)
  pub class_is : section_class (object l o) s ≡ Some class

-- cell: the cell of a byte, by object, section and offset in the section
module _ {A : Type 0} (cell : ℕ → ℕ → ℕ → A) where
  -- the cells of a section
  abbrev pub section_cells : Linking → ℕ → ℕ → List A
  section_cells l o s = map (cell o s) (range_with_len 0 (section_size (object l o) s))

  -- the cell of an address, by the section that contains it
  abbrev pub cell_of : A → Option Spot → A
  cell_of gap None = gap
  cell_of gap (Some spot) = cell spot.object spot.section spot.within

  -- the cells of n addresses from one on
  unfoldable pub cells_from : Linking → SectionClass → A → ℕ → ℕ → List A
  cells_from l class gap start n = map (λ address. cell_of gap (spot_in l class address)) (range_with_len start n)

  -- the cells of the class, from its first address to its last
  abbrev pub class_cells : Linking → SectionClass → A → List A
  class_cells l class gap =
      let extent = extent_for class (layout l) in
      cells_from l class gap extent.start (extent.end - extent.start)

-- ** how far a table is, section by section

-- the end of those sections of the class that come before section s of object o
unfoldable pub end_before : Linking → SectionClass → ℕ → ℕ → ℕ
end_before l class o s =
    end_of class (extent_for class (layout l)).start (take (sum (take o (layout l).counts) + s) (layout l).sections)

-- the cells up to that end
abbrev pub laid_before : {A : Type 0} → (ℕ → ℕ → ℕ → A) → Linking → SectionClass → A → ℕ → ℕ → List A
laid_before cell l class gap o s =
    let start = (extent_for class (layout l)).start in
    cells_from cell l class gap start (end_before l class o s - start)
