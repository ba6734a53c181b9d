-- The cells and the entries of an image's code.
use Rattle.std.specs.Prelude.{◌≡◌, ◌-◌, ◌+◌, ◌≤◌, ◌^◌, ℕ, List, Option, None, Some, length, nat_le, nat_lt, slice_get}
use Rattle.std.specs.Prelude.{if◌then◌else◌}
use Rattle.std.specs.List.{All}
use Rattle.link_needs.specs.Linking.{Linking}
use Rattle.meant_images.specs.declared.entries.Entry.{Entry}
use Rattle.meant_images.specs.declared.painting.Cell.{Cell}
use Rattle.meant_images.specs.CodeCells.{Shows}
use Rattle.meant_images.specs.Entries.{IsNumberedEntry}
use Rattle.object_faults.specs.declared.class.SectionClass.TheVariants.{Executable}
use Rattle.whole_meaning.specs.Spots.{Spot, spot_in}

-- the images of a job, and the one that contains the code
pub record MarkedImage : Type 0 where
  pub all : List Linking
  pub own : Linking

-- the cell of an address, in a table that begins at another
abbrev pub cell_at : ℕ → List Cell → ℕ → Option Cell
cell_at start cells address = if nat_le start address then slice_get cells (address - start) else None

-- the cell of a place, in an image that is moved by a bias
abbrev pub moved_cell : ℕ → List Cell → ℕ → ℕ → Option Cell
moved_cell start cells bias place = if nat_lt place bias then None else cell_at start cells (place - bias)

-- the cell says what the definitions find at the address; where there is no cell, they find nothing
abbrev pub Says : List Linking → Linking → List Entry → Option Spot → Option Cell → Type 0
Says ls l entries spot None = spot ≡ None
Says ls l entries spot (Some cell) = Shows ls l entries spot cell

pub record AreMarks (ls : List Linking) (l : Linking) (start : ℕ) (cells : List Cell) (entries : List Entry) : Type 0
  where
    pub low : start + length cells ≤ 2 ^ 26
    pub numbered : All IsNumberedEntry entries
    pub say : (address : ℕ) → Says ls l entries (spot_in l Executable address) (cell_at start cells address)
