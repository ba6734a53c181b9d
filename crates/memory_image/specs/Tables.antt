-- The bytes of a class, for every distance that its image may be moved.
use Rattle.std.specs.Prelude.{◌≡◌, ◌+◌, ◌-◌, ◌<◌, ◌≤◌, ◌^◌, ◌%◌, ◌==◌, ◌≢◌, ◌<ℤ◌, ℕ, Bool, pos, true, false}
use Rattle.std.specs.Prelude.{List, Option, None, Some, length, map, nat_le, slice_get, slice_index_or, unwrap_or}
use Rattle.std.specs.Prelude.{if◌then◌else◌}
use Rattle.std.specs.List.{Contains, range_with_len}
use Rattle.elf_object.specs.declared.relocation.Relocation.{Relocation}
use Rattle.elf_object.specs.Lent.{relocations}
use Rattle.elf_records.specs.declared.relocation_row.Refused.TheVariants.{WhereMoved}
use Rattle.elf_records.specs.RelocationRows.{row}
pub use Rattle.elf_records.specs.RowLaws.{is_distance}
use Rattle.elf_records.specs.Fields.{bytes_of, number_at}
use Rattle.link_faults.specs.declared.binding.Binding.{Binding}
use Rattle.link_faults.specs.declared.binding.Binding.TheVariants.{Here}
use Rattle.link_needs.specs.Linking.{Linking, binding, layout, object}
use Rattle.object_faults.specs.declared.class.SectionClass.{SectionClass}
use Rattle.tls_layout.specs.Places.{extent_for}
use Rattle.tls_relocs.specs.declared.fields.Field.TheVariants.{Word32}
use Rattle.whole_meaning.specs.Bytes.{class_bytes, has_value, value_of}
use Rattle.memory_image.specs.Filling.{is_moving, own_field}

pub record ClassTable : Type 0 where
  -- the address of the class, before the image is moved
  pub start : ℕ
  -- its bytes, before the image is moved
  pub bytes : List ℕ
  -- 0 for a byte that stays, and k + 1 for byte k of an address that moves
  pub marks : List ℕ

-- byte k of the address that begins at an index, in an image that is moved by a bias
abbrev pub moved_byte : List ℕ → ℕ → ℕ → ℕ → ℕ
moved_byte bytes bias at k = slice_index_or (bytes_of 8 ((number_at 8 at bytes + bias) % 2 ^ 64)) k 0

-- the byte at an index, by its mark
abbrev pub byte_for : ℕ → List ℕ → ℕ → ℕ → ℕ
byte_for mark bytes bias i =
    if mark == 0 then slice_index_or bytes i 0 else moved_byte bytes bias (i - (mark - 1)) (mark - 1)

unfoldable pub byte_at : ClassTable → ℕ → ℕ → ℕ
byte_at c bias i = byte_for (slice_index_or c.marks i 0) c.bytes bias i

-- all bytes of the class
unfoldable pub bytes_at : ClassTable → ℕ → List ℕ
bytes_at c bias = map (byte_at c bias) (range_with_len 0 (length c.bytes))

-- the byte at a place, if the class contains it
unfoldable pub byte_of_place : ClassTable → ℕ → ℕ → Option ℕ
byte_of_place c bias place =
    if nat_le (c.start + bias) place then slice_get (bytes_at c bias) (place - (c.start + bias)) else None

-- tables are small
pub record IsTable (c : ClassTable) : Type 0 where
  pub low : c.start ≤ 2 ^ 25
  pub few : length c.bytes ≤ 2 ^ 25

-- the fields of an image that hold no address hold the same when it is moved by this distance
abbrev pub Keeps : Linking → ℕ → Type 0
Keeps l bias =
    (o s : ℕ) (r : Relocation) → o < length l.objects → Contains (relocations (object l o) s) r
    → has_value r.kind ≡ true → is_moving r.kind (binding l o r) ≡ false
    → unwrap_or (value_of l bias o s r) (Word32 0) ≡ own_field l o s r

-- the table is that of a class of the image, at every distance at which its other fields keep their values
pub record IsClass (l : Linking) (class : SectionClass) (c : ClassTable) : Type 0 where
  pub start_is : c.start ≡ (extent_for class (layout l)).start
  pub bytes_are : (bias : ℕ) → Keeps l bias → bytes_at c bias ≡ class_bytes l bias class

-- ** which images keep their other fields

-- the symbol is not defined in the image
abbrev pub is_elsewhere : Option Binding → Bool
is_elsewhere (Some (Here found)) = false
is_elsewhere bound = true

-- an image that may be moved: no field of 4 bytes holds an address, and the addend of a distance to a symbol of another
-- image is below 2^31 (a call of the run time's function adds -4)
pub record IsMovable (l : Linking) : Type 0 where
  pub wide : (o s : ℕ) (r : Relocation) → o < length l.objects → Contains (relocations (object l o) s) r
      → (row r.kind).refused ≢ WhereMoved
  pub near : (o s : ℕ) (r : Relocation) → o < length l.objects → Contains (relocations (object l o) s) r
      → is_distance r.kind ≡ true → is_elsewhere (binding l o r) ≡ true → r.addend <ℤ pos (2 ^ 31)
