-- The place of a block among the slots, and the slots after a write to it.
use Rattle.std.specs.Prelude.{◌≡◌, ◌≢◌, ◌+◌, ◌-◌, ℕ, List, slice_range, slice_set, Option, Some, None}
use Rattle.module_table.specs.declared.modules.Module.{Module}
use Rattle.module_table.specs.Past.{Past, module_of}
use Rattle.module_table.specs.PastLaws.{image_of}
use Rattle.thread_vector.specs.declared.dtv.Place.{Place}
use Rattle.thread_vector.specs.Vectors.{Piece, Vector, held, rewritten, slot_of}

abbrev pub place_at : ℕ → Module → Option ℕ → Place
place_at limit m None = record { slot = m.id; from = 0; size = m.info.size }
place_at limit m (Some offset) = record { slot = 0; from = limit - offset; size = m.info.size }

abbrev pub place_in : Past → Option ℕ → Place
place_in p None = record { slot = 0; from = 0; size = 0 }
place_in p (Some image) = place_at p.limit (module_of p image) (module_of p image).offset

-- the place of an instance's block, if the instance is live
unfoldable pub place_of : Vector → ℕ → Place
place_of v instance = place_in v.past (image_of v.past instance)

abbrev pub bytes_at : List Piece → Place → List ℕ
bytes_at slots place = slice_range (slot_of slots place.slot).bytes place.from (place.from + place.size)

-- the slots after the bytes of a place were written
abbrev pub slots_with : List Piece → Place → List ℕ → List Piece
slots_with slots place bytes = slice_set slots place.slot (record {
  instance = (slot_of slots place.slot).instance;
  bytes = rewritten (slot_of slots place.slot).bytes place.from bytes;
})

abbrev pub with_block : Vector → ℕ → List ℕ → Vector
with_block v instance bytes = record v { slots = slots_with v.slots (place_of v instance) bytes }

-- the block of an instance holds the written bytes, and no other block has changed
pub record Writes (old : Vector) (instance : ℕ) (bytes : List ℕ) (new : Vector) : Type 0 where
  pub here : held new instance ≡ Some bytes
  pub others : (other : ℕ) → other ≢ instance → held new other ≡ held old other
