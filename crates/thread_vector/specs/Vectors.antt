-- A thread's blocks of each module's thread-local storage (Drepper, "ELF Handling For Thread-Local Storage", section
-- 3: the dynamic thread vector), after events and accesses.
use Rattle.std.specs.Prelude.{◌+◌, ◌-◌, ◌==◌, ℕ, Bool, false, if◌then◌else◌, List, [], slice_index_or}
use Rattle.std.specs.Prelude.{◌++◌, length, take, drop, slice_set, slice_range, Option, Some, None, is_some, option_map}
use Rattle.std.specs.Prelude.{option_and_then}
use Rattle.std.specs.Option.{option_or}
use Rattle.module_table.specs.declared.modules.Module.{Module}
use Rattle.module_table.specs.Modules.{is_loaded}
use Rattle.module_table.specs.Past.{Past, module_of}
use Rattle.module_table.specs.PastLaws.{image_of, live, offset}
use Rattle.loaded_modules.specs.declared.instance.Instance.{Instance}
use Rattle.loaded_modules.specs.Images.{JobImages}
use Rattle.loaded_modules.specs.Loader.{fresh_block}
use Rattle.thread_vector.specs.Addresses.{distance_of}

-- a slot: a block, and the instance that it belongs to
pub record Piece : Type 0 where
  pub instance : Option ℕ
  pub bytes : List ℕ

-- a thread's vector: the state after the events that it has seen, and a slot for each module id; slot 0, which belongs
-- to no module, holds the bytes of the static surplus
pub record Vector : Type 0 where
  pub thread : ℕ
  pub images : JobImages
  pub past : Past
  pub slots : List Piece

abbrev pub no_piece : Piece
no_piece = record { instance = None; bytes = [] }

abbrev pub slot_of : List Piece → ℕ → Piece
slot_of slots id = slice_index_or slots id no_piece

abbrev pub is_number : ℕ → Option ℕ → Bool
is_number instance None = false
is_number instance (Some number) = number == instance

-- the bytes of a slot, if it belongs to the instance
abbrev pub bytes_for : ℕ → Piece → Option (List ℕ)
bytes_for instance piece = if is_number instance piece.instance then Some piece.bytes else None

-- the block of a loaded image; with an offset it lies in the surplus, whose first byte is `limit` below the thread
-- pointer
abbrev pub block_at : List Piece → ℕ → Module → Option ℕ → Option (List ℕ)
block_at slots limit m None = bytes_for m.instance (slot_of slots m.id)
block_at slots limit m (Some offset) =
    Some (slice_range (slot_of slots 0).bytes (limit - offset) (limit - offset + m.info.size))

abbrev pub block_in : List Piece → Past → ℕ → Option (List ℕ)
block_in slots p image = block_at slots p.limit (module_of p image) (module_of p image).offset

-- the bytes of the thread's block of an instance; none if the instance is not live or the block was not reached
unfoldable pub held : Vector → ℕ → Option (List ℕ)
held v instance = option_and_then (block_in v.slots v.past) (image_of v.past instance)

-- ---- fresh blocks

-- a loaded image, as a loader knows it
abbrev pub loaded_as : JobImages → Past → ℕ → Instance
loaded_as images p image = let m = module_of p image in
    record { image = image; number = m.instance; id = m.id; offset = distance_of images image m }

-- the live instance of an image
abbrev pub instance_at : JobImages → Past → ℕ → Option Instance
instance_at images p image =
    if is_loaded (module_of p image) then Some (loaded_as images p image) else None

-- the block of a live instance before any write
unfoldable pub fresh : JobImages → Past → ℕ → Option (List ℕ)
fresh images p instance = option_map (λ image. fresh_block images (loaded_as images p image)) (image_of p instance)

-- ---- changes

-- a block of the static surplus is there as soon as the thread sees its instance live
abbrev pub at_once : JobImages → Past → ℕ → Option (List ℕ)
at_once images p instance = if is_some (offset p instance) then fresh images p instance else None

-- the blocks after the thread has seen this state: those of closed instances are dropped, and each other one stays
unfoldable pub caught_up : Vector → Past → ℕ → Option (List ℕ)
caught_up v p instance =
    if live p instance then option_or (held v instance) (at_once v.images p instance) else None

-- the blocks after that of a live instance was reached
unfoldable pub reached : Vector → ℕ → ℕ → Option (List ℕ)
reached v asked instance =
    if instance == asked then option_or (held v asked) (fresh v.images v.past asked) else held v instance

-- the bytes, with `size` of them from `from` on replaced by others
abbrev pub over : ℕ → ℕ → List ℕ → List ℕ → List ℕ
over from size bytes new = take from bytes ++ (new ++ drop (from + size) bytes)

-- the slots after the block of a loaded image was set to these bytes, as many as it has
abbrev pub written : List Piece → ℕ → Module → Option ℕ → List ℕ → List Piece
written slots limit m None bytes = slice_set slots m.id (record { instance = Some m.instance; bytes = bytes })
written slots limit m (Some offset) bytes = slice_set slots 0 (record
    { instance = (slot_of slots 0).instance; bytes = over (limit - offset) m.info.size (slot_of slots 0).bytes bytes })

-- the bytes, with others written over them from `from` on; the length stays
abbrev pub with_new : List ℕ → ℕ → List ℕ → List ℕ
with_new bytes from new = take from bytes ++ (new ++ drop (length new) (drop from bytes))

abbrev pub rewritten : List ℕ → ℕ → List ℕ → List ℕ
rewritten bytes from new =
    take (length bytes) (with_new bytes from new ++ drop (length (with_new bytes from new)) bytes)
