-- The instances that are live after some events, and what is loaded of each.
use Rattle.std.specs.Prelude.{◌==◌, ℕ, Bool, true, false, suc, List, [], ◌∷◌, ◌++◌, take, Option, Some, None, nat_le}
use Rattle.std.specs.Prelude.{if◌then◌else◌}
use Rattle.std.specs.Prelude.{option_to_list}
use Rattle.std.specs.List.{find, flat_map}
use Rattle.address_map.specs.Map.{block_place}
use Rattle.guest_machine.specs.Ranges.{Range}
use Rattle.loaded_modules.specs.declared.instance.Instance.{Instance}
use Rattle.module_table.specs.declared.events.Event.{Event}
use Rattle.module_table.specs.declared.modules.ImageInfo.{ImageInfo}
use Rattle.module_table.specs.declared.modules.Module.{Module}
use Rattle.module_table.specs.Modules.{startup_end}
use Rattle.module_table.specs.Modules.{is_loaded}
use Rattle.module_table.specs.Past.{Past, module_of, past, startup_count}

-- B: a byte
pub record Loads (B : Type 0) : Type 0 where
  pub infos : List ImageInfo
  -- the distance from the block of the last startup image up to the thread pointer
  pub last_offset : ℕ
  -- the address of the function with a name in an instance, if there is one that can be called
  pub function : Instance → List ℕ → Option ℕ
  -- the offset of the thread-local variable with a name in the blocks of an image, if there is one
  pub variable : ℕ → List ℕ → Option ℕ
  -- the bytes of an instance that can be read or run, and that no thread writes
  pub fixed : Instance → List (Range B)
  -- the parts of it that the loader or threads write: these hold the words by which the run time is called
  pub tables : Instance → List (Range B)
  -- the data that threads write, as a load fills them, if the image has any
  pub shared : Instance → Option (Range B)
  -- a thread's block of an instance before any write
  pub block : Instance → List B

-- ---- instances

-- the loaded instance of an image, with this number
abbrev pub loaded_instance : List ImageInfo → ℕ → Module → Option Instance
loaded_instance infos image m = if is_loaded m
    then Some (record {
      image = image;
      number = m.instance;
      id = m.id;
      offset = if m.info.late then m.offset else Some (startup_end (take image infos) 0);
    })
    else None

abbrev pub instances_from : List ImageInfo → ℕ → List Module → List Instance
instances_from infos image [] = []
instances_from infos image (m ∷ ms) =
    option_to_list (loaded_instance infos image m) ++ instances_from infos (suc image) ms

-- the live instances after a history, in the order of their images
unfoldable pub instances_in : List ImageInfo → Past → List Instance
instances_in infos p = instances_from infos 0 p.modules

module _ {B : Type 0} (l : Loads B) where
  -- the state of modules after these events
  abbrev pub left_by : List Event → Past
  left_by seen = past l.infos l.last_offset seen

  -- the live instances after these events
  abbrev pub instances : List Event → List Instance
  instances seen = instances_in l.infos (left_by seen)

  -- the live instance of an image
  unfoldable pub instance_at : List Event → ℕ → Option Instance
  instance_at seen image = loaded_instance l.infos image (module_of (left_by seen) image)

  -- the live instance with a number, and that with a module id
  abbrev pub numbered_instance : List Event → ℕ → Option Instance
  numbered_instance seen number = find (λ (x : Instance). x.number == number) (instances seen)

  abbrev pub instance_with_id : List Event → ℕ → Option Instance
  instance_with_id seen id = find (λ (x : Instance). x.id == id) (instances seen)

  -- the startup images have the first ids, which never change
  abbrev pub is_startup_id : ℕ → Bool
  is_startup_id id = if id == 0 then false else nat_le id (startup_count l.infos)

  -- what is loaded of these instances and not written by a thread
  abbrev pub fixed_of : List Instance → List (Range B)
  fixed_of xs = flat_map l.fixed xs

  unfoldable pub fixed_at : List Event → List (Range B)
  fixed_at seen = fixed_of (instances seen)

-- ---- blocks

-- where a thread's block of an instance begins: at the instance's offset below the thread pointer, or at an address of
-- the instance's own
abbrev pub block_start : ℕ → Instance → ℕ
block_start thread x = block_place thread x.number x.offset

-- a thread's block of an instance that holds these bytes
abbrev pub block_range : {B : Type 0} → ℕ → Instance → List B → Range B
block_range thread x bytes = record {
  start = block_start thread x;
  bytes = bytes;
  readable = true;
  writable = true;
  runnable = false;
}
