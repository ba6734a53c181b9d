-- Where the blocks of a thread begin: those of startup images and of the static surplus at fixed distances below its
-- thread pointer (Drepper, "ELF Handling For Thread-Local Storage", section 3, variant II), each other block at its
-- instance's own addresses.
use Rattle.std.specs.Prelude.{ℕ, if◌then◌else◌, Option, Some, None}
use Rattle.address_map.specs.Map.{block_place}
use Rattle.module_table.specs.declared.modules.Module.{Module}
use Rattle.module_table.specs.Past.{Past, module_of}
use Rattle.module_table.specs.PastLaws.{image_of}
use Rattle.loaded_modules.specs.Images.{JobImages, static_offset}

-- the distance from the blocks of a loaded image up to the thread pointer, if it is fixed
abbrev pub distance_of : JobImages → ℕ → Module → Option ℕ
distance_of images image m = if m.info.late then m.offset else Some (static_offset images image)

abbrev pub start_at : ℕ → JobImages → Past → ℕ → Option ℕ → ℕ
start_at thread images p instance None = 0
start_at thread images p instance (Some image) =
    block_place thread instance (distance_of images image (module_of p image))

-- the first address of a thread's block of a live instance
unfoldable pub start_of : ℕ → JobImages → Past → ℕ → ℕ
start_of thread images p instance = start_at thread images p instance (image_of p instance)
