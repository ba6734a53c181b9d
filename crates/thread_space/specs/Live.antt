-- The live instances after a history.
use Rattle.std.specs.Prelude.{◌≡◌, ◌≤◌, ℕ, true, Some, is_some}
use Rattle.loaded_modules.specs.declared.instance.Instance.{Instance}
use Rattle.loaded_modules.specs.Images.{JobImages, infos}
use Rattle.module_table.specs.Past.{Past, module_of, startup_count}
use Rattle.thread_blocks.specs.Instances.{loaded_instance}
use Rattle.thread_vector.specs.Vectors.{Vector, held}

-- the instance is live: its image is loaded with this number
abbrev pub IsLive : JobImages → Past → Instance → Type 0
IsLive m p x = loaded_instance (infos m) x.image (module_of p x.image) ≡ Some x

-- the blocks of the startup images are there
abbrev pub HasStartups : Vector → Type 0
HasStartups v = (number : ℕ) → 1 ≤ number → number ≤ startup_count (infos v.images) → is_some (held v number) ≡ true
