-- What is asked of the state after a history.
use Rattle.std.specs.Prelude.{◌≡◌, ◌==◌, ◌<◌, ◌≤◌, ℕ, Bool, true, false, ◌&&◌}
use Rattle.std.specs.Prelude.{if◌then◌else◌, List}
use Rattle.std.specs.Prelude.{position, Option, Some, None, is_some, option_map, option_and_then}
use Rattle.std.specs.List.{list_any}
use Rattle.module_table.specs.declared.modules.Module.{Module}
use Rattle.module_table.specs.Modules.{is_loaded}
use Rattle.module_table.specs.Past.{Past, module_of, has_id}

-- it is loaded as this instance
abbrev pub has_instance : ℕ → Module → Bool
has_instance instance m = is_loaded m && (m.instance == instance)

-- the image of a live instance
unfoldable pub image_of : Past → ℕ → Option ℕ
image_of p instance = position (has_instance instance) p.modules

-- whether an instance is live
unfoldable pub live : Past → ℕ → Bool
live p instance = is_some (image_of p instance)

-- how far below the thread pointer a live instance's block begins, if the block is in the static surplus
unfoldable pub offset : Past → ℕ → Option ℕ
offset p instance = option_and_then (λ image. (module_of p image).offset) (image_of p instance)

-- the live instance of an image
unfoldable pub current : Past → ℕ → Option ℕ
current p image = if is_loaded (module_of p image) then Some (module_of p image).instance else None

-- the live instance with a module id
unfoldable pub instance_of : Past → ℕ → Option ℕ
instance_of p id = option_map (λ image. (module_of p image).instance) (position (has_id id) p.modules)

-- no live instance has the id, and each id from 1 up to it belongs to one
pub record IsLeastFree (modules : List Module) (id : ℕ) : Type 0 where
  pub low : 1 ≤ id
  pub free : list_any (has_id id) modules ≡ false
  pub least : (k : ℕ) → 1 ≤ k → k < id → list_any (has_id k) modules ≡ true
