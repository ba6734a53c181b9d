-- What the tables hold of the ids of loaded images.
use Rattle.std.specs.Prelude.{◌≡◌, ◌≤◌, ◌<◌, ◌+◌, ℕ, true, if◌then◌else◌, List}
use Rattle.std.specs.Int.{bit_at}
use Rattle.std.specs.List.{list_any}
use Rattle.module_table.specs.declared.modules.Module.{Module}
use Rattle.module_table.specs.Modules.{is_loaded}
use Rattle.module_table.specs.Past.{has_id}

-- its id is from 1 to 64, if it is loaded
pub record HasSmallId (m : Module) : Type 0 where
  pub low : is_loaded m ≡ true → 1 ≤ m.id
  pub high : is_loaded m ≡ true → m.id ≤ 64

-- bit k is set if a live instance has the id k + 1
pub record MarksIds (word : ℕ) (modules : List Module) : Type 0 where
  pub at : (k : ℕ) → k < 64 → bit_at word k ≡ (if list_any (has_id (k + 1)) modules then 1 else 0)
