-- What the reader keeps of an object after the checks.
use Rattle.std.specs.Prelude.{◌≡◌, ℕ, List, length}
use Rattle.object_faults.specs.Parts.{header}
use Rattle.object_faults.specs.Tables.{AreTargets}
use Rattle.object_faults.specs.Faults.{IsObject}

-- the bytes stand for an object, and the targets of its relocations are known
pub record IsRead (b targets : List ℕ) : Type 0 where
  pub object : IsObject b
  pub len : length targets ≡ (header b).e_shnum
  pub found : AreTargets b targets
