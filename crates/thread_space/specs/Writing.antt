-- A thread's memory after a byte is written.
use Rattle.std.specs.Prelude.{◌≡◌, ◌-◌, ℕ, List, slice_set, Some}
use Rattle.loaded_modules.specs.declared.instance.Instance.{Instance}
use Rattle.module_data.specs.Laws.{written}
use Rattle.module_data.specs.Parts.{data_start}
use Rattle.thread_blocks.specs.Instances.{block_start}
use Rattle.thread_space.specs.Kept.{Kept}
use Rattle.thread_vector.specs.Places.{Writes}
use Rattle.thread_vector.specs.Statements.{Leaves}
use Rattle.thread_vector.specs.Vectors.{held}

-- the byte at a place in the block of an instance is written, and nothing else has changed
pub record WritesBlock (old : Kept) (x : Instance) (place byte : ℕ) (new : Kept) : Type 0 where
  pub leaves : Leaves old.vector new.vector old.vector.past
  pub block : (bytes : List ℕ) → held old.vector x.number ≡ Some bytes
      → Writes old.vector x.number (slice_set bytes (place - block_start old.vector.thread x) byte) new.vector
  pub pieces : new.pieces ≡ old.pieces
  pub stack : new.stack ≡ old.stack

-- the byte at a place in the data of an instance is written, and nothing else has changed
pub record WritesData (old : Kept) (x : Instance) (place byte : ℕ) (new : Kept) : Type 0 where
  pub vector : new.vector ≡ old.vector
  pub pieces : (start : ℕ) → data_start old.vector.images x ≡ Some start
      → new.pieces ≡ written x.image old.pieces (record { at = place - start; byte = byte })
  pub stack : new.stack ≡ old.stack
